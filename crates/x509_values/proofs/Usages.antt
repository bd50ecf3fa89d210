-- The bits of a key usage.
use Rattle.std.proofs.Common.{◌≡◌, ℕ, Bool, false, List, [], ◌∷◌, length, take, drop, get_or, ◌-◌, refl, sym, ap, ◌∙◌, arith, append-nil}
use Rattle.std.proofs.lemmas.List.{take_all}
use Rattle.std.specs.Prelude.{slice_index_or}
use Rattle.x509_der.specs.BitString.{IsBits, bits_of, payload, unused_bits}
use Rattle.x509_der.specs.Element.{element}
use Rattle.x509_der.specs.Tally.{Tally}
use Rattle.x509_der.specs.facts.BitEdits.{bit_used}
use Rattle.x509_der.specs.facts.BitString.{content_is, padded_payload}
use Rattle.picky_asn1_x509.specs.KeyUsages.{key_usage}
use Rattle.x509_fields.specs.Spans.{FieldIn}
use Rattle.x509_fields.specs.declared.span.Span.{Span}
use Rattle.x509_values.specs.Rests.{Rest}
use Rattle.x509_values.specs.Elements.{Finds, Over}
use Rattle.x509_values.specs.declared.elements.Element.{Element}
use Rattle.x509_values.specs.facts.Values.{covered}

-- behind the number of unused bits
pub named : (u : ℕ) (s : List ℕ) (i : ℕ) (b : Bool) → b ≡ slice_index_or (bits_of s) i false → (v : List Bool) → IsBits v (u ∷ s) → b ≡ slice_index_or v i false
named u s i b is v e =
    let a : unused_bits (length v) ≡ u = cc in
    let p : payload v ≡ s = cc in
    is ∙ bit_used s u i (content_is s u v e) ∙ ap (λ x. get_or x i false) (rw (← a, ← p) (padded_payload v).used)

-- of a whole content, which isn't empty
pub named_in : (content : List ℕ) (i : ℕ) (b : Bool) → b ≡ slice_index_or (bits_of (take (length content - 1) (drop 1 content))) i false → (v : List Bool) → IsBits v content → b ≡ slice_index_or v i false
named_in [] i b is v e = absurd (cc)
named_in (u ∷ s) i b is v e = named u s i b (is ∙ ap (λ x. slice_index_or (bits_of x) i false) (take_all (length (u ∷ s) - 1) s (omega arith))) v e

-- that of the usage in a span
pub bit_within : (v : List Bool) (span : Span) (string : List ℕ) (whole : Tally) (i : ℕ) (b : Bool) (f : FieldIn key_usage v span string whole) (w w1 : Rest) (e : Element) → Over string span w → Finds w w1 e → ((u : List Bool) → IsBits u e.inside.rest → b ≡ slice_index_or u i false) → b ≡ slice_index_or v i false
bit_within v span string whole i b f w w1 e over finds is =
    let s = f.at.spelled in
    let o = over f.slice (covered key_usage v span string whole f) in
    let r = finds 3 s.content [] refl (o.0 ∙ s.bytes ∙ sym (append-nil (element 3 s.content))) in
    is v (r.content ∙ s.spelled.0)
