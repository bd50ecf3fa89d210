-- What a walk does where an element stands.
use Rattle.std.proofs.Common.{◌≡◌, ℕ, ◌+◌, ◌≤◌, List, [], ◌∷◌, length, take, drop, sym, ap, ◌∙◌, arith, length-append, append-nil}
use Rattle.std.proofs.Math.Seq.{drop-append_seam, take-append_seam}
use Rattle.std.proofs.lemmas.List.{length-take-le}
use Rattle.x509_der.specs.Types.{Element as Place}
use Rattle.x509_der.specs.Element.{digits, element, header}
use Rattle.x509_der.specs.FirstElement.{FoundAt}
use Rattle.x509_der.specs.Reading.{NoFirst}
use Rattle.x509_der.specs.facts.Element.{element_one, element_length, header_long}
use Rattle.x509_fields.specs.declared.span.Span.{Span}
use Rattle.x509_values.specs.Rests.{Rest}
use Rattle.x509_values.specs.Elements.{Passes, Finds, IsInside, Over, span_of}
use Rattle.x509_values.specs.declared.elements.Element.{Element}

pub found_end : (string : List ℕ) (e : Place) → FoundAt string e → e.end ≤ length string
found_end string e f = omega (arith, f.end, ap length f.first.bytes, length-append (element e.tag f.content) f.after, element_length e.tag f.content)

pub found_start : (string whole : List ℕ) (e : Place) → FoundAt string e → whole ≡ take e.end string → e.start ≤ length whole
found_start string whole e f is = omega (arith, f.start, f.end, ap length is, length-take-le e.end string (found_end string e f))

content_from : (t : ℕ) (c : List ℕ) → drop (header c) (element t c) ≡ c
unfolding element digits header
content_from t c = let e : length (digits (length c)) + 1 ≡ length (t ∷ digits (length c)) = omega arith in rw e (drop-append_seam (t ∷ digits (length c)) c)

-- the element that was found, cut out
pub passes : (old new : Rest) (p : Place) (e : Element) → FoundAt old.rest p → new.rest ≡ drop p.end old.rest → new.at ≡ old.at + p.end → e.tag ≡ p.tag → e.start ≡ old.at → e.inside.rest ≡ drop p.start (take p.end old.rest) → e.inside.at ≡ old.at + p.start → Passes old new e
passes old new p e f rest at tag start inner place =
    let size : p.end ≡ length (element p.tag f.content) = omega (arith, f.end, element_length p.tag f.content) in
    let whole : take p.end old.rest ≡ element p.tag f.content = ap (λ n. take n old.rest) size ∙ ap (take (length (element p.tag f.content))) f.first.bytes ∙ take-append_seam (element p.tag f.content) f.after in
    let content : e.inside.rest ≡ f.content = inner ∙ ap (drop p.start) whole ∙ ap (λ n. drop n (element p.tag f.content)) f.start ∙ content_from p.tag f.content in
    let after : new.rest ≡ f.after = rest ∙ ap (λ n. drop n old.rest) size ∙ ap (drop (length (element p.tag f.content))) f.first.bytes ∙ drop-append_seam (element p.tag f.content) f.after in
    record {
      fits = rw tag f.first.tag;
      byte = rw tag f.first.byte;
      bytes = rw (tag, content, after) f.first.bytes;
      start = start;
      inside = omega (arith, place, f.start, ap header content);
      end = omega (arith, at, f.end, place, f.start, ap length content);
    }

pub finds_it : (old new : Rest) (e : Element) → Passes old new e → Finds old new e
finds_it old new e h t c q fits is =
    let k = element_one e.tag t e.inside.rest c new.rest q (sym h.bytes ∙ is) in
    record {
      tag = k.tag;
      content = k.content;
      at = omega (arith, h.inside, ap header k.content);
      rest = k.rest;
      behind = omega (arith, h.end, h.inside, ap header k.content, ap length k.content);
    }

pub finds_none : (old new : Rest) (e : Element) → NoFirst old.rest → Finds old new e
finds_none old new e n t c q fits is = absurd (n t c q fits is)

-- each element takes at least two bytes
pub shorter : (old new : Rest) (e : Element) → Passes old new e → length new.rest + 2 + length e.inside.rest ≤ length old.rest
shorter old new e h = omega (arith, ap length h.bytes, length-append (element e.tag e.inside.rest) new.rest, element_length e.tag e.inside.rest, header_long e.inside.rest)

pub further : (old new : Rest) (e : Element) → Passes old new e → new.at + length new.rest ≡ old.at + length old.rest
further old new e h = omega (arith, h.end, h.inside, ap length h.bytes, length-append (element e.tag e.inside.rest) new.rest, element_length e.tag e.inside.rest)

-- the content of the element in a span
pub is_inside : (string : List ℕ) (span at : Span) (w w1 : Rest) (e : Element) → Over string span w → Finds w w1 e → at ≡ span_of e.inside → IsInside string span at
is_inside string span at w w1 e over finds is t c fits covers =
    let o = over (element t c) covers in
    let r = finds t c [] fits (o.0 ∙ sym (append-nil (element t c))) in
    (ap (λ (s : Span). s.start) is ∙ r.at ∙ ap (λ n. n + header c) o.1, omega (arith, ap (λ (s : Span). s.end) is, r.at, o.1, ap length r.content, covers.from, covers.to, element_length t c))
