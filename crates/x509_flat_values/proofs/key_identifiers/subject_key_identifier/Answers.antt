use Rattle.std.proofs.Common.{◌≡◌, ℕ, ◌+◌, List, [], length, refl, ◌∙◌, sym, arith, ap, subst}
use Rattle.x509_der.specs.Element.{element, header}
use Rattle.x509_der.specs.PrimitiveContent.{octets}
use Rattle.x509_der.specs.Tagged.{tagged}
use Rattle.x509_der.specs.facts.Element.{element_length}
use Rattle.x509_fields.specs.Slices.{Covers}
use Rattle.x509_fields.specs.Spans.{all_of}
use Rattle.x509_fields.specs.declared.span.Span.{Span}
use Rattle.x509_values.specs.Elements.{IsInside}
use Rattle.x509_flat_values.specs.Covered.{CoversAll, no_span}
use Rattle.x509_flat_values.proofs.Answering.{told, not_told}
use Rattle.x509_flat_values.proofs.Walking.{covers_content, covers_all}
use Rattle.x509_flat_values.proofs.key_identifiers.subject_key_identifier.Goals as goal

-- the content of the element that the bytes are
inside_covers : (string c : List ℕ) (at : Span) → string ≡ element 4 c → IsInside string (all_of string) at → CoversAll string at c
inside_covers string c at is inside =
    let whole = covers_all string (element 4 c) is in
    let k = inside 4 c refl whole in
    let p = covers_content string c 4 0 (length string) whole in
    let P : ℕ → Type 0 = λ n. Covers string n at.end c in
    let Q : ℕ → Type 0 = λ n. Covers string (0 + header c) n c in
    subst P (sym k.0) (subst Q (sym k.1) p)

pub returns-in-Ok : goal.returns-in-Ok
returns-in-Ok g c =
    let h = c.in-Ok.ensures in
    let w = h.1.whole in
    told (tagged 4 octets) c.args.value.now (λ v at. CoversAll c.args.value.now at v) no_span c.done.result.fields c.content_within.result c.done.result.status h.0 h.1.tally c.done.ensures.status c.done.ensures.fields w
    (inside_covers c.args.value.now h.0 c.content_within.result (w.spelled.bytes ∙ ap (element 4) w.spelled.spelled.0.1) c.content_within.ensures)

pub returns-in-Err : goal.returns-in-Err
returns-in-Err g c =
    not_told (tagged 4 octets) c.args.value.now (λ v at. CoversAll c.args.value.now at v) no_span c.refused.result.fields c.refused.result.status c.in-Err.error c.in-Err.ensures c.refused.ensures.status (c.refused.ensures.fields ∙ c.nowhere.ensures)
