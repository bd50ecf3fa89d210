-- Which element comes next.
use Rattle.std.proofs.Common.{◌≡◌, ℕ, List, ◌++◌, true, inl, inr, sym, ◌∙◌}
use Rattle.x509_der.specs.Element.{element, is_tag}
use Rattle.x509_der.specs.facts.Element.{SameElement, element_one}
use Rattle.x509_report_parts.specs.Cursors.{IsNext, Next}
use Rattle.x509_report_parts.specs.declared.cursor.Cursor.{Cursor}
use Rattle.x509_report_parts.specs.declared.cursor.Element.{Element}

pub is_next : (old : Cursor) (e : Element) (new : Cursor) (tag : ℕ) (content more : List ℕ) → IsNext old e new → old.rest.now ≡ element tag content ++ more → SameElement e.tag tag e.inside.rest.now content new.rest.now more
is_next old e new tag content more found bytes = element_one e.tag tag e.inside.rest.now content new.rest.now more (sym found.first.bytes ∙ bytes)

pub next_is : (old : Cursor) (e : Element) (new : Cursor) (tag : ℕ) (content more : List ℕ) → is_tag tag ≡ true → Next old e new → old.rest.now ≡ element tag content ++ more → SameElement e.tag tag e.inside.rest.now content new.rest.now more
next_is old e new tag content more low (inl found) bytes = is_next old e new tag content more found bytes
next_is old e new tag content more low (inr none) bytes = absurd (none.0.none tag content more low bytes)
