-- Elements that bytes begin with.
use Rattle.std.proofs.Common.{◌≡◌, ◌≤◌, ℕ, ◌+◌, List, ◌∷◌, ◌++◌, take, drop, length, refl, sym, ap, ◌∙◌, arith, length-append}
use Rattle.std.proofs.Math.Seq.{drop-append_seam, take-append_seam}
use Rattle.x509_der.specs.Element.{digits, element, header, is_tag}
use Rattle.x509_der.specs.FirstElement.{FoundAt}
use Rattle.x509_der.specs.Types.{Element}
use Rattle.x509_der.specs.facts.Element.{element_one, element_length}
use Rattle.x509_signing.specs.Elements.{Splits}

content_from : (t : ℕ) (c : List ℕ) → drop (header c) (element t c) ≡ c
unfolding element digits header
content_from t c = let e : length (digits (length c)) + 1 ≡ length (t ∷ digits (length c)) = omega arith in rw e (drop-append_seam (t ∷ digits (length c)) c)

-- the parts of an element that was found
pub found_splits : (tag : ℕ) (bytes whole content rest : List ℕ) (e : Element) → FoundAt bytes e → e.tag ≡ tag → whole ≡ take e.end bytes → rest ≡ drop e.end bytes → content ≡ drop e.start whole → Splits tag bytes whole content rest
found_splits tag bytes whole content rest e f same front back inner =
    let size : e.end ≡ length (element e.tag f.content) = omega (arith, f.end, element_length e.tag f.content) in
    let w : whole ≡ element e.tag f.content = front ∙ ap (λ n. take n bytes) size ∙ ap (take (length (element e.tag f.content))) f.first.bytes ∙ take-append_seam (element e.tag f.content) f.after in
    let r : rest ≡ f.after = back ∙ ap (λ n. drop n bytes) size ∙ ap (drop (length (element e.tag f.content))) f.first.bytes ∙ drop-append_seam (element e.tag f.content) f.after in
    let c : content ≡ f.content = inner ∙ ap (drop e.start) w ∙ ap (λ n. drop n (element e.tag f.content)) f.start ∙ content_from e.tag f.content in
    record {
      is = w ∙ ap (λ t. element t f.content) same ∙ ap (element tag) (sym c);
      split = f.first.bytes ∙ ap (λ x. x ++ f.after) (sym w) ∙ ap (λ x. whole ++ x) (sym r);
    }

-- an element of another tag
pub other_found : (tag : ℕ) (bytes : List ℕ) (e : Element) → FoundAt bytes e → (e.tag ≡ tag → ⊥) → (c q : List ℕ) → bytes ≡ element tag c ++ q → ⊥
other_found tag bytes e f other c q h = other (element_one e.tag tag f.content c f.after q (sym f.first.bytes ∙ h)).tag

pub found_end : (bytes : List ℕ) (e : Element) → FoundAt bytes e → e.end ≤ length bytes
found_end bytes e f = omega (arith, f.end, ap length f.first.bytes, length-append (element e.tag f.content) f.after, element_length e.tag f.content)
