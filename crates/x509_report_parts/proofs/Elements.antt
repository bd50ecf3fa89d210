-- The content of an element, and what comes behind it.
use Rattle.std.proofs.Common.{◌≡◌, ◌+◌, ◌≤◌, ℕ, List, ◌∷◌, ◌++◌, length, take, drop, sym, ap, ◌∙◌, arith, length-append}
use Rattle.std.proofs.Math.Seq.{drop-append_seam, take-append_seam}
use Rattle.x509_der.specs.Element.{element, digits, header}
use Rattle.x509_der.specs.facts.Element.{element_length}
use Rattle.x509_der.specs.FirstElement.{FoundAt}
use Rattle.x509_der.specs.Types.{Element}

pub found_within : (string : List ℕ) (e : Element) → FoundAt string e → e.end ≤ length string
found_within string e f =
    omega (arith, ap length f.first.bytes, length-append (element e.tag f.content) f.after, element_length e.tag f.content, f.end)

pub found_ordered : (string : List ℕ) (e : Element) → FoundAt string e → e.start ≤ e.end
found_ordered string e f = omega (arith, f.start, f.end)

pub found_rest : (string : List ℕ) (e : Element) (f : FoundAt string e) → drop e.end string ≡ f.after
found_rest string e f =
    let size : e.end ≡ length (element e.tag f.content) = f.end ∙ sym (element_length e.tag f.content) in
    ap (λ n. drop n string) size ∙ (ap (λ s. drop (length (element e.tag f.content)) s) f.first.bytes
    ∙ drop-append_seam (element e.tag f.content) f.after)

inside : (t : ℕ) (c : List ℕ) → drop (header c) (element t c) ≡ c
unfolding element header
inside t c =
    let front : length (digits (length c)) + 1 ≡ length (t ∷ digits (length c)) = omega arith in
    ap (λ n. drop n ((t ∷ digits (length c)) ++ c)) front ∙ drop-append_seam (t ∷ digits (length c)) c

pub found_content : (string : List ℕ) (e : Element) (f : FoundAt string e) → drop e.start (take e.end string) ≡ f.content
found_content string e f =
    let size : e.end ≡ length (element e.tag f.content) = f.end ∙ sym (element_length e.tag f.content) in
    let whole : take e.end string ≡ element e.tag f.content = ap (λ n. take n string) size
    ∙ (ap (λ s. take (length (element e.tag f.content)) s) f.first.bytes ∙ take-append_seam (element e.tag f.content) f.after) in
    ap (λ s. drop e.start s) whole ∙ (ap (λ n. drop n (element e.tag f.content)) f.start ∙ inside e.tag f.content)
