-- Elements that are kept for a SET OF.
use Rattle.std.proofs.Common.{◌≡◌, ℕ, List, [], ◌∷◌, ◌++◌, ◌+◌, Vec, take, drop, length, All, ap, sym, subst, ◌∙◌, length-append}
use Rattle.std.proofs.Math.Seq.{take-append_seam, drop-append_seam}
use Rattle.std.proofs.lemmas.List.Elements.{All-push}
use Rattle.x509_der.specs.Element.{element}
use Rattle.x509_make_names.specs.SetOrder.{Keeps, IsElement, IsSetContent, AppendsAttributes}
use Rattle.x509_make_parts.specs.Appending.{AppendsElement}

-- a pushed one is kept
pub keeps_pushed : {A : Type 0} {octets : List ℕ} {old new : List (Vec ℕ A)} (last : Vec ℕ A) → new ≡ old ++ last ∷ [] → last.items ≡ octets → Keeps A octets old new
keeps_pushed last is same = record { last = last; behind = is; same = same }

-- what is taken back of an element that was appended leaves what stood before it
pub left_before : {before now written left : List ℕ} (start : ℕ) → start ≡ length before → now ≡ before → AppendsElement 48 now written → left ≡ take start written → left ≡ before
left_before {before = before} {now = now} {written = written} start begins same x is = is ∙ ap (λ n. take n written) (begins ∙ ap (λ (t : List ℕ). length t) (sym same)) ∙ ap (λ (t : List ℕ). take (length now) t) x.behind ∙ take-append_seam now (element 48 x.content) ∙ same

-- and it is the element
pub is_the_element : {before now written octets : List ℕ} (start : ℕ) → start ≡ length before → now ≡ before → AppendsElement 48 now written → octets ≡ drop start written → IsElement 48 octets
is_the_element {now = now} {written = written} start begins same x is = record { content = x.content; is = is ∙ ap (λ n. drop n written) (begins ∙ ap (λ (t : List ℕ). length t) (sym same)) ∙ ap (λ (t : List ℕ). drop (length now) t) x.behind ∙ drop-append_seam now (element 48 x.content) }

-- so that all that are kept are elements
pub all_kept : {A : Type 0} {before now written : List ℕ} {old new : List (Vec ℕ A)} (start : ℕ) → start ≡ length before → now ≡ before → AppendsElement 48 now written → Keeps A (drop start written) old new → All (λ (e : Vec ℕ A). IsElement 48 e.items) old → All (λ (e : Vec ℕ A). IsElement 48 e.items) new
all_kept {A = A} {old = old} start begins same x kept all =
    subst (λ (es : List (Vec ℕ A)). All (λ (e : Vec ℕ A). IsElement 48 e.items) es) (sym kept.behind) (All-push (λ (e : Vec ℕ A). IsElement 48 e.items) old kept.last all (is_the_element start begins same x kept.same))

-- and they are one more
pub one_more_kept : {A : Type 0} {octets : List ℕ} {old new : List (Vec ℕ A)} (count : ℕ) → Keeps A octets old new → length old ≡ count → length new ≡ count + 1
one_more_kept {A = A} {old = old} count kept many = ap (λ (es : List (Vec ℕ A)). length es) kept.behind ∙ length-append old (kept.last ∷ []) ∙ ap (λ n. n + 1) many

-- what is kept, put in order behind what stood before
pub in_order : {A : Type 0} {count : ℕ} {before now after : List ℕ} (given : List (Vec ℕ A)) → length given ≡ count → now ≡ before → All (λ (e : Vec ℕ A). IsElement 48 e.items) given → (content : List ℕ) × IsSetContent (λ (e : Vec ℕ A). e.items) given content × (after ≡ now ++ content) → AppendsAttributes A count before after
in_order given many same attributes s = record { given = given; many = many; attributes = attributes; content = s.0; ordered = s.1; behind = s.2 ∙ ap (λ (t : List ℕ). t ++ s.0) same }
