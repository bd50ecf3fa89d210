-- What is appended step by step, and put into an element at last.
use Rattle.std.proofs.Common.{◌≡◌, ℕ, List, ◌++◌, take, drop, length, ap, ◌∙◌, append_assoc}
use Rattle.std.proofs.Math.Seq.{take-append_seam}
use Rattle.x509_der.specs.Element.{element}
use Rattle.x509_make_parts.specs.Appending.{Appends, AppendsElement}

pub then : (a b c : List ℕ) → Appends a b → Appends b c → Appends a c
then a b c x y = record { more = x.more ++ y.more; behind = y.behind ∙ ap (λ (t : List ℕ). t ++ y.more) x.behind ∙ append_assoc a x.more y.more }

pub is_behind : (a b more : List ℕ) → b ≡ a ++ more → Appends a b
is_behind a b more is = record { more = more; behind = is }

pub an_element : (tag : ℕ) (a b : List ℕ) → AppendsElement tag a b → Appends a b
an_element tag a b x = record { more = element tag x.content; behind = x.behind }

pub closed : (tag start : ℕ) (a b c : List ℕ) → start ≡ length a → Appends a b → c ≡ take start b ++ element tag (drop start b) → AppendsElement tag a c
closed tag start a b c begins x is =
    let before : take start b ≡ a = ap (λ n. take n b) begins ∙ ap (λ (t : List ℕ). take (length a) t) x.behind ∙ take-append_seam a x.more in
    record { content = drop start b; behind = is ∙ ap (λ (t : List ℕ). t ++ element tag (drop start b)) before }
