-- How characters are escaped.
use Rattle.std.proofs.Common.{◌≡◌, ℕ, Bool, true, false, ◌&&◌, ◌||◌, ◌↔◌, List, [], ◌∷◌, ◌++◌, IsTrue, refl, ap, arith, encode_utf8}
use Rattle.std.proofs.lemmas.Bool.{false≢true}
use Rattle.x509_report_parts.specs.Seen.{IsShown}
use Rattle.x509_name_text.specs.Texts.{TellsShown, escaped, hidden_text, is_special, symbol_text}

pub not_true : (b : Bool) → (b ≡ true → ⊥) → b ≡ false
not_true true never = absurd (never refl)
not_true false never = refl

-- what a test answers is what another one does
pub agrees : (shown : ℕ → Bool) → TellsShown shown → (c : ℕ) (b : Bool) → (IsTrue b ↔ IsShown c) → shown c ≡ b
agrees shown tells c true same = (tells c).1 (same.0 refl)
agrees shown tells c false same = not_true (shown c) (λ is. false≢true (same.1 ((tells c).0 is)))

pub as_hidden : (shown : ℕ → Bool) (edge : Bool) (c : ℕ) → shown c ≡ false → symbol_text shown edge c ≡ hidden_text c
unfolding symbol_text
as_hidden shown edge c seen = rw seen refl

pub as_marked : (shown : ℕ → Bool) (edge : Bool) (c : ℕ) → shown c ≡ true → (edge || is_special c) ≡ true → symbol_text shown edge c ≡ 92 ∷ encode_utf8 c
unfolding symbol_text
as_marked shown edge c seen mark = rw (seen, mark) refl

pub as_plain : (shown : ℕ → Bool) (edge : Bool) (c : ℕ) → shown c ≡ true → (edge || is_special c) ≡ false → symbol_text shown edge c ≡ encode_utf8 c
unfolding symbol_text
as_plain shown edge c seen mark = rw (seen, mark) refl

pub space_shown : IsShown 32
space_shown = grind (arith)

pub at_lead : (b s l : Bool) → ((true && (b || s)) || (l && b)) ≡ (b || s)
at_lead true s l = refl
at_lead false true l = refl
at_lead false false true = refl
at_lead false false false = refl

pub within : (x b l : Bool) → b ≡ false → ((false && x) || (l && b)) ≡ false
within x b true is = is
within x b false is = refl

special_space : (edge : Bool) → (edge || is_special 32) ≡ edge
unfolding is_special
special_space true = refl
special_space false = refl

-- a space that isn't the last is written as it is
pub held : (shown : ℕ → Bool) → TellsShown shown → (c : ℕ) (cs : List ℕ) → escaped shown false (32 ∷ c ∷ cs) ≡ 32 ∷ escaped shown false (c ∷ cs)
unfolding lib.Utf8.encode
held shown tells c cs = ap (λ (t : List ℕ). t ++ escaped shown false (c ∷ cs)) (as_plain shown false 32 ((tells 32).1 space_shown) (special_space false))

-- the last one stands behind a backslash
pub ends : (shown : ℕ → Bool) → TellsShown shown → escaped shown false (32 ∷ []) ≡ 92 ∷ 32 ∷ []
unfolding lib.Utf8.encode
ends shown tells = ap (λ (t : List ℕ). t ++ []) (as_marked shown true 32 ((tells 32).1 space_shown) (special_space true))

pub both_true : (a b : Bool) → a ≡ true → b ≡ true → (a && b) ≡ true
both_true a b first second = rw (first, second) refl

pub first_false : (a b : Bool) → a ≡ false → (a && b) ≡ false
first_false a b never = rw never refl

pub second_false : (a b : Bool) → b ≡ false → (a && b) ≡ false
second_false true b never = never
second_false false b never = refl
