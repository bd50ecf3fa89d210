-- Whether the fields of an authority key identifier ascend, told one by one.
use Rattle.std.proofs.Common.{◌≡◌, ℕ, ◌+◌, Bool, true, false, ◌&&◌, List, [], ◌∷◌, ◌++◌, refl, sym, ap, ◌∙◌}
use Rattle.std.specs.Prelude.{nat_le}
use Rattle.x509_der.specs.Types.{Choice}
use Rattle.x509_der.specs.Types.choice.{First, Second}
use Rattle.x509_der.specs.Types.deviation
use Rattle.x509_der.specs.Lasts.{ascends, ascends_from}
use Rattle.picky_asn1_x509_parts.specs.AuthorityKeyIdentifier.{Part, number, order_kinds}

pub ordered_kinds : {A : Type 0} (ps : List (Part A)) → ascends number ps ≡ true → order_kinds ps ≡ []
ordered_kinds ps e = rw e refl

pub disordered_kinds : {A : Type 0} (ps : List (Part A)) → ascends number ps ≡ false → order_kinds ps ≡ deviation.AuthorityKeyFieldOrder ∷ []
disordered_kinds ps e = rw e refl

-- the least number that may follow
abbrev pub least_after : {H : Type 0} → (H → ℕ) → ℕ → List H → ℕ
least_after f n [] = n
least_after f n (h ∷ hs) = least_after f (f h + 1) hs

pub least_push : {H : Type 0} (f : H → ℕ) (n : ℕ) (hs : List H) (v : H) → least_after f n (hs ++ v ∷ []) ≡ f v + 1
least_push f n [] v = refl
least_push f n (h ∷ hs) v = least_push f (f h + 1) hs v

and_true : (b : Bool) → (b && true) ≡ b
and_true true = refl
and_true false = refl

and_assoc : (a b c : Bool) → (a && (b && c)) ≡ ((a && b) && c)
and_assoc true b c = refl
and_assoc false b c = refl

pub ascends_push : {H : Type 0} (f : H → ℕ) (n : ℕ) (hs : List H) (v : H) → ascends_from f n (hs ++ v ∷ []) ≡ (ascends_from f n hs && nat_le (least_after f n hs) (f v))
ascends_push f n [] v = and_true (nat_le n (f v))
ascends_push f n (h ∷ hs) v = ap (λ b. nat_le n (f h) && b) (ascends_push f (f h + 1) hs v) ∙ and_assoc (nat_le n (f h)) (ascends_from f (f h + 1) hs) (nat_le (least_after f (f h + 1) hs) (f v))
