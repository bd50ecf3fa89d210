-- Characters of VisibleString are those of ASCII.
use Rattle.std.proofs.Common.{◌≡◌, ℕ, true, List, [], ◌∷◌, refl, arith}
use Rattle.std.specs.Prelude.{IsTrue, nat_lt}
use Rattle.std.proofs.lemmas.Bool.{and_parts}
use Rattle.std.proofs.lemmas.Bool.Decides.{nat_tests}
use Rattle.x509_prim.specs.CharSets.{is_within, are_ascii}
use Rattle.x509_policies.specs.VisibleString.{are_visible}

visible_below : (c : ℕ) → is_within 32 126 c ≡ true → nat_lt c 128 ≡ true
visible_below c h = grind (arith, nat_tests)

pub ascii-from_visible : (bs : List ℕ) → IsTrue (are_visible bs) → IsTrue (are_ascii bs)
ascii-from_visible [] h = refl
ascii-from_visible (b ∷ bs) h =
    let p = and_parts (is_within 32 126 b) (are_visible bs) h in
    rw (visible_below b p.0) (ascii-from_visible bs p.1)
