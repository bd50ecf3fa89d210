-- Facts about UserNotice, written by tools/structures.py from declarations.asn1.
use Rattle.std.proofs.Common.{◌≡◌, ap, ℕ, ◌||◌, eqb, true, false, arith}
use Rattle.std.proofs.lemmas.Bool.Decides.{nat_tests}
use Rattle.x509_policies.specs.declared.structures.user_notice.UserNotice.{UserNotice}
use Rattle.x509_policies.specs.UserNotice.{Fields, user_notice_parts}

abbrev pub user_notice_of : {A : Type 0} → Fields A → UserNotice A
user_notice_of f = record { notice_ref = f.0; explicit_text = f.1 }

pub user_notice_same : {A : Type 0} (v w : UserNotice A) → user_notice_parts v ≡ user_notice_parts w → v ≡ w
user_notice_same v w e = ap user_notice_of e

pub user_notice_notice_ref_apart : (c : ℕ) → (eqb c 22 || (eqb c 26 || (eqb c 30 || eqb c 12))) ≡ true → (false || eqb c 48) ≡ false
user_notice_notice_ref_apart c h = grind (arith, nat_tests)
