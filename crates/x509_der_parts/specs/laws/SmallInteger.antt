-- The numbers 0 to 255 as contents of INTEGERs (X.690, 8.3).
use Rattle.std.specs.Prelude.{◌≡◌, ℕ, ◌<◌, Bool, true, false, cond, nat_lt, [], ◌∷◌}
use Rattle.std.proofs.Common.{refl, sym, ◌∙◌}
use Rattle.x509_der_parts.specs.Shape.{Lawful}
use Rattle.x509_der_parts.specs.laws.PrimitiveContent.{IsPlain, plain_lawful}
use Rattle.x509_der_parts.specs.SmallInteger.{IsSmall, small_integer_content, small_integers}

same_cond : (a b : Bool) (v w : ℕ) → cond a (v ∷ []) (0 ∷ v ∷ []) ≡ cond b (w ∷ []) (0 ∷ w ∷ []) → v ≡ w
same_cond true true v w e = cc
same_cond true false v w e = cc
same_cond false true v w e = cc
same_cond false false v w e = cc

pub small_integer_plain : IsPlain IsSmall small_integer_content (λ v. v < 256)
small_integer_plain = record {
  one = λ v w p a b. same_cond (nat_lt v 128) (nat_lt w 128) v w (sym a.1 ∙ b.1);
  written = λ v d. (d, refl);
  strict = λ v p a. a.1;
  valid = λ v p a. a.0;
}

pub small_integer_lawful : Lawful small_integers
small_integer_lawful = plain_lawful IsSmall small_integer_content (λ v. v < 256) (Unit {0}) small_integer_plain
