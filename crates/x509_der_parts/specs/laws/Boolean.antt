-- Truth values as contents (X.690, 8.2 and 11.1).
use Rattle.std.specs.Prelude.{◌≡◌, Bool, true, false}
use Rattle.std.proofs.Common.{refl, sym, ◌∙◌}
use Rattle.x509_der_parts.specs.Shape.{Lawful}
use Rattle.x509_der_parts.specs.laws.PrimitiveContent.{IsPlain, plain_lawful}
use Rattle.x509_der_parts.specs.Boolean.{IsTruth, boolean_content, booleans}

same_truth : (v w : Bool) → boolean_content v ≡ boolean_content w → v ≡ w
same_truth true true e = refl
same_truth false false e = refl
same_truth true false e = cc
same_truth false true e = cc

pub boolean_plain : IsPlain IsTruth boolean_content (λ v. Unit {0})
boolean_plain = record { one = λ v w p a b. same_truth v w (sym a ∙ b); written = λ v d. refl; strict = λ v p a. a; valid = λ v p a. tt }

pub boolean_lawful : Lawful booleans
boolean_lawful = plain_lawful IsTruth boolean_content (λ v. Unit {0}) (Unit {0}) boolean_plain
