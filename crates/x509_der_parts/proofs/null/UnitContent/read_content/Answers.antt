use Rattle.std.proofs.Common.{refl, sym, ap, ◌∙◌, [], length, arith}
use Rattle.x509_der_parts.specs.PrimitiveContent.{IsNothing}
use Rattle.x509_der_parts.specs.laws.PrimitiveContent.{nothing_plain}
use Rattle.x509_der_parts.specs.reads.PrimitiveContent.{plain_accepts}
use Rattle.x509_der_parts.specs.reads.Optional.{empty_is}
use Rattle.x509_der_parts.proofs.null.UnitContent.read_content.Goals as goal

pub returns-then-is_empty : goal.returns-then-is_empty
returns-then-is_empty g c = let e = empty_is c.args.reader.now.rest (sym c.is_empty.ensures ∙ c.if-is_empty.true) in plain_accepts {V = Unit {0}} IsNothing (λ v. []) (λ v. Unit {0}) (Unit {0}) (nothing_plain (λ v w. refl)) c.args.reader.now c.args.reader.now c.args.reader.now.rest _ c.requires.ready refl (record { rest = e; at = omega (arith, ap length e); headers = refl; counts = refl; places = refl }) e
