use Rattle.std.proofs.Common.{◌≡◌, ℕ, ◌-◌, ◌%◌, List, length, get_or, subst, arith}
use Rattle.std.specs.Bool.{Decides}
use Rattle.std.specs.Prelude.{nat_eq}
use Rattle.x509_der.specs.Integer.{unsigned_value}
use Rattle.x509_findings_parts.proofs.NumberFacts.{even_last}
use Rattle.x509_findings_parts.proofs.number.is_even.Goals as goal

pub returns : goal.returns
returns g c =
    let octets = c.as_bytes-octets.result.now in
    let P : List ℕ → Type 0 = λ x. Decides (nat_eq (get_or octets (length octets - 1) 0 % 2) 0) (unsigned_value x % 2 ≡ 0) in
    subst P c.as_bytes-octets.ensures.bytes (even_last octets (length octets - 1) (omega arith))
