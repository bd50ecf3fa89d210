use Rattle.std.proofs.Common.{sym, subst}
use Rattle.x509_der_parts.specs.Fields.{Stands}
use Rattle.x509_der.proofs.laws.payload_fields.Goals as goal

pub returns : goal.returns
returns g c = λ make same u n slice string y a.
    let Q : g.row.P.Denot → Type 0 = λ x. Stands g.P.Field.shape x n slice string y in
    subst Q (sym (same u a.payload a.is)) a.inner
