use Rattle.std.proofs.Common.{[], refl, sym, subst}
use Rattle.x509_der.proofs.laws.viewed_fields.Goals as goal

pub returns : goal.returns
returns g c = λ f of b v n slice string x y h a.
    let o = (g.F.Field.lawful f).one b a.base slice slice [] [] x a.part h a.spelled refl tt tt in
    let Q : g.row.F.Denot → Type 0 = λ z. g.F.Field.shape.parts z n slice string y in
    subst Q (sym o.value) a.parts
