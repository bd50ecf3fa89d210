use Rattle.std.proofs.Common.{[], ◌∷◌, Err, subst, sym}
use Rattle.std.proofs.lemmas.Result.{err_from_is_err_and}
use Rattle.x509_der_parts.proofs.prefixed.PrefixedToContent.put_content.Goals as goal

pub put_content-requires : goal.put_content-requires
put_content-requires g c =
    let P : g.row.F.Denot → Type 0 = λ v. g.O.Output.fits (0 ∷ g.F.ToContent.content v) c.args.out.now c.args.at in
    g.O.Output.together.last (0 ∷ []) (g.F.ToContent.content c.self.inside.0) c.args.out.now c.args.at (subst P (sym c.self.view_is) c.requires)

pub returns-in_err-at : goal.returns-in_err-at
returns-in_err-at g c =
    let p = err_from_is_err_and c.from_residual.result c.from_residual.ensures.1 in
    let Q : g.row.F.Denot → Type 0 = λ v. g.O.Output.puts (0 ∷ g.F.ToContent.content v) c.args.out.now c.args.at c.put_content.new.out (Err c.in_err-at.field-0.0) in
    rw p.1 (subst Q c.self.view_is (g.O.Output.together.fails (0 ∷ []) (g.F.ToContent.content c.self.inside.0) c.args.out.now c.put_content.new.out c.args.at _ c.in_err-at.ensures))

pub bytes-requires : goal.bytes-requires
bytes-requires g c =
    let P : g.row.F.Denot → Type 0 = λ v. g.O.Output.fits (0 ∷ g.F.ToContent.content v) c.args.out.now c.args.at in
    g.O.Output.together.first (0 ∷ []) (g.F.ToContent.content c.self.inside.0) c.args.out.now c.put_content.new.out c.args.at c.in_ok-at.at (subst P (sym c.self.view_is) c.requires) c.in_ok-at.ensures

pub returns : goal.returns
returns g c =
    let Q : g.row.F.Denot → Type 0 = λ v. g.O.Output.puts (0 ∷ g.F.ToContent.content v) c.args.out.now c.args.at c.bytes.new.out c.bytes.result in
    subst Q c.self.view_is (g.O.Output.together.both (0 ∷ []) (g.F.ToContent.content c.self.inside.0) c.args.out.now c.put_content.new.out c.bytes.new.out c.args.at c.in_ok-at.at c.bytes.result c.in_ok-at.ensures c.bytes.ensures)
