use Rattle.std.proofs.Common.{ℕ, List, [], ◌∷◌, Err, subst, sym}
use Rattle.std.proofs.lemmas.Result.{err_from_is_err_and}
use Rattle.x509_make.proofs.given.WholeBytesToContent.put_content.Goals as goal

pub bytes-requires : goal.bytes-requires
bytes-requires g c =
    let P : List ℕ → Type 0 = λ b. g.O.Output.fits b c.args.out.now c.args.at in
    g.O.Output.together.last (0 ∷ []) c.self.inside.bytes.now c.args.out.now c.args.at (subst P (sym c.self.view_is) c.requires)

pub returns-in_err-at : goal.returns-in_err-at
returns-in_err-at g c =
    let p = err_from_is_err_and c.from_residual.result c.from_residual.ensures.1 in
    let Q : List ℕ → Type 0 = λ b. g.O.Output.puts b c.args.out.now c.args.at c.bytes.new.out (Err c.in_err-at.field-0.0) in
    rw p.1 (subst Q c.self.view_is (g.O.Output.together.fails (0 ∷ []) c.self.inside.bytes.now c.args.out.now c.bytes.new.out c.args.at _ c.in_err-at.ensures))

pub bytes-requires-2 : goal.bytes-requires-2
bytes-requires-2 g c =
    let P : List ℕ → Type 0 = λ b. g.O.Output.fits b c.args.out.now c.args.at in
    g.O.Output.together.first (0 ∷ []) c.self.inside.bytes.now c.args.out.now c.bytes.new.out c.args.at c.in_ok-at.at (subst P (sym c.self.view_is) c.requires) c.in_ok-at.ensures

pub returns : goal.returns
returns g c =
    let Q : List ℕ → Type 0 = λ b. g.O.Output.puts b c.args.out.now c.args.at c.bytes-2.new.out c.bytes-2.result in
    subst Q c.self.view_is (g.O.Output.together.both (0 ∷ []) c.self.inside.bytes.now c.args.out.now c.bytes.new.out c.bytes-2.new.out c.args.at c.in_ok-at.at c.bytes-2.result c.in_ok-at.ensures c.bytes-2.ensures)
