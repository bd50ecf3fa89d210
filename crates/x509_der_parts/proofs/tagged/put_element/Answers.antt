use Rattle.std.proofs.Common.{◌≡◌, ℕ, List, ◌∷◌, length, Err, subst, sym, ◌∙◌}
use Rattle.std.proofs.lemmas.Result.{err_from_is_err_and}
use Rattle.x509_der_parts.specs.Element.{digits}
use Rattle.x509_der_parts.specs.facts.Writing.{element_is}
use Rattle.x509_der_parts.proofs.tagged.put_element.Goals as goal

pub put_content-requires : goal.put_content-requires
put_content-requires g c =
    let t = c.args.tag in
    let x = g.C.ToContent.content c.args.content.now in
    let P : List ℕ → Type 0 = λ b. g.O.Output.fits b c.args.out.now c.args.at in
    g.O.Output.together.last (t ∷ digits (length x)) x c.args.out.now c.args.at (subst P (element_is t x) c.requires)

pub returns-in_err-start : goal.returns-in_err-start
returns-in_err-start g c =
    let t = c.args.tag in
    let x = g.C.ToContent.content c.args.content.now in
    let p = err_from_is_err_and c.from_residual.result c.from_residual.ensures.1 in
    let Q : List ℕ → Type 0 = λ b. g.O.Output.puts b c.args.out.now c.args.at c.put_content.new.out (Err c.in_err-start.field-0.0) in
    rw p.1 (subst Q (sym (element_is t x)) (g.O.Output.together.fails (t ∷ digits (length x)) x c.args.out.now c.put_content.new.out c.args.at _ c.in_err-start.ensures))

pub header-requires : goal.header-requires
header-requires g c =
    let t = c.args.tag in
    let x = g.C.ToContent.content c.args.content.now in
    let l = g.O.Output.together in
    let P : List ℕ → Type 0 = λ b. g.O.Output.fits b c.args.out.now c.args.at in
    let R : ℕ → Type 0 = λ n. g.O.Output.fits (t ∷ digits n) c.put_content.new.out c.in_ok-start.start in
    let e : c.span.result ≡ length x = c.span.ensures ∙ l.spans x c.args.out.now c.put_content.new.out c.args.at c.in_ok-start.start c.in_ok-start.ensures in
    subst R (sym e) (l.first (t ∷ digits (length x)) x c.args.out.now c.put_content.new.out c.args.at c.in_ok-start.start (subst P (element_is t x) c.requires) c.in_ok-start.ensures)

pub returns : goal.returns
returns g c =
    let t = c.args.tag in
    let x = g.C.ToContent.content c.args.content.now in
    let l = g.O.Output.together in
    let Q : List ℕ → Type 0 = λ b. g.O.Output.puts b c.args.out.now c.args.at c.header.new.out c.header.result in
    let R : ℕ → Type 0 = λ n. g.O.Output.puts (t ∷ digits n) c.put_content.new.out c.in_ok-start.start c.header.new.out c.header.result in
    let e : c.span.result ≡ length x = c.span.ensures ∙ l.spans x c.args.out.now c.put_content.new.out c.args.at c.in_ok-start.start c.in_ok-start.ensures in
    subst Q (sym (element_is t x)) (l.both (t ∷ digits (length x)) x c.args.out.now c.put_content.new.out c.header.new.out c.args.at c.in_ok-start.start c.header.result c.in_ok-start.ensures (subst R e c.header.ensures))
