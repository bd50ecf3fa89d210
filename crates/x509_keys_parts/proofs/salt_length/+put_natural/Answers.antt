use Rattle.std.proofs.Common.{ℕ, ◌≤◌, ◌/◌, ◌%◌, List, [], ◌∷◌, Err, arith, subst, sym}
use Rattle.std.proofs.lemmas.Result.{err_from_is_err_and}
use Rattle.x509_der.specs.Integer.{natural_content}
use Rattle.x509_keys_parts.specs.facts.NaturalContents.{natural_low, natural_more}
use Rattle.x509_keys_parts.proofs.salt_length.+put_natural.Goals as goal

pub bytes-requires : goal.bytes-requires
bytes-requires g t c =
    let P : List ℕ → Type 0 = λ b. g.O.Output.fits b c.args.out.now c.args.at in
    subst P (natural_low c.args.number c.if-number-lt128.true) c.requires

pub returns-then-number-lt128 : goal.returns-then-number-lt128
returns-then-number-lt128 g t c =
    let Q : List ℕ → Type 0 = λ b. g.O.Output.puts b c.args.out.now c.args.at c.bytes.new.out c.bytes.result in
    subst Q (sym (natural_low c.args.number c.if-number-lt128.true)) c.bytes.ensures

pub bytes-requires-2 : goal.bytes-requires-2
bytes-requires-2 g t c =
    let n = c.args.number in
    let l : 128 ≤ n = omega (arith, c.if-number-lt128.false) in
    let P : List ℕ → Type 0 = λ b. g.O.Output.fits b c.args.out.now c.args.at in
    g.O.Output.together.last (natural_content (n / 256)) (n % 256 ∷ []) c.args.out.now c.args.at (subst P (natural_more n l) c.requires)

pub returns-in_err-at : goal.returns-in_err-at
returns-in_err-at g t c =
    let n = c.args.number in
    let l : 128 ≤ n = omega (arith, c.if-number-lt128.false) in
    let p = err_from_is_err_and c.from_residual.result c.from_residual.ensures.1 in
    let Q : List ℕ → Type 0 = λ b. g.O.Output.puts b c.args.out.now c.args.at c.bytes-2.new.out (Err c.in_err-at.field-0.0) in
    rw p.1 (subst Q (sym (natural_more n l)) (g.O.Output.together.fails (natural_content (n / 256)) (n % 256 ∷ []) c.args.out.now c.bytes-2.new.out c.args.at _ c.in_err-at.ensures))

pub put_natural-requires : goal.put_natural-requires
put_natural-requires g t c κs within =
    let n = c.args.number in
    let l : 128 ≤ n = omega (arith, c.if-number-lt128.false) in
    let P : List ℕ → Type 0 = λ b. g.O.Output.fits b c.args.out.now c.args.at in
    let f = g.O.Output.together.first (natural_content (n / 256)) (n % 256 ∷ []) c.args.out.now c.bytes-2.new.out c.args.at c.in_ok-at.at (subst P (natural_more n l) c.requires) c.in_ok-at.ensures in
    (omega (arith, c.decreases), ((λ a m. within a m), f))

pub returns : goal.returns
returns g t c =
    let n = c.args.number in
    let l : 128 ≤ n = omega (arith, c.if-number-lt128.false) in
    let Q : List ℕ → Type 0 = λ b. g.O.Output.puts b c.args.out.now c.args.at c.put_natural.new.out c.put_natural.result in
    subst Q (sym (natural_more n l)) (g.O.Output.together.both (natural_content (n / 256)) (n % 256 ∷ []) c.args.out.now c.bytes-2.new.out c.put_natural.new.out c.args.at c.in_ok-at.at c.put_natural.result c.in_ok-at.ensures c.put_natural.ensures)
