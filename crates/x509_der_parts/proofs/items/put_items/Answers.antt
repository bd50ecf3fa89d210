use Rattle.std.proofs.Common.{◌≡◌, ℕ, ◌-◌, List, ◌++◌, length, take, drop, Result, Ok, Err, arith, subst, sym, ap}
use Rattle.std.proofs.lemmas.List.{drop_all}
use Rattle.std.proofs.lemmas.Result.{err_from_is_err_and}
use Rattle.std.specs.List.{flat_map}
use Rattle.x509_der_parts.specs.facts.Writing.{items_from, items_parted, items_around}
use Rattle.x509_der_parts.proofs.items.put_items.Goals as goal

pub loop-left-init : goal.loop-left-init
loop-left-init g c =
    let f = g.T.ToDer.strict in
    let xs = c.args.items.now in
    let Q : List ℕ → Type 0 = λ b. g.O.Output.puts b c.args.out.now c.args.at c.args.out.now (Ok c.args.at) in
    record {
      within = omega arith;
      put = subst Q (sym (ap (flat_map f) (drop_all (length xs) xs (omega arith)))) (g.O.Output.together.none c.args.out.now c.args.at (flat_map f xs) c.requires);
    }

pub put-requires : goal.put-requires
put-requires g c =
    let f = g.T.ToDer.strict in
    let xs = c.args.items.now in
    let l = c.loop-left in
    let x = c.index-items-left.result in
    let i = l.left - 1 in
    let P : List ℕ → Type 0 = λ b. g.O.Output.fits b c.args.out.now c.args.at in
    let e = items_around f xs i l.left x x (omega (arith, c.loop-left-test.true)) (omega (arith, c.loop-left-test.true, l.invariant.within)) c.index-items-left.is in
    g.O.Output.together.last (flat_map f (take i xs)) (f x) l.out l.start
    (g.O.Output.together.first (flat_map f (take i xs) ++ f x) (flat_map f (drop l.left xs)) c.args.out.now l.out c.args.at l.start (subst P e c.requires) l.invariant.put)

pub returns-in_err-start : goal.returns-in_err-start
returns-in_err-start g c =
    let f = g.T.ToDer.strict in
    let xs = c.args.items.now in
    let l = c.loop-left in
    let x = c.index-items-left.result in
    let i = l.left - 1 in
    let p = err_from_is_err_and c.from_residual.result c.from_residual.ensures.1 in
    let R : Result ℕ _ = Err c.in_err-start.field-0.0 in
    let Q : List ℕ → Type 0 = λ b. g.O.Output.puts b c.args.out.now c.args.at c.put.new.out R in
    let e = items_from f xs i l.left x x (omega (arith, c.loop-left-test.true)) (omega (arith, c.loop-left-test.true, l.invariant.within)) c.index-items-left.is in
    let h = g.O.Output.together.both (f x) (flat_map f (drop l.left xs)) c.args.out.now l.out c.put.new.out c.args.at l.start R l.invariant.put c.in_err-start.ensures in
    rw p.1 (subst Q (sym (items_parted f xs i)) (g.O.Output.together.fails (flat_map f (take i xs)) (flat_map f (drop i xs)) c.args.out.now c.put.new.out c.args.at _ (subst Q (sym e) h)))

pub loop-left-preserved : goal.loop-left-preserved
loop-left-preserved g c =
    let f = g.T.ToDer.strict in
    let xs = c.args.items.now in
    let l = c.loop-left in
    let x = c.index-items-left.result in
    let i = l.left - 1 in
    let Q : List ℕ → Type 0 = λ b. g.O.Output.puts b c.args.out.now c.args.at c.put.new.out (Ok c.in_ok-start.start) in
    let e = items_from f xs i l.left x x (omega (arith, c.loop-left-test.true)) (omega (arith, c.loop-left-test.true, l.invariant.within)) c.index-items-left.is in
    record {
      within = omega (arith, l.invariant.within);
      put = subst Q (sym e) (g.O.Output.together.both (f x) (flat_map f (drop l.left xs)) c.args.out.now l.out c.put.new.out c.args.at l.start (Ok c.in_ok-start.start) l.invariant.put c.in_ok-start.ensures);
    }

pub returns : goal.returns
returns g c =
    let l = c.loop-left in
    let Q : ℕ → Type 0 = λ n. g.O.Output.puts (flat_map g.T.ToDer.strict (drop n c.args.items.now)) c.args.out.now c.args.at l.out (Ok l.start) in
    let e : l.left ≡ 0 = omega (arith, c.loop-left-test.false) in
    subst Q e l.invariant.put
