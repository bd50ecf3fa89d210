use Rattle.std.proofs.Common.{◌≡◌, ℕ, List, [], ◌∷◌, length, sum, refl, sym, ◌∙◌, subst, arith}
use Rattle.x509_der.specs.Calls.{Counted, Located}
use Rattle.x509_der.specs.Shape.{Shape}
use Rattle.x509_der.specs.Tally.{Mark}
use Rattle.x509_inspect.proofs.told.check_told.Goals as goal

none_left : (ms : List Mark) → length ms ≡ 0 → [] ≡ ms
none_left [] e = refl
none_left (m ∷ ms) e = absurd (omega (arith, e))

located_none : {V : Type 0} (s : Shape V) (string : List ℕ) (v : V) (counts : List ℕ) (places : List Mark) → Counted s string v counts → sum counts ≡ 0 → places ≡ [] → Located s string v places
located_none s string v counts places c none e =
    let P : List Mark → Type 0 = λ x. Located s string v x in
    subst P (sym e) (record { tally = c.tally; whole = c.whole; marks = none_left c.tally.marks (sym c.total ∙ none); placing = record { within = tt; ordered = tt } })

pub returns-then-is_none : goal.returns-then-is_none
returns-then-is_none g c =
    let h = c.in_ok-deviations.ensures in
    record { ok = (h.0, located_none g.T.Field.shape c.args.bytes.now h.0 c.in_ok-deviations.deviations c.new.result.items h.1 (c.is_none.ensures.0 c.if-is_none.true) c.new.ensures.items); err = tt }

pub returns-in-Ok : goal.returns-in-Ok
returns-in-Ok g c = record { ok = c.in-Ok.ensures.ok; err = tt }
