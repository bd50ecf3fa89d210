use Rattle.std.proofs.Common.{◌≡◌, ℕ, ◌+◌, ◌≤◌, List, sum, ap, sym, ◌∙◌, arith}
use Rattle.std.proofs.lemmas.List.{at_drop_more}
use Rattle.std.proofs.Math.ListN.{drop_of_length-le}
use Rattle.x509_der_parts.specs.declared.deviation.Deviation.{Deviation}
use Rattle.x509_der_parts.specs.Deviations.{kind_index}
use Rattle.x509_der_parts.specs.Reading.{one_more, tallied}
use Rattle.x509_der_parts.specs.reads.Counts.{counts_are, one_more_sum}
use Rattle.x509_der_parts.proofs.deviation.Deviations.of_places.Goals as goal

sum_more : (counts more : List ℕ) (i : ℕ) (kind : Deviation) → more ≡ one_more counts (kind_index kind) → sum counts ≤ i → sum more ≤ i + 1
sum_more counts more i kind e h = rw e (omega (arith, h, one_more_sum counts kind))

pub loop-place-preserved : goal.loop-place-preserved
loop-place-preserved c =
    let l = c.loop-place in record {
      few = sum_more l.counts _ l.place-index _ c.add.ensures l.invariant.few;
      same = rw c.add.ensures (sym (at_drop_more (tallied l.counts) c.args.places.now l.place-index _ c.loop-place-test.true) ∙ l.invariant.same);
    }

pub returns : goal.returns
returns c =
    let l = c.loop-place in
    ap (tallied l.counts) (sym (drop_of_length-le c.args.places.now c.loop-place-test.false)) ∙ l.invariant.same ∙ counts_are c.args.places.now
