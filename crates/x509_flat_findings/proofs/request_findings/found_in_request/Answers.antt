use Rattle.std.proofs.Common.{◌+◌, ℕ, List, arith, take, subst, sym, ◌∙◌}
use Rattle.std.proofs.lemmas.Bool.{false≢true}
use Rattle.x509_findings.specs.RequestFindings.{BrokenByRequest}
use Rattle.x509_rules.specs.declared.rule.Rule.{Rule}
use Rattle.x509_flat_findings.specs.Findings.{AreTold}
use Rattle.x509_flat_findings.specs.RequestFindings.{flat_request_finding}
use Rattle.x509_flat_findings.specs.declared.findings.FlatFinding.{FlatFinding}
use Rattle.x509_flat_findings.proofs.Told.{kept_next, told_next}
use Rattle.x509_flat_findings.proofs.request_findings.found_in_request.Goals as goal
use Rattle.x509_flat_findings.proofs.request_findings.found_in_request.Goals.{then-is_told, else-is_told}

pub rules-preserved : goal.rules-preserved
rules-preserved g c =
    let i = c.rules.invariant in
    let rules = c.args.rules.now in
    let behind = c.rules.index + 1 in
    let IsBroken : Rule → Type 0 = λ r. BrokenByRequest r c.args.request.now in
    let finding : Rule → FlatFinding = λ r. flat_request_finding r c.args.places.now in
    elim c.if-is_told.branch [
      | then-is_told w ↦
          let P : ℕ → Type 0 = λ n. AreTold IsBroken finding (take behind rules) (take n c.if-is_told.row) in
          record {
            few = omega (arith, i.few, w.count-is);
            size = c.if-is_told.auto.row ∙ i.size;
            found = subst P (sym w.count-is) (told_next IsBroken finding rules c.rules.row c.if-is_told.row c.rules.index c.rules.count _ w.finding_of.result
                (omega (arith, c.rules-test.true)) (omega (arith, i.few, i.size, c.rules-test.true, c.requires)) i.found (c.in_ok-is_told.ensures.told.0 w.if-is_told.true) w.finding_of.ensures w.row-is);
          }
      | else-is_told w ↦
          let P : ℕ → Type 0 = λ n. AreTold IsBroken finding (take behind rules) (take n c.if-is_told.row) in
          let Q : List FlatFinding → Type 0 = λ x. AreTold IsBroken finding (take behind rules) (take c.rules.count x) in
          record {
            few = omega (arith, i.few, w.count-is);
            size = c.if-is_told.auto.row ∙ i.size;
            found = subst P (sym w.count-is) (subst Q (sym w.row-is) (kept_next IsBroken finding rules (take c.rules.count c.rules.row) c.rules.index _
                (omega (arith, c.rules-test.true)) i.found (λ b. false≢true (sym w.if-is_told.false ∙ c.in_ok-is_told.ensures.told.1 b))));
          }
    ]
