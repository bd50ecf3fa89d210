use Rattle.x509_flat_values.proofs.Sequences.{policy_told}
use Rattle.x509_flat_values.proofs.policies.PoliciesPlacingPolicyInformation.placed.Goals as goal

pub returns : goal.returns
returns g c = λ v n slice string whole h bytes place.
    policy_told string whole v n slice c.args.item c.take.new.self c.take.result _ h bytes place c.take.ensures c.span.ensures
