use Rattle.std.proofs.Common.{◌≡◌, ap}
use Rattle.x509_fields.specs.Walks.{Walk}
use Rattle.x509_fields.specs.facts.Steps.{stays}
use Rattle.x509_fields.proofs.walk.Walk.next.Goals as goal

pub returns-in-None : goal.returns-in-None
returns-in-None c =
    let a : c.self.inside.at ≡ c.args.self.now.at = ap (λ (x : Walk). x.at) c.self.view_is in
    rw c.in-None.ensures.0 (stays c.args.self.now _ c.in-None.ensures.1 a a)
