use Rattle.std.proofs.Common.{ℕ, ◌≤◌, ◌^◌, List, length, subst}
use Rattle.x509_flat_make.specs.facts.Making.{written}
use Rattle.x509_flat_make.proofs.assemble.certificate.Goals as goal

pub returns-in-Ok : goal.returns-in-Ok
returns-in-Ok g c =
    let P : List ℕ → Type 0 = λ x. 2 ^ 64 ≤ length x in
    written _ _ _ c.deref.result.now c.in-Ok.made.items c.args.out.now c.put.new.out c.put.result.status c.put.result.size c.deref.ensures.value c.in-Ok.ensures.ok (λ l. subst P c.in-Ok.ensures.ok.is l) c.put.ensures
