use Rattle.cimaroly_c.proofs.Cursors.{block_told}
use Rattle.cimaroly_c.proofs.pem.cimaroly_pem_next.Goals as goal

pub returns-in-Some : goal.returns-in-Some
returns-in-Some c =
    block_told c.args.text.now c.args.at c.args.line c.number_of.result c.of.result c.behind.result c.in-Some.found
    c.behind.ensures.place.0 c.behind.ensures.place.1 c.behind.ensures.returned c.in-Some.ensures.found c.in-Some.ensures.read
    c.number_of.ensures c.of.ensures
