use Rattle.x509_pem.proofs.InText.{block_at, block_read}
use Rattle.x509_pem.proofs.in_text.next_in.Goals as goal

pub returns-clause-found : goal.returns-clause-found
returns-clause-found c =
    block_at c.args.text.now c.args.start c.in_ok-begun.begun c.stop_of.result c.block_of.result c.in_ok-begun.ensures c.stop_of.ensures
    c.block_of.ensures

pub returns-clause-read : goal.returns-clause-read
returns-clause-read c =
    block_read c.args.text.now c.args.start c.block_of.result
    (block_at c.args.text.now c.args.start c.in_ok-begun.begun c.stop_of.result c.block_of.result c.in_ok-begun.ensures c.stop_of.ensures
    c.block_of.ensures)
