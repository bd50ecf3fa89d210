use Rattle.x509_flat_values.proofs.Listing.{list_content_at, items_told}
use Rattle.x509_flat_values.proofs.lists.items_within.Goals as goal

pub returns : goal.returns
returns g c = λ t fits v whole f.
    let k = list_content_at t g.T.Field.shape fits c.spellings_are_lawful.ensures.lawful c.spellings_are_lawful.ensures.element v c.args.span c.args.bytes.now whole f c.over-list.result c.take.new.self c.take.result c.over-list.ensures c.take.ensures in
    items_told t g.T.Field.shape g.P.Placing.tells v c.args.span f.slice c.args.bytes.now whole _ k c.args.out.now _ _
    (c.each_told.ensures v _ k.list.content c.args.bytes.now whole k.list.inner.parts k.rest k.at)
