use Rattle.x509_flat.proofs.Told.{placed, not_placed}
use Rattle.x509_flat.proofs.places.places_as.Goals as goal

pub returns-in-Ok : goal.returns-in-Ok
returns-in-Ok g c = placed g.T.Field.shape c.args.bytes.now c.in-Ok.ensures.ok.0 c.in-Ok.places.items c.deref.result.now c.args.out.now c.put_places.new.out c.put_places.result.status c.put_places.result.size c.deref.ensures.value c.in-Ok.ensures.ok.1 c.put_places.ensures

pub returns-in-Err : goal.returns-in-Err
returns-in-Err g c = not_placed g.T.Field.shape c.args.bytes.now c.in-Err.error c.args.out.now c.unsized_of.result.status c.unsized_of.result.size c.in-Err.ensures.err c.unsized_of.ensures.status c.unsized_of.ensures.size
