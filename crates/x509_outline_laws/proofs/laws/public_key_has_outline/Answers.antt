use Rattle.x509_outline_laws.proofs.Keys.{key_carries}
use Rattle.x509_outline_laws.proofs.laws.public_key_has_outline.Goals as goal

pub returns : goal.returns
returns g c value string h d =
    let k = key_carries value string d.tally h d.spelled in
    record { outline = k.value; reads = k.reads; same = k.related }
