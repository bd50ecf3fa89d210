use Rattle.std.proofs.Common.{refl}
use Rattle.x509_values.proofs.TellingCertificates.{list_there, list_absent}
use Rattle.x509_values.proofs.certificate.find_extension.Goals as goal

pub returns-clause-ok : goal.returns-clause-ok
returns-clause-ok g c =
    let k = c.in_ok-places.ensures.ok in
    let f = k.stand.fields in
    record { value = k.value; tally = k.tally; whole = k.whole; told = list_there c.spellings_are_lawful.ensures.lawful c.args.identifier.now f.extensions k.value.tbs_certificate.extensions c.in_ok-places.places.fields.extensions c.in-Some.tagged c.content_within-list.result c.args.bytes.now k.tally c.find_extension_within.result f.fields.extensions f.extensions_mean c.in-Some.is c.content_within-list.ensures c.find_extension_within.ensures }

pub returns-in_default-clause-ok : goal.returns-in_default-clause-ok
returns-in_default-clause-ok g c =
    let k = c.in_ok-places.ensures.ok in
    let f = k.stand.fields in
    record { value = k.value; tally = k.tally; whole = k.whole; told = list_absent c.args.identifier.now f.extensions k.value.tbs_certificate.extensions c.in_ok-places.places.fields.extensions c.args.bytes.now k.tally _ f.fields.extensions f.extensions_mean c.in_default.is refl }
