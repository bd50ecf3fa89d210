use Rattle.x509_signing.specs.facts.SignatureFields.{past_version}
use Rattle.x509_signing.proofs.signature_field.behind_version.Goals as goal

pub returns-in-Some-clause-one : goal.returns-in-Some-clause-one
returns-in-Some-clause-one c = λ version serial rest v e. past_version c.args.fields.now _ _ c.in-Some.rest.now version rest serial c.in-Some.ensures v e
