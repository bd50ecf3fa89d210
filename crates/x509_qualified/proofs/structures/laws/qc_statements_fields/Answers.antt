-- The law of fields of QcStatements, written by tools/structures.py from declarations.asn1.
use Rattle.x509_der.specs.facts.ElementPlaces.{content_first}
use Rattle.x509_qualified.proofs.structures.laws.qc_statements_fields.Goals as goal

pub returns : goal.returns
returns g c = λ v string y a. content_first 48 _ _ string y (c.fields.ensures v string y a).parts
