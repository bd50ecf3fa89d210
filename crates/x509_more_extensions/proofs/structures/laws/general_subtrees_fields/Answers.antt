-- The law of fields of GeneralSubtrees, written by tools/structures.py from declarations.asn1.
use Rattle.x509_der.specs.facts.ElementPlaces.{content_first}
use Rattle.x509_more_extensions.proofs.structures.laws.general_subtrees_fields.Goals as goal

pub returns : goal.returns
returns g c = λ v string y a. content_first 48 _ _ string y (c.fields.ensures v string y a).parts
