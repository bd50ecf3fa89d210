-- That == of AccessDescription tells the same, written by tools/structures.py from declarations.asn1.
use Rattle.x509_more_extensions.specs.AccessDescription.{access_description_parts}
use Rattle.x509_more_extensions.specs.facts.structures.AccessDescription.{access_description_same}
use Rattle.x509_der.specs.facts.SameEq.{both_decide, told_decide}
use Rattle.x509_more_extensions.proofs.structures.access_description.AccessDescriptionSameEq.decides.Goals as goal

pub returns : goal.returns
returns g c = told_decide access_description_parts access_description_same (both_decide c.decides.ensures c.decides-2.ensures)
