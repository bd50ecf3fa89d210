use Rattle.picky_asn1_x509.specs.facts.OlderCertificates.{older_is_spelled, older_whole_is_spelled}
use Rattle.picky_asn1_x509.proofs.laws.full_form_covers_form_without_unique_ids.Goals as goal

pub returns-clause-signed : goal.returns-clause-signed
returns-clause-signed g c = λ v string y a. older_is_spelled v string y a

pub returns-clause-whole : goal.returns-clause-whole
returns-clause-whole g c = λ v string y a. older_whole_is_spelled v string y a
