use Rattle.x509_names.specs.facts.AttributeFields.{text_reads_back, email_reads_back}
use Rattle.x509_names.proofs.laws.made_attributes_read_back.Goals as goal

pub returns-clause-text : goal.returns-clause-text
returns-clause-text g c = text_reads_back

pub returns-clause-email : goal.returns-clause-email
returns-clause-email g c = email_reads_back
