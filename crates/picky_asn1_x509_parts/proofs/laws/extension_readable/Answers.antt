use Rattle.picky_asn1_x509_parts.specs.facts.ExtensionFacts.{fitting_reads, reads_fitting}
use Rattle.picky_asn1_x509_parts.proofs.laws.extension_readable.Goals as goal

pub returns : goal.returns
returns g c = λ v. (λ r. reads_fitting v r, λ f. fitting_reads v f.0 f.1)
