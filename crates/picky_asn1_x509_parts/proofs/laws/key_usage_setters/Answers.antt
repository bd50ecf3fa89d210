use Rattle.picky_asn1_x509_parts.specs.facts.KeyUsages.{put_here, put_elsewhere, length-put}
use Rattle.picky_asn1_x509_parts.proofs.laws.key_usage_setters.Goals as goal

pub returns-clause-here : goal.returns-clause-here
returns-clause-here c = put_here

pub returns-clause-others : goal.returns-clause-others
returns-clause-others c = put_elsewhere

pub returns-clause-len : goal.returns-clause-len
returns-clause-len c = length-put
