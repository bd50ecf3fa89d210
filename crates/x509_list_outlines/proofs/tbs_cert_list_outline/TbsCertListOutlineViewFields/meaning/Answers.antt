use Rattle.std.proofs.Common.{rules}
use Rattle.x509_list_outlines.proofs.tbs_cert_list_outline.TbsCertListOutlineViewFields.meaning.Goals as goal

-- each is found without a file too; with one, a wrong body is refused sooner
pub returns-then-fits-clause-meaning : goal.returns-then-fits-clause-meaning
returns-then-fits-clause-meaning g c = search rules

pub returns-else-fits-clause-meaning : goal.returns-else-fits-clause-meaning
returns-else-fits-clause-meaning g c = search rules
