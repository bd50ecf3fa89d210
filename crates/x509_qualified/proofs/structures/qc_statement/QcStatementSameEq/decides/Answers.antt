-- That == of QcStatement tells the same, written by tools/structures.py from declarations.asn1.
use Rattle.x509_qualified.specs.QcStatement.{qc_statement_parts}
use Rattle.x509_qualified.specs.facts.structures.QcStatement.{qc_statement_same}
use Rattle.x509_der.specs.facts.SameEq.{both_decide, told_decide}
use Rattle.x509_qualified.proofs.structures.qc_statement.QcStatementSameEq.decides.Goals as goal

pub returns : goal.returns
returns g c = told_decide qc_statement_parts qc_statement_same (both_decide c.decides.ensures c.decides-2.ensures)
