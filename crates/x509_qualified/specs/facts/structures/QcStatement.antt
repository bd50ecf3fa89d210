-- Facts about QcStatement, written by tools/structures.py from declarations.asn1.
use Rattle.std.proofs.Common.{◌≡◌, ap}
use Rattle.x509_qualified.specs.declared.structures.qc_statement.QcStatement.{QcStatement}
use Rattle.x509_qualified.specs.QcStatement.{Fields, qc_statement_parts}

abbrev pub qc_statement_of : {A : Type 0} → Fields A → QcStatement A
qc_statement_of f = record { statement_id = f.0; statement_info = f.1 }

pub qc_statement_same : {A : Type 0} (v w : QcStatement A) → qc_statement_parts v ≡ qc_statement_parts w → v ≡ w
qc_statement_same v w e = ap qc_statement_of e
