-- What is stated of a certificate (RFC 3739, 3.2.6).
use Rattle.std.specs.Prelude.{ℕ, List, Option}
use Rattle.x509_der.specs.Shape.{Shape}
use Rattle.x509_der.specs.Tagged.{tagged}
use Rattle.x509_der.specs.Join.{join}
use Rattle.x509_der.specs.Items.{items}
use Rattle.x509_der.specs.Optional.{optional}
use Rattle.x509_der.specs.RawElement.{raws}
use Rattle.x509_der.specs.Structure.{structure}
use Rattle.x509_der.specs.ObjectIdentifier.{oids}
use Rattle.x509_qualified.specs.declared.structures.qc_statement.QcStatement.{QcStatement}

-- the arcs of the identifier, and the element behind it
abbrev pub Fields : Type 0 → Type 0
Fields A = List ℕ × Option (List ℕ)

abbrev pub qc_statement_parts : {A : Type 0} → QcStatement A → Fields A
qc_statement_parts v = (v.statement_id, v.statement_info)

-- statementId OBJECT IDENTIFIER, statementInfo ANY DEFINED BY statementId OPTIONAL, which is any one element
abbrev pub qc_statement_inner : Shape (List ℕ × Option (List ℕ))
qc_statement_inner = join (λ j. j.0) (λ j. j.1) (tagged 6 oids) (optional raws)

abbrev pub qc_statement_content : {A : Type 0} → Shape (QcStatement A)
qc_statement_content = structure qc_statement_parts qc_statement_inner

-- QCStatement ::= SEQUENCE { statementId, statementInfo }
abbrev pub qc_statement : {A : Type 0} → Shape (QcStatement A)
qc_statement = tagged 48 qc_statement_content

-- QCStatements ::= SEQUENCE OF QCStatement
abbrev pub qc_statements : {A : Type 0} → Shape (List (QcStatement A))
qc_statements = tagged 48 (items qc_statement)
