-- Where the fields of QcStatement stand in an encoding, written by tools/structures.py from declarations.asn1.
use Rattle.std.proofs.Common.{◌≡◌, ℕ, ◌+◌, List, ◌++◌, length}
use Rattle.x509_der.specs.Element.{element, header}
use Rattle.x509_der.specs.Tally.{Tally}
use Rattle.x509_der.specs.Fields.{Stands}
use Rattle.x509_der.specs.Optional.{OptionalAt}
use Rattle.x509_der.specs.ObjectIdentifier.{oids}
use Rattle.x509_der.specs.RawElement.{raws}
use Rattle.x509_der.specs.Tagged.{tagged}
use Rattle.x509_qualified.specs.declared.structures.qc_statement.QcStatement.{QcStatement}

pub record QcStatementAt {A : Type 0} (v : QcStatement A) (string : List ℕ) (y : Tally) : Type 0 where
  pub content : List ℕ
  pub bytes : string ≡ element 48 content
  pub statement_id_bytes : List ℕ
  pub statement_info_bytes : List ℕ
  pub statement_id_first : content ≡ statement_id_bytes ++ statement_info_bytes
  pub statement_id_at : Stands (tagged 6 oids) v.statement_id (header content) statement_id_bytes string y
  pub statement_info_at : OptionalAt raws v.statement_info (header content + length statement_id_bytes) statement_info_bytes string y
