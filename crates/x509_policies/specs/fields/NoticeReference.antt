-- Where the fields of NoticeReference stand in an encoding, written by tools/structures.py from declarations.asn1.
use Rattle.std.proofs.Common.{◌≡◌, ℕ, ◌+◌, List, ◌++◌, length}
use Rattle.x509_der.specs.Element.{element, header}
use Rattle.x509_der.specs.Tally.{Tally}
use Rattle.x509_der.specs.Fields.{Stands}
use Rattle.x509_der.specs.Integer.{integers}
use Rattle.x509_der.specs.Items.{items}
use Rattle.x509_der.specs.Tagged.{tagged}
use Rattle.x509_policies.specs.DisplayText.{display_text}
use Rattle.x509_policies.specs.declared.structures.notice_reference.NoticeReference.{NoticeReference}

pub record NoticeReferenceAt {A : Type 0} (v : NoticeReference A) (string : List ℕ) (y : Tally) : Type 0 where
  pub content : List ℕ
  pub bytes : string ≡ element 48 content
  pub organization_bytes : List ℕ
  pub notice_numbers_bytes : List ℕ
  pub organization_first : content ≡ organization_bytes ++ notice_numbers_bytes
  pub organization_at : Stands display_text v.organization (header content) organization_bytes string y
  pub notice_numbers_at : Stands (tagged 48 (items (tagged 2 integers))) v.notice_numbers (header content + length organization_bytes) notice_numbers_bytes string y
