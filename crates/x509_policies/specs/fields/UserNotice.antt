-- Where the fields of UserNotice stand in an encoding, written by tools/structures.py from declarations.asn1.
use Rattle.std.proofs.Common.{◌≡◌, ℕ, ◌+◌, List, ◌++◌, length}
use Rattle.x509_der.specs.Element.{element, header}
use Rattle.x509_der.specs.Tally.{Tally}
use Rattle.x509_der.specs.Optional.{OptionalAt}
use Rattle.x509_policies.specs.DisplayText.{display_text}
use Rattle.x509_policies.specs.NoticeReference.{notice_reference}
use Rattle.x509_policies.specs.declared.structures.user_notice.UserNotice.{UserNotice}

pub record UserNoticeAt {A : Type 0} (v : UserNotice A) (string : List ℕ) (y : Tally) : Type 0 where
  pub content : List ℕ
  pub bytes : string ≡ element 48 content
  pub notice_ref_bytes : List ℕ
  pub explicit_text_bytes : List ℕ
  pub notice_ref_first : content ≡ notice_ref_bytes ++ explicit_text_bytes
  pub notice_ref_at : OptionalAt notice_reference v.notice_ref (header content) notice_ref_bytes string y
  pub explicit_text_at : OptionalAt display_text v.explicit_text (header content + length notice_ref_bytes) explicit_text_bytes string y
