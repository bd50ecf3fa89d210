-- What is to be shown to whoever relies on a certificate (RFC 5280, 4.2.1.4).
use Rattle.std.specs.Prelude.{Option}
use Rattle.x509_der.specs.Shape.{Shape}
use Rattle.x509_der.specs.Tagged.{tagged}
use Rattle.x509_der.specs.Join.{join}
use Rattle.x509_der.specs.Optional.{optional}
use Rattle.x509_der.specs.Structure.{structure}
use Rattle.x509_policies.specs.DisplayText.{display_text}
use Rattle.x509_policies.specs.NoticeReference.{notice_reference}
use Rattle.x509_policies.specs.declared.structures.display_text.DisplayText.{DisplayText}
use Rattle.x509_policies.specs.declared.structures.notice_reference.NoticeReference.{NoticeReference}
use Rattle.x509_policies.specs.declared.structures.user_notice.UserNotice.{UserNotice}

abbrev pub Fields : Type 0 → Type 0
Fields A = Option (NoticeReference A) × Option (DisplayText A)

abbrev pub user_notice_parts : {A : Type 0} → UserNotice A → Fields A
user_notice_parts v = (v.notice_ref, v.explicit_text)

-- noticeRef NoticeReference OPTIONAL, explicitText DisplayText OPTIONAL
abbrev pub user_notice_inner : {A : Type 0} → Shape (Fields A)
user_notice_inner = join (λ j. j.0) (λ j. j.1) (optional notice_reference) (optional display_text)

abbrev pub user_notice_content : {A : Type 0} → Shape (UserNotice A)
user_notice_content = structure user_notice_parts user_notice_inner

-- UserNotice ::= SEQUENCE { noticeRef, explicitText }
abbrev pub user_notice : {A : Type 0} → Shape (UserNotice A)
user_notice = tagged 48 user_notice_content
