-- Statements of an organization (RFC 5280, 4.2.1.4).
use Rattle.std.specs.Prelude.{ℕ, List}
use Rattle.x509_der.specs.Shape.{Shape}
use Rattle.x509_der.specs.Tagged.{tagged}
use Rattle.x509_der.specs.Join.{join}
use Rattle.x509_der.specs.Items.{items}
use Rattle.x509_der.specs.Structure.{structure}
use Rattle.x509_der.specs.Integer.{integers}
use Rattle.x509_policies.specs.DisplayText.{display_text}
use Rattle.x509_policies.specs.declared.structures.display_text.DisplayText.{DisplayText}
use Rattle.x509_policies.specs.declared.structures.notice_reference.NoticeReference.{NoticeReference}

abbrev pub Fields : Type 0 → Type 0
Fields A = DisplayText A × List (List ℕ)

abbrev pub notice_reference_parts : {A : Type 0} → NoticeReference A → Fields A
notice_reference_parts v = (v.organization, v.notice_numbers)

-- organization DisplayText, noticeNumbers SEQUENCE OF INTEGER
abbrev pub notice_reference_inner : {A : Type 0} → Shape (Fields A)
notice_reference_inner = join (λ j. j.0) (λ j. j.1) display_text (tagged 48 (items (tagged 2 integers)))

abbrev pub notice_reference_content : {A : Type 0} → Shape (NoticeReference A)
notice_reference_content = structure notice_reference_parts notice_reference_inner

-- NoticeReference ::= SEQUENCE { organization, noticeNumbers }
abbrev pub notice_reference : {A : Type 0} → Shape (NoticeReference A)
notice_reference = tagged 48 notice_reference_content
