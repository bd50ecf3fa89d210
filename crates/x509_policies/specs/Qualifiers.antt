-- What a policy says of itself, by the kind that the object identifier tells (RFC 5280, 4.2.1.4).
use Rattle.std.specs.Prelude.{ℕ, if◌then◌else◌, List, Result}
use Rattle.x509_der.specs.ObjectIdentifier.{is_arcs}
use Rattle.x509_der.specs.RawElement.{raws}
use Rattle.x509_der.specs.Tagged.{tagged}
use Rattle.x509_der.specs.Types.{Refused}
use Rattle.x509_prim.specs.CharSets.{are_ascii}
use Rattle.x509_prim.specs.Texts.{Passes, texts}
use Rattle.x509_policies.specs.Explained.{ExplainedAs}
use Rattle.x509_policies.specs.PolicyQualifierInfo.{cps_arcs, user_notice_arcs}
use Rattle.x509_policies.specs.UserNotice.{user_notice}
use Rattle.x509_policies.specs.declared.qualifiers.QualifierKind.{QualifierKind}
use Rattle.x509_policies.specs.declared.qualifiers.QualifierKind.TheVariants as kinds
use Rattle.x509_policies.specs.declared.qualifiers.Qualifier.{Qualifier}
use Rattle.x509_policies.specs.declared.qualifiers.Qualifier.TheVariants as qualifier

-- id-qt-cps, id-qt-unotice, or any other
abbrev pub kind_of : List ℕ → QualifierKind
kind_of arcs =
    if is_arcs arcs cps_arcs then kinds.Cps
    else if is_arcs arcs user_notice_arcs then kinds.UserNotice
    else kinds.Other

-- what a read of a kind gives: CPSuri ::= IA5String, UserNotice, and of any other kind one element
abbrev pub IsSaid : {A : Type 0} → QualifierKind → List ℕ → Result (Qualifier A × List ℕ) Refused → Type 0
IsSaid kinds.Cps string result = ExplainedAs qualifier.Cps (tagged 22 (texts (Passes are_ascii))) string result
IsSaid kinds.UserNotice string result = ExplainedAs qualifier.UserNotice user_notice string result
IsSaid kinds.Other string result = ExplainedAs qualifier.Other raws string result
