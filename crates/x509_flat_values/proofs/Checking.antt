-- What a check of an extension says of the kind that its identifier tells.
use Rattle.std.proofs.Common.{◌≡◌, ℕ, List, Option, ap, ◌∙◌, subst}
use Rattle.x509_der.specs.ObjectIdentifier.{IsOid}
use Rattle.x509_further_extensions.specs.Further.{kind_of}
use Rattle.x509_further_extensions.specs.declared.further.FurtherKind.{FurtherKind}
use Rattle.x509_flat.specs.declared.check.Verdict.{Verdict}
use Rattle.x509_flat.specs.declared.status.Status.{Status}
use Rattle.x509_flat_values.specs.Further.{ExtensionChecked, TellsIf}
use Rattle.x509_flat_values.proofs.KeyWalks.{same_arcs}

pub checked : (A : Type 0) (identifier octets arcs : List ℕ) (kind : Option FurtherKind) (status : Status) (verdict : Verdict) → IsOid arcs identifier → kind ≡ kind_of arcs → TellsIf A kind octets status verdict → ExtensionChecked A identifier octets status verdict
checked A identifier octets arcs kind status verdict oid is told = record {
  known = λ other h. (let P : Option FurtherKind → Type 0 = λ k. TellsIf A k octets status verdict in subst P (is ∙ ap kind_of (same_arcs arcs other identifier oid h)) told);
  bad = λ n. absurd (n arcs oid);
}
