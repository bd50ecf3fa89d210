-- An attribute of a request is readable where its values are of the kind of its type and readable, and nowhere else.
use Rattle.std.proofs.Common.{◌≡◌, refl, ap, sym, subst}
use Rattle.picky_asn1_x509_parts.specs.declared.attribute.Attribute.{Attribute}
use Rattle.picky_asn1_x509_parts.specs.declared.attribute.AttributeKind.{AttributeKind}
use Rattle.picky_asn1_x509_parts.specs.declared.attribute.AttributeKind.TheVariants as kinds
use Rattle.picky_asn1_x509_parts.specs.declared.attribute.AttributeValues.{AttributeValues}
use Rattle.picky_asn1_x509_parts.specs.declared.attribute.AttributeValues.TheVariants as value
use Rattle.picky_asn1_x509_parts.specs.Attribute.{kind_of, kind_in, AreReadable, by_kind, attribute}

reads_as : {A : Type 0} (k : AttributeKind) (v : AttributeValues A) → kind_in v ≡ k → AreReadable v → (by_kind k).readable v
reads_as kinds.Extensions (value.Extensions x) e h = record { payload = x; is = refl; readable = h }
reads_as kinds.Extensions (value.ContentType x) e h = cc
reads_as kinds.Extensions (value.SpcStatementType x) e h = cc
reads_as kinds.Extensions (value.MessageDigest x) e h = cc
reads_as kinds.Extensions (value.SigningTime x) e h = cc
reads_as kinds.Extensions (value.Custom x) e h = cc
reads_as kinds.ContentType (value.Extensions x) e h = cc
reads_as kinds.ContentType (value.ContentType x) e h = record { payload = x; is = refl; readable = h }
reads_as kinds.ContentType (value.SpcStatementType x) e h = cc
reads_as kinds.ContentType (value.MessageDigest x) e h = cc
reads_as kinds.ContentType (value.SigningTime x) e h = cc
reads_as kinds.ContentType (value.Custom x) e h = cc
reads_as kinds.SpcStatementType (value.Extensions x) e h = cc
reads_as kinds.SpcStatementType (value.ContentType x) e h = cc
reads_as kinds.SpcStatementType (value.SpcStatementType x) e h = record { payload = x; is = refl; readable = h }
reads_as kinds.SpcStatementType (value.MessageDigest x) e h = cc
reads_as kinds.SpcStatementType (value.SigningTime x) e h = cc
reads_as kinds.SpcStatementType (value.Custom x) e h = cc
reads_as kinds.MessageDigest (value.Extensions x) e h = cc
reads_as kinds.MessageDigest (value.ContentType x) e h = cc
reads_as kinds.MessageDigest (value.SpcStatementType x) e h = cc
reads_as kinds.MessageDigest (value.MessageDigest x) e h = record { payload = x; is = refl; readable = h }
reads_as kinds.MessageDigest (value.SigningTime x) e h = cc
reads_as kinds.MessageDigest (value.Custom x) e h = cc
reads_as kinds.SigningTime (value.Extensions x) e h = cc
reads_as kinds.SigningTime (value.ContentType x) e h = cc
reads_as kinds.SigningTime (value.SpcStatementType x) e h = cc
reads_as kinds.SigningTime (value.MessageDigest x) e h = cc
reads_as kinds.SigningTime (value.SigningTime x) e h = record { payload = x; is = refl; readable = h }
reads_as kinds.SigningTime (value.Custom x) e h = cc
reads_as kinds.Custom (value.Extensions x) e h = cc
reads_as kinds.Custom (value.ContentType x) e h = cc
reads_as kinds.Custom (value.SpcStatementType x) e h = cc
reads_as kinds.Custom (value.MessageDigest x) e h = cc
reads_as kinds.Custom (value.SigningTime x) e h = cc
reads_as kinds.Custom (value.Custom x) e h = record { payload = x; is = refl; readable = h }

kind_reads : {A : Type 0} (k : AttributeKind) (v : AttributeValues A) → (by_kind k).readable v → (kind_in v ≡ k) × AreReadable v
kind_reads kinds.Extensions v r = (ap kind_in r.is, subst AreReadable (sym r.is) r.readable)
kind_reads kinds.ContentType v r = (ap kind_in r.is, subst AreReadable (sym r.is) r.readable)
kind_reads kinds.SpcStatementType v r = (ap kind_in r.is, subst AreReadable (sym r.is) r.readable)
kind_reads kinds.MessageDigest v r = (ap kind_in r.is, subst AreReadable (sym r.is) r.readable)
kind_reads kinds.SigningTime v r = (ap kind_in r.is, subst AreReadable (sym r.is) r.readable)
kind_reads kinds.Custom v r = (ap kind_in r.is, subst AreReadable (sym r.is) r.readable)

pub fitting_reads : {A : Type 0} (v : Attribute A) → kind_in v.value ≡ kind_of v.ty → AreReadable v.value → attribute.readable v
fitting_reads v e h = (tt, reads_as (kind_of v.ty) v.value e h)

pub reads_fitting : {A : Type 0} (v : Attribute A) → attribute.readable v → (kind_in v.value ≡ kind_of v.ty) × AreReadable v.value
reads_fitting v r = kind_reads (kind_of v.ty) v.value r.1
