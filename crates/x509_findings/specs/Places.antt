-- Where the parts of a certificate, and of a request, stand, by the places of its fields (RFC 5280, 4.1; RFC 2986, 4).
use Rattle.std.specs.Prelude.{unwrap_or}
use Rattle.x509_fields.specs.declared.certificate.CertificateFields.{CertificateFields}
use Rattle.x509_fields.specs.declared.request.CertificationRequestFields.{CertificationRequestFields}
use Rattle.x509_fields.specs.declared.span.Span.{Span}
use Rattle.x509_rules.specs.declared.part.Part.{Part}
use Rattle.x509_rules.specs.declared.part.Part.TheVariants as part

-- what isn't encoded stands in all that is signed
abbrev pub place_of : Part → CertificateFields → Span
place_of part.SerialNumber at = at.fields.serial_number
place_of part.Signature at = at.fields.signature
place_of part.Issuer at = at.fields.issuer
place_of part.Validity at = at.fields.validity
place_of part.Subject at = at.fields.subject
place_of part.SubjectPublicKeyInfo at = at.fields.subject_public_key_info
place_of part.IssuerUniqueId at = unwrap_or at.fields.issuer_unique_id at.tbs_certificate
place_of part.SubjectUniqueId at = unwrap_or at.fields.subject_unique_id at.tbs_certificate
place_of part.Extensions at = unwrap_or at.fields.extensions at.tbs_certificate

-- extensions are asked for in the attributes; what a request doesn't have stands in all that is signed
abbrev pub place_in_request : Part → CertificationRequestFields → Span
place_in_request part.Signature at = at.signature_algorithm
place_in_request part.Subject at = at.fields.subject
place_in_request part.SubjectPublicKeyInfo at = at.fields.subject_public_key_info
place_in_request part.Extensions at = at.fields.attributes
place_in_request p at = at.certification_request_info
