-- What a request asks for, and what it is once it is signed.
use Rattle.std.specs.Prelude.{true, Bool, List, [], ◌∷◌}
use Rattle.picky_asn1_x509.specs.Extensions.{key_usage_arcs, made}
use Rattle.picky_asn1_x509.specs.AlgorithmIdentifier.{Algorithm}
use Rattle.picky_asn1_x509.specs.Attribute.{extension_request_arcs}
use Rattle.picky_asn1_x509.specs.Types.{Attribute}
use Rattle.picky_asn1_x509.specs.Types.attribute_values as values
use Rattle.picky_asn1_x509.specs.Types.extension_value as value
use Rattle.picky_asn1_x509.specs.declared.certification_request.CertificationRequest.{CertificationRequest}
use Rattle.picky_asn1_x509.specs.declared.certification_request.CertificationRequestInfo.{CertificationRequestInfo}

-- a request for the one extension that says what the key may be used for, which is critical
abbrev pub asked : {A : Type 0} → List Bool → Attribute A
asked usage = record {
  ty = extension_request_arcs;
  value = values.Extensions ((made key_usage_arcs true (value.KeyUsage usage) ∷ []) ∷ []);
}

abbrev pub signed : {A : Type 0} → CertificationRequestInfo A → Algorithm A → List Bool → CertificationRequest A
signed info algorithm bits = record { certification_request_info = info; signature_algorithm = algorithm; signature = bits }
