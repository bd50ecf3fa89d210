-- Requests with the same parts are the same.
use Rattle.std.proofs.Common.{◌≡◌, ap}
use Rattle.x509_more_outlines.specs.Requests.{InfoFields, info_parts, RequestFields, request_parts}
use Rattle.x509_more_outlines.specs.declared.request_info_outline.RequestInfoOutline.{RequestInfoOutline}
use Rattle.x509_more_outlines.specs.declared.request_outline.RequestOutline.{RequestOutline}

abbrev pub info_from : {A : Type 0} → InfoFields A → RequestInfoOutline A
info_from f = record { version = f.0; subject = f.1.0; subject_public_key_info = f.1.1.0; attributes = f.1.1.1 }

pub info_same : {A : Type 0} (v w : RequestInfoOutline A) → info_parts v ≡ info_parts w → v ≡ w
info_same v w e = ap info_from e

abbrev pub request_from : {A : Type 0} → RequestFields A → RequestOutline A
request_from f = record { certification_request_info = f.0; signature_algorithm = f.1.0; signature = f.1.1 }

pub request_same : {A : Type 0} (v w : RequestOutline A) → request_parts v ≡ request_parts w → v ≡ w
request_same v w e = ap request_from e
