-- The parameters of authenticated encryption with AES are told by their fields.
use Rattle.std.proofs.Common.{◌≡◌, ap}
use Rattle.x509_keys_parts.specs.AesAuthEncParams.{AuthEncParams, Fields, auth_enc_parts}

abbrev pub auth_enc_of : Fields → AuthEncParams
auth_enc_of f = record { nonce = f.0; icv_len = f.1 }

pub auth_enc_same : (v w : AuthEncParams) → auth_enc_parts v ≡ auth_enc_parts w → v ≡ w
auth_enc_same v w e = ap auth_enc_of e
