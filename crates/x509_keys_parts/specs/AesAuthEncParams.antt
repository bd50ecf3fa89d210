-- The parameters of authenticated encryption with AES (RFC 5084, 3.1 and 3.2).
use Rattle.std.specs.Prelude.{ℕ, List}
use Rattle.x509_der.specs.Shape.{Shape}
use Rattle.x509_der.specs.Tagged.{tagged}
use Rattle.x509_der.specs.Join.{join}
use Rattle.x509_der.specs.PrimitiveContent.{octets}
use Rattle.x509_der.specs.Integer.{integers}
use Rattle.x509_der.specs.Structure.{structure}

-- the nonce, and the content of the INTEGER that says how many bytes the integrity check value has
pub record AuthEncParams : Type 0 where
  pub nonce : List ℕ
  pub icv_len : List ℕ

abbrev pub Fields : Type 0
Fields = List ℕ × List ℕ

abbrev pub auth_enc_parts : AuthEncParams → Fields
auth_enc_parts v = (v.nonce, v.icv_len)

-- SEQUENCE { aes-nonce OCTET STRING, aes-ICVlen INTEGER } (RFC 5084, 3.1 and 3.2)
abbrev pub auth_enc_base : Shape Fields
auth_enc_base = tagged 48 (join (λ j. j.0) (λ j. j.1) (tagged 4 octets) (tagged 2 integers))

abbrev pub auth_enc : Shape AuthEncParams
auth_enc = structure auth_enc_parts auth_enc_base
