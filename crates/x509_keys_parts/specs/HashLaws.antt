-- Where the fields of hash algorithms, and of what is made of them, stand in a spelling.
use Rattle.std.specs.Prelude.{◌≡◌, ℕ, ◌+◌, length, List, ◌++◌, Option, Some}
use Rattle.x509_der.specs.Types.{Deviation}
use Rattle.x509_der.specs.Element.{element, header}
use Rattle.x509_der.specs.Tally.{Tally}
use Rattle.x509_der.specs.Tagged.{tagged}
use Rattle.x509_der.specs.Optional.{OptionalAt}
use Rattle.x509_der.specs.Fields.{FieldAt, Stands}
use Rattle.x509_der.specs.ObjectIdentifier.{oids}
use Rattle.x509_der.specs.PrimitiveContent.{octets}
use Rattle.x509_keys_parts.specs.HashAlgorithms.{hash_name, null, hash_algorithm}
use Rattle.x509_keys_parts.specs.RsassaPss.{mask_gen, salt_lengths, salt_of}
use Rattle.x509_keys_parts.specs.AlgorithmIdentifier.{algorithm_identifier}
use Rattle.x509_keys_parts.specs.declared.hash_algorithm.HashAlgorithm.{HashAlgorithm}
use Rattle.x509_keys_parts.specs.declared.rsassa_pss.MaskGenAlgorithm.{MaskGenAlgorithm}
use Rattle.x509_keys_parts.specs.declared.rsassa_pss.RsassaPssParams.{RsassaPssParams}
use Rattle.x509_keys_parts.specs.declared.digest_info.DigestInfo.{DigestInfo}

-- the object identifier right behind the header, and NULL behind it, or nothing
pub record HashAt (v : HashAlgorithm) (string : List ℕ) (y : Tally) : Type 0 where
  pub content : List ℕ
  pub bytes : string ≡ element 48 content
  pub names : List ℕ
  pub nulls : List ℕ
  pub fields : content ≡ names ++ nulls
  pub spelled : Option (Unit {0})
  pub name_at : FieldAt hash_name v (header content) names string y
  pub null_at : OptionalAt null spelled (header content + length names) nulls string y

-- the object identifier, and the hash algorithm behind it
pub record MaskGenAt {A : Type 0} (v : MaskGenAlgorithm A) (string : List ℕ) (y : Tally) : Type 0 where
  pub content : List ℕ
  pub bytes : string ≡ element 48 content
  pub names : List ℕ
  pub hashes : List ℕ
  pub fields : content ≡ names ++ hashes
  pub name_at : FieldAt (tagged 6 oids) v.mask_gen_algorithm (header content) names string y
  pub hash_at : Stands hash_algorithm v.hash_algorithm (header content + length names) hashes string y

-- the three fields one behind the other, each under its tag; the salt's length is what the INTEGER there says
pub record PssAt {A : Type 0} (v : RsassaPssParams A) (string : List ℕ) (y : Tally) : Type 0 where
  pub content : List ℕ
  pub bytes : string ≡ element 48 content
  pub hashes : List ℕ
  pub masks : List ℕ
  pub salts : List ℕ
  pub fields : content ≡ hashes ++ (masks ++ salts)
  pub salt : List ℕ
  pub kinds : List Deviation
  pub means : salt_of salt ≡ Some (v.salt_length, kinds)
  pub hash_at : Stands (tagged 160 hash_algorithm) v.hash_algorithm (header content) hashes string y
  pub mask_at : Stands (tagged 161 mask_gen) v.mask_gen_algorithm (header content + length hashes) masks string y
  pub salt_at : Stands (tagged 162 salt_lengths) salt (header content + length hashes + length masks) salts string y

-- the algorithm, and the digest behind it
pub record DigestInfoAt {A : Type 0} (v : DigestInfo A) (string : List ℕ) (y : Tally) : Type 0 where
  pub content : List ℕ
  pub bytes : string ≡ element 48 content
  pub algorithms : List ℕ
  pub digests : List ℕ
  pub fields : content ≡ algorithms ++ digests
  pub algorithm_at : Stands algorithm_identifier v.oid (header content) algorithms string y
  pub digest_at : FieldAt (tagged 4 octets) v.digest (header content + length algorithms) digests string y
