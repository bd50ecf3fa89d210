-- Any one element, whose content is not looked into.
use Rattle.std.proofs.Common.{◌≡◌, ℕ, ◌≤◌, false, List, []}
use Rattle.x509_der_parts.specs.Element.{AreBytes, is_tag, IsRaw}
use Rattle.x509_der_parts.specs.Tally.{Tally}
use Rattle.x509_der_parts.specs.Shape.{Shape}

abbrev pub one_header : Tally
one_header = record { marks = []; headers = 1 }

-- one element, each number of which is a byte
abbrev pub IsRawBytes : List ℕ → Type 0
IsRawBytes v = IsRaw v × AreBytes v

-- an element is its own value, with one header
pub record Raw (v p : List ℕ) (y : Tally) : Type 0 where
  pub is : IsRaw p
  pub each : AreBytes p
  pub bytes : p ≡ v
  pub tally : y ≡ one_header

-- any one element
abbrev pub raws : Shape (List ℕ)
raws = record {
  spelled = Raw;
  strict = λ v. v;
  valid = IsRawBytes;
  readable = λ v. Unit {0};
  starts = is_tag;
  avoids = λ c. false;
  min_headers = λ rest n. n ≤ 1;
  frugal = ⊥;
  parts = λ v n slice string whole. Unit {0};
}
