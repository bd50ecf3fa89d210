-- What is asked of the numbers in a certificate, each seen as the content of its INTEGER.
use Rattle.std.specs.Prelude.{◌≡◌, ◌<◌, ◌<ℤ◌, ◌%◌, ℕ, pos, List, length}
use Rattle.x509_der.specs.Integer.{signed_value, unsigned_value}

-- the number is below a bound
abbrev pub IsBelow : List ℕ → ℕ → Type 0
IsBelow content bound = signed_value content <ℤ pos bound

-- its content has more octets than a bound
abbrev pub IsLonger : List ℕ → ℕ → Type 0
IsLonger content most = most < length content

-- 2 divides the number: in two's complement (X.690, 8.3.3) it differs by a multiple of 256 from the number whose digits in base 256 the octets are
abbrev pub IsEven : List ℕ → Type 0
IsEven content = unsigned_value content % 2 ≡ 0
