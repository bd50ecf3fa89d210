-- Facts about elements.
use Rattle.std.proofs.Common.{◌≡◌, ℕ, ◌+◌, ◌≤◌, List, ◌++◌, length, refl, arith, length-append}
use Rattle.x509_der_parts.specs.Element.{digits, element, header, element_size}
use Rattle.x509_der_parts.specs.facts.LengthDigits.{digits_one, digits_some}
use Rattle.x509_der_parts.specs.facts.Lists.{same_front, regroup}

pub element_length : (t : ℕ) (c : List ℕ) → length (element t c) ≡ header c + length c
unfolding element header
element_length t c = omega (arith, length-append (digits (length c)) c)

pub element_sized : (t : ℕ) (c : List ℕ) → length (element t c) ≡ element_size (length c)
unfolding element
element_sized t c = omega (arith, length-append (digits (length c)) c)

pub header_long : (c : List ℕ) → 2 ≤ header c
unfolding header
header_long c = omega (arith, digits_some (length c))

pub record SameElement (t u : ℕ) (c d r q : List ℕ) : Type 0 where
  pub tag : t ≡ u
  pub content : c ≡ d
  pub rest : r ≡ q

pub element_one : (t u : ℕ) (c d r q : List ℕ) → element t c ++ r ≡ element u d ++ q → SameElement t u c d r q
unfolding element
element_one t u c d r q e =
    let e1 : (digits (length c) ++ c) ++ r ≡ (digits (length d) ++ d) ++ q = cc in
    let e2 = digits_one (length c) (length d) (c ++ r) (d ++ q) (regroup _ (digits (length c)) c r _ (digits (length d)) d q refl refl e1) in
    let f = same_front c d r q e2.0 e2.1 in
    record { tag = cc; content = f.0; rest = f.1 }
