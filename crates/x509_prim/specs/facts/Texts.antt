-- Characters of PrintableString and of ASCII are UTF-8.
use Rattle.std.proofs.Common.{◌≡◌, ℕ, true, List, [], ◌∷◌, refl, arith}
use Rattle.std.specs.Prelude.{IsTrue, nat_lt}
use Rattle.std.specs.Str.{IsAscii, IsUtf8}
use Rattle.std.proofs.lemmas.Bool.{and_parts}
use Rattle.std.proofs.lemmas.Bool.Decides.{nat_tests}
use Rattle.std.proofs.lemmas.Str.{IsUtf8-from_ascii}
use Rattle.std.proofs.lemmas.Str.Ascii.{IsAscii-nil, IsAscii-cons}
use Rattle.x509_prim.specs.CharSets.{is_printable, are_printable, are_ascii}

printable_below : (c : ℕ) → is_printable c ≡ true → nat_lt c 128 ≡ true
printable_below c h = grind (arith, nat_tests)

pub ascii-from_printable : (bs : List ℕ) → IsTrue (are_printable bs) → IsTrue (are_ascii bs)
ascii-from_printable [] h = refl
ascii-from_printable (b ∷ bs) h =
    let p = and_parts (is_printable b) (are_printable bs) h in
    rw (printable_below b p.0) (ascii-from_printable bs p.1)

ascii_bytes : (bs : List ℕ) → IsTrue (are_ascii bs) → IsAscii bs
ascii_bytes [] h = IsAscii-nil
ascii_bytes (b ∷ bs) h =
    let p = and_parts (nat_lt b 128) (are_ascii bs) h in
    IsAscii-cons b bs (grind (arith, nat_tests)) (ascii_bytes bs p.1)

pub utf8-from_ascii : (bs : List ℕ) → IsTrue (are_ascii bs) → IsUtf8 bs
utf8-from_ascii bs h = IsUtf8-from_ascii bs (ascii_bytes bs h)
