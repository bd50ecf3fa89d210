-- A text is that of one list of bytes at most, since a line feed is no digit.
use Rattle.std.proofs.Common.{◌≡◌, ◌⊎◌, inl, inr, ℕ, true, List, [], ◌∷◌, ◌++◌, ◌<◌, length, get_or, refl, sym, ap, ◌∙◌, arith, length-append}
use Rattle.std.proofs.lemmas.List.{append_cancel_right}
use Rattle.std.specs.Prelude.{Ok, Err}
use Rattle.std.specs.List.{AllPass}
use Rattle.hex.specs.Hex.{decode_of, is_hex_digit}
use Rattle.hex.specs.declared.error.FromHexError.{FromHexError}
use Rattle.hex.proofs.HexLemmas.{decode_of-ok}
use Rattle.x509_tool_parts.specs.Faults.{fault_of_hex}
use Rattle.x509_tool_parts.specs.Output.{AnswersAs}
use Rattle.x509_tool_parts.specs.declared.fault.ToolFault.TheVariants.{OutOfMemory}
use Rattle.x509_tool_parts.specs.declared.served.Served.{Served}
use Rattle.x509_tool_parts.specs.declared.served.Served.TheVariants.{Algorithm, Certificate, Extensions, Name, PrivateKey, PublicKey, RawAlgorithm, Request}
use Rattle.x509_tool_parts.specs.Text.{IsTextOf, IsWithoutLineFeed}
use Rattle.hex.specs.declared.error.FromHexError.TheVariants as hex_error

last_is : (d : List ℕ) (x : ℕ) → get_or (d ++ x ∷ []) (length d) 0 ≡ x
last_is [] x = refl
last_is (y ∷ d) x = last_is d x

-- the last of elements that all pass a test
last_passes : (d : List ℕ) (x : ℕ) → AllPass is_hex_digit (d ++ x ∷ []) → is_hex_digit x ≡ true
last_passes d x h =
    let n : length d < length (d ++ x ∷ []) = omega (arith, length-append d (x ∷ [])) in
    ap is_hex_digit (sym (last_is d x)) ∙ h (length d) 0 n

no_line_feed : (d bytes : List ℕ) → decode_of (d ++ 10 ∷ []) ≡ Ok bytes → ⊥
no_line_feed d bytes h = let f = last_passes d 10 (decode_of-ok (d ++ 10 ∷ []) bytes h).1 in cc

-- the digits of a text are those without its line feed
pub text_digits : (input d bytes : List ℕ) → IsWithoutLineFeed input d → IsTextOf bytes input → decode_of d ≡ Ok bytes
text_digits input d bytes w t = elim w [
  | inl ends ↦ elim t.line [
    | inl whole ↦ absurd (no_line_feed d bytes (ap decode_of (sym ends ∙ whole) ∙ t.decoded))
    | inr cut ↦ ap decode_of (append_cancel_right d t.digits (10 ∷ []) (sym ends ∙ cut)) ∙ t.decoded
  ]
  | inr whole_text ↦ elim t.line [
    | inl whole ↦ ap decode_of (sym whole_text.0 ∙ whole) ∙ t.decoded
    | inr cut ↦ absurd (whole_text.1 t.digits cut)
  ]
]

pub is_text : (input d bytes : List ℕ) → IsWithoutLineFeed input d → decode_of d ≡ Ok bytes → IsTextOf bytes input
is_text input d bytes w h = elim w [
  | inl ends ↦ record { digits = d; line = inr ends; decoded = h }
  | inr whole_text ↦ record { digits = d; line = inl whole_text.0; decoded = h }
]

-- want of memory may stand in place of any answer
pub memory_told : (A : Type 0) (served : Served) (bytes : List ℕ) → AnswersAs A served bytes (Err OutOfMemory)
memory_told A Algorithm bytes = tt
memory_told A Certificate bytes = tt
memory_told A Extensions bytes = tt
memory_told A Name bytes = tt
memory_told A PrivateKey bytes = tt
memory_told A PublicKey bytes = tt
memory_told A RawAlgorithm bytes = tt
memory_told A Request bytes = tt

-- where a text is decoded, it is refused for memory alone
pub decoded_as : (A : Type 0) (served : Served) (bytes d : List ℕ) (e : FromHexError) → decode_of d ≡ Ok bytes → (e ≡ hex_error.OutOfMemory) ⊎ (decode_of d ≡ Err e) → AnswersAs A served bytes (Err (fault_of_hex e))
decoded_as A served bytes d e h why = elim why [
  | inl memory ↦ rw memory (memory_told A served bytes)
  | inr bad ↦ absurd (let f : Ok bytes ≡ Err e = sym h ∙ bad in cc)
]
