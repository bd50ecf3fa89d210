-- The text of a block: what encodes the bytes of the lines that were decoded, and the symbols behind them.
use Rattle.std.proofs.Common.{◌≡◌, ℕ, ◌⊎◌, inl, inr, replicate, ◌+◌, ◌*◌, ◌/◌, ◌%◌, ◌≤◌, Bool, true, false, List, [], ◌++◌, take, drop, length, refl, sym, ap, subst, ◌∙◌, arith, Result, Ok, Err, is_ok, is_err, if◌then◌else◌}
use Rattle.std.proofs.lemmas.List.{length-replicate, nil_from_length, append-nil, length-append, take-append-drop}
use Rattle.base64.specs.Engines.{standard}
use Rattle.base64.specs.GeneralPurpose.{IsBytes, decode_of, encode_of, engine_padding, engine_symbols}
use Rattle.base64.specs.Rfc4648.{encode_symbols, padding_len}
use Rattle.base64.proofs.EngineFacts.{encode_of-nil, encode_of-append, decode_of_strict, decode_of-encode_of}
use Rattle.base64.proofs.RoundTrip.{length-encode_symbols}
use Rattle.std.specs.Result.{OnOk}
use Rattle.x509_pem.specs.Block.{State, Decodes}
use Rattle.x509_pem.specs.Rest.{IsDecoded}
use Rattle.x509_pem.proofs.FullLine.{bytes_append}

-- the text of a block
abbrev pub text_of : List ℕ → List ℕ → List ℕ
text_of bytes text = encode_of standard bytes ++ text

-- the length of what encodes bytes
pub encoded_length : (bytes : List ℕ) → length (encode_of standard bytes) ≡ (length bytes + 2) / 3 * 4
encoded_length bytes =
    let symbols = length-encode_symbols (engine_symbols standard) bytes in
    let padding = length-replicate (padding_len (length bytes)) (engine_padding standard) in
    length-append (encode_symbols (engine_symbols standard) bytes) (replicate (padding_len (length bytes)) (engine_padding standard))
    ∙ omega (arith, symbols, padding)

-- which is none only of none
pub encodes_none : (bytes : List ℕ) → [] ≡ encode_of standard bytes → bytes ≡ []
encodes_none bytes e = nil_from_length bytes (omega (arith, ap length e, encoded_length bytes))

pub no_text : (bytes text : List ℕ) → bytes ≡ [] → text ≡ [] → text_of bytes text ≡ []
no_text bytes text none empty =
    ap (λ b. text_of b text) none ∙ ap (λ l. l ++ text) (encode_of-nil standard) ∙ empty

-- its length
pub length_text : (bytes text : List ℕ) → length (text_of bytes text) ≡ (length bytes + 2) / 3 * 4 + length text
length_text bytes text =
    length-append (encode_of standard bytes) text ∙ ap (λ n. n + length text) (encoded_length bytes)

-- a full line behind whole groups
pub text_full : (bytes text line more new : List ℕ) → length bytes % 3 ≡ 0 → text ≡ [] → line ≡ encode_of standard more
    → new ≡ bytes ++ more → text_of new text ≡ text_of bytes text ++ line
text_full bytes text line more new whole empty is joined =
    let before : text_of bytes text ≡ encode_of standard bytes =
    ap (λ l. encode_of standard bytes ++ l) empty ∙ append-nil (encode_of standard bytes) in
    let after : text_of new text ≡ encode_of standard new =
    ap (λ l. encode_of standard new ++ l) empty ∙ append-nil (encode_of standard new) in
    after ∙ ap (λ l. encode_of standard l) joined ∙ encode_of-append standard bytes more whole
    ∙ ap (λ l. encode_of standard bytes ++ l) (sym is) ∙ ap (λ l. l ++ line) (sym before)

-- what is spelled behind whole groups, or is none
pub spelled_on : (bytes more text : List ℕ) → ((length bytes % 3 ≡ 0) ⊎ (text ≡ [])) → text ≡ encode_of standard more
    → encode_of standard (bytes ++ more) ≡ encode_of standard bytes ++ text
spelled_on bytes more text fits spelled = elim fits [
  | inl whole ↦ encode_of-append standard bytes more whole ∙ ap (λ l. encode_of standard bytes ++ l) (sym spelled)
  | inr none ↦
      let nothing : more ≡ [] = encodes_none more (sym none ∙ spelled) in
      ap (λ l. encode_of standard (bytes ++ l)) nothing ∙ ap (λ l. encode_of standard l) (append-nil bytes)
      ∙ sym (ap (λ l. encode_of standard bytes ++ l) none ∙ append-nil (encode_of standard bytes))
]

-- the rest of the text is decoded behind whole groups, or is none
pub text_kept : (bytes text new tail : List ℕ) → ((length bytes % 3 ≡ 0) ⊎ (text ≡ [])) → IsDecoded text bytes new → tail ≡ []
    → text_of new tail ≡ text_of bytes text
text_kept bytes text new tail fits rest empty =
    ap (λ l. encode_of standard new ++ l) empty ∙ append-nil (encode_of standard new)
    ∙ ap (λ l. encode_of standard l) rest.1 ∙ spelled_on bytes rest.0 text fits rest.2

-- what is decoded is bytes
pub decoded_bytes : (bytes text new : List ℕ) → IsBytes bytes → IsDecoded text bytes new → IsBytes new
decoded_bytes bytes text new octets rest = subst IsBytes (sym rest.1) (bytes_append bytes rest.0 octets rest.3)

pub text_decodes : (bytes text new tail : List ℕ) → IsBytes bytes → IsDecoded text bytes new → tail ≡ []
    → decode_of standard (text_of new tail) ≡ Ok new
text_decodes bytes text new tail octets rest empty =
    let all : IsBytes new = decoded_bytes bytes text new octets rest in
    ap (λ l. decode_of standard (encode_of standard new ++ l)) empty
    ∙ ap (λ l. decode_of standard l) (append-nil (encode_of standard new))
    ∙ decode_of-encode_of standard new refl all

-- what was decoded, from what the decoder says
pub decoded_rest : {E : Type 0} → (r : Result (Unit {0}) E) (text old new : List ℕ) (n : ℕ) → n ≡ length old → IsBytes text
    → OnOk r (decode_of standard text ≡ Ok (drop n new)) → OnOk r (take n new ≡ old) → OnOk r (IsBytes (drop n new))
    → OnOk r (IsDecoded text old new)
decoded_rest (Err e) text old new n len fits decodes front bytes = tt
decoded_rest (Ok u) text old new n len fits decodes front bytes = (
  drop n new,
  sym (take-append-drop n new) ∙ ap (λ l. l ++ drop n new) front,
  decode_of_strict standard text (drop n new) (refl, refl) fits decodes,
  bytes,
)

-- what a block keeps
pub record Kept (is_open : Bool) (bytes text : List ℕ) (limit : ℕ) : Type 0 where
  pub octets : IsBytes bytes
  pub groups : is_open ≡ true → length bytes % 3 ≡ 0
  pub fits : (length bytes + 2) / 3 * 4 + length text ≤ limit

-- a full line was tried, and is there if there was memory
pub full_kept : {T E : Type 0} → (r : Result T E) (is_open : Bool) (bytes text more new : List ℕ) (limit room : ℕ) → is_open ≡ true
    → Kept is_open bytes text limit → room + length (text_of bytes text) ≡ limit → 64 ≤ room → length more ≡ 48 → IsBytes more
    → new ≡ (if is_ok r then bytes ++ more else bytes) → Kept is_open new text limit
full_kept (Err e) is_open bytes text more new limit room is kept left wide len octets grown =
    let P : List ℕ → Type 0 = λ b. Kept is_open b text limit in subst P (sym grown) kept
full_kept (Ok u) is_open bytes text more new limit room is kept left wide len octets grown =
    let P : List ℕ → Type 0 = λ b. Kept is_open b text limit in
    let n : length (bytes ++ more) ≡ length bytes + length more = length-append bytes more in
    let before = length_text bytes text in
    let whole = kept.groups is in
    subst P (sym grown) (record {
      octets = bytes_append bytes more kept.octets octets;
      groups = λ o. omega (arith, n, len, whole);
      fits = omega (arith, n, len, before, left, wide);
    })

-- the state of a block by its parts
abbrev pub state : Bool → List ℕ → List ℕ → List ℕ → ℕ → State
state is_open label bytes text begun =
    record { is_open = is_open; label = label; text = text_of bytes text; bytes = if is_open then [] else bytes; begun = begun }

pub full_decodes : {T E : Type 0} → (r : Result T E) (taken is_open : Bool) (label bytes text line more new : List ℕ) (begun : ℕ) → taken ≡ is_ok r
    → length bytes % 3 ≡ 0 → text ≡ [] → length line ≡ 64 → line ≡ encode_of standard more
    → new ≡ (if is_ok r then bytes ++ more else bytes)
    → Decodes taken line (state is_open label bytes text begun) (state is_open label new text begun)
full_decodes (Err e) taken is_open label bytes text line more new begun was whole empty len is grown =
    let P : Bool → Type 0 = λ b. Decodes b line (state is_open label bytes text begun) (state is_open label new text begun) in
    subst P (sym was) (ap (λ b. state is_open label b text begun) grown)
full_decodes (Ok u) taken is_open label bytes text line more new begun was whole empty len is grown =
    let P : Bool → Type 0 = λ b. Decodes b line (state is_open label bytes text begun) (state is_open label new text begun) in
    subst P (sym was) ((len, (more, is)), (refl, refl, text_full bytes text line more new whole empty is grown, refl))

-- what is appended if there is memory makes a list no longer than that
pub grown_by : {T E : Type 0} → (r : Result T E) (old more new : List ℕ) → new ≡ (if is_ok r then old ++ more else old)
    → length new ≤ length old + length more
grown_by (Err e) old more new grown = omega (arith, ap length grown)
grown_by (Ok u) old more new grown = omega (arith, ap length grown, length-append old more)

-- what is there if there was memory, where there was
pub grown_all : {T E : Type 0} → (r : Result T E) (all old new : List ℕ) → is_err r ≡ false → new ≡ (if is_ok r then all else old)
    → new ≡ all
grown_all (Ok u) all old new fine grown = grown
grown_all (Err e) all old new fine grown = absurd (cc fine)

-- and then the block fits its limit
pub decoded_fits : (bytes text new tail : List ℕ) (limit : ℕ) → ((length bytes % 3 ≡ 0) ⊎ (text ≡ [])) → IsDecoded text bytes new
    → tail ≡ [] → (length bytes + 2) / 3 * 4 + length text ≤ limit → (length new + 2) / 3 * 4 + length tail ≤ limit
decoded_fits bytes text new tail limit whole rest empty fits =
    let same = ap length (text_kept bytes text new tail whole rest empty) in
    omega (arith, same, length_text new tail, length_text bytes text, fits)
