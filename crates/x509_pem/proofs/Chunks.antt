-- Symbols that are decoded chunk by chunk.
use Rattle.std.proofs.Common.{◌≡◌, ◌≢◌, ℕ, zero, suc, ◌+◌, ◌-◌, ◌*◌, ◌/◌, ◌%◌, ◌<◌, ◌≤◌, Bool, true, false, List, [], ◌∷◌, ◌++◌, ◌⊎◌, take, drop, length, slice_index, slice_set, refl, sym, ap, subst, ◌∙◌, arith, inl, inr, Result, Ok, Err, Option, Some, None, IfSome, ◌==◌}
use Rattle.std.proofs.lemmas.Bool.{cases_lt, true≢false}
use Rattle.std.proofs.lemmas.List.{append_assoc, append-nil, length-append, length-drop, length-take, length-take-le, drop-drop, drop_at, take_at, nil_from_length, take-append-drop, take_all, drop_all, take_more_set, length-set}
use Rattle.base64.specs.declared.decode.DecodeError.{DecodeError}
use Rattle.base64.specs.Engines.{standard}
use Rattle.base64.specs.GeneralPurpose.{IsBytes, IsDecodedInto, decode_of, encode_of}
use Rattle.base64.proofs.EngineFacts.{decode_of_strict, decode_of-encode_of, encode_of-append, encode_of-nil, front_bytes}
use Rattle.x509_pem.specs.Decoding.{SpellsNone, IsAppended, SoFar}
use Rattle.x509_pem.specs.declared.decoding.Symbols.{Symbols}
use Rattle.x509_pem.specs.Text.{is_white, solid}
use Rattle.x509_pem.proofs.WhiteSpace.{solid_append, solid_more}
use Rattle.x509_pem.proofs.Text.{encoded_length, encodes_none, spelled_on}

-- the bytes behind others
back_bytes : (a b : List ℕ) → IsBytes (a ++ b) → IsBytes b
back_bytes [] b h = h
back_bytes (x ∷ a) b h = back_bytes a b (λ i. h (suc i))

-- no symbols add nothing
pub appended_none : (symbols : List ℕ) (len : ℕ) (out : List ℕ) → symbols ≡ [] → len ≤ length out → IsAppended symbols len len out out
appended_none symbols len out none fits =
    record {
      more = [];
      front = sym (append-nil (take len out));
      spelled = none ∙ sym (encode_of-nil standard);
      behind = refl;
      low = omega arith;
      high = fits;
      same = refl;
      whole = inr none;
    }

-- decoded symbols stand behind what was there
pub appended_some : (symbols : List ℕ) (len n : ℕ) (out sub rest : List ℕ) → len ≤ length out → rest ≡ [] → IsBytes symbols
    → length (take len out) % 3 ≡ 0 → length sub ≡ length (drop len out) → IsDecodedInto standard symbols n (drop len out) sub
    → IsAppended symbols len (len + n) out (take len out ++ (sub ++ rest))
appended_some symbols len n out sub rest fits none octets whole same decoded =
    let front : List ℕ = take len out in
    let new : take len out ++ (sub ++ rest) ≡ front ++ sub = ap (λ l. front ++ (sub ++ l)) none ∙ ap (λ l. front ++ l) (append-nil sub) in
    let n_front : length front ≡ len = length-take-le len out fits in
    let n_back = length-drop len out in
    let cut : front ++ sub ≡ (front ++ take n sub) ++ drop n sub =
    ap (λ l. front ++ l) (sym (take-append-drop n sub)) ∙ sym (append_assoc front (take n sub) (drop n sub)) in
    let n_more : length (take n sub) ≡ n = length-take-le n sub (omega (arith, same, decoded.2)) in
    let both : length (front ++ take n sub) ≡ len + n = length-append front (take n sub) ∙ omega (arith, n_front, n_more) in
    record {
      more = take n sub;
      front = ap (take (len + n)) (new ∙ cut) ∙ take_at (front ++ take n sub) (drop n sub) (len + n) both;
      spelled = decode_of_strict standard symbols (take n sub) (refl, refl) octets decoded.0;
      behind = ap (drop (len + n)) (new ∙ cut) ∙ drop_at (front ++ take n sub) (drop n sub) (len + n) both ∙ decoded.1
          ∙ drop-drop n len out;
      low = omega arith;
      high = omega (arith, ap length new, length-append front sub, n_front, n_back, same, decoded.2, fits);
      same = ap length new ∙ length-append front sub ∙ omega (arith, n_front, n_back, same, fits);
      whole = inl whole;
    }

-- where a text that spells bytes is cut behind whole groups, each part spells some of them
record Cut (front back bytes : List ℕ) : Type 0 where
  pub first : List ℕ
  pub second : List ℕ
  pub front_is : front ≡ encode_of standard first
  pub back_is : back ≡ encode_of standard second
  pub first_octets : IsBytes first
  pub second_octets : IsBytes second
  pub whole : (length first % 3 ≡ 0) ⊎ (back ≡ [])

same_front : (a b c d : List ℕ) → length a ≡ length c → a ++ b ≡ c ++ d → (a ≡ c) × (b ≡ d)
same_front a b c d len e = (
  sym (take_at a b (length a) refl) ∙ ap (take (length a)) e ∙ take_at c d (length a) (sym len),
  sym (drop_at a b (length a) refl) ∙ ap (drop (length a)) e ∙ drop_at c d (length a) (sym len),
)

cut : (front back bytes : List ℕ) → length front % 4 ≡ 0 → IsBytes bytes → front ++ back ≡ encode_of standard bytes
    → Cut front back bytes
cut front back bytes groups octets is = elim (cases_lt (length bytes) (length front / 4 * 3)) [
  | inl short ↦
      let all = ap length is ∙ encoded_length bytes in
      let none : back ≡ [] = nil_from_length back (omega (arith, short, groups, all, length-append front back)) in
      record {
        first = bytes;
        second = [];
        front_is = sym (append-nil front) ∙ ap (λ l. front ++ l) (sym none) ∙ is;
        back_is = none ∙ sym (encode_of-nil standard);
        first_octets = octets;
        second_octets = λ i. omega arith;
        whole = inr none;
      }
  | inr long ↦
      let k : ℕ = length front / 4 * 3 in
      let a : List ℕ = take k bytes in
      let b : List ℕ = drop k bytes in
      let n : length a ≡ k = length-take-le k bytes long in
      let joined : a ++ b ≡ bytes = take-append-drop k bytes in
      let whole : length a % 3 ≡ 0 = omega (arith, n) in
      let both : front ++ back ≡ encode_of standard a ++ encode_of standard b =
      is ∙ ap (encode_of standard) (sym joined) ∙ encode_of-append standard a b whole in
      let parts = same_front front back (encode_of standard a) (encode_of standard b) (omega (arith, n, groups, encoded_length a)) both in
      let all : IsBytes (a ++ b) = subst IsBytes (sym joined) octets in
      record {
        first = a;
        second = b;
        front_is = parts.0;
        back_is = parts.1;
        first_octets = front_bytes a b all;
        second_octets = back_bytes a b all;
        whole = inl whole;
      }
]

-- what is spelled is known by its text
same_bytes : (a b : List ℕ) → IsBytes a → IsBytes b → encode_of standard a ≡ encode_of standard b → a ≡ b
same_bytes a b oa ob e =
    let d = sym (decode_of-encode_of standard a refl oa) ∙ ap (decode_of standard) e ∙ decode_of-encode_of standard b refl ob in
    cc d

-- nothing stands behind a group that isn't whole
pub not_behind : (bytes more : List ℕ) → IsBytes bytes → length bytes % 3 ≢ 0 → more ≢ [] → SpellsNone (encode_of standard bytes ++ more)
not_behind bytes more octets broken some all all_octets is =
    let groups : length (encode_of standard bytes) % 4 ≡ 0 = omega (arith, encoded_length bytes) in
    let c = cut (encode_of standard bytes) more all groups all_octets is in
    let same = same_bytes bytes c.first octets c.first_octets c.front_is in
    elim c.whole [
      | inl whole ↦ broken (ap (λ l. length l % 3) same ∙ whole)
      | inr none ↦ some none
    ]

-- a number of symbols that makes no whole groups spells nothing
pub not_groups : (bytes symbols rest : List ℕ) → length symbols % 4 ≢ 0 → ((length symbols ≡ 64) ⊎ (rest ≡ []))
    → SpellsNone (encode_of standard bytes ++ (symbols ++ rest))
not_groups bytes symbols rest odd last all all_octets is = elim last [
  | inl full ↦ odd (omega (arith, full))
  | inr none ↦
      let e = ap length is ∙ encoded_length all in
      let n = length-append (encode_of standard bytes) (symbols ++ rest) in
      let m = length-append symbols rest in
      odd (omega (arith, e, n, m, ap length none, encoded_length bytes))
]

-- nor do symbols that don't decode
pub not_decoded : (e : DecodeError) (bytes symbols rest : List ℕ) → length symbols % 4 ≡ 0 → decode_of standard symbols ≡ Err e
    → SpellsNone (encode_of standard bytes ++ (symbols ++ rest))
not_decoded e bytes symbols rest groups fails all all_octets is =
    let first = cut (encode_of standard bytes) (symbols ++ rest) all (omega (arith, encoded_length bytes)) all_octets is in
    let second = cut symbols rest first.second groups first.second_octets first.back_is in
    let D : List ℕ → Type 0 = λ l. decode_of standard l ≡ Ok second.first in
    let decoded : decode_of standard symbols ≡ Ok second.first =
    subst D (sym second.front_is) (decode_of-encode_of standard second.first refl second.first_octets) in
    no_error e second.first (sym fails ∙ decoded)
  where
    no_error : (x : DecodeError) (b : List ℕ) → Err x ≡ Ok b → ⊥
    no_error x b h = cc h

-- symbols are something
pub some_symbols : (symbols rest : List ℕ) → (length symbols == 0) ≡ false → symbols ++ rest ≢ []
some_symbols [] rest e h = true≢false e
some_symbols (x ∷ symbols) rest e h = cc h

pub take_octets : (n : ℕ) (bytes : List ℕ) → IsBytes bytes → IsBytes (take n bytes)
take_octets n bytes octets = front_bytes (take n bytes) (drop n bytes) (subst IsBytes (sym (take-append-drop n bytes)) octets)

kept_behind : (n m : ℕ) (before old : List ℕ) → n ≤ m → drop n before ≡ drop n old → drop m before ≡ drop m old
kept_behind n m before old low e =
    let on : m ≡ n + (m - n) = omega (arith, low) in
    ap (λ k. drop k before) on ∙ sym (drop-drop (m - n) n before) ∙ ap (drop (m - n)) e ∙ drop-drop (m - n) n old
    ∙ sym (ap (λ k. drop k old) on)

-- a chunk was decoded
pub flushed : (text old : List ℕ) (s t : Symbols) (before after : List ℕ) → SoFar text s old before
    → IsAppended (take s.filled s.chunk) s.len t.len before after → t.filled ≡ 0 → t.chunk ≡ s.chunk → SoFar text t old after
flushed text old s t before after so added empty same =
    record {
      is = so.is
          ∙ sym (spelled_on (take s.len before) added.more (take s.filled s.chunk) added.whole added.spelled)
          ∙ ap (encode_of standard) (sym added.front)
          ∙ sym (ap (λ n. encode_of standard (take t.len after) ++ take n t.chunk) empty ∙ append-nil (encode_of standard (take t.len after)));
      wide = ap length same ∙ so.wide;
      fits = omega (arith, empty);
      high = added.high;
      same = added.same ∙ so.same;
      behind = added.behind ∙ kept_behind s.len t.len before old added.low so.behind;
    }

-- a symbol was put behind those of the chunk
pub pushed : (text old out : List ℕ) (s t : Symbols) (symbol : ℕ) → SoFar text s old out → s.filled < 64
    → t.chunk ≡ slice_set s.chunk s.filled symbol → t.filled ≡ s.filled + 1 → t.len ≡ s.len → SoFar (text ++ symbol ∷ []) t old out
pushed text old out s t symbol so below chunk filled len =
    let more : take t.filled t.chunk ≡ take s.filled s.chunk ++ symbol ∷ [] =
    ap (λ n. take n t.chunk) filled ∙ ap (take (s.filled + 1)) chunk ∙ take_more_set s.chunk s.filled symbol (omega (arith, below, so.wide)) in
    record {
      is = ap (λ l. l ++ symbol ∷ []) so.is ∙ append_assoc (encode_of standard (take s.len out)) (take s.filled s.chunk) (symbol ∷ [])
          ∙ ap (λ l. encode_of standard (take s.len out) ++ l) (sym more)
          ∙ ap (λ n. encode_of standard (take n out) ++ take t.filled t.chunk) (sym len);
      wide = ap length chunk ∙ length-set s.chunk s.filled symbol ∙ so.wide;
      fits = omega (arith, filled, below);
      high = omega (arith, so.high, len);
      same = so.same;
      behind = ap (λ n. drop n out) len ∙ so.behind ∙ ap (λ n. drop n old) (sym len);
    }

-- all symbols were decoded
pub finished : (text old : List ℕ) (s : Symbols) (n : ℕ) (before after : List ℕ) → SoFar text s old before
    → IsAppended (take s.filled s.chunk) s.len n before after → IsBytes after
    → (n ≤ length after) × (decode_of standard text ≡ Ok (take n after)) × (drop n after ≡ drop n old)
finished text old s n before after so added octets =
    let spelled : text ≡ encode_of standard (take n after) =
    so.is ∙ sym (spelled_on (take s.len before) added.more (take s.filled s.chunk) added.whole added.spelled)
    ∙ ap (encode_of standard) (sym added.front) in
    let all : IsBytes (take n after ++ drop n after) = subst IsBytes (sym (take-append-drop n after)) octets in (
      added.high,
      ap (decode_of standard) spelled ∙ decode_of-encode_of standard (take n after) refl (front_bytes (take n after) (drop n after) all),
      added.behind ∙ kept_behind s.len n before old added.low so.behind,
    )

-- what the symbols so far leave room for
pub room_left : (text old out : List ℕ) (s : Symbols) (total : ℕ) → SoFar text s old out → length text ≤ total
    → total / 4 * 3 ≤ length old → s.len + s.filled / 4 * 3 ≤ length out
room_left text old out s total so few room =
    let n = length-take-le s.len out so.high in
    let m = length-take-le s.filled s.chunk (omega (arith, so.fits, so.wide)) in
    let all = ap length so.is ∙ length-append (encode_of standard (take s.len out)) (take s.filled s.chunk) in
    omega (arith, n, m, all, few, room, so.same, encoded_length (take s.len out))

-- a chunk that spells nothing, with what is behind it
pub refused : (text old rest out chunk : List ℕ) (s : Symbols) → SoFar text s old out → take s.filled s.chunk ≡ chunk
    → SpellsNone (encode_of standard (take s.len out) ++ (chunk ++ rest)) → SpellsNone (text ++ rest)
refused text old rest out chunk s so is none =
    let same : encode_of standard (take s.len out) ++ (chunk ++ rest) ≡ text ++ rest =
    sym (append_assoc (encode_of standard (take s.len out)) chunk rest)
    ∙ ap (λ l. (encode_of standard (take s.len out) ++ l) ++ rest) (sym is) ∙ ap (λ l. l ++ rest) (sym so.is) in
    subst SpellsNone same none

-- the symbols of a text before a byte of it, the byte, and those behind
pub solid_split : (s : List ℕ) (i : ℕ) → i < length s → is_white (slice_index s i) ≡ false
    → solid s ≡ solid (take i s) ++ slice_index s i ∷ solid (drop (i + 1) s)
solid_split s i fits other =
    ap solid (sym (take-append-drop (i + 1) s)) ∙ solid_append (take (i + 1) s) (drop (i + 1) s)
    ∙ ap (λ l. l ++ solid (drop (i + 1) s)) (solid_more s i false fits other)
    ∙ append_assoc (solid (take i s)) (slice_index s i ∷ []) (solid (drop (i + 1) s))

-- one byte more, by whether it is white space
pub so_far_white : (s old out : List ℕ) (i : ℕ) (y : Symbols) → i < length s → is_white (slice_index s i) ≡ true
    → SoFar (solid (take i s)) y old out → SoFar (solid (take (i + 1) s)) y old out
so_far_white s old out i y fits white so =
    let e = solid_more s i true fits white ∙ append-nil (solid (take i s)) in
    let P : List ℕ → Type 0 = λ l. SoFar l y old out in
    subst P (sym e) so

pub so_far_more : (s old out : List ℕ) (i : ℕ) (y : Symbols) → i < length s → is_white (slice_index s i) ≡ false
    → SoFar (solid (take i s) ++ slice_index s i ∷ []) y old out → SoFar (solid (take (i + 1) s)) y old out
so_far_more s old out i y fits other so =
    let P : List ℕ → Type 0 = λ l. SoFar l y old out in
    subst P (sym (solid_more s i false fits other)) so

-- a full chunk is all that was put there
pub full_chunk : (s : Symbols) → length s.chunk ≡ 64 → 64 ≤ s.filled → take s.filled s.chunk ≡ s.chunk
full_chunk s wide full = take_all s.filled s.chunk (omega (arith, wide, full))

-- before the first symbol
pub so_far_none : (s : Symbols) (out : List ℕ) → s.filled ≡ 0 → s.len ≡ 0 → length s.chunk ≡ 64 → SoFar [] s out out
so_far_none s out filled len wide =
    record {
      is = sym (
          ap (λ n. encode_of standard (take n out) ++ take s.filled s.chunk) len
          ∙ ap (λ n. encode_of standard [] ++ take n s.chunk) filled ∙ append-nil (encode_of standard []) ∙ encode_of-nil standard
          );
      wide = wide;
      fits = omega (arith, filled);
      high = omega (arith, len);
      same = refl;
      behind = refl;
    }

-- the last chunk was decoded, if it could be
pub finished_some : (r : Option ℕ) (s : Symbols) (before after : List ℕ)
    → IfSome r (λ n. IsAppended (take s.filled s.chunk) s.len n before after) → IsBytes after
    → IfSome r (λ n. (text old : List ℕ) → SoFar text s old before
    → (n ≤ length after) × (decode_of standard text ≡ Ok (take n after)) × (drop n after ≡ drop n old))
finished_some None s before after added octets = tt
finished_some (Some n) s before after added octets = λ text old so. finished text old s n before after so added octets

-- and all of the text
pub all_finished : (r : Option ℕ) (s : Symbols) (text old before after : List ℕ) → SoFar text s old before
    → IfSome r (λ n. (text old : List ℕ) → SoFar text s old before
    → (n ≤ length after) × (decode_of standard text ≡ Ok (take n after)) × (drop n after ≡ drop n old))
    → IfSome r (λ n. (n ≤ length after) × (decode_of standard text ≡ Ok (take n after)) × (drop n after ≡ drop n old))
all_finished None s text old before after so h = tt
all_finished (Some n) s text old before after so h = h text old so

pub so_far_all : (s old out : List ℕ) (i : ℕ) (y : Symbols) → length s ≤ i → SoFar (solid (take i s)) y old out → SoFar (solid s) y old out
so_far_all s old out i y past so =
    let P : List ℕ → Type 0 = λ l. SoFar (solid l) y old out in
    subst P (take_all i s past) so
