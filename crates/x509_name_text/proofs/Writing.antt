-- One text behind another.
use Rattle.std.proofs.Common.{◌≡◌, ℕ, ◌+◌, ◌/◌, ◌%◌, ◌^◌, ◌<◌, Bool, true, List, [], ◌∷◌, ◌++◌, take, drop, length, get_or, refl, sym, ap, ◌∙◌, arith, append_assoc, append-nil}
use Rattle.std.proofs.lemmas.Grind.{flat_map-append}
use Rattle.std.proofs.lemmas.List.{length-append, take_more}
use Rattle.std.specs.Fmt.{digit_glyph}
use Rattle.x509_name_text.specs.Texts.{Writes, hex_text, pairs_text}

-- no text is written
pub nothing : (at : ℕ) (old : List ℕ) → at < 2 ^ 64 → Writes [] at old at old
nothing at old below = record {
  ends = omega (arith, below);
  same = refl;
  fits = λ done base start before _ _. rw (append-nil done) (before ∙ ap (λ n. done ++ drop n base) (omega (arith)));
}

-- one is written behind another
pub both : (a b : List ℕ) (at : ℕ) (old : List ℕ) (middle : ℕ) (between : List ℕ) (end : ℕ) (new : List ℕ) → Writes a at old middle between → Writes b middle between end new → Writes (a ++ b) at old end new
both a b at old middle between end new first second = record {
  ends = omega (arith, first.ends, second.ends, length-append a b);
  same = second.same ∙ first.same;
  fits = λ done base start before below room.
      let size = length-append a b in
      let goes : middle ≡ at + length a = omega (arith, first.ends, below, size) in
      let there = first.fits done base start before (omega (arith, below, size)) (omega (arith, room, size)) in
      let behind : middle ≡ length (done ++ a) = omega (arith, goes, start, length-append done a) in
      let last = second.fits (done ++ a) base behind (there ∙ ap (λ n. (done ++ a) ++ drop n base) (sym goes)) (omega (arith, goes, below, size)) (omega (arith, goes, room, size, first.same)) in
      let sum : middle + length b ≡ at + length (a ++ b) = omega (arith, goes, size) in
      last ∙ ap (λ (t : List ℕ). t ++ drop (middle + length b) base) (append_assoc done a b) ∙ ap (λ n. (done ++ (a ++ b)) ++ drop n base) sum;
}

-- one byte more
pub hex_more : (upper : Bool) (xs : List ℕ) (i : ℕ) → i < length xs → hex_text upper (take (i + 1) xs) ≡ hex_text upper (take i xs) ++ (digit_glyph upper (get_or xs i 0 / 16) ∷ digit_glyph upper (get_or xs i 0 % 16) ∷ [])
unfolding hex_text
hex_more upper xs i within =
    ap (λ ys. hex_text upper ys) (take_more xs i 0 within) ∙ flat_map-append (λ b. digit_glyph upper (b / 16) ∷ digit_glyph upper (b % 16) ∷ []) (take i xs) (get_or xs i 0 ∷ [])

pub pairs_more : (xs : List ℕ) (i : ℕ) → i < length xs → pairs_text (take (i + 1) xs) ≡ pairs_text (take i xs) ++ ((92 ∷ []) ++ hex_text true (get_or xs i 0 ∷ []))
unfolding pairs_text
pairs_more xs i within =
    ap (λ ys. pairs_text ys) (take_more xs i 0 within) ∙ flat_map-append (λ b. 92 ∷ hex_text true (b ∷ [])) (take i xs) (get_or xs i 0 ∷ []) ∙ ap (λ (t : List ℕ). pairs_text (take i xs) ++ t) (append-nil _)
