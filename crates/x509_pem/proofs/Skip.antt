-- A full line of symbols is a line of the text.
use Rattle.std.specs.Prelude.{◌≡◌, ℕ, zero, suc, List, [], ◌∷◌, ◌++◌, ◌≤◌, Bool, true, false, ◌||◌, ◌==◌, Option, Some, None, IfSome, length, take, replicate, slice_index, refl}
use Rattle.std.proofs.Common.{◌+◌, ◌-◌, ◌*◌, ◌/◌, ◌%◌, ◌^◌, ◌&&◌, min, if◌then◌else◌, ne_eqb, not, inl, inr, sym, ap, subst, ◌∙◌, arith}
use Rattle.std.proofs.lemmas.Bool.{cases_lt, not-true}
use Rattle.std.proofs.lemmas.List.{append_assoc, get_or_past, take_more, length-append, get_or_push, get_or-take}
use Rattle.std.proofs.lemmas.List.Elements.{All-nil, All-cons, All-from_get_or}
use Rattle.std.proofs.BufReadLemmas.{Consumes_shown}
use Rattle.std.specs.Io.{StartsWith}
use Rattle.std.specs.Io.BufRead.{DropsConsumable}
use Rattle.std.specs.Io.KnownBytes.{Keeps, Consumes}
use Rattle.base64.specs.Engines.{standard}
use Rattle.base64.specs.GeneralPurpose.{engine_symbols, engine_padding}
use Rattle.base64.specs.Rfc4648.{encode_symbols}
use Rattle.base64.specs.Tables.{all_below}
use Rattle.base64.proofs.Tables.{all_below_at}
use Rattle.x509_pem.specs.Block.{State, Adds, IsFull, GoesOn, Decodes, DecodesFront}
use Rattle.x509_pem.specs.Line.{IsTrimmed}
use Rattle.x509_pem.specs.Text.{is_line_end, line_of, behind_line, IsInner, is_white, solid, is_feed, ends_return, number_behind}
use Rattle.x509_pem.specs.Step.{Place, Skips, Steps, Numbered, TakesFull}
use Rattle.x509_pem.specs.declared.reader.Step.TheVariants.{Other}
use Rattle.x509_pem.proofs.TextLines.{line_of_ended, behind_line_ended}
use Rattle.x509_pem.proofs.WhiteSpace.{solid_all}

-- no byte of it is white space
Plain : List ℕ → Type 0
Plain l = (i : ℕ) → is_white (slice_index l i) ≡ false

is_plain : ℕ → Bool
is_plain k = not (is_white (slice_index (engine_symbols standard) k))

symbols_plain : all_below is_plain 64 ≡ true
unfolding is_plain
symbols_plain = refl

symbol_plain : Plain (engine_symbols standard)
unfolding Plain is_plain
symbol_plain k = elim (cases_lt k 64) [
  | inl below ↦ not-true (is_white (slice_index (engine_symbols standard) k)) (all_below_at is_plain 64 k symbols_plain below)
  | inr past ↦ ap is_white (get_or_past (engine_symbols standard) k 0 past)
]

plain_nil : Plain []
unfolding Plain
plain_nil i = refl

plain_cons : (x : ℕ) (l : List ℕ) → is_white x ≡ false → Plain l → Plain (x ∷ l)
unfolding Plain
plain_cons x l h all zero = h
plain_cons x l h all (suc i) = all i

plain_append : (a b : List ℕ) → Plain a → Plain b → Plain (a ++ b)
unfolding Plain
plain_append [] b ha hb i = hb i
plain_append (x ∷ a) b ha hb zero = ha 0
plain_append (x ∷ a) b ha hb (suc i) = plain_append a b (λ k. ha (suc k)) hb i

plain_padding : (n : ℕ) → Plain (replicate n (engine_padding standard))
unfolding Plain
plain_padding zero i = refl
plain_padding (suc n) zero = refl
plain_padding (suc n) (suc i) = plain_padding n i

plain_more : (k : ℕ) (l : List ℕ) → Plain l → Plain (slice_index (engine_symbols standard) k ∷ l)
unfolding Plain
plain_more k l all = plain_cons (slice_index (engine_symbols standard) k) l (symbol_plain k) all

plain_symbols : (m : List ℕ) → Plain (encode_symbols (engine_symbols standard) m)
unfolding encode_symbols
plain_symbols [] = plain_nil
plain_symbols (a ∷ []) = plain_more (a / 4) _ (plain_more (a % 4 * 16) [] plain_nil)
plain_symbols (a ∷ b ∷ []) =
    plain_more (a / 4) _ (plain_more (a % 4 * 16 + b / 16) _ (plain_more (b % 16 * 4) [] plain_nil))
plain_symbols (a ∷ b ∷ c ∷ rest) =
    plain_more (a / 4) _ (plain_more (a % 4 * 16 + b / 16) _ (plain_more (b % 16 * 4 + c / 64) _ (plain_more (c % 64) _ (plain_symbols rest))))

plain_line : (line : List ℕ) → IsFull line → Plain line
plain_line line full =
    subst Plain (sym full.1.1) (plain_append (encode_symbols (engine_symbols standard) full.1.0) _ (plain_symbols full.1.0) (plain_padding _))

-- what ends a line is white space
plain_inner : (x : ℕ) → is_white x ≡ false → is_line_end x ≡ false
plain_inner x h = at (is_line_end x) (x == 32 || x == 9 || x == 11 || x == 12) h
  where
    at : (a b : Bool) → (a || b) ≡ false → a ≡ false
    at true b h = h
    at false b h = refl

end_white : (x : ℕ) → is_line_end x ≡ true → is_white x ≡ true
end_white x h = ap (λ a. a || (x == 32 || x == 9 || x == 11 || x == 12)) h

inner : (line : List ℕ) → Plain line → IsInner line
unfolding Plain
inner line plain = All-from_get_or (λ x. is_line_end x ≡ false) line 0 (λ i below. plain_inner (slice_index line i) (plain i))

trimmed : (line : List ℕ) (end : ℕ) → is_line_end end ≡ true → Plain line → IsTrimmed (line ++ end ∷ []) line
unfolding Plain
trimmed line end ends plain =
    record {
      before = [];
      after = end ∷ [];
      joined = refl;
      white_before = All-nil (λ x. is_white x ≡ true);
      white_after = All-cons (λ x. is_white x ≡ true) end [] (end_white end ends) (All-nil (λ x. is_white x ≡ true));
      first = λ some. plain 0;
      last = λ some. plain (length line - 1);
    }

no_true : false ≡ true → ⊥
no_true e = cc e

-- a full line has no white space
pub solid_full : (line : List ℕ) → IsFull line → solid line ≡ line
unfolding Plain
solid_full line full = solid_all line (plain_line line full)

-- a full line inside of a block
pub full_goes : (taken is : Bool) (number : ℕ) (line : List ℕ) (old new : State) → taken ≡ true → is ≡ true → Decodes taken line old new
    → GoesOn is number line old new
full_goes taken is number line old new was inside d =
    let P : Bool → Type 0 = λ b. Decodes b line old new in
    let Q : Bool → Type 0 = λ b. GoesOn b number line old new in
    let R : List ℕ → Type 0 = λ l. Adds l old new in
    let full : IsFull line × Adds line old new = subst P was d in
    subst Q (sym inside) (subst R (sym (solid_full line full.0)) full.1)

-- the line is the first of the text, and adds to the block
line_goes : (line : List ℕ) (end : ℕ) (rest : List ℕ) (old new : Place) → is_line_end end ≡ true → IsFull line
    → old.block.is_open ≡ true → Adds line old.block new.block → Numbered (line ++ end ∷ []) old new
    → Steps Other (line ++ end ∷ rest) old (Some rest) new
line_goes line end rest old new ends full is adds number =
    let plain = plain_line line full in
    let P : List ℕ → Type 0 = λ t. IsTrimmed t line in
    let Q : Bool → Type 0 = λ b. GoesOn b new.line line old.block new.block in
    let R : List ℕ → Type 0 = λ l. Adds l old.block new.block in
    let S : List ℕ → Type 0 = λ l. Numbered l old new in
    let first : line_of (line ++ end ∷ rest) ≡ line ++ end ∷ [] = line_of_ended line end rest (inner line plain) ends in
    let left : behind_line (line ++ end ∷ rest) ≡ rest = behind_line_ended line end rest (inner line plain) ends in (
      (
        (line, subst P (sym first) (trimmed line end ends plain), subst Q (sym is) (subst R (sym (solid_full line full)) adds)),
        subst S (sym first) number,
      ),
      ap Some (sym left),
    )

pub skipped : (before after : Option (List ℕ)) (taken : Bool) (old new : Place) → old.block.is_open ≡ true
    → TakesFull taken before after old new → IfSome before (λ text. Skips taken text old after new)
skipped None after taken old new is t = tt
skipped (Some text) None true old new is t = absurd t.2
skipped (Some text) None false old new is t = absurd t.0
skipped (Some text) (Some rest) true old new is t =
    let P : List ℕ → Type 0 = λ x. Steps Other x old (Some rest) new in
    subst P (sym (t.2 ∙ append_assoc t.0 (t.1 ∷ []) rest)) (line_goes t.0 t.1 rest old new t.3 t.4 is t.5 t.6)
skipped (Some text) (Some rest) false old new is t = (ap Some t.0, t.1)

pub skipped_none : (before : Option (List ℕ)) (old : Place) → IfSome before (λ text. Skips false text old before old)
skipped_none None old = tt
skipped_none (Some text) old = (refl, refl)

-- the number of the line behind one, where that is a full one with its end
full_number : (line : List ℕ) (end n : ℕ) (returned : Bool) → length line ≡ 64
    → number_behind n returned (line ++ end ∷ []) ≡ min (n + 1) (2 ^ 64 - 1)
full_number line end n returned len = at returned
  where
    long : is_feed (line ++ end ∷ []) ≡ false
    long = ap (λ b. b && (slice_index (line ++ end ∷ []) (length (line ++ end ∷ []) - 1) == 10))
        (ne_eqb (length (line ++ end ∷ [])) 1 (λ one. absurd (omega (arith, one, len, length-append line (end ∷ [])))))

    at : (b : Bool) → (if b && is_feed (line ++ end ∷ []) then n else min (n + 1) (2 ^ 64 - 1)) ≡ min (n + 1) (2 ^ 64 - 1)
    at true = ap (λ f. if f then n else min (n + 1) (2 ^ 64 - 1)) long
    at false = refl

full_return : (line : List ℕ) (end : ℕ) → length line ≡ 64 → ends_return (line ++ end ∷ []) ≡ (end == 13)
full_return line end len =
    let last : length (line ++ end ∷ []) - 1 ≡ 64 = omega (arith, length-append line (end ∷ []), len) in
    ap (λ x. x == 13) (ap (λ i. slice_index (line ++ end ∷ []) i) last ∙ get_or_push line end 0 64 len)

-- what was shown and then taken from the front
pub front_taken : (before between after : Option (List ℕ)) (buffered : Option ℕ) (shown : List ℕ) (old new : State) (n m : ℕ)
    (returned return : Bool) → IfSome before (λ xs. StartsWith xs shown) → IfSome before (λ xs. length shown ≡ 0 → xs ≡ [])
    → Keeps before between → IfSome before (λ _. IfSome buffered (λ k. length shown ≤ k)) → DropsConsumable between after buffered 65
    → (taken : Bool) → taken ≡ true → DecodesFront taken shown old new → m ≡ min (n + 1) (2 ^ 64 - 1)
    → return ≡ (slice_index shown 64 == 13)
    → TakesFull taken before after (record { block = old; line = n; returned = returned }) (record { block = new; line = m; returned = return })
front_taken before between after buffered shown old new n m returned return front end kept fits drops false is h number last =
    absurd (no_true is)
front_taken before between after buffered shown old new n m returned return front end kept fits drops true is h number last =
    let P : List ℕ → Type 0 = λ l. Consumes before after l in
    let len = h.5.0 in
    let at : slice_index shown 64 ≡ h.1 =
    sym (get_or-take 65 shown 64 0 (omega arith)) ∙ ap (λ l. slice_index l 64) h.3 ∙ get_or_push h.0 h.1 0 64 len in (
      h.0,
      h.1,
      subst P h.3 (Consumes_shown before between after buffered shown 65 h.2 front end kept fits drops).0,
      h.4,
      h.5,
      h.6,
      (
        number ∙ sym (full_number h.0 h.1 n returned len),
        last ∙ ap (λ x. x == 13) at ∙ sym (full_return h.0 h.1 len),
      ),
    )

-- the line at the front of what was shown
pub front_decodes : (taken : Bool) (shown line : List ℕ) (old new : State) → 65 ≤ length shown
    → is_line_end (slice_index shown 64) ≡ true → line ≡ take 64 shown → Decodes taken line old new → DecodesFront taken shown old new
front_decodes false shown line old new long ends first h = h
front_decodes true shown line old new long ends first h =
    let end : ℕ = slice_index shown 64 in
    let front : take 65 shown ≡ line ++ end ∷ [] =
    take_more shown 64 0 (omega arith) ∙ ap (λ l. l ++ end ∷ []) (sym first) in
    (line, end, long, front, ends, h.0, h.1)
