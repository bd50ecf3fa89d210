-- The lines of a text in memory, one behind the other.
use Rattle.std.specs.Prelude.{◌≡◌, ◌≢◌, ℕ, zero, suc, ◌+◌, ◌-◌, ◌<◌, ◌≤◌, List, [], ◌∷◌, ◌++◌, ◌⊎◌, Bool, true, false, Option, Some, None, Ok, codes, take, drop, length, slice_index, refl}
use Rattle.std.proofs.Common.{sym, ap, subst, ◌∙◌, arith, inl, inr, cond}
use Rattle.std.proofs.lemmas.Bool.{cases_lt, false≢true}
use Rattle.std.proofs.lemmas.List.{append_assoc, length-append, length-drop, length-take, length-take-le, drop-drop, drop-take, drop_at, take_at, take-take, nil_from_length, get_or_at, get_or-append-add, take-append-drop}
use Rattle.std.proofs.lemmas.List.Elements.{All-append}
use Rattle.base64.specs.Engines.{standard}
use Rattle.base64.specs.GeneralPurpose.{decode_of}
use Rattle.x509_pem.specs.InText.{between, at_span, Passes, PassesAll, IsInside, AllInside, StopsIn, StopsBy, StopsAt, BegunAt, BlockAt, NoBlock, GoesOnAt, IsMadeOf, IsRead}
use Rattle.x509_pem.specs.Line.{IsBegin, BeginsNone, IsEnd, IsTrimmed, IsUnmarked, IsBoundary, Trimmed, mark}
use Rattle.x509_pem.specs.Text.{is_line_end, is_white, IsWhite, line_of, behind_line, number_behind, number_at, ends_return, solid}
use Rattle.x509_pem.specs.Whole.{drop_lines, take_lines, NoneBegins, HasBlock}
use Rattle.x509_pem.specs.declared.cursor.Cursor.{Cursor}
use Rattle.x509_pem.specs.declared.fault.Fault.{Fault}
use Rattle.x509_pem.specs.declared.fault.Fault.TheVariants.{LabelMismatch, BadBase64, NoEnd, HasHeaders, TooLong, OutOfMemory}
use Rattle.x509_pem.specs.declared.in_text.Begun.{Begun}
use Rattle.x509_pem.specs.declared.in_text.Span.{Span}
use Rattle.x509_pem.specs.declared.in_text.Stop.{Stop}
use Rattle.x509_pem.specs.declared.in_text.TextBlock.{TextBlock}

-- one line more
pub drop_more_lines : (n : ℕ) (text : List ℕ) → behind_line (drop_lines n text) ≡ drop_lines (suc n) text
drop_more_lines zero text = refl
drop_more_lines (suc n) text = drop_more_lines n (behind_line text)

drop_lines_on : (n m : ℕ) (text : List ℕ) → drop_lines m (drop_lines n text) ≡ drop_lines (n + m) text
drop_lines_on zero m text = let e : m ≡ zero + m = omega arith in ap (λ k. drop_lines k text) e
drop_lines_on (suc n) m text =
    let e : suc (n + m) ≡ suc n + m = omega arith in
    drop_lines_on n m (behind_line text) ∙ ap (λ k. drop_lines k text) e

line_joined : (text : List ℕ) → line_of text ++ behind_line text ≡ text
line_joined [] = refl
line_joined (x ∷ xs) = at (is_line_end x) (line_joined xs)
  where
    at : (b : Bool) → line_of xs ++ behind_line xs ≡ xs
        → cond b (x ∷ []) (x ∷ line_of xs) ++ cond b xs (behind_line xs) ≡ x ∷ xs
    at true e = refl
    at false e = ap (λ l. x ∷ l) e

lines_joined : (n : ℕ) (text : List ℕ) → take_lines n text ++ drop_lines n text ≡ text
lines_joined zero text = refl
lines_joined (suc n) text =
    append_assoc (line_of text) (take_lines n (behind_line text)) (drop_lines n (behind_line text))
    ∙ ap (λ l. line_of text ++ l) (lines_joined n (behind_line text)) ∙ line_joined text

pub none_more : (n : ℕ) (text : List ℕ) → NoneBegins n text → Trimmed (line_of (drop_lines n text)) BeginsNone → NoneBegins (suc n) text
none_more zero text h line = (line, tt)
none_more (suc n) text h line = (h.0, none_more n (behind_line text) h.1 line)

pub inside_more : (n : ℕ) (text : List ℕ) → AllInside n text → Trimmed (line_of (drop_lines n text)) IsInside → AllInside (suc n) text
inside_more zero text h line = (line, tt)
inside_more (suc n) text h line = (h.0, inside_more n (behind_line text) h.1 line)

pub passes_none : (text : List ℕ) (c : Cursor) → PassesAll zero text c c
passes_none text c =
    record {
      rest = refl;
      low = omega arith;
      high = λ h. h;
      numbers = λ k. let e : k ≡ zero + k = omega arith in ap (λ m. number_at m c.line c.returned (drop c.at text)) e;
    }

pub passes_more : (n : ℕ) (text : List ℕ) (start old new : Cursor) → PassesAll n text start old → Passes text old new
    → PassesAll (suc n) text start new
passes_more n text start old new all one =
    record {
      rest = one.rest ∙ ap behind_line all.rest ∙ drop_more_lines n (drop start.at text);
      low = omega (arith, all.low, one.low);
      high = λ h. one.high;
      numbers = λ k.
          let e : n + suc k ≡ suc n + k = omega arith in
          ap (λ l. number_at k l new.returned (drop new.at text)) one.number
          ∙ ap (λ r. number_at k (number_behind old.line old.returned (line_of (drop old.at text))) r (drop new.at text)) one.return
          ∙ ap (λ t. number_at k (number_behind old.line old.returned (line_of (drop old.at text))) (ends_return (line_of (drop old.at text))) t) one.rest
          ∙ all.numbers (suc k) ∙ ap (λ m. number_at m start.line start.returned (drop start.at text)) e;
    }

passes_on : (n m : ℕ) (text : List ℕ) (start old new : Cursor) → PassesAll n text start old → PassesAll m text old new
    → PassesAll (m + n) text start new
passes_on n m text start old new first then =
    record {
      rest = then.rest ∙ ap (drop_lines m) first.rest ∙ drop_lines_on n m (drop start.at text)
          ∙ (let e : n + m ≡ m + n = omega arith in ap (λ k. drop_lines k (drop start.at text)) e);
      low = omega (arith, first.low, then.low);
      high = λ h. then.high (first.high h);
      numbers = λ k.
          let e : n + (m + k) ≡ m + n + k = omega arith in
          then.numbers k ∙ first.numbers (m + k) ∙ ap (λ i. number_at i start.line start.returned (drop start.at text)) e;
    }

-- the bytes of lines are those between the places
lines_between : (n : ℕ) (text : List ℕ) (old new : Cursor) → PassesAll n text old new → old.at ≤ length text
    → take_lines n (drop old.at text) ≡ between text old.at new.at
lines_between n text old new p fits =
    let joined = lines_joined n (drop old.at text) in
    let high = p.high fits in
    let len : length (take_lines n (drop old.at text)) ≡ new.at - old.at =
    omega (
      arith,
      ap length joined,
      length-append (take_lines n (drop old.at text)) (drop_lines n (drop old.at text)),
      ap length p.rest,
      length-drop old.at text,
      length-drop new.at text,
      p.low,
      high,
      fits,
    ) in
    sym (take_at (take_lines n (drop old.at text)) (drop_lines n (drop old.at text)) (new.at - old.at) len) ∙ ap (take (new.at - old.at)) joined

-- the end of a text has nothing behind it
pub ended : (text : List ℕ) (at : ℕ) → length text ≤ at → drop at text ≡ []
ended text at h = nil_from_length (drop at text) (omega (arith, h, length-drop at text))

-- what a line has at a span stands in the text that much further on
pub shifted : (text : List ℕ) (a b s e : ℕ) → s ≤ e → e ≤ length (between text a b)
    → between (between text a b) s e ≡ between text (a + s) (a + e)
shifted text a b s e low high =
    let fits : e ≤ b - a = omega (arith, high, length-take (b - a) (drop a text)) in
    let split : b - a ≡ s + (b - a - s) = omega (arith, low, fits) in
    let len : e - s ≡ a + e - (a + s) = omega arith in
    ap (λ n. take (e - s) (drop s (take n (drop a text)))) split
    ∙ ap (take (e - s)) (drop-take s (b - a - s) (drop a text))
    ∙ take-take (e - s) (b - a - s) (drop s (drop a text)) (omega (arith, low, fits))
    ∙ ap (take (e - s)) (drop-drop s a text) ∙ ap (λ k. take k (drop (a + s) text)) len

-- the bytes of the next line
line_is : (n : ℕ) (text : List ℕ) (start old new : Cursor) → PassesAll n text start old → Passes text old new
    → between text old.at new.at ≡ line_of (drop_lines n (drop start.at text))
line_is n text start old new all one = one.line ∙ ap line_of all.rest

-- a line that begins no block
pub passed_over : (n : ℕ) (text : List ℕ) (start old new : Cursor) → NoneBegins n (drop start.at text) → PassesAll n text start old
    → Passes text old new → Trimmed (between text old.at new.at) BeginsNone
    → (k : ℕ) × NoneBegins k (drop start.at text) × PassesAll k text start new
passed_over n text start old new none all one line =
    let P : List ℕ → Type 0 = λ l. Trimmed l BeginsNone in (
      suc n,
      none_more n (drop start.at text) none (subst P (line_is n text start old new all one) line),
      passes_more n text start old new all one,
    )

-- one that does
pub begun_here : (n : ℕ) (text : List ℕ) (start old new : Cursor) (label : Span) → NoneBegins n (drop start.at text)
    → PassesAll n text start old → Passes text old new
    → Trimmed (between text old.at new.at) (IsBegin (at_span (between text old.at new.at) label))
    → label.start ≤ label.end → label.end ≤ length (between text old.at new.at)
    → BegunAt text start (record { label = record { start = old.at + label.start; end = old.at + label.end }; behind = new })
begun_here n text start old new label none all one line low high =
    let P : List ℕ → Type 0 = λ l. Trimmed l (IsBegin (at_span (between text old.at new.at) label)) in
    let Q : List ℕ → Type 0 = λ l. Trimmed (line_of (drop_lines n (drop start.at text))) (IsBegin l) in
    let len = length-take-le (new.at - old.at) (drop old.at text) (omega (arith, one.low, one.high, length-drop old.at text)) in
    let passes = passes_more n text start old new all one in
    record {
      before = n;
      first = none;
      begins = subst Q (shifted text old.at new.at label.start label.end low high) (subst P (line_is n text start old new all one) line);
      passes = passes;
      further = omega (arith, all.low, one.low);
      label_low = omega (arith, low);
      label_high = omega (arith, high, len, one.low, one.high);
      high = one.high;
    }

-- none is left
pub none_left : (n : ℕ) (text : List ℕ) (start old : Cursor) → NoneBegins n (drop start.at text) → PassesAll n text start old
    → length text ≤ old.at → NoBlock text start
none_left n text start old none all done =
    record { lines = n; none = none; whole = sym all.rest ∙ ended text old.at done }

-- a line of a block's text
pub gone_on : (n : ℕ) (text : List ℕ) (start old new : Cursor) → AllInside n (drop start.at text) → PassesAll n text start old
    → Passes text old new → Trimmed (between text old.at new.at) IsInside
    → (k : ℕ) × AllInside k (drop start.at text) × PassesAll k text start new
gone_on n text start old new lines all one line =
    let P : List ℕ → Type 0 = λ l. Trimmed l IsInside in (
      suc n,
      inside_more n (drop start.at text) lines (subst P (line_is n text start old new all one) line),
      passes_more n text start old new all one,
    )

-- a line that stops it
pub stopped_here : (n : ℕ) (text label : List ℕ) (start old new : Cursor) (fault : Option Fault) → AllInside n (drop start.at text)
    → PassesAll n text start old → Passes text old new → Trimmed (between text old.at new.at) (StopsIn fault label)
    → StopsAt text label start (record { fault = fault; there = old; behind = new })
stopped_here n text label start old new fault lines all one line =
    let P : List ℕ → Type 0 = λ l. Trimmed l (StopsIn fault label) in
    record { lines = n; inside = lines; passes = all; stops = inl (subst P one.line line, one) }

pub stopped_at_end : (n : ℕ) (text label : List ℕ) (start old : Cursor) → AllInside n (drop start.at text) → PassesAll n text start old
    → length text ≤ old.at → StopsAt text label start (record { fault = Some NoEnd; there = old; behind = old })
stopped_at_end n text label start old lines all done =
    record { lines = n; inside = lines; passes = all; stops = inr (ended text old.at done, refl, refl) }

-- the place behind a block is further on
next_further : (fault : Option Fault) (stop behind next : Cursor) (low high : ℕ) → GoesOnAt fault stop behind next → low < stop.at
    → stop.at ≤ behind.at → behind.at ≤ high → (low < next.at) × (next.at ≤ high)
next_further None stop behind next low high e a b c = let i = ap (λ x. x.at) e in (omega (arith, i, a, b, c), omega (arith, i, a, b, c))
next_further (Some LabelMismatch) stop behind next low high e a b c =
    let i = ap (λ x. x.at) e in (omega (arith, i, a, b, c), omega (arith, i, a, b, c))
next_further (Some BadBase64) stop behind next low high e a b c =
    let i = ap (λ x. x.at) e in (omega (arith, i, a, b, c), omega (arith, i, a, b, c))
next_further (Some NoEnd) stop behind next low high e a b c =
    let i = ap (λ x. x.at) e in (omega (arith, i, a, b, c), omega (arith, i, a, b, c))
next_further (Some HasHeaders) stop behind next low high e a b c =
    let i = ap (λ x. x.at) e in (omega (arith, i, a, b, c), omega (arith, i, a, b, c))
next_further (Some TooLong) stop behind next low high e a b c =
    let i = ap (λ x. x.at) e in (omega (arith, i, a, b, c), omega (arith, i, a, b, c))
next_further (Some OutOfMemory) stop behind next low high e a b c =
    let i = ap (λ x. x.at) e in (omega (arith, i, a, b, c), omega (arith, i, a, b, c))

stop_before : (text label : List ℕ) (fault : Option Fault) (stop behind : Cursor) → StopsBy text label fault stop behind
    → stop.at ≤ length text → (stop.at ≤ behind.at) × (behind.at ≤ length text)
stop_before text label fault stop behind stops fits = elim stops [
  | inl h ↦ (omega (arith, h.1.low), h.1.high)
  | inr h ↦ let e = ap (λ x. x.at) h.2 in (omega (arith, e), omega (arith, e, fits))
]

-- the line that begins a block and what stops it make the block
pub block_at : (text : List ℕ) (start : Cursor) (b : Begun) (s : Stop) (t : TextBlock) → BegunAt text start b
    → StopsAt text (at_span text b.label) b.behind s → IsMadeOf b s t → BlockAt text start t
block_at text start b s t begun stops made =
    let first : List ℕ = drop start.at text in
    let body : behind_line (drop_lines begun.before first) ≡ drop b.behind.at text = drop_more_lines begun.before first ∙ sym begun.passes.rest in
    let P : Span → Type 0 = λ l. Trimmed (line_of (drop_lines begun.before first)) (IsBegin (at_span text l)) in
    let Q : Span → Type 0 = λ l. StopsBy text (at_span text l) s.fault s.there s.behind in
    let R : Option Fault → Type 0 = λ f. StopsBy text (at_span text t.label) f s.there s.behind in
    let G : Option Fault → Type 0 = λ f. GoesOnAt f s.there s.behind t.next in
    let I : List ℕ → Type 0 = λ l. AllInside stops.lines l in
    let W : Span → Type 0 = λ x. (x.start ≤ x.end) × (x.end ≤ length text) in
    let number : suc begun.before + 0 ≡ suc begun.before = omega arith in
    let places = stop_before text (at_span text b.label) s.fault s.there s.behind stops.stops (stops.passes.high begun.high) in
    record {
      before = begun.before;
      first = begun.first;
      begins = subst P (sym made.1) begun.begins;
      lines = stops.lines;
      inside = subst I (sym body) stops.inside;
      symbols = ap (take_lines stops.lines) body ∙ lines_between stops.lines text b.behind s.there stops.passes begun.high
          ∙ ap (at_span text) (sym made.2);
      number_first = made.3 ∙ begun.passes.numbers 0 ∙ ap (λ k. number_at k start.line start.returned first) number;
      stop = s.there;
      behind = s.behind;
      passes = passes_on (suc begun.before) stops.lines text start b.behind s.there begun.passes stops.passes;
      stops = subst R (sym made.0) (subst Q (sym made.1) stops.stops);
      number_last = made.4;
      next = subst G (sym made.0) made.5;
      further = next_further s.fault s.there s.behind t.next start.at (length text) made.5
          (omega (arith, begun.further, stops.passes.low)) places.0 places.1;
      label_within = subst W (sym made.1) (begun.label_low, begun.label_high);
      symbols_within = subst W (sym made.2) (stops.passes.low, stops.passes.high begun.high);
    }

-- and it is what a reader of a stream finds, where its text decodes
pub block_read : (text : List ℕ) (start : Cursor) (t : TextBlock) → BlockAt text start t → IsRead text start t
block_read text start t a bytes whole decodes = elim a.stops [
  | inl h ↦
      let first : List ℕ = drop start.at text in
      let on : suc a.before + a.lines ≡ a.lines + suc a.before = omega arith in
      let rest : drop_lines a.lines (behind_line (drop_lines a.before first)) ≡ drop a.stop.at text =
      ap (drop_lines a.lines) (drop_more_lines a.before first) ∙ drop_lines_on (suc a.before) a.lines first
      ∙ ap (λ k. drop_lines k first) on ∙ sym a.passes.rest in
      let P : Option Fault → Type 0 = λ f. Trimmed (line_of (drop a.stop.at text)) (StopsIn f (at_span text t.label)) in
      let Q : List ℕ → Type 0 = λ l. Trimmed (line_of l) (IsEnd (at_span text t.label)) in
      let G : Option Fault → Type 0 = λ f. GoesOnAt f a.stop a.behind t.next in
      let next : t.next ≡ a.behind = subst G whole a.next in
      let more : a.lines + suc a.before + 1 ≡ suc (a.lines + suc a.before) = omega arith in
      record {
        before = a.before;
        lines = a.lines;
        first = a.first;
        begins = a.begins;
        decodes = ap (λ l. decode_of standard (solid l)) a.symbols ∙ decodes;
        ends = subst Q (sym rest) (subst P whole h.0);
        rest = ap (λ c. Some (drop c.at text)) next ∙ ap (λ l. Some l) (h.1.rest ∙ ap behind_line (sym rest));
        number_first = a.number_first;
        number_last = a.number_last ∙ h.1.number ∙ a.passes.numbers 1 ∙ ap (λ k. number_at k start.line start.returned first) more;
      }
  | inr h ↦ absurd (none_some (sym whole ∙ h.1))
]
  where
    none_some : {X : Type 0} {x : X} → None ≡ Some x → ⊥
    none_some e = cc e

-- a line with a label between hyphens
pub record Around (line label : List ℕ) : Type 0 where
  pub before : List ℕ
  pub after : List ℕ
  pub is : line ≡ before ++ (label ++ (codes "-----" ++ after))
  pub white : IsWhite after

unmarked_joined : (b f l h a : List ℕ) → b ++ ((f ++ (l ++ h)) ++ a) ≡ (b ++ f) ++ (l ++ (h ++ a))
unmarked_joined b f l h a = simp append_assoc refl

marked_joined : (b m c f l h d a : List ℕ) → b ++ ((m ++ (c ++ ((f ++ (l ++ h)) ++ d))) ++ a) ≡ (b ++ (m ++ (c ++ f))) ++ (l ++ (h ++ (d ++ a)))
marked_joined b m c f l h d a = simp append_assoc refl

pub around : (line r label : List ℕ) → IsTrimmed line r → IsBegin label r → Around line label
around line r label t begin = elim begin.1 [
  | inl m ↦
      record {
        before = t.before ++ (mark ++ (m.2.before ++ codes "-----BEGIN "));
        after = m.2.after ++ t.after;
        is = t.joined ∙ ap (λ l. t.before ++ (l ++ t.after)) m.1
            ∙ ap (λ l. t.before ++ ((mark ++ l) ++ t.after)) (m.2.joined ∙ ap (λ u. m.2.before ++ (u ++ m.2.after)) begin.2)
            ∙ marked_joined t.before mark m.2.before (codes "-----BEGIN ") label (codes "-----") m.2.after t.after;
        white = All-append (λ x. is_white x ≡ true) m.2.after t.after m.2.white_after t.white_after;
      }
  | inr o ↦
      record {
        before = t.before ++ codes "-----BEGIN ";
        after = t.after;
        is = t.joined ∙ ap (λ l. t.before ++ (l ++ t.after)) (sym o.1 ∙ begin.2)
            ∙ unmarked_joined t.before (codes "-----BEGIN ") label (codes "-----") t.after;
        white = t.white_after;
      }
]

three_joined : (b l h a : List ℕ) → b ++ (l ++ (h ++ a)) ≡ (b ++ (l ++ h)) ++ a
three_joined b l h a = simp append_assoc refl

-- the white space at its end begins behind the hyphens
pub label_end : (line label : List ℕ) (a : Around line label) (e : ℕ) → e ≤ length line
    → ((k : ℕ) → e ≤ k → k < length line → is_white (slice_index line k) ≡ true)
    → (0 < e → is_white (slice_index line (e - 1)) ≡ false) → e ≡ length a.before + (length label + 5)
label_end line label a e fits white other =
    let four : List ℕ = a.before ++ (label ++ codes "----") in
    let five : List ℕ = a.before ++ (label ++ codes "-----") in
    let n4 : length four ≡ length a.before + (length label + 4) =
    length-append a.before (label ++ codes "----") ∙ ap (λ n. length a.before + n) (length-append label (codes "----")) in
    let n5 : length five ≡ length a.before + (length label + 5) =
    length-append a.before (label ++ codes "-----") ∙ ap (λ n. length a.before + n) (length-append label (codes "-----")) in
    let is4 : line ≡ four ++ 45 ∷ a.after = a.is ∙ three_joined a.before label (codes "----") (45 ∷ a.after) in
    let is5 : line ≡ five ++ a.after = a.is ∙ three_joined a.before label (codes "-----") a.after in
    let all : length line ≡ length five + length a.after = ap length is5 ∙ length-append five a.after in
    elim (cases_lt e (length five)) [
      | inl short ↦
          let hyphen : slice_index line (length four) ≡ 45 =
          ap (λ l. slice_index l (length four)) is4 ∙ get_or_at four 45 a.after 0 (length four) refl in
          absurd (false≢true (ap is_white (sym hyphen) ∙ white (length four) (omega (arith, short, n4, n5)) (omega (arith, all, n4, n5))))
      | inr long ↦ elim (cases_lt (length five) e) [
        | inl more ↦
            let k : ℕ = e - 1 - length five in
            let there : e - 1 ≡ length five + k = omega (arith, more) in
            let item : slice_index line (e - 1) ≡ slice_index a.after k =
            ap (λ l. slice_index l (e - 1)) is5 ∙ ap (λ n. slice_index (five ++ a.after) n) there ∙ get_or-append-add five a.after k 0 in
            absurd (false≢true (sym (other (omega (arith, more))) ∙ ap is_white item ∙ a.white k 0 (omega (arith, more, fits, all))))
        | inr same ↦ omega (arith, long, same, n5)
      ]
    ]

-- and the label stands before them
pub label_there : (line label : List ℕ) (a : Around line label) (start end : ℕ) → start ≡ length a.before
    → end ≡ length a.before + length label → label ≡ between line start end
label_there line label a start end low high =
    let len : length label ≡ end - start = omega (arith, low, high) in
    sym (
    ap (λ l. between l start end) a.is
    ∙ ap (take (end - start)) (drop_at a.before (label ++ (codes "-----" ++ a.after)) start (sym low))
    ∙ take_at label (codes "-----" ++ a.after) (end - start) len
    )
