-- What was read is a block of the text.
use Rattle.std.specs.Prelude.{◌≡◌, ℕ, zero, suc, ◌+◌, List, [], ◌++◌, Bool, true, false, Option, Some, None, IfSome, IfOk, refl, Result, Ok, Err}
use Rattle.std.proofs.Common.{sym, ◌∙◌, ap, subst, inl, inr, arith}
use Rattle.std.proofs.lemmas.List.{append_assoc, append-nil}
use Rattle.base64.specs.Engines.{standard}
use Rattle.base64.specs.GeneralPurpose.{decode_of}
use Rattle.x509_pem.specs.Line.{IsTrimmed, IsBegin, BeginsNone, IsEnd, Trimmed}
use Rattle.x509_pem.specs.Block.{Adds, Opens, GoesOn}
use Rattle.x509_pem.specs.Step.{Place, Walks, Reads, Numbered}
use Rattle.x509_pem.specs.Reader.{Walked}
use Rattle.x509_pem.specs.declared.fault.PemError.{PemError}
use Rattle.x509_pem.specs.Text.{line_of, behind_line, solid, number_behind, ends_return, number_at}
use Rattle.x509_pem.specs.Whole.{drop_lines, take_lines, NoneBegins, HasBlock, HasNone, NextBlock}
use Rattle.x509_pem.proofs.WhiteSpace.{solid_append, solid_trimmed}

-- the number of the line before one more
number_more : (k n : ℕ) (r : Bool) (text line : List ℕ) (m : ℕ) (s : Bool) → line ≡ line_of text → m ≡ number_behind n r line
    → s ≡ ends_return line → number_at (suc k) n r text ≡ number_at k m s (behind_line text)
number_more k n r text line m s is number return =
    sym (ap (λ i. number_at k i s (behind_line text)) (number ∙ ap (λ l. number_behind n r l) is)
    ∙ ap (λ b. number_at k (number_behind n r (line_of text)) b (behind_line text)) (return ∙ ap ends_return is))

-- lines inside of a block
record Inside (n : ℕ) (text : List ℕ) (old : Place) (rest : List ℕ) (last : Place) : Type 0 where
  pub is_open : last.block.is_open ≡ true
  pub label : last.block.label ≡ old.block.label
  pub text_is : last.block.text ≡ old.block.text ++ solid (take_lines n text)
  pub begun : last.block.begun ≡ old.block.begun
  pub rest_is : rest ≡ drop_lines n text

inside : (n : ℕ) (text : List ℕ) (old : Place) (rest : List ℕ) (last : Place) → Walks n text old rest last
    → old.block.is_open ≡ true → Inside n text old rest last
inside zero text old rest last w o =
    record {
      is_open = ap (λ p. p.block.is_open) w.1 ∙ o;
      label = ap (λ p. p.block.label) w.1;
      text_is = ap (λ p. p.block.text) w.1 ∙ sym (append-nil old.block.text);
      begun = ap (λ p. p.block.begun) w.1;
      rest_is = w.0;
    }
inside (suc n) text old rest last w o =
    let goes = w.1.0 in
    let P : Bool → Type 0 = λ x. GoesOn x w.0.line goes.0 old.block w.0.block in
    let adds : Adds (solid goes.0) old.block w.0.block = subst P o goes.2 in
    let others = inside n (behind_line text) w.0 rest last w.2 (adds.0 ∙ o) in
    let lines : List ℕ = take_lines n (behind_line text) in
    let first : solid (line_of text) ≡ solid goes.0 = solid_trimmed (line_of text) goes.0 goes.1 in
    record {
      is_open = others.is_open;
      label = others.label ∙ adds.1;
      text_is = others.text_is ∙ ap (λ t. t ++ solid lines) adds.2 ∙ append_assoc old.block.text (solid goes.0) (solid lines)
          ∙ ap (λ t. old.block.text ++ t) (ap (λ t. t ++ solid lines) (sym first) ∙ sym (solid_append (line_of text) lines));
      begun = others.begun ∙ adds.3;
      rest_is = others.rest_is;
    }

-- lines have numbers one behind the other, and the line behind them has the next
walked_number : (n : ℕ) (text : List ℕ) (old : Place) (rest : List ℕ) (last : Place) → Walks n text old rest last
    → last.line ≡ number_at n old.line old.returned text
walked_number zero text old rest last w = ap (λ p. p.line) w.1
walked_number (suc n) text old rest last w =
    let number = w.1.1 in
    walked_number n (behind_line text) w.0 rest last w.2
    ∙ sym (number_more n old.line old.returned text (line_of text) w.0.line w.0.returned refl number.0 number.1)

next_number : (n : ℕ) (text : List ℕ) (old : Place) (rest : List ℕ) (last new : Place) → Walks n text old rest last
    → Numbered (line_of rest) last new → new.line ≡ number_at (suc n) old.line old.returned text
next_number zero text old rest last new w number =
    let P : List ℕ → Type 0 = λ t. Numbered (line_of t) last new in
    let Q : Place → Type 0 = λ p. Numbered (line_of text) p new in
    (subst Q w.1 (subst P w.0 number)).0
next_number (suc n) text old rest last new w number =
    let first = w.1.1 in
    next_number n (behind_line text) w.0 rest last new w.2 number
    ∙ sym (number_more (suc n) old.line old.returned text (line_of text) w.0.line w.0.returned refl first.0 first.1)

-- lines of which one begins a block
record Outside (n : ℕ) (text : List ℕ) (old : Place) (rest : List ℕ) (last : Place) : Type 0 where
  pub before : ℕ
  pub lines : ℕ
  pub first : NoneBegins before text
  pub begins : Trimmed (line_of (drop_lines before text)) (IsBegin last.block.label)
  pub text_is : last.block.text ≡ solid (take_lines lines (behind_line (drop_lines before text)))
  pub rest_is : rest ≡ drop_lines lines (behind_line (drop_lines before text))
  pub begun : last.block.begun ≡ number_at (suc before) old.line old.returned text
  pub count : n ≡ lines + suc before

from_begin : (n : ℕ) (text line : List ℕ) (old between : Place) (rest : List ℕ) (last : Place)
    → IsTrimmed (line_of text) line → IsBegin between.block.label line → Opens between.block.label between.line between.block
    → Numbered (line_of text) old between → Inside n (behind_line text) between rest last → Outside (suc n) text old rest last
from_begin n text line old between rest last trim begin opens number others =
    let P : List ℕ → Type 0 = λ l. IsBegin l line in
    record {
      before = zero;
      lines = n;
      first = tt;
      begins = (line, trim, subst P (sym others.label) begin);
      text_is = others.text_is ∙ ap (λ t. t ++ solid (take_lines n (behind_line text))) opens.2;
      rest_is = others.rest_is;
      begun = others.begun ∙ opens.3 ∙ number.0;
      count = omega arith;
    }

later : (n : ℕ) (text : List ℕ) (old between : Place) (rest : List ℕ) (last : Place) → Trimmed (line_of text) BeginsNone
    → Numbered (line_of text) old between → Outside n (behind_line text) between rest last → Outside (suc n) text old rest last
later n text old between rest last begins_none number o =
    let count = o.count in
    record {
      before = suc o.before;
      lines = o.lines;
      first = (begins_none, o.first);
      begins = o.begins;
      text_is = o.text_is;
      rest_is = o.rest_is;
      begun = o.begun
          ∙ sym (number_more (suc o.before) old.line old.returned text (line_of text) between.line between.returned refl number.0 number.1);
      count = omega (arith, count);
    }

no_true : false ≡ true → ⊥
no_true e = let P : Bool → Type 0 = λ b. elim b [ true ↦ ⊥ | false ↦ Unit {0} ] in subst P e tt

outside : (n : ℕ) (text : List ℕ) (old : Place) (rest : List ℕ) (last : Place) → Walks n text old rest last
    → old.block.is_open ≡ false → last.block.is_open ≡ true → Outside n text old rest last
outside zero text old rest last w shut o =
    absurd (no_true (sym shut ∙ (sym (ap (λ p. p.block.is_open) w.1) ∙ o)))
outside (suc n) text old rest last w shut o =
    let line = w.1.0 in
    let P : Bool → Type 0 = λ x. GoesOn x w.0.line line.0 old.block w.0.block in
    let goes : GoesOn false w.0.line line.0 old.block w.0.block = subst P shut line.2 in
    elim goes [
      | inl h ↦
          from_begin n text line.0 old w.0 rest last line.1 h.0 h.1 w.1.1 (inside n (behind_line text) w.0 rest last w.2 h.1.0)
      | inr h ↦
          later n text old w.0 rest last (line.0, line.1, h.0) w.1.1 (outside n (behind_line text) w.0 rest last w.2 h.1 o)
    ]

-- lines of which none begins a block, up to the end of the text
outside_none : (n : ℕ) (text : List ℕ) (old last : Place) → Walks n text old [] last → old.block.is_open ≡ false
    → last.block.is_open ≡ false → NoneBegins n text × (drop_lines n text ≡ [])
outside_none zero text old last w shut o = (tt, sym w.0)
outside_none (suc n) text old last w shut o =
    let line = w.1.0 in
    let P : Bool → Type 0 = λ x. GoesOn x w.0.line line.0 old.block w.0.block in
    let goes : GoesOn false w.0.line line.0 old.block w.0.block = subst P shut line.2 in
    elim goes [
      | inl h ↦ absurd (no_true (sym o ∙ (inside n (behind_line text) w.0 [] last w.2 h.1.0).is_open))
      | inr h ↦
          let others = outside_none n (behind_line text) w.0 last w.2 h.1 o in
          (((line.0, line.1, h.0), others.0), others.1)
    ]

has_block : (text : List ℕ) (old : Place) (left : Option (List ℕ)) (new : Place) → Reads true text old left new
    → old.block.is_open ≡ false → HasBlock text old new left
has_block text old left new r shut =
    let line = r.4.0 in
    let ends = line.2 in
    let o = outside r.0 text old r.1 r.2 r.3 shut ends.0 in
    let closes = ends.2 in
    let P : List ℕ → Type 0 = λ t. Trimmed (line_of t) (IsEnd new.block.label) in
    let Q : List ℕ → Type 0 = λ l. IsBegin l o.begins.0 in
    let R : List ℕ → Type 0 = λ l. IsEnd l line.0 in
    let D : List ℕ → Type 0 = λ t. decode_of standard t ≡ Ok new.block.bytes in
    let last : new.line ≡ number_at (suc r.0) old.line old.returned text = next_number r.0 text old r.1 r.2 new r.3 r.4.1 in
    record {
      before = o.before;
      lines = o.lines;
      first = o.first;
      begins = (o.begins.0, o.begins.1, subst Q (sym closes.0) o.begins.2);
      ends = subst P o.rest_is (line.0, line.1, subst R (sym closes.0) ends.1);
      decodes = subst D (closes.1 ∙ o.text_is) closes.2;
      rest = r.5 ∙ ap (λ t. Some (behind_line t)) o.rest_is;
      number_first = closes.4 ∙ o.begun;
      number_last = last ∙ ap (λ k. number_at (suc k) old.line old.returned text) o.count;
    }

has_none : (text : List ℕ) (old : Place) (left : Option (List ℕ)) (new : Place) → Reads false text old left new
    → old.block.is_open ≡ false → HasNone text old new left
has_none text old left new r shut =
    let none = outside_none r.0 text old new r.1 shut r.2 in
    record {
      lines = r.0;
      none = none.0;
      whole = none.1;
      rest = r.3;
      number_last = walked_number r.0 text old [] new r.1;
    }

pub next_block_if_walked : (limit longest : ℕ) (text : Option (List ℕ)) (old : Place) (left : Option (List ℕ)) (new : Place)
    (r : Result Bool PemError) → old.block.is_open ≡ false → Walked limit longest text r old left new
    → IfOk r (λ found. IfSome text (λ t. NextBlock found t old new left))
next_block_if_walked limit longest text old left new (Err e) shut h = tt
next_block_if_walked limit longest None old left new (Ok b) shut h = tt
next_block_if_walked limit longest (Some t) old left new (Ok true) shut h = has_block t old left new h shut
next_block_if_walked limit longest (Some t) old left new (Ok false) shut h = has_none t old left new h shut
