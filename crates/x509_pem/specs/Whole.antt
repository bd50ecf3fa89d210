-- The next block of a text, in the words of RFC 7468.
use Rattle.std.specs.Prelude.{◌≡◌, ℕ, zero, suc, ◌+◌, List, [], ◌++◌, Ok, Option, Some, Bool, true, false}
use Rattle.base64.specs.Engines.{standard}
use Rattle.base64.specs.GeneralPurpose.{decode_of}
use Rattle.x509_pem.specs.Line.{IsBegin, BeginsNone, IsEnd, Trimmed}
use Rattle.x509_pem.specs.Step.{Place}
use Rattle.x509_pem.specs.Text.{line_of, behind_line, solid, number_at}

-- a text without its first k lines
abbrev pub drop_lines : ℕ → List ℕ → List ℕ
drop_lines zero text = text
drop_lines (suc k) text = drop_lines k (behind_line text)

-- its first k lines
abbrev pub take_lines : ℕ → List ℕ → List ℕ
take_lines zero text = []
take_lines (suc k) text = line_of text ++ take_lines k (behind_line text)

-- none of the first n lines begins a block
abbrev pub NoneBegins : ℕ → List ℕ → Type 0
NoneBegins zero text = Unit {0}
NoneBegins (suc n) text = Trimmed (line_of text) BeginsNone × NoneBegins n (behind_line text)

-- behind lines of which none begins a block stands one that does, then lines that without white space decode to the bytes, then the
-- line that ends the block; the numbers are those of the lines at its ends
pub record HasBlock (text : List ℕ) (old new : Place) (left : Option (List ℕ)) : Type 0 where
  pub before : ℕ
  pub lines : ℕ
  pub first : NoneBegins before text
  pub begins : Trimmed (line_of (drop_lines before text)) (IsBegin new.block.label)
  pub decodes : decode_of standard (solid (take_lines lines (behind_line (drop_lines before text)))) ≡ Ok new.block.bytes
  pub ends : Trimmed (line_of (drop_lines lines (behind_line (drop_lines before text)))) (IsEnd new.block.label)
  pub rest : left ≡ Some (behind_line (drop_lines lines (behind_line (drop_lines before text))))
  pub number_first : new.block.begun ≡ number_at (suc before) old.line old.returned text
  pub number_last : new.line ≡ number_at (suc (lines + suc before)) old.line old.returned text

-- the text ends behind some lines, of which none begins a block
pub record HasNone (text : List ℕ) (old new : Place) (left : Option (List ℕ)) : Type 0 where
  pub lines : ℕ
  pub none : NoneBegins lines text
  pub whole : drop_lines lines text ≡ []
  pub rest : left ≡ Some []
  pub number_last : new.line ≡ number_at lines old.line old.returned text

-- whether a block was found: the first of the text, or that it has none
abbrev pub NextBlock : Bool → List ℕ → Place → Place → Option (List ℕ) → Type 0
NextBlock true text old new left = HasBlock text old new left
NextBlock false text old new left = HasNone text old new left
