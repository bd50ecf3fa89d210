-- What the reader does line by line.
use Rattle.std.specs.Prelude.{◌≡◌, ℕ, zero, suc, List, [], ◌∷◌, ◌++◌, ◌⊎◌, Bool, Option, Some, None, true, false}
use Rattle.std.specs.Io.KnownBytes.{Keeps, Consumes}
use Rattle.x509_pem.specs.Block.{State, Goes, GivenUp, Refuses, IsFull, Adds}
use Rattle.x509_pem.specs.Line.{Trimmed}
use Rattle.x509_pem.specs.Part.{IsCut}
use Rattle.x509_pem.specs.Text.{is_line_end, line_of, behind_line, number_behind, ends_return}
use Rattle.x509_pem.specs.declared.fault.Fault.{Fault}
use Rattle.x509_pem.specs.declared.fault.Fault.TheVariants.{NoEnd}
use Rattle.x509_pem.specs.declared.reader.Step.{Step}
use Rattle.x509_pem.specs.declared.reader.Step.TheVariants.{Other, BlockEnd, InputEnd}

-- where the reader is: its block, the number of the line that was read last, and whether CR ended that
pub record Place : Type 0 where
  pub block : State
  pub line : ℕ
  pub returned : Bool

-- the line is the next
abbrev pub Numbered : List ℕ → Place → Place → Type 0
Numbered line old new = (new.line ≡ number_behind old.line old.returned line) × (new.returned ≡ ends_return line)

-- the first line of the text, less the white space at its ends, does that
abbrev pub LineGoes : Bool → List ℕ → Place → Place → Type 0
LineGoes ends text old new =
    Trimmed (line_of text) (λ line. Goes ends new.line line old.block new.block) × Numbered (line_of text) old new

-- the first line of the text is refused, since it is too long itself, or by what it does
abbrev pub LineFails : ℕ → ℕ → Fault → List ℕ → Place → Place → Type 0
LineFails limit longest fault text old new =
    ((IsCut longest fault (line_of text) × GivenUp new.block)
    ⊎ Trimmed (line_of text) (λ line. Refuses limit new.line fault line old.block new.block))
    × Numbered (line_of text) old new

-- n lines of a text lead from a place to a place, and none of them ends a block; what is left of the text
abbrev pub Walks : ℕ → List ℕ → Place → List ℕ → Place → Type 0
Walks zero text old left new = (left ≡ text) × (new ≡ old)
Walks (suc n) text old left new =
    (between : Place) × LineGoes false text old between × Walks n (behind_line text) between left new

-- lines that end no block, and then one that ends one, or the end of the text outside of a block
abbrev pub Reads : Bool → List ℕ → Place → Option (List ℕ) → Place → Type 0
Reads true text old left new =
    (n : ℕ) × (rest : List ℕ) × (last : Place) × Walks n text old rest last × LineGoes true rest last new
    × (left ≡ Some (behind_line rest))
Reads false text old left new = (n : ℕ) × Walks n text old [] new × (new.block.is_open ≡ false) × (left ≡ Some [])

-- the text ends inside of a block, which is given up
abbrev pub EndsInside : Fault → List ℕ → Place → Place → Type 0
EndsInside fault rest old new =
    (fault ≡ NoEnd) × (rest ≡ []) × (old.block.is_open ≡ true) × GivenUp new.block × (new.line ≡ old.line)

-- lines that end no block, and then one that is refused, or the end of the text inside of a block
abbrev pub Fails : ℕ → ℕ → Fault → List ℕ → Place → Option (List ℕ) → Place → Type 0
Fails limit longest fault text old left new =
    (n : ℕ) × (rest : List ℕ) × (last : Place) × Walks n text old rest last
    × (LineFails limit longest fault rest last new ⊎ EndsInside fault rest last new) × (left ≡ Some (behind_line rest))

-- whether a full line was taken from what a reader has left
abbrev pub TakesFull : Bool → Option (List ℕ) → Option (List ℕ) → Place → Place → Type 0
TakesFull true before after old new =
    (line : List ℕ) × (end : ℕ) × Consumes before after (line ++ end ∷ []) × (is_line_end end ≡ true) × IsFull line
    × Adds line old.block new.block × Numbered (line ++ end ∷ []) old new
TakesFull false before after old new = Keeps before after × (new ≡ old)

abbrev pub Steps : Step → List ℕ → Place → Option (List ℕ) → Place → Type 0
Steps Other text old left new = LineGoes false text old new × (left ≡ Some (behind_line text))
Steps BlockEnd text old left new = LineGoes true text old new × (left ≡ Some (behind_line text))
Steps InputEnd text old left new = (text ≡ []) × (left ≡ Some []) × (new ≡ old)

-- whether the line was taken as a full one; where it wasn't, nothing happened
abbrev pub Skips : Bool → List ℕ → Place → Option (List ℕ) → Place → Type 0
Skips true text old left new = Steps Other text old left new
Skips false text old left new = (left ≡ Some text) × (new ≡ old)

-- where the text is known, some lines that end no block led from a place to a place
abbrev pub WalkedTo : Option (List ℕ) → Place → Option (List ℕ) → Place → Type 0
WalkedTo None old left new = Unit {0}
WalkedTo (Some text) old left new = (n : ℕ) × (rest : List ℕ) × (left ≡ Some rest) × Walks n text old rest new
