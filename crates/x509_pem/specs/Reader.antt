-- What a reader of blocks has: its input, where it is, and what it takes at most.
use Rattle.std.specs.Prelude.{◌≡◌, ℕ, List, ◌⊎◌, Bool, Option, Some, true, false, IfSome, Result, Ok, Err, MatchResult}
use Rattle.x509_pem.specs.Block.{State, state_of, Goes, GivenUp, Refuses}
use Rattle.x509_pem.specs.Line.{Trimmed}
use Rattle.x509_pem.specs.Part.{Counted, IsCut}
use Rattle.x509_pem.specs.Step.{Place, Steps, LineFails, Reads, Fails}
use Rattle.x509_pem.specs.Text.{behind_line}
use Rattle.x509_pem.specs.declared.block.Block.{Block}
use Rattle.x509_pem.specs.declared.fault.Fault.{Fault}
use Rattle.x509_pem.specs.declared.fault.PemError.{PemError}
use Rattle.x509_pem.specs.declared.fault.PemError.TheVariants.{Fault as AtLine, Input}
use Rattle.x509_pem.specs.declared.lines.Lines.{Lines}
use Rattle.x509_pem.specs.declared.reader.PemReader.{PemReader}
use Rattle.x509_pem.specs.declared.reader.Step.{Step}
use Rattle.x509_pem.specs.declared.reader.Step.TheVariants.{Other, BlockEnd}

abbrev pub input_of : {R A : Type 0} → PemReader R A → R
input_of p = p.lines.input

abbrev pub place_at : {R A B : Type 0} → Lines R A → Block B → Place
place_at lines block = record { block = state_of block; line = lines.count; returned = lines.returned }

abbrev pub place_of : {R A : Type 0} → PemReader R A → Place
place_of p = place_at p.lines p.block

abbrev pub block_of : {R A : Type 0} → PemReader R A → State
block_of p = state_of p.block

-- what a line, or that there is none, does to the number of lines
abbrev pub Counts : {R A : Type 0} → Bool → List ℕ → Lines R A → Lines R A → Type 0
Counts some line old new = Counted some line old.count old.returned new.count new.returned

-- a fault with its line
abbrev pub IfFault : PemError → (Fault → ℕ → Type 0) → Type 0
IfFault (AtLine fault line) P = P fault line
IfFault (Input error) P = Unit {0}

abbrev pub limit_of : {R A : Type 0} → PemReader R A → ℕ
limit_of p = p.block.limit

abbrev pub longest_of : {R A : Type 0} → PemReader R A → ℕ
longest_of p = p.lines.limit

-- what a line that was read does, or why it is refused
abbrev pub Takes : ℕ → ℕ → List ℕ → Result Bool Fault → Place → Place → Type 0
Takes limit longest line (Ok ends) old new = Trimmed line (λ r. Goes ends old.line r old.block new.block)
Takes limit longest line (Err fault) old new =
    (IsCut longest fault line × GivenUp new.block) ⊎ Trimmed line (λ r. Refuses limit old.line fault r old.block new.block)

-- the step that a line of a number did
abbrev pub step_of : Result Bool Fault → ℕ → Result Step PemError
step_of (Ok true) line = Ok BlockEnd
step_of (Ok false) line = Ok Other
step_of (Err fault) line = Err (AtLine fault line)

-- what a step does to a known text, or why the first line is refused
abbrev pub Stepped : ℕ → ℕ → Option (List ℕ) → Result Step PemError → Place → Option (List ℕ) → Place → Type 0
Stepped limit longest before result old after new =
    IfSome before (λ text.
    MatchResult result (λ step. Steps step text old after new)
    (λ error. IfFault error (λ fault number.
    (number ≡ new.line) × LineFails limit longest fault text old new × (after ≡ Some (behind_line text)))))

-- what a read up to the next block does to a known text, or why it stops before
abbrev pub Walked : ℕ → ℕ → Option (List ℕ) → Result Bool PemError → Place → Option (List ℕ) → Place → Type 0
Walked limit longest before result old after new =
    IfSome before (λ text.
    MatchResult result (λ found. Reads found text old after new)
    (λ error. IfFault error (λ fault number. (number ≡ new.line) × Fails limit longest fault text old after new)))
