-- What a block holds, and what a line does to it.
use Rattle.std.specs.Prelude.{◌≡◌, ◌≢◌, ℕ, ◌+◌, ◌<◌, List, [], ◌++◌, ◌∷◌, ◌≤◌, length, take, ◌⊎◌, Bool, true, false, if◌then◌else◌, Ok, Contains}
use Rattle.base64.specs.Engines.{standard}
use Rattle.base64.specs.GeneralPurpose.{decode_of, encode_of}
use Rattle.x509_pem.specs.Line.{IsBegin, BeginsNone, IsEnd, EndsNone}
use Rattle.x509_pem.specs.Text.{is_line_end, solid}
use Rattle.x509_pem.specs.declared.block.Block.{Block}
use Rattle.x509_pem.specs.declared.fault.Fault.{Fault}
use Rattle.x509_pem.specs.declared.fault.Fault.TheVariants.{LabelMismatch, BadBase64, NoEnd, HasHeaders, TooLong, OutOfMemory}

pub record State : Type 0 where
  pub is_open : Bool
  pub label : List ℕ
  pub text : List ℕ
  pub bytes : List ℕ
  pub begun : ℕ

-- The text of lines that were decoded as they came isn't kept. Since base64 spells bytes in one way, it is what encodes them. While
-- the block is open its bytes aren't all there, and count for none.
abbrev pub state_of : {A : Type 0} → Block A → State
state_of b =
    record {
      is_open = b.is_open;
      label = b.label.items;
      text = encode_of standard b.bytes.items ++ b.text.items;
      bytes = if b.is_open then [] else b.bytes.items;
      begun = b.begun;
    }

abbrev pub limit_of : {A : Type 0} → Block A → ℕ
limit_of b = b.limit

-- the bytes are what the base64 text of the block stands for
abbrev pub IsWhole : State → Type 0
IsWhole b = decode_of standard b.text ≡ Ok b.bytes

-- a block of this label, begun in the line of this number, has no text yet
abbrev pub Opens : List ℕ → ℕ → State → Type 0
Opens label number new = (new.is_open ≡ true) × (new.label ≡ label) × (new.text ≡ []) × (new.begun ≡ number)

-- the symbols stand behind those that came before
abbrev pub Adds : List ℕ → State → State → Type 0
Adds symbols old new =
    (new.is_open ≡ old.is_open) × (new.label ≡ old.label) × (new.text ≡ old.text ++ symbols) × (new.begun ≡ old.begun)

-- a full line of symbols, which is decoded by itself
abbrev pub IsFull : List ℕ → Type 0
IsFull line = (length line ≡ 64) × ((bytes : List ℕ) × (line ≡ encode_of standard bytes))

-- whether a line was taken as a full one; where it wasn't, nothing happened
abbrev pub Decodes : Bool → List ℕ → State → State → Type 0
Decodes true line old new = IsFull line × Adds line old new
Decodes false line old new = new ≡ old

-- whether a full line and its end were taken from the front of some bytes
abbrev pub DecodesFront : Bool → List ℕ → State → State → Type 0
DecodesFront true bytes old new =
    (line : List ℕ) × (end : ℕ) × (65 ≤ length bytes) × (take 65 bytes ≡ line ++ end ∷ []) × (is_line_end end ≡ true) × IsFull line
    × Adds line old new
DecodesFront false bytes old new = new ≡ old

-- the block has ended, and its bytes are what its text stands for
abbrev pub Closes : State → State → Type 0
Closes old new =
    (new.label ≡ old.label) × (new.text ≡ old.text) × IsWhole new × (new.is_open ≡ false) × (new.begun ≡ old.begun)

-- the line ends the block
abbrev pub Ends : List ℕ → State → State → Type 0
Ends line old new = (old.is_open ≡ true) × IsEnd old.label line × Closes old new

-- a line that ends no block, by whether one was open: text of it, of which white space is no part, its beginning, or text around blocks
abbrev pub GoesOn : Bool → ℕ → List ℕ → State → State → Type 0
GoesOn true number line old new = Adds (solid line) old new
GoesOn false number line old new =
    (IsBegin new.label line × Opens new.label number new) ⊎ (BeginsNone line × (new.is_open ≡ false))

-- what the line of a number does that is no fault
abbrev pub Goes : Bool → ℕ → List ℕ → State → State → Type 0
Goes true number line old new = Ends line old new
Goes false number line old new = GoesOn old.is_open number line old new

-- no block is open, and no bytes are shown
abbrev pub GivenUp : State → Type 0
GivenUp new = (new.is_open ≡ false) × (new.bytes ≡ [])

-- why text isn't added: the text of the block would be longer than the limit, or memory is refused
abbrev pub AddsNot : ℕ → Fault → List ℕ → State → Type 0
AddsNot limit LabelMismatch symbols old = ⊥
AddsNot limit BadBase64 symbols old = ⊥
AddsNot limit NoEnd symbols old = ⊥
AddsNot limit HasHeaders symbols old = ⊥
AddsNot limit TooLong symbols old = limit < length old.text + length symbols
AddsNot limit OutOfMemory symbols old = Unit {0}

-- why a line that is no boundary isn't taken: it has a colon, as a header has, or isn't added
abbrev pub TextRefused : ℕ → Fault → List ℕ → State → Type 0
TextRefused limit LabelMismatch line old = ⊥
TextRefused limit BadBase64 line old = ⊥
TextRefused limit NoEnd line old = ⊥
TextRefused limit HasHeaders line old = Contains line 58
TextRefused limit TooLong line old = AddsNot limit TooLong (solid line) old
TextRefused limit OutOfMemory line old = Unit {0}

-- why a label ends no block: it is another, or the text is invalid, or memory is refused
abbrev pub ClosesNot : Fault → List ℕ → State → Type 0
ClosesNot LabelMismatch label old = old.label ≢ label
ClosesNot BadBase64 label old = old.label ≡ label
ClosesNot NoEnd label old = ⊥
ClosesNot HasHeaders label old = ⊥
ClosesNot TooLong label old = ⊥
ClosesNot OutOfMemory label old = Unit {0}

-- Why a line is refused, and what it leaves: the block is given up, but where another begins inside of it, which is open then. Symbols
-- are at most `limit`. Memory may be refused at any line.
abbrev pub Refuses : ℕ → ℕ → Fault → List ℕ → State → State → Type 0
Refuses limit number LabelMismatch line old new =
    (old.is_open ≡ true) × ((label : List ℕ) × IsEnd label line × ClosesNot LabelMismatch label old) × GivenUp new
Refuses limit number BadBase64 line old new =
    (old.is_open ≡ true) × ((label : List ℕ) × IsEnd label line × ClosesNot BadBase64 label old) × GivenUp new
Refuses limit number NoEnd line old new = (old.is_open ≡ true) × IsBegin new.label line × Opens new.label number new
Refuses limit number HasHeaders line old new =
    (old.is_open ≡ true) × EndsNone line × BeginsNone line × Contains line 58 × GivenUp new
Refuses limit number TooLong line old new =
    (old.is_open ≡ true) × EndsNone line × BeginsNone line × AddsNot limit TooLong (solid line) old × GivenUp new
Refuses limit number OutOfMemory line old new = GivenUp new
