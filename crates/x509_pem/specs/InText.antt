-- The blocks of a text in memory, by their places in it.
use Rattle.std.specs.Prelude.{◌≡◌, ◌≢◌, ℕ, zero, suc, ◌+◌, ◌-◌, ◌<◌, ◌≤◌, List, [], ◌⊎◌, Bool, Option, Some, None, Ok, false, Contains, take, drop, length, slice_index}
use Rattle.base64.specs.Engines.{standard}
use Rattle.base64.specs.GeneralPurpose.{decode_of}
use Rattle.x509_pem.specs.Line.{IsBegin, BeginsNone, IsEnd, EndsNone, Trimmed}
use Rattle.x509_pem.specs.Text.{line_of, behind_line, ends_return, number_behind, number_at, solid}
use Rattle.x509_pem.specs.Step.{Place}
use Rattle.x509_pem.specs.Whole.{drop_lines, take_lines, HasBlock, NoneBegins}
use Rattle.x509_pem.specs.declared.cursor.Cursor.{Cursor}
use Rattle.x509_pem.specs.declared.fault.Fault.{Fault}
use Rattle.x509_pem.specs.declared.fault.Fault.TheVariants.{LabelMismatch, BadBase64, NoEnd, HasHeaders, TooLong, OutOfMemory}
use Rattle.x509_pem.specs.declared.in_text.Begun.{Begun}
use Rattle.x509_pem.specs.declared.in_text.Inner.{Inner}
use Rattle.x509_pem.specs.declared.in_text.Inner.TheVariants.{Text as Inside, Stop as Stopped}
use Rattle.x509_pem.specs.declared.in_text.Span.{Span}
use Rattle.x509_pem.specs.declared.in_text.Stop.{Stop}
use Rattle.x509_pem.specs.declared.in_text.TextBlock.{TextBlock}

-- the bytes of a text from a place up to another
abbrev pub between : List ℕ → ℕ → ℕ → List ℕ
between text start end = take (end - start) (drop start text)

abbrev pub at_span : List ℕ → Span → List ℕ
at_span text s = between text s.start s.end

-- whether CR stands right before a place
abbrev pub returned_at : List ℕ → ℕ → Bool
returned_at text at = ends_return (take at text)

-- a line leads from a place to the one behind it
pub record Passes (text : List ℕ) (old new : Cursor) : Type 0 where
  pub line : between text old.at new.at ≡ line_of (drop old.at text)
  pub rest : drop new.at text ≡ behind_line (drop old.at text)
  pub low : old.at < new.at
  pub high : new.at ≤ length text
  pub number : new.line ≡ number_behind old.line old.returned (line_of (drop old.at text))
  pub return : new.returned ≡ ends_return (line_of (drop old.at text))

-- n lines lead from a place to a place: lines from there on are those n lines further, and have their numbers
pub record PassesAll (n : ℕ) (text : List ℕ) (old new : Cursor) : Type 0 where
  pub rest : drop new.at text ≡ drop_lines n (drop old.at text)
  pub low : old.at ≤ new.at
  pub high : old.at ≤ length text → new.at ≤ length text
  pub numbers : (k : ℕ) → number_at k new.line new.returned (drop new.at text)
      ≡ number_at (n + k) old.line old.returned (drop old.at text)

-- a line of a block's text is neither a boundary nor a header (RFC 1421, 4.6)
abbrev pub IsInside : List ℕ → Type 0
IsInside line = BeginsNone line × EndsNone line × ((k : ℕ) → k < length line → slice_index line k ≢ 58)

abbrev pub AllInside : ℕ → List ℕ → Type 0
AllInside zero text = Unit {0}
AllInside (suc n) text = Trimmed (line_of text) IsInside × AllInside n (behind_line text)

-- a line of a block that is none of its text: it ends the block, or it is what is wrong
abbrev pub StopsIn : Option Fault → List ℕ → List ℕ → Type 0
StopsIn None label line = IsEnd label line
StopsIn (Some LabelMismatch) label line = (other : List ℕ) × IsEnd other line × (label ≢ other)
StopsIn (Some BadBase64) label line = ⊥
StopsIn (Some NoEnd) label line = (other : List ℕ) × IsBegin other line
StopsIn (Some HasHeaders) label line = BeginsNone line × EndsNone line × Contains line 58
StopsIn (Some TooLong) label line = ⊥
StopsIn (Some OutOfMemory) label line = ⊥

-- what stands behind the lines of a block's text: such a line, or the end of the text
abbrev pub StopsBy : List ℕ → List ℕ → Option Fault → Cursor → Cursor → Type 0
StopsBy text label fault stop behind =
    (Trimmed (line_of (drop stop.at text)) (StopsIn fault label) × Passes text stop behind)
    ⊎ ((drop stop.at text ≡ []) × (fault ≡ Some NoEnd) × (behind ≡ stop))

-- where the next block is looked for: behind the line that ended the block, but at the line that began another
abbrev pub GoesOnAt : Option Fault → Cursor → Cursor → Cursor → Type 0
GoesOnAt None stop behind left = left ≡ behind
GoesOnAt (Some LabelMismatch) stop behind left = left ≡ behind
GoesOnAt (Some BadBase64) stop behind left = left ≡ behind
GoesOnAt (Some NoEnd) stop behind left = left ≡ stop
GoesOnAt (Some HasHeaders) stop behind left = left ≡ behind
GoesOnAt (Some TooLong) stop behind left = left ≡ behind
GoesOnAt (Some OutOfMemory) stop behind left = left ≡ behind

-- lines of a block's text lead from behind its first line to what stops it
pub record StopsAt (text label : List ℕ) (start : Cursor) (s : Stop) : Type 0 where
  pub lines : ℕ
  pub inside : AllInside lines (drop start.at text)
  pub passes : PassesAll lines text start s.there
  pub stops : StopsBy text label s.fault s.there s.behind

-- what a line is said to be inside of a block of a label
abbrev pub InnerSays : Inner → List ℕ → List ℕ → Type 0
InnerSays Inside label line = IsInside line
InnerSays (Stopped fault) label line = StopsIn fault label line

-- no line from a cursor on begins a block
pub record NoBlock (text : List ℕ) (start : Cursor) : Type 0 where
  pub lines : ℕ
  pub none : NoneBegins lines (drop start.at text)
  pub whole : drop_lines lines (drop start.at text) ≡ []

-- the next line that begins a block
pub record BegunAt (text : List ℕ) (start : Cursor) (b : Begun) : Type 0 where
  pub before : ℕ
  pub first : NoneBegins before (drop start.at text)
  pub begins : Trimmed (line_of (drop_lines before (drop start.at text))) (IsBegin (at_span text b.label))
  pub passes : PassesAll (suc before) text start b.behind
  pub further : start.at < b.behind.at
  pub label_low : b.label.start ≤ b.label.end
  pub label_high : b.label.end ≤ length text
  pub high : b.behind.at ≤ length text

-- A block of a text from a cursor on: behind lines of which none begins a block stands one that does, then the lines of its text, and
-- then what ends the block, or what is wrong.
pub record BlockAt (text : List ℕ) (start : Cursor) (b : TextBlock) : Type 0 where
  pub before : ℕ
  pub first : NoneBegins before (drop start.at text)
  pub begins : Trimmed (line_of (drop_lines before (drop start.at text))) (IsBegin (at_span text b.label))
  pub lines : ℕ
  pub inside : AllInside lines (behind_line (drop_lines before (drop start.at text)))
  pub symbols : take_lines lines (behind_line (drop_lines before (drop start.at text))) ≡ at_span text b.symbols
  pub number_first : b.first_line ≡ number_at (suc before) start.line start.returned (drop start.at text)
  pub stop : Cursor
  pub behind : Cursor
  pub passes : PassesAll (lines + suc before) text start stop
  pub stops : StopsBy text (at_span text b.label) b.fault stop behind
  pub number_last : b.last_line ≡ behind.line
  pub next : GoesOnAt b.fault stop behind b.next
  pub further : (start.at < b.next.at) × (b.next.at ≤ length text)
  pub label_within : (b.label.start ≤ b.label.end) × (b.label.end ≤ length text)
  pub symbols_within : (b.symbols.start ≤ b.symbols.end) × (b.symbols.end ≤ length text)

-- the block that a line begins and another stops
abbrev pub IsMadeOf : Begun → Stop → TextBlock → Type 0
IsMadeOf begun stop b =
    (b.fault ≡ stop.fault) × (b.label ≡ begun.label) × (b.symbols ≡ record { start = begun.behind.at; end = stop.there.at })
    × (b.first_line ≡ begun.behind.line) × (b.last_line ≡ stop.behind.line) × GoesOnAt stop.fault stop.there stop.behind b.next

-- where a reader of a stream is at a place of the text, outside of blocks, and behind a block of these bytes
abbrev pub place_at : Cursor → Place
place_at c = record { block = record { is_open = false; label = []; text = []; bytes = []; begun = 0 }; line = c.line; returned = c.returned }

abbrev pub place_behind : List ℕ → TextBlock → List ℕ → Place
place_behind text b bytes =
    record {
      block = record {
        is_open = false;
        label = at_span text b.label;
        text = solid (at_span text b.symbols);
        bytes = bytes;
        begun = b.first_line;
      };
      line = b.last_line;
      returned = b.next.returned;
    }

-- a block whose text decodes is the one that a reader of a stream finds
abbrev pub IsRead : List ℕ → Cursor → TextBlock → Type 0
IsRead text start b =
    (bytes : List ℕ) → b.fault ≡ None → decode_of standard (solid (at_span text b.symbols)) ≡ Ok bytes
    → HasBlock (drop start.at text) (place_at start) (place_behind text b bytes) (Some (drop b.next.at text))
