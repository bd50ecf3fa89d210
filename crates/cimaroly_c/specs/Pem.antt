-- What the exports for PEM answer.
use Rattle.std.specs.Prelude.{◌≡◌, ℕ, ◌*◌, ◌/◌, ◌<◌, ◌≤◌, List, ◌⊎◌, Ok, Option, Some, None, take, drop, length}
use Rattle.base64.specs.Engines.{standard}
use Rattle.base64.specs.GeneralPurpose.{decode_of}
use Rattle.x509_pem.specs.Decoding.{SpellsNone}
use Rattle.x509_pem.specs.InText.{BlockAt, IsRead, NoBlock, at_span, returned_at}
use Rattle.x509_pem.specs.Text.{solid}
use Rattle.x509_pem.specs.declared.cursor.Cursor.{Cursor}
use Rattle.x509_pem.specs.declared.fault.Fault.{Fault}
use Rattle.x509_pem.specs.declared.fault.Fault.TheVariants.{LabelMismatch, BadBase64, NoEnd, HasHeaders, TooLong, OutOfMemory}
use Rattle.x509_pem.specs.declared.in_text.Span.{Span}
use Rattle.x509_pem.specs.declared.in_text.TextBlock.{TextBlock}
use Rattle.cimaroly_c.specs.declared.pem.FlatBlock.{FlatBlock}

abbrev pub nowhere : Span
nowhere = record { start = 0; end = 0 }

abbrev pub no_block : FlatBlock
no_block =
    record { label = nowhere; symbols = nowhere; room = 0; first_line = 0; last_line = 0; next = 0; next_line = 0 }

-- three bytes for four symbols
abbrev pub room_of : List ℕ → ℕ
room_of text = length (solid text) / 4 * 3

abbrev pub flat_block : List ℕ → TextBlock → FlatBlock
flat_block text b =
    record {
      label = b.label;
      symbols = b.symbols;
      room = room_of (at_span text b.symbols);
      first_line = b.first_line;
      last_line = b.last_line;
      next = b.next.at;
      next_line = b.next.line;
    }

abbrev pub fault_number : Option Fault → ℕ
fault_number None = 0
fault_number (Some LabelMismatch) = 2
fault_number (Some NoEnd) = 3
fault_number (Some HasHeaders) = 4
fault_number (Some BadBase64) = 5
fault_number (Some TooLong) = 5
fault_number (Some OutOfMemory) = 5

-- where a text is read on, behind so many bytes and lines
abbrev pub cursor_at : List ℕ → ℕ → ℕ → Cursor
cursor_at text at line = record { at = at; line = line; returned = returned_at text at }

-- the next block, or that there is none
abbrev pub BlockTold : List ℕ → ℕ → ℕ → ℕ → FlatBlock → Type 0
BlockTold text at line answer told =
    ((b : TextBlock) × BlockAt text (cursor_at text at line) b × IsRead text (cursor_at text at line) b
    × (answer ≡ fault_number b.fault) × (told ≡ flat_block text b))
    ⊎ (NoBlock text (cursor_at text at line) × (answer ≡ 1) × (told ≡ no_block))

-- what is decoded stands at the front of the buffer, or the text is refused, or the buffer is too short
abbrev pub DecodesTo : List ℕ → List ℕ → List ℕ → ℕ → ℕ → Type 0
DecodesTo text old new status size =
    ((status ≡ 0) × (size ≤ length new) × (decode_of standard (solid text) ≡ Ok (take size new)) × (drop size new ≡ drop size old))
    ⊎ (((status ≡ 1) × (size ≡ 0) × SpellsNone (solid text))
    ⊎ ((status ≡ 3) × (size ≡ room_of text) × (length old < size) × (new ≡ old)))
