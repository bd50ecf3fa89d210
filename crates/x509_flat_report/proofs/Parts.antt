-- A report of its parts.
use Rattle.std.proofs.Common.{◌≡◌, ◌++◌, ◌∙◌, ℕ, List, Result, Ok, Err, IfOk, IfErr, ap, length}
use Rattle.x509_der.specs.Types.{Refused}
use Rattle.x509_inspect.specs.Outcomes.{Counts, NotRead}
use Rattle.x509_inspect.specs.Shapes.{Value, shape_of}
use Rattle.x509_inspect_parts.specs.declared.kind.Kind.{Kind}
use Rattle.x509_outline_kinds.specs.Outcomes.{NotRead as NoOutline}
use Rattle.x509_outline_kinds.specs.Shapes.{Value as OutlineValue, shape_of as outline_shape_of}
use Rattle.x509_outline_kinds.specs.declared.kind.OutlineKind.{OutlineKind}
use Rattle.x509_flat_report.specs.Reports.{ComesTo, IsReport, IsWord, beginning_of, name_of}
use Rattle.x509_flat_report.specs.declared.reading.Reading.{Reading}
use Rattle.x509_flat_report.specs.declared.reading.Reading.TheVariants as reading

pub whole_comes : (A : Type 0) (k : Kind) (bytes : List ℕ) (o : Result ℕ Refused) → IfOk o (Counts (Value A k) (shape_of A k) bytes) → IfErr o (NotRead (Value A k) (shape_of A k) bytes) → ComesTo A (reading.Whole k) bytes o
whole_comes A k bytes (Ok n) read refused = read
whole_comes A k bytes (Err why) read refused = refused

pub outline_comes : (A : Type 0) (k : OutlineKind) (bytes : List ℕ) (o : Result ℕ Refused) → IfOk o (Counts (OutlineValue A k) (outline_shape_of A k) bytes) → IfErr o (NoOutline (OutlineValue A k) (outline_shape_of A k) bytes) → ComesTo A (reading.Outline k) bytes o
outline_comes A k bytes (Ok n) read refused = read
outline_comes A k bytes (Err why) read refused = refused

-- what it begins with, and more
pub report_of : (A : Type 0) (r : Reading) (bytes : List ℕ) (o : Result ℕ Refused) (word begun more text : List ℕ) → ComesTo A r bytes o → IsWord o word
    → begun ≡ beginning_of (name_of r) (length bytes) word → text ≡ begun ++ more → IsReport A r bytes text
report_of A r bytes o word begun more text comes said begins whole =
    record { outcome = o; comes = comes; word = word; said = said; more = more; begins = whole ∙ ap (λ x. x ++ more) begins }
