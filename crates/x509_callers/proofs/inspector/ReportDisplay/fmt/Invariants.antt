use Rattle.std.proofs.Common.{take}
use Rattle.std.specs.Fmt.{HasWritten, IsPlainFormatter}
use Rattle.x509_callers.specs.Reports.{place_lines}
use Rattle.x509_callers.proofs.inspector.ReportDisplay.fmt.Given as goal

-- the lines so far are written
abbrev pub invariant-loop-place : goal.invariant-loop-place
invariant-loop-place g l = IsPlainFormatter l.fn.f → HasWritten g.W.Write.write_str_gives l.fn.f (place_lines (take l.place-index l.self.0.now)) l.f
