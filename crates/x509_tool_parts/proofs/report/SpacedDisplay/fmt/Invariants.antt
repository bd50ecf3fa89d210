use Rattle.std.proofs.Common.{◌∷◌, get_or, take}
use Rattle.std.specs.Fmt.{HasWritten, IsPlainFormatter}
use Rattle.x509_tool_parts.specs.Output.{spaced}
use Rattle.x509_tool_parts.proofs.report.SpacedDisplay.fmt.Given as goal

abbrev pub invariant-loop-count : goal.invariant-loop-count
invariant-loop-count g l =
    IsPlainFormatter l.fn.f → HasWritten g.W.Write.write_str_gives l.fn.f (spaced (get_or l.self.0.now 0 0 ∷ take l.count-index l.rest)) l.f
