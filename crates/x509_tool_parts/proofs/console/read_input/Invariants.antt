use Rattle.std.specs.Io.KnownBytes.{Consumes}
use Rattle.x509_tool_parts.proofs.console.read_input.Given as goal

-- what the reader gave up so far is the input
abbrev pub invariant-loop : goal.invariant-loop
invariant-loop g l = Consumes (g.R.Read.remaining l.fn.reader) (g.R.Read.remaining l.reader) l.input.items
