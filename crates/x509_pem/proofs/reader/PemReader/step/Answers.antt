use Rattle.std.specs.Prelude.{Bool, IfSome}
use Rattle.std.proofs.Common.{subst}
use Rattle.x509_pem.specs.Step.{Skips}
use Rattle.x509_pem.specs.Reader.{place_of}
use Rattle.x509_pem.proofs.Walk.{stepped_on}
use Rattle.x509_pem.proofs.reader.PemReader.step.Goals as goal

pub returns-in-Ok-false-clause-stepped : goal.returns-in-Ok-false-clause-stepped
returns-in-Ok-false-clause-stepped g c =
    let self = c.args.self.now in
    let mid = c.take_full.new.self in
    let new = c.read_line.new.self in
    let P : Bool → Type 0 =
    λ b. IfSome (g.R.Read.remaining self.lines.input) (λ text. Skips b text (place_of self) (g.R.Read.remaining mid.lines.input) (place_of mid)) in
    stepped_on self.block.limit self.lines.limit mid.block.limit mid.lines.limit (g.R.Read.remaining self.lines.input)
    (g.R.Read.remaining mid.lines.input) (g.R.Read.remaining new.lines.input) (place_of self) (place_of mid) (place_of new)
    c.read_line.result c.in-Ok-false.ensures.limits.0 c.in-Ok-false.ensures.limits.1 (subst P c.in-Ok-false.field-0-test c.in-Ok-false.ensures.taken)
    c.read_line.ensures.stepped
