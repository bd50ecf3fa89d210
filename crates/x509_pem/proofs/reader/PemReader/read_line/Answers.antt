use Rattle.std.specs.Prelude.{Bool, IfSome}
use Rattle.std.proofs.Common.{ℕ, List, subst, ap, ◌∙◌}
use Rattle.x509_pem.specs.Part.{IsHeld}
use Rattle.x509_pem.specs.Reader.{Counts, Takes, place_at, place_of}
use Rattle.x509_pem.specs.Text.{line_of}
use Rattle.x509_pem.proofs.Walk.{line_taken}
use Rattle.x509_pem.proofs.reader.PemReader.read_line.Goals as goal

pub returns-in-Ok-true-clause-stepped : goal.returns-in-Ok-true-clause-stepped
returns-in-Ok-true-clause-stepped g c =
    let self = c.args.self.now in
    let lines = c.fill.new.self in
    let new = c.take_held-taken.new.self in
    let T : ℕ → Type 0 =
    λ k. (line : List ℕ) → IsHeld k lines.lack lines.held.items line
    → Takes self.block.limit k line c.take_held-taken.result (place_at lines self.block) (place_of new) in
    let N : Bool → Type 0 =
    λ b. IfSome (g.R.Read.remaining self.lines.input) (λ text. Counts b (line_of text) self.lines lines) in
    line_taken self.block.limit self.lines.limit (g.R.Read.remaining self.lines.input) (g.R.Read.remaining new.lines.input)
    (g.R.Read.remaining lines.input) lines.lack lines.held.items c.take_held-taken.result c.step_of.result c.count.result
    (place_of self) lines.count lines.returned (place_of new) c.in-Ok-true.ensures.held (subst N c.in-Ok-true.field-0-test c.in-Ok-true.ensures.number)
    c.in-Ok-true.ensures.left (ap (λ l. g.R.Read.remaining l.input) c.take_held-taken.ensures.input)
    (subst T c.in-Ok-true.ensures.limit c.take_held-taken.ensures.takes) (ap (λ l. l.count) c.take_held-taken.ensures.input)
    (ap (λ l. l.returned) c.take_held-taken.ensures.input) (c.count.ensures ∙ ap (λ l. l.count) c.take_held-taken.ensures.input)
    c.step_of.ensures
