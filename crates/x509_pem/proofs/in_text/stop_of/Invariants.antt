use Rattle.std.proofs.Common.{ℕ, ◌-◌, drop, length}
use Rattle.x509_pem.specs.InText.{AllInside, PassesAll}
use Rattle.x509_pem.proofs.in_text.stop_of.Given as goal

abbrev pub invariant-lines : goal.invariant-lines
invariant-lines l = (n : ℕ) × AllInside n (drop l.fn.start.at l.text) × PassesAll n l.text l.fn.start l.cursor

abbrev pub decreases-lines : goal.decreases-lines
decreases-lines l = length l.text - l.cursor.at
