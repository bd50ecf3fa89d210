use Rattle.std.proofs.Common.{◌≡◌, true, take}
use Rattle.std.specs.Fmt.{HasWritten, IsPlainFormatter}
use Rattle.x509_names.specs.NameTexts.{texts}
use Rattle.x509_names.specs.facts.NameTexts.{in_sets, is_empty}
use Rattle.x509_names.proofs.pretty.write_sets.Given as goal

abbrev pub invariant-loop-set : goal.invariant-loop-set
invariant-loop-set g l =
    (l.first ≡ is_empty (in_sets (take l.set-index l.sets)))
    × (IsPlainFormatter l.fn.f → HasWritten g.W.Write.write_str_gives l.fn.f (texts true (in_sets (take l.set-index l.sets))) l.f)
