use Rattle.std.proofs.Common.{◌≡◌, ◌&&◌, take}
use Rattle.std.specs.Fmt.{HasWritten, IsPlainFormatter}
use Rattle.x509_names.specs.NameTexts.{texts}
use Rattle.x509_names.specs.facts.NameTexts.{is_empty}
use Rattle.x509_names.proofs.pretty.write_set.Given as goal

abbrev pub invariant-loop-attribute : goal.invariant-loop-attribute
invariant-loop-attribute g l =
    (l.none_yet ≡ (l.fn.first && is_empty (take l.attribute-index l.attributes)))
    × (IsPlainFormatter l.fn.f → HasWritten g.W.Write.write_str_gives l.fn.f (texts l.fn.first (take l.attribute-index l.attributes)) l.f)
