use Rattle.std.proofs.Common.{◌∙◌, arith}
use Rattle.x509_prim.specs.Utf16.{units}
use Rattle.x509_prim.proofs.Units.{unit_step, units_end, bytes_step, bytes_end, unit_pairs}
use Rattle.x509_prim.proofs.bmp_string.RestrictedString+BmpCharSet+A.from_string.Goals as goal

pub loop-unit-preserved : goal.loop-unit-preserved
loop-unit-preserved g c =
    let step = unit_step c.loop-unit.unit-iterator c.next.new.self c.in-Some.unit c.loop-unit.invariant.2 c.in-Some.ensures.steps in
    rw c.in_ok-extend_from_slice.ensures.items (tt, tt, step.0, rw c.to_be_bytes.ensures (bytes_step _ _ c.loop-unit.unit-iterator c.next.new.self c.in-Some.unit (omega arith) step.1 c.loop-unit.invariant.3))

pub from_allowed-requires : goal.from_allowed-requires
from_allowed-requires g c =
    let none = units_end c.loop-unit.unit-iterator c.next.new.self c.in-None.ensures.steps in
    let whole = bytes_end c.loop-unit.bytes.items _ c.loop-unit.unit-iterator none c.loop-unit.invariant.3 in
    rw whole (unit_pairs (units c.args.text.now))

pub returns : goal.returns
returns g c =
    let none = units_end c.loop-unit.unit-iterator c.next.new.self c.in-None.ensures.steps in
    c.from_allowed.ensures ∙ bytes_end c.loop-unit.bytes.items _ c.loop-unit.unit-iterator none c.loop-unit.invariant.3
