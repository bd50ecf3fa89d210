use Rattle.std.proofs.Common.{◌≡◌, ◌++◌, flat_map}
use Rattle.std.specs.Str.{IsUtf8}
use Rattle.std.specs.Str.Iter.{encode_utf16_rest}
use Rattle.x509_prim.specs.Utf16.{unit_bytes, utf16_bytes}
use Rattle.x509_prim.proofs.Units.{units_left}
use Rattle.x509_prim.proofs.bmp_string.RestrictedString+BmpCharSet+A.from_string.Given as goal

abbrev pub invariant-loop-unit : goal.invariant-loop-unit
invariant-loop-unit g l =
    (goal.iterator-loop-unit g).can_next l.unit-iterator
    × (goal.iterator-loop-unit g).is_finite l.unit-iterator
    × IsUtf8 (encode_utf16_rest l.unit-iterator)
    × (l.bytes.items ++ flat_map unit_bytes (units_left l.unit-iterator) ≡ utf16_bytes l.text)
