use Rattle.std.proofs.Common.{ℕ, ◌+◌, ◌≤◌, Bool, length}
use Rattle.std.specs.Char.Utf16.{utf16_lossy_chars}
use Rattle.x509_name_text.specs.Texts.{TellsShown, WritesTo, units_of}
use Rattle.x509_name_text.proofs.value.put_utf16.Given as goal

abbrev pub invariant-symbols : goal.invariant-symbols
invariant-symbols l = (l.counter + length l.rest ≤ length l.fn.text)
    × ((shown : ℕ → Bool) → TellsShown shown → WritesTo shown (utf16_lossy_chars (units_of l.fn.text)) (utf16_lossy_chars (units_of l.rest)) l.fn.at l.fn.out l.so_far l.out)
