use Rattle.std.proofs.Common.{ℕ, Bool, IsUtf8, chars}
use Rattle.std.specs.Str.Iter.{chars_rest}
use Rattle.x509_name_text.specs.Texts.{TellsShown, WritesTo}
use Rattle.x509_name_text.proofs.value.put_text.Given as goal

abbrev pub invariant-symbols : goal.invariant-symbols
invariant-symbols l = IsUtf8 (chars_rest l.symbol-iterator)
    × ((shown : ℕ → Bool) → TellsShown shown → WritesTo shown (chars l.fn.text) (chars (chars_rest l.symbol-iterator)) l.fn.at l.fn.out l.so_far l.out)
