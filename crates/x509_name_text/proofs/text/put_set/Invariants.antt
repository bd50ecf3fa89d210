use Rattle.std.proofs.Common.{ℕ, ◌+◌, ◌≤◌, Bool, List, length}
use Rattle.x509_name_text.specs.Texts.{AreAttributes, NameAttribute, SetSoFar, TellsShown}
use Rattle.x509_name_text.proofs.text.put_set.Given as goal

abbrev pub invariant-attributes : goal.invariant-attributes
invariant-attributes l = (l.counter + length l.attributes.rest.now ≤ length l.fn.set.rest.now)
    × ((shown : ℕ → Bool) (all : List NameAttribute) → TellsShown shown → AreAttributes all l.fn.set.rest.now → SetSoFar shown all l.fn.at l.fn.out l.is_first l.attributes.rest.now l.at l.out)
