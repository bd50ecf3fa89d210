use Rattle.std.proofs.Common.{◌≡◌, ℕ, ◌+◌, ◌≤◌, Bool, List, length}
use Rattle.x509_name_text.specs.Texts.{AreSets, BackSoFar, NameAttribute, TellsShown, name_text}
use Rattle.x509_name_text.proofs.text.put_back.Given as goal

abbrev pub invariant-sets : goal.invariant-sets
invariant-sets l = (l.counter + length l.left.rest.now ≤ length l.fn.sets.rest.now)
    × (length l.out ≡ length l.fn.out)
    × ((shown : ℕ → Bool) (all : List (List NameAttribute)) → TellsShown shown → AreSets all l.fn.sets.rest.now → length l.fn.out ≡ length (name_text shown all) → BackSoFar shown all l.is_first l.left.rest.now l.at l.out)
