use Rattle.std.proofs.Common.{ℕ, ◌+◌, ◌≤◌, Bool, List, length}
use Rattle.x509_name_text.specs.Texts.{AreSets, LenSoFar, NameAttribute, TellsShown}
use Rattle.x509_name_text.proofs.text.text_len.Given as goal

abbrev pub invariant-sets : goal.invariant-sets
invariant-sets l = (l.counter + length l.left.rest.now ≤ length l.fn.sets.rest.now)
    × ((shown : ℕ → Bool) (all : List (List NameAttribute)) → TellsShown shown → AreSets all l.fn.sets.rest.now → LenSoFar shown all l.is_first l.left.rest.now l.len)
