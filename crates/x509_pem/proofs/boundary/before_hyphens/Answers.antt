use Rattle.std.proofs.Common.{◌≡◌, ◌≢◌, ◌++◌, ℕ, List, subst, MatchOption}
use Rattle.std.proofs.lemmas.Bool.Decides.{Decides-eqb}
use Rattle.std.proofs.lemmas.Slice.Eq.{strip_suffix_is}
use Rattle.x509_pem.proofs.boundary.before_hyphens.Goals as goal

pub returns : goal.returns
returns c =
    let P : List ℕ → Type 0 = λ t. MatchOption c.strip_suffix.result ((rest : List ℕ) → c.args.line.now ≢ rest ++ t) (λ rest. c.args.line.now ≡ rest.now ++ t) in
    subst P c.as_slice.ensures (strip_suffix_is Decides-eqb c.args.line.now c.as_slice.result.now c.strip_suffix.result c.strip_suffix.ensures.cases)
