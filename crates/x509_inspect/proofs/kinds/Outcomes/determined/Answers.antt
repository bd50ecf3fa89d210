use Rattle.std.proofs.Common.{◌≡◌, refl, sym, subst, None}
use Rattle.std.proofs.lemmas.Bool.{false≢true}
use Rattle.x509_inspect.specs.Determined.{IsTelling, OnlyOne, all_kinds, outcome_of}
use Rattle.x509_inspect.proofs.Furthest.{everywhere}
use Rattle.x509_inspect.proofs.kinds.Outcomes.determined.Goals as goal

pub returns-else-is_told_by : goal.returns-else-is_told_by
returns-else-is_told_by c =
    let o = c.args.self.now in (
      refl,
      λ none. everywhere (λ k. outcome_of o k ≡ None → ⊥) none c.in-Some.kind c.in-Some.ensures.accepts,
      λ k telling accepts only.
          let e : c.in-Some.kind ≡ k = everywhere (λ other. outcome_of o other ≡ None → other ≡ k) only c.in-Some.kind c.in-Some.ensures.accepts in
          false≢true (c.if-is_told_by.ensures.1 (subst IsTelling (sym e) telling, subst (λ x. OnlyOne o all_kinds x) (sym e) only)),
    )
