use Rattle.std.proofs.Common.{refl, sym, ◌∙◌}
use Rattle.x509_der.specs.facts.Retagged.{retagged}
use Rattle.x509_der.proofs.laws.implicit_tags.Goals as goal

pub returns-clause-own : goal.returns-clause-own
returns-clause-own g c = λ v p y a. (g.met.T.OneTag.spelled_around v p y).0 a

pub returns-clause-content : goal.returns-clause-content
returns-clause-content g c = λ v content y.
    let around = g.met.T.OneTag.spelled_around v _ y in
    (λ a. around.1 (retagged _ g.N.Tag.BYTE g.T.OneTag.tag v content y a), λ a. retagged _ g.T.OneTag.tag g.N.Tag.BYTE v content y (around.0 a))

pub returns-clause-strict : goal.returns-clause-strict
returns-clause-strict g c = λ v. (g.met.T.OneTag.strict_around v, refl)

pub returns-clause-form : goal.returns-clause-form
returns-clause-form g c = g.met.N.TagOf.form ∙ sym g.met.T.OneTag.form
