use Rattle.std.proofs.Common.{refl, ◌∙◌}
use Rattle.x509_names.specs.facts.GeneralNames.{general_first, general_second}
use Rattle.x509_names.proofs.general_name.GeneralNameJudgeFields.judge.Goals as goal

pub returns-then-brief : goal.returns-then-brief
returns-then-brief g c = λ f e. let k = general_first f (e ∙ c.if-brief.true) in (k.0, k.1, refl)

pub returns-else-brief : goal.returns-else-brief
returns-else-brief g c = λ f e. let k = general_second f (e ∙ c.if-brief.false) in (k.0, k.1, refl)
