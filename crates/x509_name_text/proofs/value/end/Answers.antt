use Rattle.std.proofs.Common.{[], ap, ◌∙◌}
use Rattle.x509_name_text.specs.Texts.{left_text}
use Rattle.x509_name_text.proofs.Escapes.{ends}
use Rattle.x509_name_text.proofs.value.end.Goals as goal

pub returns-in-Space : goal.returns-in-Space
returns-in-Space c = λ shown tells. rw (ap (λ b. left_text shown b []) c.in-Space.is ∙ ends shown tells) c.put.ensures
