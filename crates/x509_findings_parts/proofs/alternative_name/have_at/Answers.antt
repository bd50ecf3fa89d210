use Rattle.std.proofs.Common.{sym, ◌∙◌}
use Rattle.x509_findings_parts.specs.AlternativeNames.{is_at}
use Rattle.x509_findings_parts.proofs.FirstFeature.{had_nowhere}
use Rattle.x509_findings_parts.proofs.alternative_name.have_at.Goals as goal

pub returns : goal.returns
returns c = sym (had_nowhere is_at c.args.characters.now c.loop-character.character-index c.loop-character-test.false) ∙ c.loop-character.invariant
