use Rattle.std.proofs.Common.{◌≡◌, drop}
use Rattle.std.specs.List.{list_any}
use Rattle.x509_findings_parts.specs.AlternativeNames.{is_at}
use Rattle.x509_findings_parts.proofs.alternative_name.have_at.Given as goal

-- one of what is left is an @ where one of all is
abbrev pub invariant-loop-character : goal.invariant-loop-character
invariant-loop-character l = list_any is_at (drop l.character-index l.characters) ≡ list_any is_at l.characters
