use Rattle.std.proofs.Common.{◌≡◌, drop}
use Rattle.std.specs.List.{list_any}
use Rattle.x509_findings_parts.specs.Features.{has_feature}
use Rattle.x509_findings_parts.proofs.extension.some_have.Given as goal

-- one of what is left passes where one of all does
abbrev pub invariant-loop-extension : goal.invariant-loop-extension
invariant-loop-extension g l = list_any (has_feature l.feature) (drop l.extension-index l.extensions) ≡ list_any (has_feature l.feature) l.extensions
