use Rattle.std.proofs.Common.{sym, ◌∙◌}
use Rattle.picky_asn1_x509.specs.facts.Requests.{info_agrees}
use Rattle.picky_asn1_x509.proofs.laws.request_signed_part.Goals as goal

pub returns : goal.returns
returns g c = λ v string slice inside outside f. let a = info_agrees v.certification_request_info in (λ e. f.strict.0 (e ∙ sym a), λ n. f.strict.1 n ∙ a)
