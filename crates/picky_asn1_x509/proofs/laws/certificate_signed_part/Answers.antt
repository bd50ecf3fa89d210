use Rattle.std.proofs.Common.{sym, ◌∙◌}
use Rattle.picky_asn1_x509.specs.facts.TbsCertificates.{tbs_agrees}
use Rattle.picky_asn1_x509.proofs.laws.certificate_signed_part.Goals as goal

pub returns : goal.returns
returns g c = λ v string slice inside outside f. let a = tbs_agrees v.tbs_certificate in (λ e. f.strict.0 (e ∙ sym a), λ n. f.strict.1 n ∙ a)
