use Rattle.std.proofs.Common.{◌≡◌, ap, sym, ◌∙◌, Some, Option, refl}
use Rattle.x509_der.specs.View.{kinds_in}
use Rattle.picky_asn1_x509_parts.specs.Extensions.{critical_kinds, extension_of}
use Rattle.picky_asn1_x509_parts.specs.declared.extension_value.ExtensionKey.{ExtensionKey}
use Rattle.picky_asn1_x509_parts.proofs.extension.ExtensionJudgeFields.judge.Goals as goal

pub returns : goal.returns
returns g c = λ f e.
    let k : f.0.1 ≡ c.args.brief.0.critical = ap (λ (b : ExtensionKey × Unit {0}). b.0.critical) e in
    let v = extension_of f in
    (v, ap (λ ks. Some (v, ks)) (ap critical_kinds k ∙ sym (c.of.ensures ∙ c.spelled_false.ensures)), refl)
