use Rattle.std.proofs.Common.{◌≡◌, ap, sym, ◌∙◌, Some, Option, Bool, refl}
use Rattle.x509_der.specs.Optional.{brief_if}
use Rattle.x509_outline_parts.specs.Extensions.{critical_kinds, extension_of}
use Rattle.x509_outline_parts.specs.facts.Extensions.{critical_kept}
use Rattle.x509_outline_parts.proofs.extension_outline.ExtensionOutlineJudgeFields.judge.Goals as goal

pub returns : goal.returns
returns g c = λ f e.
    let k : brief_if (λ b. b) f.1.0 ≡ c.args.brief.1.0 = ap (λ (b : Unit {0} × (Option Bool × Unit {0})). b.1.0) e in
    let v = extension_of f in
    (v, ap (λ ks. Some (v, ks)) (ap critical_kinds (sym (critical_kept f.1.0) ∙ k) ∙ sym (c.of.ensures ∙ c.spelled_false.ensures)), refl)
