use Rattle.std.proofs.Common.{ap, ◌∙◌, refl}
use Rattle.std.proofs.lemmas.Result.{err_from_is_err_and}
use Rattle.x509_der.specs.View.{kinds_in}
use Rattle.x509_der.specs.declared.integer.Magnitude.{Magnitude}
use Rattle.x509_keys_parts.specs.RsassaPss.{salt_kinds, with_salt}
use Rattle.x509_keys_parts.specs.facts.RsassaPssFacts.{salt_judged, salt_not_judged}
use Rattle.x509_keys_parts.proofs.rsassa_pss.RsassaPssParamsJudgeFields.judge.Goals as goal

pub returns : goal.returns
returns g c = λ f e.
    let k = salt_judged f.1.1 (kinds_in c.in_ok-found.found) (ap (λ (b : Unit {0} × (Unit {0} × Magnitude)). salt_kinds b.1.1) e ∙ c.in_ok-found.ensures) in
    (record { hash_algorithm = f.0; mask_gen_algorithm = f.1.0; salt_length = k.0 }, ap (with_salt f.0 f.1.0) k.1, refl)

pub returns-in_err-found : goal.returns-in_err-found
returns-in_err-found g c =
    let p = err_from_is_err_and c.from_residual.result c.from_residual.ensures.1 in
    let h = c.in_err-found.ensures in
    let u = h.1 in
    rw (p.1, p.2) (λ f e. (ap (with_salt f.0 f.1.0) (salt_not_judged f.1.1 (ap (λ (b : Unit {0} × (Unit {0} × Magnitude)). salt_kinds b.1.1) e ∙ h.0)), λ q. cc))
