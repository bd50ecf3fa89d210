use Rattle.std.proofs.Common.{refl}
use Rattle.std.specs.Cmp.{unsigned_Decides}
use Rattle.x509_keys_parts.specs.declared.rsassa_pss.RsassaPssParams.{RsassaPssParams}
use Rattle.x509_der.specs.facts.SameEq.{both_decide, made_decide}
use Rattle.x509_keys_parts.proofs.rsassa_pss.RsassaPssParamsSameEq.decides.Goals as goal

pub returns : goal.returns
returns g c =
    made_decide (λ (v : RsassaPssParams g.row.A.Denot). (v.hash_algorithm, (v.mask_gen_algorithm, v.salt_length)))
    (λ f. record { hash_algorithm = f.0; mask_gen_algorithm = f.1.0; salt_length = f.1.1 }) (λ v. refl)
    (both_decide c.decides.ensures (both_decide c.decides-2.ensures unsigned_Decides))
