use Rattle.std.proofs.Common.{◌≡◌, ap, sym, ◌∙◌, Some, Bool, ◌&&◌}
use Rattle.x509_der.specs.View.{kinds_in}
use Rattle.x509_keys_parts.specs.AlgorithmIdentifier.{is_rsa, identified, with_null, kinds_if, lacks_null}
use Rattle.x509_keys_parts.specs.declared.algorithm_parameters.Chosen.{Chosen}
use Rattle.x509_keys_parts.proofs.algorithm_identifier.AlgorithmIdentifierJudgeFields.judge.Goals as goal

pub returns : goal.returns
returns g c = λ f e.
    let v = identified f.0 (with_null (lacks_null f) f.1) in
    let l : lacks_null f ≡ c.lacks-left_out.result = ap (λ (b : Chosen × Bool). is_rsa b.0.parameters && b.1) e ∙ sym c.lacks-left_out.ensures in
    (v, ap (λ ks. Some (v, ks)) (ap kinds_if l ∙ sym (c.of.ensures ∙ c.absence.ensures)), ap (λ (b : Chosen × Bool). b.0.keys) e)
