use Rattle.std.proofs.Common.{ap, sym, ◌∙◌, refl, ◌≡◌, true, false, Option, ℕ}
use Rattle.x509_der.specs.declared.integer.Magnitude.{Magnitude}
use Rattle.x509_keys.specs.EcPrivateKeys.{is_one, is_byte_one, ec_key_of}
use Rattle.x509_keys.specs.facts.EcPrivateKeys.{one_by_magnitude}
use Rattle.x509_keys.proofs.ec_private_key.ECPrivateKeyJudgeFields.judge.Goals as goal

pub returns-then-is_byte_one : goal.returns-then-is_byte_one
returns-then-is_byte_one g c = λ f e.
    let v : is_one f.0 ≡ true = one_by_magnitude f.0 ∙ ap (λ (b : Magnitude × (Unit {0} × (Option (Unit {0}) × Option (Unit {0})))). is_byte_one b.0) e ∙ sym c.is_byte_one.ensures ∙ c.if-is_byte_one.true in
    (ec_key_of f, rw v refl, refl)

pub returns-else-is_byte_one : goal.returns-else-is_byte_one
returns-else-is_byte_one g c = λ f e.
    let v : is_one f.0 ≡ false = one_by_magnitude f.0 ∙ ap (λ (b : Magnitude × (Unit {0} × (Option (Unit {0}) × Option (Unit {0})))). is_byte_one b.0) e ∙ sym c.is_byte_one.ensures ∙ c.if-is_byte_one.false in
    (rw v refl, λ q. cc)
