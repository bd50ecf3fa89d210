use Rattle.std.proofs.Common.{ap, sym, ◌∙◌, refl, ◌≡◌, true, false, Option, ℕ}
use Rattle.x509_keys_parts.specs.declared.key_kind.KeyKind.{KeyKind}
use Rattle.x509_keys.specs.PrivateKeyInfos.{is_version, info_of}
use Rattle.x509_keys.specs.facts.PrivateKeyInfos.{skipped_there, nothing_skipped}
use Rattle.x509_keys.proofs.private_key_info.PrivateKeyInfoJudgeWhole.judge.Goals as goal

abbrev Brief : Type 0
Brief = ℕ × ((KeyKind × Unit {0}) × (Option (Unit {0}) × Option (Unit {0})))

pub returns-then-not-is_version : goal.returns-then-not-is_version
returns-then-not-is_version g c = λ f e.
    let v : is_version f.0 ≡ false = ap (λ (b : Brief). is_version b.0) e ∙ sym c.is_version.ensures ∙ c.if-not-is_version.true in
    (rw v refl, λ q. cc)

pub returns-in-Some : goal.returns-in-Some
returns-in-Some g c = λ f e.
    let v : is_version f.0 ≡ true = ap (λ (b : Brief). is_version b.0) e ∙ sym c.is_version.ensures ∙ c.if-not-is_version.false in
    let s = skipped_there f.1.1.0 (ap (λ (b : Brief). b.1.1.0) e ∙ c.in-Some.is) in
    (info_of f, rw (v, s) refl, refl)

pub returns-in-None : goal.returns-in-None
returns-in-None g c = λ f e.
    let v : is_version f.0 ≡ true = ap (λ (b : Brief). is_version b.0) e ∙ sym c.is_version.ensures ∙ c.if-not-is_version.false in
    let s = nothing_skipped f.1.1.0 (ap (λ (b : Brief). b.1.1.0) e ∙ c.in-None.is) in
    (info_of f, rw (v, s) refl, refl)
