use Rattle.std.proofs.Common.{ℕ, Bool, List, Option, refl, ap}
use Rattle.std.proofs.lemmas.Result.{err_from_is_err_and}
use Rattle.x509_der.specs.Boolean.{booleans}
use Rattle.x509_der.specs.Join.{join}
use Rattle.x509_der.specs.ObjectIdentifier.{oids}
use Rattle.x509_der.specs.Optional.{optional, brief_if}
use Rattle.x509_der.specs.Reading.{thrifty}
use Rattle.x509_der.specs.Tagged.{tagged}
use Rattle.x509_der.specs.facts.Lists.{same_pair}
use Rattle.x509_der.specs.reads.Join.{join_accepts, join_first, join_second}
use Rattle.x509_der.specs.reads.Passing.{thrifty_lawful, alike_join, alike_accepts, alike_refuses}
use Rattle.picky_asn1_x509_parts.specs.Extensions.{key, key_kept}
use Rattle.picky_asn1_x509_parts.specs.facts.ExtensionKeys.{oid_element_lawful, critical_lawful, critical_kept}
use Rattle.picky_asn1_x509_parts.proofs.extension_value.ExtensionValueAnyDefinedByKey.pass_key.Goals as goal

pub returns-in_err-identifier : goal.returns-in_err-identifier
returns-in_err-identifier g c =
    let p = err_from_is_err_and c.from_residual.result c.from_residual.ensures.1 in
    rw (p.1, p.2) (alike_refuses (join (λ (j : List ℕ × Option Bool). j.0) (λ j. j.1) (thrifty (tagged 6 oids)) (thrifty (optional (tagged 1 booleans)))) (thrifty key) (alike_join (λ (j : List ℕ × Option Bool). j.0) (λ j. j.1) (tagged 6 oids) (optional (tagged 1 booleans))) c.args.reader.now c.pass_oid.new.reader _ (λ u. (tt, tt)) (join_first (λ (j : List ℕ × Option Bool). j.0) (λ j. j.1) (same_pair (λ j. j.0) (λ j. j.1) (λ a b. (a, b)) (λ x. refl)) (thrifty (tagged 6 oids)) (thrifty (optional (tagged 1 booleans))) (thrifty_lawful (tagged 6 oids) oid_element_lawful) (thrifty_lawful (optional (tagged 1 booleans)) critical_lawful) (λ c h. refl) c.args.reader.now c.pass_oid.new.reader _ c.in_err-identifier.ensures.err))

pub returns-in_err-critical : goal.returns-in_err-critical
returns-in_err-critical g c =
    let p = err_from_is_err_and c.from_residual-in_err-critical.result c.from_residual-in_err-critical.ensures.1 in
    rw (p.1, p.2) (alike_refuses (join (λ (j : List ℕ × Option Bool). j.0) (λ j. j.1) (thrifty (tagged 6 oids)) (thrifty (optional (tagged 1 booleans)))) (thrifty key) (alike_join (λ (j : List ℕ × Option Bool). j.0) (λ j. j.1) (tagged 6 oids) (optional (tagged 1 booleans))) c.args.reader.now c.pass.new.reader _ (λ u. (tt, tt)) (join_second (λ (j : List ℕ × Option Bool). j.0) (λ j. j.1) (same_pair (λ j. j.0) (λ j. j.1) (λ a b. (a, b)) (λ x. refl)) (thrifty (tagged 6 oids)) (thrifty (optional (tagged 1 booleans))) (thrifty_lawful (tagged 6 oids) oid_element_lawful) (thrifty_lawful (optional (tagged 1 booleans)) critical_lawful) (λ c h. refl) c.args.reader.now c.pass_oid.new.reader c.pass.new.reader c.in_ok-identifier.identifier _ c.in_ok-identifier.ensures.ok c.in_err-critical.ensures))

pub returns : goal.returns
returns g c =
    let i = c.in_ok-identifier.identifier in
    let k = c.in_ok-critical.ensures in
    let e = c.kind_of-value.ensures in
    let f = critical_kept k.value _ k.kept in
    record { value = (i, k.value); accepts = alike_accepts (join (λ (j : List ℕ × Option Bool). j.0) (λ j. j.1) (thrifty (tagged 6 oids)) (thrifty (optional (tagged 1 booleans)))) (thrifty key) (alike_join (λ (j : List ℕ × Option Bool). j.0) (λ j. j.1) (tagged 6 oids) (optional (tagged 1 booleans))) c.args.reader.now c.pass.new.reader (i, k.value) (join_accepts (λ (j : List ℕ × Option Bool). j.0) (λ j. j.1) (same_pair (λ j. j.0) (λ j. j.1) (λ a b. (a, b)) (λ x. refl)) (thrifty (tagged 6 oids)) (thrifty (optional (tagged 1 booleans))) (thrifty_lawful (tagged 6 oids) oid_element_lawful) (thrifty_lawful (optional (tagged 1 booleans)) critical_lawful) (λ c h. refl) c.args.reader.now c.pass_oid.new.reader c.pass.new.reader (i, k.value) c.in_ok-identifier.ensures.ok k.accepts); kept = cc }
