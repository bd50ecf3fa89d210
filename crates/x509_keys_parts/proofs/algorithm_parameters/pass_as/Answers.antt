use Rattle.std.proofs.Common.{refl, ◌∙◌, sym}
use Rattle.std.proofs.lemmas.Result.{err_from_is_err_and}
use Rattle.x509_der.specs.Optional.{optional, brief_if}
use Rattle.x509_der.specs.Variant.{bare}
use Rattle.x509_der.specs.laws.Variant.{bare_accepts}
use Rattle.x509_der.specs.reads.Passing.{variant_passes, variant_not_passed, read_passes}
use Rattle.x509_keys_parts.specs.AesParameters.{aes_parameters}
use Rattle.x509_keys_parts.specs.EcParameters.{ec_parameters}
use Rattle.x509_keys_parts.specs.RsassaPss.{rsassa_pss}
use Rattle.x509_keys_parts.specs.AlgorithmIdentifier.{are_absent}
use Rattle.x509_keys_parts.specs.AlgorithmParameters.{parameters_bytes, AreParameters, if_null, if_aes}
use Rattle.x509_keys_parts.specs.HashAlgorithms.{null}
use Rattle.x509_keys_parts.specs.facts.AlgorithmParameters.{null_absent, aes_absent}
use Rattle.x509_keys_parts.specs.declared.algorithm_parameters.AlgorithmIdentifierParameters.TheVariants as parameters
use Rattle.x509_keys_parts.proofs.algorithm_parameters.pass_as.Goals as goal

pub returns-in_ok-there-in-Rsa : goal.returns-in_ok-there-in-Rsa
returns-in_ok-there-in-Rsa g c = rw c.in-Rsa.is (variant_passes if_null parameters_bytes AreParameters (optional null) (brief_if (λ v. v)) are_absent c.args.reader.now c.pass.new.reader _ _ (λ u e. null_absent _ u _ e ∙ sym c.is_left_out.ensures) c.in_ok-there-in-Rsa.ensures)

pub returns-in_err-there-in-Rsa : goal.returns-in_err-there-in-Rsa
returns-in_err-there-in-Rsa g c =
    let p = err_from_is_err_and c.from_residual.result c.from_residual.ensures.1 in
    rw (p.1, p.2, c.in-Rsa.is) (variant_not_passed if_null parameters_bytes AreParameters (optional null) c.args.reader.now c.pass.new.reader _ c.in_err-there-in-Rsa.ensures)

pub returns-in_ok-pass_pss-in-RsassaPss : goal.returns-in_ok-pass_pss-in-RsassaPss
returns-in_ok-pass_pss-in-RsassaPss g c = rw c.in-RsassaPss.is (variant_passes parameters.RsassaPss parameters_bytes AreParameters rsassa_pss (λ v. tt) are_absent c.args.reader.now c.pass_pss.new.reader _ _ (λ u e. refl) c.in_ok-pass_pss-in-RsassaPss.ensures)

pub returns-in_err-pass_pss-in-RsassaPss : goal.returns-in_err-pass_pss-in-RsassaPss
returns-in_err-pass_pss-in-RsassaPss g c =
    let p = err_from_is_err_and c.from_residual-in_err-pass_pss-in-RsassaPss.result c.from_residual-in_err-pass_pss-in-RsassaPss.ensures.1 in
    rw (p.1, p.2, c.in-RsassaPss.is) (variant_not_passed parameters.RsassaPss parameters_bytes AreParameters rsassa_pss c.args.reader.now c.pass_pss.new.reader _ c.in_err-pass_pss-in-RsassaPss.ensures)

pub returns-in_ok-pass-in-EcPublicKey : goal.returns-in_ok-pass-in-EcPublicKey
returns-in_ok-pass-in-EcPublicKey g c = rw c.in-EcPublicKey.is (variant_passes parameters.Ec parameters_bytes AreParameters ec_parameters (λ v. tt) are_absent c.args.reader.now c.pass-in-EcPublicKey.new.reader _ _ (λ u e. refl) c.in_ok-pass-in-EcPublicKey.ensures)

pub returns-in_err-pass-in-EcPublicKey : goal.returns-in_err-pass-in-EcPublicKey
returns-in_err-pass-in-EcPublicKey g c =
    let p = err_from_is_err_and c.from_residual-in_err-pass-in-EcPublicKey.result c.from_residual-in_err-pass-in-EcPublicKey.ensures.1 in
    rw (p.1, p.2, c.in-EcPublicKey.is) (variant_not_passed parameters.Ec parameters_bytes AreParameters ec_parameters c.args.reader.now c.pass-in-EcPublicKey.new.reader _ c.in_err-pass-in-EcPublicKey.ensures)

pub returns-in_ok-there-in-Aes : goal.returns-in_ok-there-in-Aes
returns-in_ok-there-in-Aes g c = rw c.in-Aes.is (variant_passes if_aes parameters_bytes AreParameters (optional aes_parameters) (brief_if (λ v. tt)) are_absent c.args.reader.now c.pass-in-Aes.new.reader _ _ (λ u e. aes_absent u _ e ∙ sym c.is_left_out-in-Aes.ensures) c.in_ok-there-in-Aes.ensures)

pub returns-in_err-there-in-Aes : goal.returns-in_err-there-in-Aes
returns-in_err-there-in-Aes g c =
    let p = err_from_is_err_and c.from_residual-in_err-there-in-Aes.result c.from_residual-in_err-there-in-Aes.ensures.1 in
    rw (p.1, p.2, c.in-Aes.is) (variant_not_passed if_aes parameters_bytes AreParameters (optional aes_parameters) c.args.reader.now c.pass-in-Aes.new.reader _ c.in_err-there-in-Aes.ensures)

pub returns-in_ok-pass-in-Hash : goal.returns-in_ok-pass-in-Hash
returns-in_ok-pass-in-Hash g c = rw c.in-Hash.is (variant_passes (λ u. parameters.Null) parameters_bytes AreParameters null (λ v. v) are_absent c.args.reader.now c.pass-in-Hash.new.reader _ _ (λ u e. refl) c.in_ok-pass-in-Hash.ensures)

pub returns-in_err-pass-in-Hash : goal.returns-in_err-pass-in-Hash
returns-in_err-pass-in-Hash g c =
    let p = err_from_is_err_and c.from_residual-in_err-pass-in-Hash.result c.from_residual-in_err-pass-in-Hash.ensures.1 in
    rw (p.1, p.2, c.in-Hash.is) (variant_not_passed (λ u. parameters.Null) parameters_bytes AreParameters null c.args.reader.now c.pass-in-Hash.new.reader _ c.in_err-pass-in-Hash.ensures)

pub returns-in-Bare : goal.returns-in-Bare
returns-in-Bare g c = rw c.in-Bare.is (variant_passes (λ u. parameters.None) parameters_bytes AreParameters bare (λ u. u) are_absent c.args.reader.now c.args.reader.now tt _ (λ u e. refl) (read_passes bare (λ u. u) c.args.reader.now c.args.reader.now tt (bare_accepts c.args.reader.now c.requires)))
