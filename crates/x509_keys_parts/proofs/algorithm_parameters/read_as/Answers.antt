use Rattle.std.proofs.Common.{refl}
use Rattle.std.proofs.lemmas.Result.{err_from_is_err_and}
use Rattle.x509_der.specs.Optional.{optional}
use Rattle.x509_der.specs.laws.Variant.{variant_accepts, variant_refuses, bare_accepts}
use Rattle.x509_der.specs.Variant.{bare}
use Rattle.x509_keys_parts.specs.AesParameters.{aes_parameters}
use Rattle.x509_keys_parts.specs.EcParameters.{ec_parameters}
use Rattle.x509_keys_parts.specs.RsassaPss.{rsassa_pss}
use Rattle.x509_keys_parts.specs.AlgorithmParameters.{parameters_bytes, AreParameters, if_null, if_aes}
use Rattle.x509_keys_parts.specs.HashAlgorithms.{null}
use Rattle.x509_keys_parts.specs.declared.algorithm_parameters.AlgorithmIdentifierParameters.TheVariants as parameters
use Rattle.x509_keys_parts.proofs.algorithm_parameters.read_as.Goals as goal

pub returns-in_ok-read-in-Rsa : goal.returns-in_ok-read-in-Rsa
returns-in_ok-read-in-Rsa g c = rw c.in-Rsa.is (variant_accepts if_null parameters_bytes AreParameters (optional null) c.args.reader.now c.read.new.reader _ _ c.if_null.ensures c.in_ok-read-in-Rsa.ensures)

pub returns-in_err-read-in-Rsa : goal.returns-in_err-read-in-Rsa
returns-in_err-read-in-Rsa g c =
    let p = err_from_is_err_and c.from_residual.result c.from_residual.ensures.1 in
    rw (p.1, p.2, c.in-Rsa.is) (variant_refuses if_null parameters_bytes AreParameters (optional null) c.args.reader.now c.read.new.reader _ c.in_err-read-in-Rsa.ensures)

pub returns-in_ok-read_pss-in-RsassaPss : goal.returns-in_ok-read_pss-in-RsassaPss
returns-in_ok-read_pss-in-RsassaPss g c = rw c.in-RsassaPss.is (variant_accepts parameters.RsassaPss parameters_bytes AreParameters rsassa_pss c.args.reader.now c.read_pss.new.reader _ _ refl c.in_ok-read_pss-in-RsassaPss.ensures)

pub returns-in_err-read_pss-in-RsassaPss : goal.returns-in_err-read_pss-in-RsassaPss
returns-in_err-read_pss-in-RsassaPss g c =
    let p = err_from_is_err_and c.from_residual-in_err-read_pss-in-RsassaPss.result c.from_residual-in_err-read_pss-in-RsassaPss.ensures.1 in
    rw (p.1, p.2, c.in-RsassaPss.is) (variant_refuses parameters.RsassaPss parameters_bytes AreParameters rsassa_pss c.args.reader.now c.read_pss.new.reader _ c.in_err-read_pss-in-RsassaPss.ensures)

pub returns-in_ok-read-in-EcPublicKey : goal.returns-in_ok-read-in-EcPublicKey
returns-in_ok-read-in-EcPublicKey g c = rw c.in-EcPublicKey.is (variant_accepts parameters.Ec parameters_bytes AreParameters ec_parameters c.args.reader.now c.read-in-EcPublicKey.new.reader _ _ refl c.in_ok-read-in-EcPublicKey.ensures)

pub returns-in_err-read-in-EcPublicKey : goal.returns-in_err-read-in-EcPublicKey
returns-in_err-read-in-EcPublicKey g c =
    let p = err_from_is_err_and c.from_residual-in_err-read-in-EcPublicKey.result c.from_residual-in_err-read-in-EcPublicKey.ensures.1 in
    rw (p.1, p.2, c.in-EcPublicKey.is) (variant_refuses parameters.Ec parameters_bytes AreParameters ec_parameters c.args.reader.now c.read-in-EcPublicKey.new.reader _ c.in_err-read-in-EcPublicKey.ensures)

pub returns-in_ok-read-in-Aes : goal.returns-in_ok-read-in-Aes
returns-in_ok-read-in-Aes g c = rw c.in-Aes.is (variant_accepts if_aes parameters_bytes AreParameters (optional aes_parameters) c.args.reader.now c.read-in-Aes.new.reader _ _ c.if_aes.ensures c.in_ok-read-in-Aes.ensures)

pub returns-in_err-read-in-Aes : goal.returns-in_err-read-in-Aes
returns-in_err-read-in-Aes g c =
    let p = err_from_is_err_and c.from_residual-in_err-read-in-Aes.result c.from_residual-in_err-read-in-Aes.ensures.1 in
    rw (p.1, p.2, c.in-Aes.is) (variant_refuses if_aes parameters_bytes AreParameters (optional aes_parameters) c.args.reader.now c.read-in-Aes.new.reader _ c.in_err-read-in-Aes.ensures)

pub returns-in_ok-read-in-Hash : goal.returns-in_ok-read-in-Hash
returns-in_ok-read-in-Hash g c = rw c.in-Hash.is (variant_accepts (λ u. parameters.Null) parameters_bytes AreParameters null c.args.reader.now c.read-in-Hash.new.reader tt _ refl c.in_ok-read-in-Hash.ensures)

pub returns-in_err-read-in-Hash : goal.returns-in_err-read-in-Hash
returns-in_err-read-in-Hash g c =
    let p = err_from_is_err_and c.from_residual-in_err-read-in-Hash.result c.from_residual-in_err-read-in-Hash.ensures.1 in
    rw (p.1, p.2, c.in-Hash.is) (variant_refuses (λ u. parameters.Null) parameters_bytes AreParameters null c.args.reader.now c.read-in-Hash.new.reader _ c.in_err-read-in-Hash.ensures)

pub returns-in-Bare : goal.returns-in-Bare
returns-in-Bare g c = rw c.in-Bare.is (variant_accepts (λ u. parameters.None) parameters_bytes AreParameters bare c.args.reader.now c.args.reader.now tt parameters.None refl (bare_accepts c.args.reader.now c.requires))
