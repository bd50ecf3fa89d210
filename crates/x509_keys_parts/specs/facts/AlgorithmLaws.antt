-- What is readable has the parameters of its kind, and what has them is.
use Rattle.std.proofs.Common.{◌≡◌, refl, ap, sym, ◌∙◌, true, false, ◌&&◌, Option, Some, None}
use mathlib.Core.Bool.{true≢false}
use Rattle.x509_keys_parts.specs.declared.aes.AesParameters.{AesParameters}
use Rattle.x509_keys_parts.specs.declared.aes.AesParameters.TheVariants as aes
use Rattle.x509_keys_parts.specs.declared.algorithm_parameters.AlgorithmIdentifierParameters.{AlgorithmIdentifierParameters}
use Rattle.x509_keys_parts.specs.declared.algorithm_parameters.AlgorithmIdentifierParameters.TheVariants as parameters
use Rattle.x509_keys_parts.specs.declared.algorithm_parameters.AlgorithmKind.{AlgorithmKind}
use Rattle.x509_keys_parts.specs.AesParameters.{aes_parameters}
use Rattle.x509_keys_parts.specs.AlgorithmKinds.{kind_of}
use Rattle.x509_keys_parts.specs.AlgorithmParameters.{by_kind, if_null, if_aes}
use Rattle.x509_keys_parts.specs.AlgorithmIdentifier.{Algorithm, is_rsa, are_absent, IsReadable}
use Rattle.x509_keys_parts.specs.AlgorithmLaws.{fit}
use Rattle.x509_keys_parts.specs.declared.algorithm_parameters.AlgorithmKind.TheVariants as kinds

null_fits : (A : Type 0) (u : Option (Unit {0})) (p : AlgorithmIdentifierParameters A) → p ≡ if_null u → are_absent p ≡ false → fit kinds.Rsa p ≡ true
null_fits A None p e f = let h : are_absent p ≡ true = ap are_absent e in cc
null_fits A (Some u) p e f = ap (fit kinds.Rsa) e

aes_fits : (A : Type 0) (u : Option _) (p : AlgorithmIdentifierParameters A) → p ≡ if_aes u → fit kinds.Aes p ≡ true
aes_fits A None p e = ap (fit kinds.Aes) e
aes_fits A (Some q) p e = ap (fit kinds.Aes) e

kind_fits : {A : Type 0} (k : AlgorithmKind) (p : AlgorithmIdentifierParameters A) → (by_kind k).readable p → (is_rsa k && are_absent p) ≡ false → fit k p ≡ true
kind_fits {A} kinds.Rsa p r e = null_fits A r.payload p r.is e
kind_fits kinds.RsassaPss p r e = ap (fit kinds.RsassaPss) r.is
kind_fits kinds.EcPublicKey p r e = ap (fit kinds.EcPublicKey) r.is
kind_fits kinds.Bare p r e = ap (fit kinds.Bare) r.is
kind_fits {A} kinds.Aes p r e = aes_fits A r.payload p r.is
kind_fits kinds.Hash p r e = ap (fit kinds.Hash) r.is
kind_fits kinds.Unknown p r e = absurd r

pub readable_fits : {A : Type 0} (v : Algorithm A) → IsReadable v → fit (kind_of v.algorithm) v.parameters ≡ true
readable_fits v r = kind_fits (kind_of v.algorithm) v.parameters r.0.1 r.1

pub unfit_unread : {A : Type 0} (v : Algorithm A) → fit (kind_of v.algorithm) v.parameters ≡ false → IsReadable v → ⊥
unfit_unread v e r = true≢false (sym (readable_fits v r) ∙ e)

any_aes : {A : Type 0} (q : AesParameters A) → aes_parameters.readable q
any_aes aes.Null = tt
any_aes (aes.InitializationVector v) = tt
any_aes (aes.AuthenticatedEncryptionParameters v) = (tt, tt)

-- parameters of a kind are readable, and none of an RSA algorithm are left out
fit_kind : {A : Type 0} (k : AlgorithmKind) (p : AlgorithmIdentifierParameters A) → fit k p ≡ true → (by_kind k).readable p × ((is_rsa k && are_absent p) ≡ false)
fit_kind kinds.Rsa parameters.None e = cc
fit_kind kinds.Rsa parameters.Null e = (record { payload = Some tt; is = refl; readable = tt }, refl)
fit_kind kinds.Rsa (parameters.Aes q) e = cc
fit_kind kinds.Rsa (parameters.Ec q) e = cc
fit_kind kinds.Rsa (parameters.RsassaPss q) e = cc
fit_kind kinds.RsassaPss parameters.None e = cc
fit_kind kinds.RsassaPss parameters.Null e = cc
fit_kind kinds.RsassaPss (parameters.Aes q) e = cc
fit_kind kinds.RsassaPss (parameters.Ec q) e = cc
fit_kind kinds.RsassaPss (parameters.RsassaPss q) e = (record { payload = q; is = refl; readable = (tt, tt) }, refl)
fit_kind kinds.EcPublicKey parameters.None e = cc
fit_kind kinds.EcPublicKey parameters.Null e = cc
fit_kind kinds.EcPublicKey (parameters.Aes q) e = cc
fit_kind kinds.EcPublicKey (parameters.Ec q) e = (record { payload = q; is = refl; readable = tt }, refl)
fit_kind kinds.EcPublicKey (parameters.RsassaPss q) e = cc
fit_kind kinds.Bare parameters.None e = (record { payload = tt; is = refl; readable = tt }, refl)
fit_kind kinds.Bare parameters.Null e = cc
fit_kind kinds.Bare (parameters.Aes q) e = cc
fit_kind kinds.Bare (parameters.Ec q) e = cc
fit_kind kinds.Bare (parameters.RsassaPss q) e = cc
fit_kind kinds.Aes parameters.None e = (record { payload = None; is = refl; readable = tt }, refl)
fit_kind kinds.Aes parameters.Null e = cc
fit_kind kinds.Aes (parameters.Aes q) e = (record { payload = Some q; is = refl; readable = any_aes q }, refl)
fit_kind kinds.Aes (parameters.Ec q) e = cc
fit_kind kinds.Aes (parameters.RsassaPss q) e = cc
fit_kind kinds.Hash parameters.None e = cc
fit_kind kinds.Hash parameters.Null e = (record { payload = tt; is = refl; readable = tt }, refl)
fit_kind kinds.Hash (parameters.Aes q) e = cc
fit_kind kinds.Hash (parameters.Ec q) e = cc
fit_kind kinds.Hash (parameters.RsassaPss q) e = cc
fit_kind kinds.Unknown parameters.None e = cc
fit_kind kinds.Unknown parameters.Null e = cc
fit_kind kinds.Unknown (parameters.Aes q) e = cc
fit_kind kinds.Unknown (parameters.Ec q) e = cc
fit_kind kinds.Unknown (parameters.RsassaPss q) e = cc

pub readable_where_fit : {A : Type 0} (v : Algorithm A) → fit (kind_of v.algorithm) v.parameters ≡ true → IsReadable v
readable_where_fit v e = let b = fit_kind (kind_of v.algorithm) v.parameters e in ((tt, b.0), b.1)
