use Rattle.std.proofs.Common.{◌∷◌, [], refl}
use Rattle.x509_keys_parts.specs.AlgorithmIdentifier.{identified}
use Rattle.x509_keys_parts.specs.facts.AlgorithmLaws.{readable_fits, readable_where_fit, unfit_unread}
use Rattle.x509_keys_parts.specs.declared.algorithm_parameters.AlgorithmIdentifierParameters.TheVariants.{Null}
use Rattle.x509_keys_parts.proofs.laws.algorithms_fit.Goals as goal

pub returns-clause-readable : goal.returns-clause-readable
returns-clause-readable g c = λ v. (λ r. readable_fits v r, λ e. readable_where_fit v e)

pub returns-clause-fit : goal.returns-clause-fit
returns-clause-fit g c = λ v string y a. readable_fits v (c.spellings_are_lawful.ensures.lawful.read v string y a)

pub returns-clause-md5_with_rsa : goal.returns-clause-md5_with_rsa
returns-clause-md5_with_rsa g c = λ string y a. unfit_unread {A = g.row.A.Denot} (identified (1 ∷ 2 ∷ 840 ∷ 113549 ∷ 1 ∷ 1 ∷ 4 ∷ []) Null) refl (c.spellings_are_lawful.ensures.lawful.read _ string y a)

pub returns-clause-md5 : goal.returns-clause-md5
returns-clause-md5 g c = λ string y a. unfit_unread {A = g.row.A.Denot} (identified (1 ∷ 2 ∷ 840 ∷ 113549 ∷ 2 ∷ 5 ∷ []) Null) refl (c.spellings_are_lawful.ensures.lawful.read _ string y a)

pub returns-clause-dsa_with_sha1 : goal.returns-clause-dsa_with_sha1
returns-clause-dsa_with_sha1 g c = λ string y a. unfit_unread {A = g.row.A.Denot} (identified (1 ∷ 2 ∷ 840 ∷ 10040 ∷ 4 ∷ 3 ∷ []) Null) refl (c.spellings_are_lawful.ensures.lawful.read _ string y a)
