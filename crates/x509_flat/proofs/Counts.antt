-- What is told of the same extensions.
use Rattle.std.proofs.Common.{◌≡◌, ℕ, List, subst}
use Rattle.x509_der.specs.Tally.{Tally}
use Rattle.picky_asn1_x509.specs.Extensions.{ExtensionFields}
use Rattle.x509_flat.specs.Extensions.{Front}
use Rattle.x509_flat.specs.declared.extensions.FlatExtension.{FlatExtension}

pub sized_front : {A : Type 0} (list : List (ExtensionFields A)) (first : ℕ) (string : List ℕ) (whole : Tally) (old new : List FlatExtension) (n m : ℕ) → n ≡ m → Front list first string whole old new n → Front list first string whole old new m
sized_front list first string whole old new n m e = let P : ℕ → Type 0 = λ k. Front list first string whole old new k in subst P e
