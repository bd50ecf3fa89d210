-- Facts about bits that are put into a list.
use Rattle.std.proofs.Common.{◌≡◌, ℕ, zero, suc, ◌+◌, ◌-◌, ◌≢◌, Bool, false, List, [], ◌∷◌, ◌++◌, length, get_or, refl, ap, ◌∙◌, arith, length-append}
use Rattle.std.specs.Prelude.{replicate, max}
use Rattle.std.proofs.Math.ListN.{length-set}
use Rattle.std.proofs.lemmas.List.{length-replicate, get_or-set_same, get_or-set_other}
use Rattle.picky_asn1_x509_parts.specs.KeyUsages.{put}

length-lengthened : (v : List Bool) (i : ℕ) → length (v ++ replicate (i + 1 - length v) false) ≡ max (length v) (i + 1)
length-lengthened v i = length-append v (replicate (i + 1 - length v) false) ∙ ap (λ n. length v + n) (length-replicate (i + 1 - length v) false) ∙ omega arith

pub length-put : (v : List Bool) (i : ℕ) (x : Bool) → length (put v i x) ≡ max (length v) (i + 1)
length-put v i x = length-set (v ++ replicate (i + 1 - length v) false) i x ∙ length-lengthened v i

pub put_here : (v : List Bool) (i : ℕ) (x : Bool) → get_or (put v i x) i false ≡ x
put_here v i x = get_or-set_same (v ++ replicate (i + 1 - length v) false) i x false (omega (arith, length-lengthened v i))

get_unset : (k j : ℕ) → ◌≡◌ {A = Bool} (get_or (replicate k false) j false) false
get_unset zero j = refl
get_unset (suc k) zero = refl
get_unset (suc k) (suc j) = get_unset k j

get_lengthened : (v : List Bool) (k j : ℕ) → get_or (v ++ replicate k false) j false ≡ get_or v j false
get_lengthened [] k j = get_unset k j
get_lengthened (b ∷ v) k zero = refl
get_lengthened (b ∷ v) k (suc j) = get_lengthened v k j

pub put_elsewhere : (v : List Bool) (i j : ℕ) (x : Bool) → j ≢ i → get_or (put v i x) j false ≡ get_or v j false
put_elsewhere v i j x h = get_or-set_other (v ++ replicate (i + 1 - length v) false) i j x false h ∙ get_lengthened v (i + 1 - length v) j
