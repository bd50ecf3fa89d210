-- Versions and lists that are left out, there and back.
use Rattle.std.proofs.Common.{◌≡◌, refl, Bool, true, false, ◌&&◌, ◌≤◌, List, [], ◌∷◌, ◌++◌, length, Option, Some, None, arith}
use Rattle.x509_der.specs.Types.{Deviation}
use Rattle.x509_der.specs.Items.{no_items}
use Rattle.x509_der.specs.MarkOrder.{Ascending}
use Rattle.x509_der.specs.Optional.{optional, brief_if}
use Rattle.x509_der.specs.Shape.{Shape}
use Rattle.x509_der.specs.laws.View.{some_one}
use Rattle.x509_names.specs.Types.{Version}
use Rattle.x509_names.specs.Types.version.{V1, V2, V3}
use Rattle.x509_outline.specs.Versions.{version_in, written_version, version_kinds, list_in, written_list, list_kinds, is_absent, is_nil, ids_fit, extensions_fit, read_if, gone_empty, gone_fit, gone_kinds}

-- a version that is written, and one that was read
pub same_version : (v : Version) → version_in (written_version v) ≡ v
same_version V1 = refl
same_version V2 = refl
same_version V3 = refl

pub no_version_kinds : (v : Version) → version_kinds (written_version v) ≡ []
no_version_kinds V1 = refl
no_version_kinds V2 = refl
no_version_kinds V3 = refl

pub clean_version : (o : Option Version) → version_kinds o ≡ [] → o ≡ written_version (version_in o)
clean_version None e = refl
clean_version (Some V1) e = cc
clean_version (Some V2) e = refl
clean_version (Some V3) e = refl

pub kept_version : (s : Shape Version) (o : Option Version) → (optional s).valid o → (optional s).valid (written_version (version_in o))
kept_version s None d = tt
kept_version s (Some V1) d = tt
kept_version s (Some V2) d = d
kept_version s (Some V3) d = d

pub read_version : (s : Shape Version) (o : Option Version) → (optional s).readable o → (optional s).readable (written_version (version_in o))
read_version s None d = tt
read_version s (Some V1) d = tt
read_version s (Some V2) d = d
read_version s (Some V3) d = d

-- a list that is written, and one that was read
pub same_list : {E : Type 0} (es : List E) → list_in (written_list es) ≡ es
same_list [] = refl
same_list (e ∷ es) = refl

pub no_list_kinds : {E : Type 0} (es : List E) → list_kinds (written_list es) ≡ []
no_list_kinds [] = refl
no_list_kinds (e ∷ es) = refl

pub clean_list : {E : Type 0} (o : Option (List E)) → list_kinds o ≡ [] → o ≡ written_list (list_in o)
clean_list None e = refl
clean_list (Some []) e = cc
clean_list (Some (x ∷ es)) e = refl

pub kept_list : {E : Type 0} (s : Shape (List E)) (o : Option (List E)) → (optional s).valid o → (optional s).valid (written_list (list_in o))
kept_list s None d = tt
kept_list s (Some []) d = tt
kept_list s (Some (e ∷ es)) d = d

pub read_list : {E : Type 0} (s : Shape (List E)) (o : Option (List E)) → (optional s).readable o → (optional s).readable (written_list (list_in o))
read_list s None d = tt
read_list s (Some []) d = tt
read_list s (Some (e ∷ es)) d = d

-- neither of two lists has anything where both together have nothing
pub none_left : (ks ls : List Deviation) → ks ++ ls ≡ [] → (ks ≡ []) × (ls ≡ [])
none_left [] ls e = (refl, e)
none_left (k ∷ ks) ls e = cc

pub few_list_kinds : {E : Type 0} (o : Option (List E)) → length (list_kinds o) ≤ 1
few_list_kinds None = omega arith
few_list_kinds (Some []) = omega arith
few_list_kinds (Some (e ∷ es)) = omega arith

pub ascends : {E : Type 0} (o : Option Version) (l : Option (List E)) → Ascending (version_kinds o ++ list_kinds l)
ascends None None = tt
ascends None (Some []) = (tt, tt)
ascends None (Some (e ∷ es)) = tt
ascends (Some V1) None = (tt, tt)
ascends (Some V1) (Some []) = ((omega arith, tt), (tt, tt))
ascends (Some V1) (Some (e ∷ es)) = (tt, tt)
ascends (Some V2) None = tt
ascends (Some V2) (Some []) = (tt, tt)
ascends (Some V2) (Some (e ∷ es)) = tt
ascends (Some V3) None = tt
ascends (Some V3) (Some []) = (tt, tt)
ascends (Some V3) (Some (e ∷ es)) = tt

-- what was read has passed the test
pub was_read : {V : Type 0} (t : Bool) (v w : V) (ks ls : List Deviation) → read_if t v ks ≡ Some (w, ls) → (t ≡ true) × ((v ≡ w) × (ks ≡ ls))
was_read true v w ks ls e = (refl, some_one v w ks ls e)
was_read false v w ks ls e = cc

-- what is kept of what is gone past says the same
absent_kept : {V : Type 0} (o : Option V) → is_absent (brief_if (λ v. tt {0}) o) ≡ is_absent o
absent_kept None = refl
absent_kept (Some v) = refl

nil_kept : {E : Type 0} (o : Option (List E)) → gone_empty (brief_if no_items o) ≡ is_nil (list_in o)
nil_kept None = refl
nil_kept (Some []) = refl
nil_kept (Some (e ∷ es)) = refl

pub kinds_kept : {E : Type 0} (o : Option (List E)) → gone_kinds (brief_if no_items o) ≡ list_kinds o
kinds_kept None = refl
kinds_kept (Some []) = refl
kinds_kept (Some (e ∷ es)) = refl

pub version_kept : (o : Option Version) → brief_if (λ v. v) o ≡ o
version_kept None = refl
version_kept (Some v) = refl

pub fits_kept : {V W E : Type 0} (n : Version) (i : Option V) (s : Option W) (o : Option (List E)) → (ids_fit n (brief_if (λ v. tt {0}) i) (brief_if (λ v. tt {0}) s) && gone_fit n (brief_if no_items o)) ≡ (ids_fit n i s && extensions_fit n (list_in o))
fits_kept V1 i s o = let a = absent_kept i in let b = absent_kept s in let c = nil_kept o in rw (a, b, c) refl
fits_kept V2 i s o = nil_kept o
fits_kept V3 i s o = refl
