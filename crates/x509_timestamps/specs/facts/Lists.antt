-- Lists of vectors, one behind another.
use Rattle.std.proofs.Common.{◌≡◌, ℕ, suc, ◌+◌, ◌/◌, ◌%◌, ◌<◌, true, false, List, [], ◌∷◌, ◌++◌, length, Some, None, refl, sym, ap, subst, ◌∙◌, append_assoc, arith}
use Rattle.std.specs.Prelude.{◌==◌}
use Rattle.std.specs.List.{flat_map, AllByRecursion}
use Rattle.std.proofs.lemmas.Bool.{eqb-true}
use Rattle.std.proofs.lemmas.Grind.{flat_map-append}
use Rattle.std.proofs.lemmas.List.{append-nil, length-append, nil_from_length}
use Rattle.std.proofs.lemmas.List.Concat.{flat_map-cons}
use Rattle.x509_timestamps.specs.Timestamps.{vector, IsVector, IsList, list_bytes}
use Rattle.x509_timestamps.specs.Reading.{vector_at, whole_at}
use Rattle.x509_timestamps.specs.facts.Vectors.{IsBytes, bytes-behind, found_is, no_some, vector_takes, vector_again, whole_takes, whole_again}

-- vectors that begin a list of vectors are its first, and what stands behind them are the others
others : (xs ys : List (List ℕ)) (rest : List ℕ) → flat_map vector xs ++ rest ≡ flat_map vector ys → (more : List (List ℕ)) × (rest ≡ flat_map vector more)
others [] ys rest e = (ys, e)
others (x ∷ xs) [] rest e = absurd cc
others (x ∷ xs) (y ∷ ys) rest e =
    let regrouped : vector x ++ (flat_map vector xs ++ rest) ≡ flat_map vector (x ∷ xs) ++ rest = sym (ap (λ (r : List ℕ). r ++ rest) (flat_map-cons vector x xs) ∙ append_assoc (vector x) (flat_map vector xs) rest) in
    let same : vector x ++ (flat_map vector xs ++ rest) ≡ vector y ++ flat_map vector ys = regrouped ∙ e ∙ flat_map-cons vector y ys in
    let read = sym (vector_again x (flat_map vector xs ++ rest)) ∙ ap vector_at same ∙ vector_again y (flat_map vector ys) in
    others xs ys rest (ap (λ (p : List ℕ × List ℕ). p.1) (found_is (x, flat_map vector xs ++ rest) (y, flat_map vector ys) read))

no_first : (more : List (List ℕ)) (rest : List ℕ) → (length rest == 0) ≡ false → vector_at rest ≡ None → rest ≡ flat_map vector more → ⊥
no_first [] [] some none e = cc
no_first [] (b ∷ rest) some none e = cc
no_first (m ∷ ms) rest some none e = no_some (m, flat_map vector ms) (sym (ap vector_at (e ∙ flat_map-cons vector m ms) ∙ vector_again m (flat_map vector ms)) ∙ none)

-- what a loop over the content has read
pub record SoFar (content : List ℕ) (xs : List (List ℕ)) (rest : List ℕ) : Type 0 where
  pub parts : content ≡ flat_map vector xs ++ rest
  pub each : AllByRecursion IsVector xs
  pub fits : IsBytes rest

pub begins : (bytes content : List ℕ) → IsBytes bytes → whole_at bytes ≡ Some content → SoFar content [] content
begins bytes content fits e =
    let w = whole_takes bytes content fits e in
    let front = length content / 256 ∷ length content % 256 ∷ [] in
    record { parts = refl; each = tt; fits = bytes-behind front content (subst IsBytes w.parts fits) }

all-push : (xs : List (List ℕ)) (x : List ℕ) → AllByRecursion IsVector xs → IsVector x → AllByRecursion IsVector (xs ++ x ∷ [])
all-push [] x each fits = (fits, tt)
all-push (y ∷ xs) x each fits = (each.0, all-push xs x each.1 fits)

pub goes_on : (content : List ℕ) (xs : List (List ℕ)) (rest item behind : List ℕ) → SoFar content xs rest → vector_at rest ≡ Some (item, behind) → SoFar content (xs ++ item ∷ []) behind
goes_on content xs rest item behind s e =
    let t = vector_takes rest (item, behind) s.fits e in
    let one : flat_map vector (item ∷ []) ≡ vector item = flat_map-cons vector item [] ∙ append-nil (vector item) in
    let all : flat_map vector (xs ++ item ∷ []) ≡ flat_map vector xs ++ vector item = flat_map-append vector xs (item ∷ []) ∙ ap (λ (r : List ℕ). flat_map vector xs ++ r) one in
    let parts : content ≡ flat_map vector (xs ++ item ∷ []) ++ behind = s.parts ∙ ap (λ (r : List ℕ). flat_map vector xs ++ r) t.parts ∙ sym (append_assoc (flat_map vector xs) (vector item) behind) ∙ ap (λ (r : List ℕ). r ++ behind) (sym all) in
    record { parts = parts; each = all-push xs item s.each t.fits; fits = t.rest_fits }

pub shorter : (content : List ℕ) (xs : List (List ℕ)) (rest item behind : List ℕ) → SoFar content xs rest → vector_at rest ≡ Some (item, behind) → length behind < length rest
shorter content xs rest item behind s e =
    let t = vector_takes rest (item, behind) s.fits e in
    let total : length rest ≡ length (vector item) + length behind = ap length t.parts ∙ length-append (vector item) behind in
    let front : length (vector item) ≡ suc (suc (length item)) = refl in
    omega (arith, total, front)

pub ends : (bytes content : List ℕ) (xs : List (List ℕ)) (rest : List ℕ) → IsBytes bytes → whole_at bytes ≡ Some content → SoFar content xs rest → (length rest == 0) ≡ true → IsList xs × (bytes ≡ list_bytes xs)
ends bytes content xs rest fits e s none =
    let w = whole_takes bytes content fits e in
    let nothing : rest ≡ [] = nil_from_length rest (eqb-true _ _ none) in
    let all : content ≡ flat_map vector xs = s.parts ∙ ap (λ (r : List ℕ). flat_map vector xs ++ r) nothing ∙ append-nil (flat_map vector xs) in
    (record { whole = subst IsVector all w.fits; each = s.each }, w.parts ∙ ap vector all)

-- bytes that aren't one vector are no list
pub no_whole : (bytes : List ℕ) (items : List (List ℕ)) → whole_at bytes ≡ None → bytes ≡ list_bytes items → ⊥
no_whole bytes items none e = no_some (flat_map vector items) (sym (ap whole_at e ∙ whole_again (flat_map vector items)) ∙ none)

-- nor are those in whose content something stands that is no vector
pub no_list : (bytes content : List ℕ) (xs : List (List ℕ)) (rest : List ℕ) (items : List (List ℕ)) → whole_at bytes ≡ Some content → SoFar content xs rest → (length rest == 0) ≡ false → vector_at rest ≡ None → bytes ≡ list_bytes items → ⊥
no_list bytes content xs rest items read s some none e =
    let same : content ≡ flat_map vector items = found_is content (flat_map vector items) (sym read ∙ ap whole_at e ∙ whole_again (flat_map vector items)) in
    let p = others xs items rest (sym s.parts ∙ same) in
    no_first p.0 rest some none p.1
