-- Attributes printed one after another.
use Rattle.std.proofs.Common.{◌≡◌, ℕ, suc, ◌<◌, ◌+◌, Bool, true, false, ◌&&◌, List, [], ◌∷◌, ◌++◌, ◌==◌, length, get_or, take, map, flat_map, refl, sym, ap, ◌∙◌, append_assoc, append-nil, arith}
use Rattle.std.specs.List.{join_with_byte}
use Rattle.std.proofs.lemmas.Bool.Decides.{nat_tests}
use Rattle.std.proofs.lemmas.List.{take_more}
use Rattle.std.proofs.lemmas.List.Concat.{flat_map-append}
use Rattle.x509_names.specs.declared.attribute_type_and_value.AttributeTypeAndValue.{AttributeTypeAndValue}
use Rattle.x509_names.specs.Names.{Sets}
use Rattle.x509_names.specs.NameTexts.{attribute_text, name_text, lead, texts}

abbrev pub is_empty : {X : Type 0} → List X → Bool
is_empty [] = true
is_empty (x ∷ xs) = false

-- the attributes of sets
abbrev pub in_sets : {A : Type 0} → Sets A → List (AttributeTypeAndValue A)
in_sets sets = flat_map (λ set. set) sets

texts-more : {A : Type 0} (x : AttributeTypeAndValue A) (xs : List (AttributeTypeAndValue A)) → attribute_text x ++ texts false xs ≡ join_with_byte 44 (map attribute_text (x ∷ xs))
texts-more x [] = append-nil (attribute_text x)
texts-more x (y ∷ xs) = ap (λ (l : List ℕ). attribute_text x ++ (44 ∷ l)) (texts-more y xs)

texts-all : {A : Type 0} (xs : List (AttributeTypeAndValue A)) → texts true xs ≡ join_with_byte 44 (map attribute_text xs)
texts-all [] = refl
texts-all (x ∷ xs) = texts-more x xs

-- the attributes of all sets are the name's text
pub texts-name : {A : Type 0} (sets : Sets A) → texts true (in_sets sets) ≡ name_text sets
unfolding name_text
texts-name sets = texts-all (in_sets sets)

texts-behind : {A : Type 0} (x : AttributeTypeAndValue A) (xs ys : List (AttributeTypeAndValue A)) → texts false (xs ++ ys) ≡ texts false xs ++ texts false ys
    → attribute_text x ++ texts false (xs ++ ys) ≡ (attribute_text x ++ texts false xs) ++ texts false ys
texts-behind x xs ys e = ap (λ (l : List ℕ). attribute_text x ++ l) e ∙ sym (append_assoc (attribute_text x) (texts false xs) (texts false ys))

-- attributes and others behind them
pub texts-append : {A : Type 0} (first : Bool) (xs ys : List (AttributeTypeAndValue A)) → texts first (xs ++ ys) ≡ texts first xs ++ texts (first && is_empty xs) ys
texts-append true [] ys = refl
texts-append false [] ys = refl
texts-append true (x ∷ xs) ys = texts-behind x xs ys (texts-append false xs ys)
texts-append false (x ∷ xs) ys = ap (λ (l : List ℕ). 44 ∷ l) (texts-behind x xs ys (texts-append false xs ys))

pub texts_push : {A : Type 0} (first : Bool) (xs : List (AttributeTypeAndValue A)) (x : AttributeTypeAndValue A) → texts first (xs ++ x ∷ []) ≡ texts first xs ++ (lead (first && is_empty xs) ++ attribute_text x)
texts_push first xs x =
    texts-append first xs (x ∷ []) ∙ ap (λ (l : List ℕ). texts first xs ++ (lead (first && is_empty xs) ++ l)) (append-nil (attribute_text x))

pub is_empty_push : {X : Type 0} (first : Bool) (xs : List X) (x : X) → (first && is_empty (xs ++ x ∷ [])) ≡ false
is_empty_push true [] x = refl
is_empty_push false [] x = refl
is_empty_push true (y ∷ xs) x = refl
is_empty_push false (y ∷ xs) x = refl

pub is_empty-append : {X : Type 0} (xs ys : List X) → is_empty (xs ++ ys) ≡ (is_empty xs && is_empty ys)
is_empty-append [] ys = refl
is_empty-append (x ∷ xs) ys = refl

-- one attribute more, and one set more
pub one_more : {X : Type 0} (xs : List X) (i : ℕ) (x : X) → i < length xs → x ≡ get_or xs i x → take (i + 1) xs ≡ take i xs ++ x ∷ []
one_more xs i x within at = take_more xs i x within ∙ ap (λ t. take i xs ++ t ∷ []) (sym at)

pub sets_more : {A : Type 0} (sets : Sets A) (i : ℕ) (set : List (AttributeTypeAndValue A)) → i < length sets → set ≡ get_or sets i set → in_sets (take (i + 1) sets) ≡ in_sets (take i sets) ++ set
sets_more sets i set within at =
    ap in_sets (one_more sets i set within at) ∙ flat_map-append (λ s. s) (take i sets) (set ∷ []) ∙ ap (λ l. in_sets (take i sets) ++ l) (append-nil set)

not_none : (n : ℕ) → (suc n == 0) ≡ false
not_none n = grind (arith, nat_tests)

pub tested_empty : {X : Type 0} (xs : List X) → is_empty xs ≡ (length xs == 0)
tested_empty [] = refl
tested_empty (x ∷ xs) = sym (not_none (length xs))
