-- Writing parts.
use Rattle.std.proofs.Common.{◌≡◌, ℕ, ◌+◌, ◌≤◌, ◌<◌, ◌-◌, ◌/◌, ◌%◌, List, [], ◌∷◌, ◌++◌, length, take, drop, set, get_or, refl, sym, ap, ◌∙◌, arith, append_assoc, length-append, length-set}
use Rattle.std.proofs.lemmas.List.{take_more, take_all, drop_at, at_drop_more, append-nil, length-take-le, take-take, take-append-le, take-append-drop, set_at}
use Rattle.std.proofs.lemmas.Grind.{flat_map-append}
use Rattle.std.specs.List.{flat_map}
use Rattle.std.specs.Prelude.{◌≡◌, ℕ, ◌+◌, List, ◌++◌, length, take}
use Rattle.x509_der_parts.specs.Element.{base, digits, element}
use Rattle.x509_der_parts.specs.facts.LengthDigits.{base_zero, base_more, digits_low, digits_high}
use Rattle.x509_der_parts.specs.facts.Lists.{same_append}

module _ {V : Type 0} (f : V → List ℕ) where
  -- an item, and those behind it
  pub items_from : (xs : List V) (i j : ℕ) (x d : V) → i + 1 ≡ j → i < length xs → x ≡ get_or xs i d → flat_map f (drop i xs) ≡ f x ++ flat_map f (drop j xs)
  items_from xs i j x d e h g = at_drop_more (flat_map f) xs i d h ∙ ap (λ y. f y ++ flat_map f (drop (i + 1) xs)) (sym g) ∙ ap (λ k. f x ++ flat_map f (drop k xs)) e

  -- those before an item, and the others
  pub items_parted : (xs : List V) (i : ℕ) → flat_map f xs ≡ flat_map f (take i xs) ++ flat_map f (drop i xs)
  items_parted xs i = ap (flat_map f) (sym (take-append-drop i xs)) ∙ flat_map-append f (take i xs) (drop i xs)

  -- those before an item and the item, and those behind it
  pub items_around : (xs : List V) (i j : ℕ) (x d : V) → i + 1 ≡ j → i < length xs → x ≡ get_or xs i d → flat_map f xs ≡ (flat_map f (take i xs) ++ f x) ++ flat_map f (drop j xs)
  items_around xs i j x d e h g = items_parted xs i ∙ ap (λ r. flat_map f (take i xs) ++ r) (items_from xs i j x d e h g) ∙ sym (append_assoc (flat_map f (take i xs)) (f x) (flat_map f (drop j xs)))

pub element_is : (t : ℕ) (c : List ℕ) → element t c ≡ (t ∷ digits (length c)) ++ c
unfolding element
element_is t c = refl

pub low_size : (n : ℕ) → n < 128 → length (digits n) ≡ 1
low_size n h = ap length (digits_low n h)

pub high_size : (n : ℕ) → 128 ≤ n → length (digits n) ≡ 1 + length (base n)
high_size n h = omega (arith, ap length (digits_high n h))

-- a byte written in front of what was written from the place behind it on
pub set_before : (old tail out : List ℕ) (n m x : ℕ) → n + 1 ≡ m → m ≤ length old → out ≡ take m old ++ tail → set out n x ≡ take n old ++ (x ∷ tail)
set_before old tail out n m x e h o =
    let t : take m old ≡ take n old ++ get_or old n 0 ∷ [] = ap (λ k. take k old) (sym e) ∙ take_more old n 0 (omega arith) in
    let s : out ≡ take n old ++ (get_or old n 0 ∷ tail) = o ∙ ap (λ l. l ++ tail) t ∙ append_assoc (take n old) (get_or old n 0 ∷ []) tail in
    ap (λ l. set l n x) s ∙ set_at (take n old) (get_or old n 0) tail x n (length-take-le n old (omega arith))

-- a part written in front of what was written from its end on
pub part_before : (part tail old out : List ℕ) (n m : ℕ) → n + length part ≡ m → m ≤ length old → out ≡ take m old ++ tail → take n out ++ (part ++ drop m out) ≡ take n old ++ (part ++ tail)
part_before part tail old out n m e h o =
    let l : length (take m old) ≡ m = length-take-le m old h in
    let d : drop m out ≡ tail = ap (drop m) o ∙ drop_at (take m old) tail m l in
    let t : take n out ≡ take n old = ap (take n) o ∙ take-append-le n (take m old) tail (omega arith) ∙ take-take n m old (omega arith) in
    same_append t (ap (λ r. part ++ r) d)

-- the same, where the part is written to the end of a slice of its own
pub slice_before : (part tail old out front : List ℕ) (n m : ℕ) → n + length part ≡ m → m ≤ length old → out ≡ take m old ++ tail → front ≡ take n (take m out) ++ part → front ++ drop m out ≡ take n old ++ (part ++ tail)
slice_before part tail old out front n m e h o f =
    ap (λ x. x ++ drop m out) f
    ∙ append_assoc (take n (take m out)) part (drop m out)
    ∙ ap (λ x. x ++ (part ++ drop m out)) (take-take n m out (omega arith))
    ∙ part_before part tail old out n m e h o

-- the last byte of a slice, and what is written in front of it
pub before_last : (old : List ℕ) (n m x : ℕ) → n ≤ m → m ≤ length old → n ≤ length (take m (set old m x))
before_last old n m x h k = omega (arith, length-take-le m (set old m x) (omega (arith, length-set old m x)))

pub set_last : (old : List ℕ) (n x : ℕ) → n + 1 ≡ length old → set old n x ≡ take n old ++ (x ∷ [])
set_last old n x e = set_before old [] old n (length old) x e (omega arith) (sym (append-nil (take (length old) old) ∙ take_all (length old) old (omega arith)))

pub last_before : (part old front : List ℕ) (n m x : ℕ) → n + length part ≡ m → m + 1 ≡ length old → front ≡ take n (take m (set old m x)) ++ part → front ++ drop m (set old m x) ≡ take n old ++ (part ++ x ∷ [])
last_before part old front n m x e h f = slice_before part (x ∷ []) old (set old m x) front n m e (omega arith) (set_last old m x h) f

-- the digits of a number are written down to a place; rest is what they still have to say
pub record Written (number : ℕ) (old out : List ℕ) (at rest : ℕ) : Type 0 where
  pub done : List ℕ
  pub digits : base number ≡ base rest ++ done
  pub place : at + length done ≡ length old
  pub bytes : out ≡ take at old ++ done

-- the loop that writes the digits of a number
pub written_step : (number : ℕ) (old out : List ℕ) (n m rest : ℕ) → n + 1 ≡ m → 0 < rest → Written number old out m rest → Written number old (set out n (rest % 256)) n (rest / 256)
written_step number old out n m rest e p w = record {
  done = rest % 256 ∷ w.done;
  digits = w.digits ∙ ap (λ x. x ++ w.done) (base_more rest p) ∙ append_assoc (base (rest / 256)) (rest % 256 ∷ []) w.done;
  place = omega (arith, w.place);
  bytes = set_before old w.done out n m (rest % 256) e (omega (arith, w.place)) w.bytes;
}

pub written_place : (number : ℕ) (old out : List ℕ) (at rest : ℕ) → length (base number) ≤ length old → Written number old out at rest → length (base rest) ≤ at
written_place number old out at rest h w = omega (arith, w.place, ap length w.digits, length-append (base rest) w.done)

pub written_end : (number : ℕ) (old out : List ℕ) (at rest : ℕ) → rest ≡ 0 → Written number old out at rest → (at + length (base number) ≡ length old) × (out ≡ take at old ++ base number)
written_end number old out at rest z w =
    let d : base number ≡ w.done = w.digits ∙ ap (λ x. base x ++ w.done) z ∙ ap (λ x. x ++ w.done) base_zero in
    (omega (arith, w.place, ap length d), w.bytes ∙ ap (λ x. take at old ++ x) (sym d))

-- the length digits, written in front of the end of a slice
pub low_back : (old : List ℕ) (len n : ℕ) → len < 128 → n + 1 ≡ length old → set old n len ≡ take n old ++ digits len
low_back old len n h e = set_last old n len e ∙ ap (λ x. take n old ++ x) (sym (digits_low len h))

pub high_back : (old out : List ℕ) (len n m : ℕ) → 128 ≤ len → n + 1 ≡ m → m + length (base len) ≡ length old → out ≡ take m old ++ base len → set out n (128 + (length old - m)) ≡ take n old ++ digits len
high_back old out len n m h e p o =
    let c : length old - m ≡ length (base len) = omega arith in
    set_before old (base len) out n m (128 + (length old - m)) e (omega arith) o ∙ ap (λ k. take n old ++ ((128 + k) ∷ base len)) c ∙ ap (λ x. take n old ++ x) (sym (digits_high len h))
