-- Facts about tallies.
use Rattle.std.proofs.Common.{◌≡◌, ℕ, suc, ◌+◌, List, [], ◌∷◌, ◌++◌, length, map, refl, ap, sym, ◌∙◌, arith, append_assoc, append-nil, length-append}
use Rattle.std.proofs.lemmas.List.{map-append, length-map}
use Rattle.x509_der_parts.specs.declared.deviation.Deviation.{Deviation}
use Rattle.x509_der_parts.specs.facts.Lists.{map_empty, both_empty}
use Rattle.x509_der_parts.specs.Tally.{Tally, Mark, none, joined, inside, moved, over, marked}

pub map-moved : (n m : ℕ) (b : List Mark) → map (moved n) (map (moved m) b) ≡ map (moved (n + m)) b
unfolding moved
map-moved n m [] = refl
map-moved n m (k ∷ b) =
    let h = map-moved n m b in
    let e1 : (k.start + m) + n ≡ k.start + (n + m) = omega arith in
    let e2 : (k.end + m) + n ≡ k.end + (n + m) = omega arith in
    rw (h, e1, e2) refl

pub map-moved_zero : (b : List Mark) → map (moved 0) b ≡ b
unfolding moved
map-moved_zero [] = refl
map-moved_zero (k ∷ b) =
    let h = map-moved_zero b in
    let e1 : k.start + 0 ≡ k.start = omega arith in
    let e2 : k.end + 0 ≡ k.end = omega arith in
    rw (h, e1, e2) refl

-- joined
pub joined_marks : (n : ℕ) (a b : Tally) → (joined n a b).marks ≡ a.marks ++ map (moved n) b.marks
unfolding joined
joined_marks n a b = refl

pub joined_headers : (n : ℕ) (a b : Tally) → (joined n a b).headers ≡ a.headers + b.headers
unfolding joined
joined_headers n a b = refl

pub joined_clean : (n h k : ℕ) → joined n (record { marks = []; headers = h }) (record { marks = []; headers = k }) ≡ record { marks = []; headers = h + k }
unfolding joined
joined_clean n h k = refl

pub joined_is_clean : (n : ℕ) (a b y : Tally) → y ≡ joined n a b → y.marks ≡ [] → (a.marks ≡ []) × (b.marks ≡ [])
joined_is_clean n a b y e m =
    let h = both_empty a.marks (map (moved n) b.marks) (sym (joined_marks n a b) ∙ ap (λ (x : Tally). x.marks) (sym e) ∙ m) in
    (h.0, map_empty (moved n) b.marks h.1)

pub joined_cost : (n : ℕ) (a b y : Tally) → y ≡ joined n a b → y.headers ≡ a.headers + b.headers
joined_cost n a b y e = ap (λ (x : Tally). x.headers) e ∙ joined_headers n a b

pub joined_few : (n : ℕ) (a b y : Tally) → y ≡ joined n a b → length y.marks ≡ length a.marks + length b.marks
joined_few n a b y e =
    omega (arith, ap (λ (x : Tally). length x.marks) e, ap length (joined_marks n a b), length-append a.marks (map (moved n) b.marks), length-map b.marks (moved n))

pub joined_assoc : (n m : ℕ) (a b c : Tally) → joined n a (joined m b c) ≡ joined (n + m) (joined n a b) c
unfolding joined
joined_assoc n m a b c =
    let e : a.marks ++ map (moved n) (b.marks ++ map (moved m) c.marks) ≡ (a.marks ++ map (moved n) b.marks) ++ map (moved (n + m)) c.marks =
    ap (λ x. a.marks ++ x) (map-append (moved n) b.marks (map (moved m) c.marks)) ∙ ap (λ x. a.marks ++ (map (moved n) b.marks ++ x)) (map-moved n m c.marks) ∙ sym (append_assoc a.marks (map (moved n) b.marks) (map (moved (n + m)) c.marks)) in
    let h : a.headers + (b.headers + c.headers) ≡ (a.headers + b.headers) + c.headers = omega arith in
    rw (e, h) refl

-- inside
pub inside_marks : (n : ℕ) (y : Tally) → (inside n y).marks ≡ map (moved n) y.marks
unfolding inside
inside_marks n y = refl

pub inside_headers : (n : ℕ) (y : Tally) → (inside n y).headers ≡ y.headers + 1
unfolding inside
inside_headers n y = refl

pub inside_clean : (n h : ℕ) → inside n (record { marks = []; headers = h }) ≡ record { marks = []; headers = h + 1 }
unfolding inside
inside_clean n h = refl

pub inside_is_clean : (n : ℕ) (a y : Tally) → y ≡ inside n a → y.marks ≡ [] → a.marks ≡ []
inside_is_clean n a y e m = map_empty (moved n) a.marks (sym (inside_marks n a) ∙ ap (λ (x : Tally). x.marks) (sym e) ∙ m)

-- marked
pub marked_none : (n h : ℕ) → marked [] n (record { marks = []; headers = h }) ≡ record { marks = []; headers = h }
unfolding marked
marked_none n h = refl

pub marked_nothing : (n : ℕ) (ks : List Deviation) (part y : Tally) → [] ≡ ks → y ≡ marked ks n part → y ≡ part
unfolding marked
marked_nothing n ks part y k e = e ∙ ap (λ x. marked x n part) (sym k)

pub marked_clean : (ks : List Deviation) (n : ℕ) (y z : Tally) → z ≡ marked ks n y → z.marks ≡ [] → (ks ≡ []) × (y.marks ≡ [])
unfolding marked
marked_clean [] n y z e m = (refl, ap (λ (x : Tally). x.marks) (sym e) ∙ m)
marked_clean (k ∷ ks) n y z e m = let f : over n (k ∷ ks) ++ y.marks ≡ [] = ap (λ (x : Tally). x.marks) (sym e) ∙ m in cc

pub marked_headers : (ks : List Deviation) (n : ℕ) (y z : Tally) → z ≡ marked ks n y → z.headers ≡ y.headers
unfolding marked
marked_headers ks n y z e = ap (λ (x : Tally). x.headers) e

pub marked_marks : (ks : List Deviation) (n : ℕ) (y z : Tally) → z ≡ marked ks n y → z.marks ≡ over n ks ++ y.marks
unfolding marked
marked_marks ks n y z e = ap (λ (x : Tally). x.marks) e

over_length : (n : ℕ) (ks : List Deviation) → length (over n ks) ≡ length ks
over_length n [] = refl
over_length n (k ∷ ks) = ap suc (over_length n ks)

pub marked_length : (ks : List Deviation) (n : ℕ) (y z : Tally) → z ≡ marked ks n y → length z.marks ≡ length ks + length y.marks
unfolding marked
marked_length ks n y z e = omega (arith, ap (λ (x : Tally). length x.marks) e, length-append (over n ks) y.marks, over_length n ks)

-- none
pub none_marks : (y : Tally) → y ≡ none → y.marks ≡ []
unfolding none
none_marks y e = ap (λ (x : Tally). x.marks) e

pub none_headers : (y : Tally) → y ≡ none → y.headers ≡ 0
unfolding none
none_headers y e = ap (λ (x : Tally). x.headers) e

pub joined_none : (n : ℕ) (a : Tally) → joined n a none ≡ a
unfolding joined none
joined_none n a =
    let e : a.marks ++ [] ≡ a.marks = append-nil a.marks in
    let h : a.headers + 0 ≡ a.headers = omega arith in
    rw (e, h) refl

pub none_joined : (a : Tally) → joined 0 none a ≡ a
unfolding joined none
none_joined a =
    let e = map-moved_zero a.marks in
    let h : 0 + a.headers ≡ a.headers = omega arith in
    rw (e, h) refl
