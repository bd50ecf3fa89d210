-- Parts of a string: a slice at its place, and the marks that lie within it.
use Rattle.std.proofs.Common.{◌≡◌, ℕ, ◌+◌, ◌≤◌, ◌<◌, Bool, true, false, ◌⊎◌, inl, inr, List, [], ◌∷◌, ◌++◌, length, map, refl, sym, ap, subst, ◌∙◌, arith, append_assoc, append-nil, length-append}
use Rattle.std.proofs.lemmas.List.Elements.{filter-append}
use Rattle.std.proofs.lemmas.Bool.Decides.{nat_tests}
use Rattle.x509_der_parts.specs.declared.deviation.Deviation.{Deviation}
use Rattle.x509_der_parts.specs.Element.{element, digits, header}
use Rattle.x509_der_parts.specs.facts.Element.{header_long}
use Rattle.x509_der_parts.specs.Tally.{Tally, Mark, moved, joined, inside, over, marked, lies, lying}
use Rattle.x509_der_parts.specs.facts.Tally.{map-moved, map-moved_zero, joined_marks, inside_marks, marked_marks}
use Rattle.x509_der_parts.specs.MarkOrder.{Within}
use Rattle.x509_der_parts.specs.Parts.{IsPart}

-- which marks lie between two places
lies_here : (a b : ℕ) (m : Mark) → a ≤ m.start → m.end ≤ b → lies a b m ≡ true
lies_here a b m h k = grind (arith, nat_tests)

lies_not : (a b : ℕ) (m : Mark) → (m.start < a) ⊎ (b < m.end) → lies a b m ≡ false
lies_not a b m h = grind (arith, nat_tests)

lying_take : (a b : ℕ) (m : Mark) (ms : List Mark) → lies a b m ≡ true → lying a b (m ∷ ms) ≡ m ∷ lying a b ms
unfolding lying
lying_take a b m ms h = rw h refl

lying_leave : (a b : ℕ) (m : Mark) (ms : List Mark) → lies a b m ≡ false → lying a b (m ∷ ms) ≡ lying a b ms
unfolding lying
lying_leave a b m ms h = rw h refl

lying_none : (a b : ℕ) → lying a b [] ≡ []
unfolding lying
lying_none a b = refl

lying-append : (a b : ℕ) (ms ks : List Mark) → lying a b (ms ++ ks) ≡ lying a b ms ++ lying a b ks
unfolding lying
lying-append a b ms ks = filter-append (lies a b) ms ks

pub lying_all : (n : ℕ) (ms : List Mark) → Within n ms → lying 0 n ms ≡ ms
lying_all n [] w = lying_none 0 n
lying_all n (m ∷ ms) w = lying_take 0 n m ms (lies_here 0 n m (omega arith) w.0.1) ∙ ap (λ x. m ∷ x) (lying_all n ms w.1)

lies_moved : (n a b : ℕ) (m : Mark) → lies (n + a) (n + b) (moved n m) ≡ lies a b m
unfolding moved
lies_moved n a b m = grind (arith, nat_tests)

tells : (b : Bool) → (b ≡ true) ⊎ (b ≡ false)
tells true = inl refl
tells false = inr refl

pub lying_moved : (n a b : ℕ) (ms : List Mark) → lying (n + a) (n + b) (map (moved n) ms) ≡ map (moved n) (lying a b ms)
lying_moved n a b [] = lying_none (n + a) (n + b) ∙ sym (ap (map (moved n)) (lying_none a b))
lying_moved n a b (m ∷ ms) =
    elim (tells (lies a b m)) [
      | inl h ↦ lying_take (n + a) (n + b) (moved n m) (map (moved n) ms) (lies_moved n a b m ∙ h) ∙ ap (λ x. moved n m ∷ x) (lying_moved n a b ms) ∙ sym (ap (map (moved n)) (lying_take a b m ms h))
      | inr h ↦ lying_leave (n + a) (n + b) (moved n m) (map (moved n) ms) (lies_moved n a b m ∙ h) ∙ lying_moved n a b ms ∙ sym (ap (map (moved n)) (lying_leave a b m ms h))
    ]

-- marks before the slice
lying_before : (n b : ℕ) (ms : List Mark) → Within n ms → lying n b ms ≡ []
lying_before n b [] w = lying_none n b
lying_before n b (m ∷ ms) w = lying_leave n b m ms (lies_not n b m (inl (omega (arith, w.0.0, w.0.1)))) ∙ lying_before n b ms w.1

-- marks behind it
lying_behind : (a n k : ℕ) (ms : List Mark) → Within k ms → lying a n (map (moved n) ms) ≡ []
unfolding moved
lying_behind a n k [] w = lying_none a n
lying_behind a n k (m ∷ ms) w = lying_leave a n (moved n m) (map (moved n) ms) (lies_not a n (moved n m) (inr (omega (arith, w.0.0)))) ∙ lying_behind a n k ms w.1

-- marks over the whole
lying_over : (a b n : ℕ) (ks : List Deviation) → 1 ≤ a → lying a b (over n ks) ≡ []
lying_over a b n [] h = lying_none a b
lying_over a b n (k ∷ ks) h = lying_leave a b (record { kind = k; start = 0; end = n }) (over n ks) (lies_not a b (record { kind = k; start = 0; end = n }) (inl (omega (arith, h)))) ∙ lying_over a b n ks h

inner_lies : (a b c d : ℕ) (m : Mark) → a ≤ c → d ≤ b → lies a b m ≡ false → lies c d m ≡ false
inner_lies a b c d m h k e = grind (arith, nat_tests)

lying_inner : (a b c d : ℕ) (ms : List Mark) → a ≤ c → d ≤ b → lying c d (lying a b ms) ≡ lying c d ms
lying_inner a b c d [] h k = ap (lying c d) (lying_none a b)
lying_inner a b c d (m ∷ ms) h k =
    elim (tells (lies a b m)) [
      | inr e ↦ ap (lying c d) (lying_leave a b m ms e) ∙ lying_inner a b c d ms h k ∙ sym (lying_leave c d m ms (inner_lies a b c d m h k e))
      | inl e ↦ ap (lying c d) (lying_take a b m ms e) ∙ elim (tells (lies c d m)) [
        | inl f ↦ lying_take c d m (lying a b ms) f ∙ ap (λ x. m ∷ x) (lying_inner a b c d ms h k) ∙ sym (lying_take c d m ms f)
        | inr f ↦ lying_leave c d m (lying a b ms) f ∙ lying_inner a b c d ms h k ∙ sym (lying_leave c d m ms f)
      ]
    ]

-- the parts of a spelling, combinator by combinator
pub part_whole : (p : List ℕ) (y : Tally) → Within (length p) y.marks → IsPart p y 0 p y
part_whole p y w =
    let z : 0 + length p ≡ length p = omega arith in
    record { before = []; after = []; bytes = sym (append-nil p); at = refl; marks = ap (λ x. lying 0 x y.marks) z ∙ lying_all (length p) y.marks w ∙ sym (map-moved_zero y.marks) }

-- a part of a part is a part
pub part_part : (p : List ℕ) (y : Tally) (n : ℕ) (q : List ℕ) (z : Tally) (k : ℕ) (r : List ℕ) (x : Tally) → IsPart p y n q z → IsPart q z k r x → IsPart p y (n + k) r x
part_part p y n q z k r x i j =
    let long : k + length r ≤ length q = omega (arith, j.at, ap length j.bytes, length-append j.before (r ++ j.after), length-append r j.after) in
    let assoc : (n + k) + length r ≡ n + (k + length r) = omega arith in
    record {
      before = i.before ++ j.before;
      after = j.after ++ i.after;
      bytes = i.bytes ∙ ap (λ w. i.before ++ (w ++ i.after)) j.bytes ∙ ap (λ w. i.before ++ w) (append_assoc j.before (r ++ j.after) i.after ∙ ap (λ w. j.before ++ w) (append_assoc r j.after i.after)) ∙ sym (append_assoc i.before j.before (r ++ (j.after ++ i.after)));
      at = omega (arith, i.at, j.at, length-append i.before j.before);
      marks = ap (λ w. lying (n + k) w y.marks) assoc
          ∙ sym (lying_inner n (n + length q) (n + k) (n + (k + length r)) y.marks (omega arith) (omega (arith, long)))
          ∙ ap (lying (n + k) (n + (k + length r))) i.marks
          ∙ lying_moved n k (k + length r) z.marks
          ∙ ap (map (moved n)) j.marks
          ∙ map-moved n k x.marks;
    }

element_bytes : (t : ℕ) (c : List ℕ) → element t c ≡ (t ∷ digits (length c)) ++ (c ++ [])
unfolding element
element_bytes t c = ap (λ x. (t ∷ digits (length c)) ++ x) (sym (append-nil c))

header_is : (t : ℕ) (c : List ℕ) → header c ≡ length (t ∷ digits (length c))
unfolding header
header_is t c = omega arith

-- the content of an element
pub part_content : (t : ℕ) (c p : List ℕ) (part y : Tally) → p ≡ element t c → y ≡ inside (header c) part → Within (length c) part.marks → IsPart p y (header c) c part
part_content t c p part y e f w =
    let h = header c in
    let z : h ≡ h + 0 = omega arith in
    record {
      before = t ∷ digits (length c);
      after = [];
      bytes = e ∙ element_bytes t c;
      at = header_is t c;
      marks = ap (lying h (h + length c)) (ap (λ (x : Tally). x.marks) f ∙ inside_marks h part) ∙ ap (λ x. lying x (h + length c) (map (moved h) part.marks)) z ∙ lying_moved h 0 (length c) part.marks ∙ ap (map (moved h)) (lying_all (length c) part.marks w);
    }

module _ (p front back : List ℕ) (a b y : Tally) (e : p ≡ front ++ back) (f : y ≡ joined (length front) a b) (first : Within (length front) a.marks) (second : Within (length back) b.marks) where
  both : y.marks ≡ a.marks ++ map (moved (length front)) b.marks
  both = ap (λ (x : Tally). x.marks) f ∙ joined_marks (length front) a b

  -- the first of two fields
  pub part_first : IsPart p y 0 front a
  part_first =
      let n = length front in
      let z : 0 + n ≡ n = omega arith in
      record {
        before = [];
        after = back;
        bytes = e;
        at = refl;
        marks = ap (λ x. lying 0 x y.marks) z ∙ ap (lying 0 n) both ∙ lying-append 0 n a.marks (map (moved n) b.marks)
            ∙ ap (λ x. x ++ lying 0 n (map (moved n) b.marks)) (lying_all n a.marks first)
            ∙ ap (λ x. a.marks ++ x) (lying_behind 0 n (length back) b.marks second)
            ∙ append-nil a.marks
            ∙ sym (map-moved_zero a.marks);
      }

  -- the second of two fields
  pub part_second : IsPart p y (length front) back b
  part_second =
      let n = length front in
      let m = n + length back in
      let z : n ≡ n + 0 = omega arith in
      record {
        before = front;
        after = [];
        bytes = e ∙ ap (λ x. front ++ x) (sym (append-nil back));
        at = refl;
        marks = ap (lying n m) both ∙ lying-append n m a.marks (map (moved n) b.marks)
            ∙ ap (λ x. x ++ lying n m (map (moved n) b.marks)) (lying_before n m a.marks first)
            ∙ ap (λ x. lying x m (map (moved n) b.marks)) z
            ∙ lying_moved n 0 (length back) b.marks
            ∙ ap (map (moved n)) (lying_all (length back) b.marks second);
      }

-- a part behind the first byte of what bears marks over the whole
pub part_marked : (p : List ℕ) (ks : List Deviation) (y part : Tally) (n : ℕ) (q : List ℕ) (z : Tally) → y ≡ marked ks (length p) part → 1 ≤ n → IsPart p part n q z → IsPart p y n q z
part_marked p ks y part n q z e h i = record {
  before = i.before;
  after = i.after;
  bytes = i.bytes;
  at = i.at;
  marks = ap (lying n (n + length q)) (marked_marks ks (length p) part y e) ∙ lying-append n (n + length q) (over (length p) ks) part.marks ∙ ap (λ x. x ++ lying n (n + length q) part.marks) (lying_over n (n + length q) (length p) ks h) ∙ i.marks;
}

-- the parts of a part, where they stand in the string
module _ (string : List ℕ) (whole : Tally) (n : ℕ) (p : List ℕ) (y : Tally) (i : IsPart string whole n p y) where
  pub content_there : (t : ℕ) (c : List ℕ) (part : Tally) → p ≡ element t c → y ≡ inside (header c) part → Within (length c) part.marks → IsPart string whole (n + header c) c part
  content_there t c part e f w = part_part string whole n p y (header c) c part i (part_content t c p part y e f w)

  -- also where the element bears marks over the whole
  pub content_marked : (t : ℕ) (c : List ℕ) (part mid : Tally) (ks : List Deviation) → y ≡ marked ks (length p) mid → p ≡ element t c → mid ≡ inside (header c) part → Within (length c) part.marks → IsPart string whole (n + header c) c part
  content_marked t c part mid ks m e f w =
      part_part string whole n p y (header c) c part i (part_marked p ks y mid (header c) c part m (omega (arith, header_long c)) (part_content t c p part mid e f w))

  pub first_there : (front back : List ℕ) (a b : Tally) → p ≡ front ++ back → y ≡ joined (length front) a b → Within (length front) a.marks → Within (length back) b.marks → IsPart string whole n front a
  first_there front back a b e f v w =
      let z : n + 0 ≡ n = omega arith in
      let P : ℕ → Type 0 = λ m. IsPart string whole m front a in
      subst P z (part_part string whole n p y 0 front a i (part_first p front back a b y e f v w))

  pub second_there : (front back : List ℕ) (a b : Tally) → p ≡ front ++ back → y ≡ joined (length front) a b → Within (length front) a.marks → Within (length back) b.marks → IsPart string whole (n + length front) back b
  second_there front back a b e f v w = part_part string whole n p y (length front) back b i (part_second p front back a b y e f v w)
