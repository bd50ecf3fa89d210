-- Marks stand within their spelling, and in order: by start, and then by kind.
use Rattle.std.proofs.Common.{◌≡◌, ℕ, ◌+◌, ◌≤◌, ◌<◌, inl, inr, List, [], ◌∷◌, ◌++◌, length, map, refl, ap, ◌∙◌, arith, length-append}
use Rattle.x509_der_parts.specs.declared.deviation.Deviation.{Deviation}
use Rattle.x509_der_parts.specs.Tally.{Tally, Mark, moved, joined, over}
use Rattle.x509_der_parts.specs.MarkOrder.{Above, Ascending, Before, Deep, Ordered, Placing, Within}

pub no_marks : (n : ℕ) (ms : List Mark) → ms ≡ [] → Placing n ms
no_marks n ms e = rw e (record { within = tt; ordered = tt })

within_more : (n m : ℕ) (ms : List Mark) → n ≤ m → Within n ms → Within m ms
within_more n m [] h w = tt
within_more n m (k ∷ ms) h w = ((w.0.0, omega (arith, w.0.1, h)), within_more n m ms h w.1)

within_moved : (k n : ℕ) (ms : List Mark) → Within n ms → Within (k + n) (map (moved k) ms)
unfolding moved
within_moved k n [] w = tt
within_moved k n (m ∷ ms) w = ((omega (arith, w.0.0), omega (arith, w.0.1)), within_moved k n ms w.1)

within_append : (n : ℕ) (a b : List Mark) → Within n a → Within n b → Within n (a ++ b)
within_append n [] b v w = w
within_append n (m ∷ a) b v w = (v.0, within_append n a b v.1 w)

before_moved : (k : ℕ) (m : Mark) (ms : List Mark) → Before m ms → Before (moved k m) (map (moved k) ms)
unfolding moved
before_moved k m [] h = tt
before_moved k m (j ∷ ms) h = (elim h.0 [ inl x ↦ inl (omega (arith, x)) | inr x ↦ inr (omega (arith, x.0), x.1) ], before_moved k m ms h.1)

ordered_moved : (k : ℕ) (ms : List Mark) → Ordered ms → Ordered (map (moved k) ms)
ordered_moved k [] h = tt
ordered_moved k (m ∷ ms) h = (before_moved k m ms h.0, ordered_moved k ms h.1)

before_far : (n : ℕ) (m : Mark) (b : List Mark) → m.start < n → Before m (map (moved n) b)
unfolding moved
before_far n m [] h = tt
before_far n m (k ∷ b) h = (inl (omega (arith, h)), before_far n m b h)

before_append : (m : Mark) (a b : List Mark) → Before m a → Before m b → Before m (a ++ b)
before_append m [] b v w = w
before_append m (k ∷ a) b v w = (v.0, before_append m a b v.1 w)

ordered_append : (n : ℕ) (a b : List Mark) → Within n a → Ordered a → Ordered b → Ordered (a ++ map (moved n) b)
ordered_append n [] b w v u = ordered_moved n b u
ordered_append n (m ∷ a) b w v u = (before_append m a (map (moved n) b) v.0 (before_far n m b (omega (arith, w.0.0, w.0.1))), ordered_append n a b w.1 v.1 u)

pub placing_same : (n m : ℕ) (ms ks : List Mark) → n ≡ m → ms ≡ ks → Placing m ks → Placing n ms
placing_same n m ms ks e f h = rw (e, f) h

pub placing_moved : (k n : ℕ) (ms : List Mark) → Placing n ms → Placing (k + n) (map (moved k) ms)
placing_moved k n ms h = record { within = within_moved k n ms h.within; ordered = ordered_moved k ms h.ordered }

pub placing_append : (n k : ℕ) (a b : List Mark) → Placing n a → Placing k b → Placing (n + k) (a ++ map (moved n) b)
placing_append n k a b h i = record {
  within = within_append (n + k) a (map (moved n) b) (within_more n (n + k) a (omega arith) h.within) (within_moved n k b i.within);
  ordered = ordered_append n a b h.within h.ordered i.ordered;
}

joined_is : (n : ℕ) (a b y : Tally) → y ≡ joined n a b → y.marks ≡ a.marks ++ map (moved n) b.marks
unfolding joined
joined_is n a b y e = ap (λ (x : Tally). x.marks) e

pub placing_joined : (p front back : List ℕ) (a b y : Tally) → p ≡ front ++ back → y ≡ joined (length front) a b → Placing (length front) a.marks → Placing (length back) b.marks → Placing (length p) y.marks
placing_joined p front back a b y e f h i =
    placing_same (length p) (length front + length back) y.marks (a.marks ++ map (moved (length front)) b.marks) (ap length e ∙ length-append front back) (joined_is (length front) a b y f) (placing_append (length front) (length back) a.marks b.marks h i)

before_deep : (m : Mark) (ms : List Mark) → m.start ≡ 0 → Deep ms → Before m ms
before_deep m [] e d = tt
before_deep m (k ∷ ms) e d = (inl (omega (arith, e, d.0)), before_deep m ms e d.1)

before_over : (n : ℕ) (k : Deviation) (ks : List Deviation) → Above k ks → Before (record { kind = k; start = 0; end = n }) (over n ks)
before_over n k [] a = tt
before_over n k (j ∷ ks) a = (inr (refl, a.0), before_over n k ks a.1)

ordered_over : (n : ℕ) (ks : List Deviation) (ms : List Mark) → Ascending ks → Deep ms → Ordered ms → Ordered (over n ks ++ ms)
ordered_over n [] ms a d o = o
ordered_over n (k ∷ ks) ms a d o =
    let m : Mark = record { kind = k; start = 0; end = n } in
    (before_append m (over n ks) ms (before_over n k ks a.0) (before_deep m ms refl d), ordered_over n ks ms a.1 d o)

within_over : (n : ℕ) (ks : List Deviation) → 1 ≤ n → Within n (over n ks)
within_over n [] h = tt
within_over n (k ∷ ks) h = ((h, omega arith), within_over n ks h)

pub placing_over : (n : ℕ) (ks : List Deviation) (ms : List Mark) → 1 ≤ n → Ascending ks → Deep ms → Placing n ms → Placing n (over n ks ++ ms)
placing_over n ks ms h a d p = record { within = within_append n (over n ks) ms (within_over n ks h) p.within; ordered = ordered_over n ks ms a d p.ordered }

pub deep_moved : (k : ℕ) (ms : List Mark) → 1 ≤ k → Deep (map (moved k) ms)
unfolding moved
deep_moved k [] h = tt
deep_moved k (m ∷ ms) h = (omega (arith, h), deep_moved k ms h)
