-- One field, and then another.
use Rattle.std.proofs.Common.{◌≡◌, ℕ, ◌+◌, Bool, true, false, ◌||◌, List, [], ◌∷◌, ◌++◌, length, refl, ap, sym, ◌∙◌, arith, length-append}
use Rattle.std.proofs.lemmas.List.{append_cancel_left}
use Rattle.x509_der_parts.specs.facts.MarkOrder.{placing_joined}
use Rattle.x509_der_parts.specs.facts.Lists.{regroup}
use Rattle.x509_der_parts.specs.Tally.{Tally}
use Rattle.x509_der_parts.specs.facts.Tally.{joined_clean, joined_is_clean, joined_cost, joined_few}
use Rattle.x509_der_parts.specs.Fields.{Stands, Beside}
use Rattle.x509_der_parts.specs.facts.Fields.{stands}
use Rattle.x509_der_parts.specs.Parts.{IsPart}
use Rattle.x509_der_parts.specs.facts.Parts.{first_there, second_there}
use Rattle.x509_der_parts.specs.Shape.{Shape, Lawful, Follows, Begins}
use Rattle.x509_der_parts.specs.Join.{Apart, Joined, join}

-- both stand where their parts do
pub joined_parts : {V W : Type 0} (a : Shape V) (b : Shape W) → Lawful a → Lawful b → (v : V) (w : W) (p : List ℕ) (y : Tally) → Joined (a.spelled v) (b.spelled w) p y → (n : ℕ) (string : List ℕ) (whole : Tally) → IsPart string whole n p y → Beside (λ m q. Stands a v m q string whole) (λ m q. Stands b w m q string whole) n p
joined_parts a b la lb v w p y i n string whole h =
    let f = (la.places v i.front i.first i.fore).within in
    let g = (lb.places w i.back i.second i.aft).within in
    record {
      front = i.front;
      back = i.back;
      bytes = i.bytes;
      first = stands a la v i.front i.first i.fore n string whole (first_there string whole n p y h i.front i.back i.first i.second i.bytes i.tally f g);
      second = stands b lb w i.back i.second i.aft (n + length i.front) string whole (second_there string whole n p y h i.front i.back i.first i.second i.bytes i.tally f g);
    }

or_false : (x y : Bool) → (x || y) ≡ false → (x ≡ false) × (y ≡ false)
or_false true y e = cc
or_false false true e = cc
or_false false false e = (refl, refl)

or_left : (x y : Bool) → x ≡ true → (x || y) ≡ true
or_left true y e = refl
or_left false y e = cc

or_right : (x y : Bool) → y ≡ true → (x || y) ≡ true
or_right true y e = refl
or_right false y e = e

pub follows_left : (f g : ℕ → Bool) (q : List ℕ) → Follows (λ c. f c || g c) q → Follows f q
follows_left f g [] h = tt
follows_left f g (b ∷ q) h = (or_false (f b) (g b) h).0

pub follows_right : (f g : ℕ → Bool) (q : List ℕ) → Follows (λ c. f c || g c) q → Follows g q
follows_right f g [] h = tt
follows_right f g (b ∷ q) h = (or_false (f b) (g b) h).1

-- what follows the first field, where the second one begins as it may
pub follows_first : (f g : ℕ → Bool) (p q : List ℕ) → ((c : ℕ) → g c ≡ true → f c ≡ false) → Begins g p → Follows f q → Follows f (p ++ q)
follows_first f g [] q d b h = h
follows_first f g (c ∷ p) q d b h = d c b

pub begins_pair : (f g : ℕ → Bool) (p q : List ℕ) → Begins f p → Begins g q → Begins (λ c. f c || g c) (p ++ q)
begins_pair f g [] [] b c = tt
begins_pair f g [] (x ∷ q) b c = or_right (f x) (g x) c
begins_pair f g (x ∷ p) q b c = or_left (f x) (g x) b

module _ {V W : Type 0} (a : Shape V) (b : Shape W) (la : Lawful a) (lb : Lawful b) (apart : Apart a b) where
  join_one : (v v2 : V) (w w2 : W) (p q r u : List ℕ) (y z : Tally) → Joined (a.spelled v) (b.spelled w) p y → Joined (a.spelled v2) (b.spelled w2) q z → p ++ r ≡ q ++ u → Follows (λ c. a.avoids c || b.avoids c) r → Follows (λ c. a.avoids c || b.avoids c) u → (v ≡ v2) × (w ≡ w2) × (p ≡ q) × (y ≡ z)
  join_one v v2 w w2 p q r u y z i j e f g =
      let e1 : i.front ++ (i.back ++ r) ≡ j.front ++ (j.back ++ u) = regroup p i.front i.back r q j.front j.back u i.bytes j.bytes e in
      let o = la.one v v2 i.front j.front (i.back ++ r) (j.back ++ u) i.first j.first i.fore j.fore e1 (follows_first a.avoids b.starts i.back r apart (lb.begins w i.back i.second i.aft) (follows_left _ b.avoids r f)) (follows_first a.avoids b.starts j.back u apart (lb.begins w2 j.back j.second j.aft) (follows_left _ b.avoids u g)) in
      let ob = o.bytes in
      let ot = o.tally in
      let e2 : i.back ++ r ≡ j.back ++ u = append_cancel_left i.front _ _ (e1 ∙ ap (λ x. x ++ (j.back ++ u)) (sym ob)) in
      let k = lb.one w w2 i.back j.back r u i.second j.second i.aft j.aft e2 (follows_right a.avoids _ r f) (follows_right a.avoids _ u g) in
      let kb = k.bytes in
      let kt = k.tally in
      let ib = i.bytes in
      let jb = j.bytes in
      let it = i.tally in
      let jt = j.tally in
      (o.value, k.value, cc, cc)

  module _ {X : Type 0} (fst : X → V) (snd : X → W) (whole : (x y : X) → fst x ≡ fst y → snd x ≡ snd y → x ≡ y) where
    pub join_lawful : Lawful (join fst snd a b)
    join_lawful = record {
      one = λ v w p q r u y z i j e f g.
          let o = join_one (fst v) (fst w) (snd v) (snd w) p q r u y z i j e f g in
          record { value = whole v w o.0 o.1; bytes = o.2; tally = o.3 };
      written = λ v d r.
          let h = la.written (fst v) d.0 r.0 in
          let k = lb.written (snd v) d.1 r.1 in
          record { headers = h.headers + k.headers; spelled = record { front = a.strict (fst v); back = b.strict (snd v); first = _; second = _; fore = h.spelled; aft = k.spelled; bytes = refl; tally = sym (joined_clean _ _ _) } };
      clean = λ v p y i e.
          let m = joined_is_clean _ _ _ _ i.tally e in
          let c = la.clean (fst v) i.front i.first i.fore m.0 in
          let d = lb.clean (snd v) i.back i.second i.aft m.1 in
          let ib = i.bytes in
          cc;
      valid = λ v p y i. (la.valid (fst v) i.front i.first i.fore, lb.valid (snd v) i.back i.second i.aft);
      read = λ v p y i. (la.read (fst v) i.front i.first i.fore, lb.read (snd v) i.back i.second i.aft);
      begins = λ v p y i. rw i.bytes (begins_pair a.starts b.starts i.front i.back (la.begins (fst v) i.front i.first i.fore) (lb.begins (snd v) i.back i.second i.aft));
      cost = λ v p y i.
          omega (arith, ap length i.bytes, length-append i.front i.back, joined_cost _ _ _ _ i.tally, la.cost (fst v) i.front i.first i.fore, lb.cost (snd v) i.back i.second i.aft);
      places = λ v p y i. placing_joined p i.front i.back i.first i.second y i.bytes i.tally (la.places (fst v) i.front i.first i.fore) (lb.places (snd v) i.back i.second i.aft);
      parts = λ v p y i n string whole h. joined_parts a b la lb (fst v) (snd v) p y i n string whole h;
      few = λ v p y i.
          omega (arith, joined_cost _ _ _ _ i.tally, joined_few _ _ _ _ i.tally, la.few (fst v) i.front i.first i.fore, lb.few (snd v) i.back i.second i.aft);
    }
