-- A field, and then another whose shape the first one's value chooses.
use Rattle.std.proofs.Common.{◌≡◌, ℕ, ◌+◌, Bool, true, false, ◌||◌, List, [], ◌∷◌, ◌++◌, length, refl, ap, subst, sym, ◌∙◌, arith, length-append}
use Rattle.std.proofs.lemmas.List.{append_cancel_left}
use Rattle.x509_der_parts.specs.facts.MarkOrder.{placing_joined}
use Rattle.x509_der_parts.specs.facts.Lists.{regroup}
use Rattle.x509_der_parts.specs.Tally.{Tally}
use Rattle.x509_der_parts.specs.facts.Tally.{joined_clean, joined_is_clean, joined_cost, joined_few}
use Rattle.x509_der_parts.specs.Shape.{Shape, Lawful, Follows, Begins}
use Rattle.x509_der_parts.specs.laws.Join.{joined_parts, follows_left, follows_right, follows_first, begins_pair}
use Rattle.x509_der_parts.specs.DefinedBy.{IsFamily, KeyApart, defined_by}

pub follows_within : (f g : ℕ → Bool) (q : List ℕ) → ((c : ℕ) → f c ≡ false → g c ≡ false) → Follows f q → Follows g q
follows_within f g [] h i = tt
follows_within f g (c ∷ q) h i = h c i

pub begins_within : (f g : ℕ → Bool) (q : List ℕ) → ((c : ℕ) → f c ≡ true → g c ≡ true) → Begins f q → Begins g q
begins_within f g [] h i = tt
begins_within f g (c ∷ q) h i = h c i

module _ {X K W : Type 0} (key : X → K) (value : X → W) (whole : (x y : X) → key x ≡ key y → value x ≡ value y → x ≡ y) (a : Shape K) (shapes : K → Shape W) (begins ends : ℕ → Bool) (la : Lawful a) (family : IsFamily shapes begins ends) (apart : KeyApart a begins) where
  -- what follows the key
  pub behind_key : (k : K) (w : W) (p q : List ℕ) (y : Tally) → (shapes k).spelled w p y → Follows (λ c. a.avoids c || ends c) q → Follows a.avoids (p ++ q)
  behind_key k w p q y i f = follows_first a.avoids begins p q apart (begins_within _ begins p (family.begin k) ((family.lawful k).begins w p y i)) (follows_left a.avoids ends q f)

  -- what follows the value
  pub behind_value : (k : K) (q : List ℕ) → Follows (λ c. a.avoids c || ends c) q → Follows (shapes k).avoids q
  behind_value k q f = follows_within ends (shapes k).avoids q (family.end k) (follows_right a.avoids ends q f)

  pub defined_by_lawful : Lawful (defined_by key value a shapes begins ends)
  defined_by_lawful = record {
    one = λ v w p q r u y z i j e f g.
        let e1 = regroup p i.front i.back r q j.front j.back u i.bytes j.bytes e in
        let o = la.one (key v) (key w) i.front j.front (i.back ++ r) (j.back ++ u) i.first j.first i.fore j.fore e1 (behind_key (key v) (value v) i.back r i.second i.aft f) (behind_key (key w) (value w) j.back u j.second j.aft g) in
        let ob = o.bytes in
        let ot = o.tally in
        let e2 : i.back ++ r ≡ j.back ++ u = append_cancel_left i.front _ _ (e1 ∙ ap (λ x. x ++ (j.back ++ u)) (sym ob)) in
        let P : K → Type 0 = λ k. (shapes k).spelled (value v) i.back i.second in
        let k = (family.lawful (key w)).one (value v) (value w) i.back j.back r u i.second j.second (subst P o.value i.aft) j.aft e2 (behind_value (key w) r f) (behind_value (key w) u g) in
        let kb = k.bytes in
        let kt = k.tally in
        let ib = i.bytes in
        let jb = j.bytes in
        let it = i.tally in
        let jt = j.tally in
        record { value = whole v w o.value k.value; bytes = cc; tally = cc };
    written = λ v d r.
        let h = la.written (key v) d.0 r.0 in
        let k = (family.lawful (key v)).written (value v) d.1 r.1 in
        record { headers = h.headers + k.headers; spelled = record { front = a.strict (key v); back = (shapes (key v)).strict (value v); first = _; second = _; fore = h.spelled; aft = k.spelled; bytes = refl; tally = sym (joined_clean _ _ _) } };
    clean = λ v p y i e.
        let m = joined_is_clean _ _ _ _ i.tally e in
        let c = la.clean (key v) i.front i.first i.fore m.0 in
        let d = (family.lawful (key v)).clean (value v) i.back i.second i.aft m.1 in
        let ib = i.bytes in
        cc;
    valid = λ v p y i. (la.valid (key v) i.front i.first i.fore, (family.lawful (key v)).valid (value v) i.back i.second i.aft);
    read = λ v p y i. (la.read (key v) i.front i.first i.fore, (family.lawful (key v)).read (value v) i.back i.second i.aft);
    begins = λ v p y i. rw i.bytes (begins_pair a.starts begins i.front i.back (la.begins (key v) i.front i.first i.fore) (begins_within _ begins i.back (family.begin (key v)) ((family.lawful (key v)).begins (value v) i.back i.second i.aft)));
    cost = λ v p y i.
        omega (arith, ap length i.bytes, length-append i.front i.back, joined_cost _ _ _ _ i.tally, la.cost (key v) i.front i.first i.fore, (family.lawful (key v)).cost (value v) i.back i.second i.aft);
    places = λ v p y i. placing_joined p i.front i.back i.first i.second y i.bytes i.tally (la.places (key v) i.front i.first i.fore) ((family.lawful (key v)).places (value v) i.back i.second i.aft);
    parts = λ v p y i n string whole h. joined_parts a (shapes (key v)) la (family.lawful (key v)) (key v) (value v) p y i n string whole h;
    few = λ v p y i.
        omega (arith, joined_cost _ _ _ _ i.tally, joined_few _ _ _ _ i.tally, la.few (key v) i.front i.first i.fore, (family.lawful (key v)).few (value v) i.back i.second i.aft);
  }
