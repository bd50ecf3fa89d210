-- Items one behind another, which fill a content (X.690, 8.10 and 8.12).
use Rattle.std.proofs.Common.{◌≡◌, ℕ, ◌+◌, ◌≤◌, ◌*◌, false, ◌⊎◌, inl, inr, ⊎_elim, List, [], ◌∷◌, ◌++◌, length, refl, ap, sym, ◌∙◌, arith, append-nil, length-append}
use Rattle.std.proofs.lemmas.List.{append_cancel_left}
use Rattle.std.specs.List.{flat_map, AllByRecursion}
use Rattle.x509_der_parts.specs.facts.Lists.{regroup, behind}
use Rattle.x509_der_parts.specs.Tally.{Tally, none, joined}
use Rattle.x509_der_parts.specs.facts.Tally.{none_marks, none_headers, joined_none, none_joined, joined_assoc, joined_clean, joined_is_clean, joined_cost, joined_few}
use Rattle.x509_der_parts.specs.MarkOrder.{Placing}
use Rattle.x509_der_parts.specs.facts.MarkOrder.{no_marks, placing_joined}
use Rattle.x509_der_parts.specs.facts.Fields.{stands}
use Rattle.x509_der_parts.specs.Parts.{IsPart}
use Rattle.x509_der_parts.specs.facts.Parts.{first_there, second_there}
use Rattle.x509_der_parts.specs.Shape.{Shape, Lawful, IsStrict}
use Rattle.x509_der_parts.specs.laws.Optional.{Full}
use Rattle.x509_der_parts.specs.laws.PrimitiveContent.{ends, begins_any}
use Rattle.x509_der_parts.specs.laws.RawElement.{follows_free}
use Rattle.x509_der_parts.specs.Items.{Items, ItemsAt, items}

module _ {V : Type 0} (s : Shape V) where
  -- one item more at the end
  pub items_push : (vs : List V) (v : V) (p q : List ℕ) (y z : Tally) → Items s vs p y → s.spelled v q z → Items s (vs ++ v ∷ []) (p ++ q) (joined (length p) y z)
  items_push [] v p q y z a b = record { front = q; back = []; first = z; second = none; fore = b; aft = (refl, refl); bytes = rw a.0 (sym (append-nil q)); tally = rw (a.0, a.1) (none_joined z ∙ sym (joined_none (length q) z)) }
  items_push (w ∷ vs) v p q y z a b =
      let ih = items_push vs v a.back q a.second z a.aft b in
      record {
        front = a.front;
        back = a.back ++ q;
        first = a.first;
        second = joined (length a.back) a.second z;
        fore = a.fore;
        aft = ih;
        bytes = behind p a.front a.back q a.bytes;
        tally = ap (λ x. joined (length p) x z) a.tally ∙ ap (λ n. joined n (joined (length a.front) a.first a.second) z) (ap length a.bytes ∙ length-append a.front a.back) ∙ sym (joined_assoc (length a.front) (length a.back) a.first a.second z);
      }

-- one more item comes next
pub record Next {V : Type 0} (s : Shape V) (r : List ℕ) : Type 0 where
  pub value : V
  pub front : List ℕ
  pub after : List ℕ
  pub tally : Tally
  pub spelled : s.spelled value front tally
  pub bytes : r ≡ front ++ after

-- items behind the first ones
pub record Split {V : Type 0} (s : Shape V) (vs done : List V) (r : List ℕ) : Type 0 where
  pub more : List V
  pub tally : Tally
  pub spelled : Items s more r tally
  pub list : vs ≡ done ++ more

module _ {V : Type 0} (s : Shape V) (l : Lawful s) (full : Full s) (free : (c : ℕ) → s.avoids c ≡ false) where
  -- items that begin a string of items
  pub items_split : (done vs : List V) (p q r : List ℕ) (y z : Tally) → Items s done p y → Items s vs q z → q ≡ p ++ r → Split s vs done r
  items_split [] vs p q r y z a b e = record { more = vs; tally = z; spelled = rw (e ∙ ap (λ x. x ++ r) a.0) at b; list = refl }
  items_split (d ∷ done) [] p q r y z a b e =
      absurd (omega (arith, full d a.front a.first a.fore, ap length a.bytes, length-append a.front a.back, ap length e, length-append p r, ap length b.0))
  items_split (d ∷ done) (v ∷ vs) p q r y z a b e =
      let e1 : a.front ++ (a.back ++ r) ≡ b.front ++ b.back = sym (behind p a.front a.back r a.bytes) ∙ sym e ∙ b.bytes in
      let o = l.one d v a.front b.front (a.back ++ r) b.back a.first b.first a.fore b.fore e1 (follows_free s.avoids free (a.back ++ r)) (follows_free s.avoids free b.back) in
      let ov = o.value in
      let e2 : b.back ≡ a.back ++ r = sym (append_cancel_left a.front _ _ (e1 ∙ ap (λ x. x ++ b.back) (sym o.bytes))) in
      let ih = items_split done vs a.back b.back r a.second b.second a.aft b.aft e2 in
      let il = ih.list in
      record { more = ih.more; tally = ih.tally; spelled = ih.spelled; list = cc }

  -- items that begin the same string: no more headers, or one item more behind the others
  pub items_compare : (done vs : List V) (p1 p r q : List ℕ) (y1 y : Tally) → Items s done p1 y1 → Items s vs p y → p1 ++ r ≡ p ++ q → (y.headers ≤ y1.headers) ⊎ Next s r
  items_compare done [] p1 p r q y1 y a b e = inl (omega (arith, none_headers y b.1))
  items_compare [] (v ∷ vs) p1 p r q y1 y a b e =
      inr (record { value = v; front = b.front; after = b.back ++ q; tally = b.first; spelled = b.fore; bytes = sym (ap (λ x. x ++ r) a.0) ∙ e ∙ behind p b.front b.back q b.bytes })
  items_compare (d ∷ done) (v ∷ vs) p1 p r q y1 y a b e =
      let e1 = regroup p1 a.front a.back r p b.front b.back q a.bytes b.bytes e in
      let o = l.one d v a.front b.front (a.back ++ r) (b.back ++ q) a.first b.first a.fore b.fore e1 (follows_free s.avoids free (a.back ++ r)) (follows_free s.avoids free (b.back ++ q)) in
      let e2 : a.back ++ r ≡ b.back ++ q = append_cancel_left a.front _ _ (e1 ∙ ap (λ x. x ++ (b.back ++ q)) (sym o.bytes)) in
      ⊎_elim (λ h. inl (omega (arith, h, ap (λ (x : Tally). x.headers) o.tally, joined_cost _ _ _ _ a.tally, joined_cost _ _ _ _ b.tally))) (λ h. inr h) (items_compare done vs a.back b.back r q a.second b.second a.aft b.aft e2)

  items_same : (vs ws : List V) (p q : List ℕ) (y z : Tally) → Items s vs p y → Items s ws q z → p ≡ q → (vs ≡ ws) × (y ≡ z)
  items_same [] [] p q y z a b e = (refl, a.1 ∙ sym b.1)
  items_same [] (w ∷ ws) p q y z a b e =
      absurd (omega (arith, full w b.front b.first b.fore, ap length b.bytes, length-append b.front b.back, ap length e, ap length a.0))
  items_same (v ∷ vs) [] p q y z a b e =
      absurd (omega (arith, full v a.front a.first a.fore, ap length a.bytes, length-append a.front a.back, ap length e, ap length b.0))
  items_same (v ∷ vs) (w ∷ ws) p q y z a b e =
      let e1 : a.front ++ a.back ≡ b.front ++ b.back = sym a.bytes ∙ e ∙ b.bytes in
      let o = l.one v w a.front b.front a.back b.back a.first b.first a.fore b.fore e1 (follows_free s.avoids free a.back) (follows_free s.avoids free b.back) in
      let ov = o.value in
      let ob = o.bytes in
      let ot = o.tally in
      let e2 : a.back ≡ b.back = append_cancel_left a.front _ _ (e1 ∙ ap (λ x. x ++ b.back) (sym o.bytes)) in
      let ih = items_same vs ws a.back b.back a.second b.second a.aft b.aft e2 in
      let h1 = ih.0 in
      let h2 = ih.1 in
      let at = a.tally in
      let bt = b.tally in
      (cc, cc)

  items_written : (vs : List V) → AllByRecursion s.valid vs → AllByRecursion s.readable vs → IsStrict (items s) vs
  unfolding none
  items_written [] d r = record { headers = 0; spelled = (refl, refl) }
  items_written (v ∷ vs) d r =
      let h = l.written v d.0 r.0 in
      let k = items_written vs d.1 r.1 in
      record { headers = h.headers + k.headers; spelled = record { front = s.strict v; back = flat_map s.strict vs; first = _; second = _; fore = h.spelled; aft = k.spelled; bytes = refl; tally = sym (joined_clean _ _ _) } }

  items_clean : (vs : List V) (p : List ℕ) (y : Tally) → Items s vs p y → y.marks ≡ [] → p ≡ flat_map s.strict vs
  items_clean [] p y a e = a.0
  items_clean (v ∷ vs) p y a e =
      let m = joined_is_clean _ _ _ _ a.tally e in
      let h = l.clean v a.front a.first a.fore m.0 in
      let k = items_clean vs a.back a.second a.aft m.1 in
      let ab = a.bytes in
      cc

  items_valid : (vs : List V) (p : List ℕ) (y : Tally) → Items s vs p y → AllByRecursion s.valid vs
  items_valid [] p y a = tt
  items_valid (v ∷ vs) p y a = (l.valid v a.front a.first a.fore, items_valid vs a.back a.second a.aft)

  items_read : (vs : List V) (p : List ℕ) (y : Tally) → Items s vs p y → AllByRecursion s.readable vs
  items_read [] p y a = tt
  items_read (v ∷ vs) p y a = (l.read v a.front a.first a.fore, items_read vs a.back a.second a.aft)

  pub items_cost : (vs : List V) (p : List ℕ) (y : Tally) → Items s vs p y → 2 * y.headers ≤ length p
  items_cost [] p y a = omega (arith, none_headers y a.1)
  items_cost (v ∷ vs) p y a =
      omega (arith, ap length a.bytes, length-append a.front a.back, joined_cost _ _ _ _ a.tally, l.cost v a.front a.first a.fore, items_cost vs a.back a.second a.aft)

  items_few : (vs : List V) (p : List ℕ) (y : Tally) → Items s vs p y → length y.marks ≤ y.headers
  items_few [] p y a = omega (arith, ap length (none_marks y a.1))
  items_few (v ∷ vs) p y a =
      omega (arith, joined_cost _ _ _ _ a.tally, joined_few _ _ _ _ a.tally, l.few v a.front a.first a.fore, items_few vs a.back a.second a.aft)

  pub items_places : (vs : List V) (p : List ℕ) (y : Tally) → Items s vs p y → Placing (length p) y.marks
  items_places [] p y a = no_marks (length p) y.marks (none_marks y a.1)
  items_places (v ∷ vs) p y a = placing_joined p a.front a.back a.first a.second y a.bytes a.tally (l.places v a.front a.first a.fore) (items_places vs a.back a.second a.aft)

  items_parts : (vs : List V) (p : List ℕ) (y : Tally) → Items s vs p y → (n : ℕ) (string : List ℕ) (whole : Tally) → IsPart string whole n p y → ItemsAt s string whole vs n p
  items_parts [] p y a n string whole i = a.0
  items_parts (v ∷ vs) p y a n string whole i =
      let f = (l.places v a.front a.first a.fore).within in
      let g = (items_places vs a.back a.second a.aft).within in
      record {
        front = a.front;
        back = a.back;
        bytes = a.bytes;
        first = stands s l v a.front a.first a.fore n string whole (first_there string whole n p y i a.front a.back a.first a.second a.bytes a.tally f g);
        second = items_parts vs a.back a.second a.aft (n + length a.front) string whole (second_there string whole n p y i a.front a.back a.first a.second a.bytes a.tally f g);
      }

  pub items_lawful : Lawful (items s)
  items_lawful = record {
    one = λ v w p q r u y z a b e f g.
        let e2 : p ≡ q = sym (append-nil p) ∙ ap (λ x. p ++ x) (sym (ends r f)) ∙ e ∙ ap (λ x. q ++ x) (ends u g) ∙ append-nil q in
        let k = items_same v w p q y z a b e2 in
        record { value = k.0; bytes = e2; tally = k.1 };
    written = items_written;
    clean = items_clean;
    valid = items_valid;
    read = items_read;
    begins = λ v p y a. begins_any p;
    cost = items_cost;
    few = items_few;
    places = items_places;
    parts = items_parts;
  }
