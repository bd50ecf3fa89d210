-- Going past items up to the end of a content.
use Rattle.std.proofs.Common.{◌≡◌, ℕ, ◌≤◌, ◌==◌, false, List, [], ◌∷◌, ◌++◌, length, refl, sym, ap, ◌∙◌, arith, append-nil, length-append}
use Rattle.std.proofs.lemmas.List.{append_cancel_left}
use Rattle.std.proofs.lemmas.Bool.Decides.{nat_tests}
use Rattle.x509_der_parts.specs.declared.errors.ReadError.{ReadError}
use Rattle.x509_der_parts.specs.facts.Lists.{behind}
use Rattle.x509_der_parts.specs.facts.Tally.{joined_is_clean}
use Rattle.x509_der_parts.specs.Tally.{Tally}
use Rattle.x509_der_parts.specs.Shape.{Shape, Lawful}
use Rattle.x509_der_parts.specs.laws.PrimitiveContent.{ends}
use Rattle.x509_der_parts.specs.laws.Optional.{Full}
use Rattle.x509_der_parts.specs.laws.RawElement.{follows_free}
use Rattle.x509_der_parts.specs.Items.{Items, items, no_items}
use Rattle.x509_der_parts.specs.Reading.{Cursor, Refuses, thrifty}
use Rattle.x509_der_parts.specs.reads.Cursor.{still_none}
use Rattle.x509_der_parts.specs.reads.Items.{SoFar, items_refuse}

module _ {V : Type 0} (s : Shape V) (l : Lawful s) (full : Full s) (free : (c : ℕ) → s.avoids c ≡ false) where
  -- items that go on behind the first ones: the next, and where the whole has no marks, neither has it
  items_next : (done vs : List V) (p q r : List ℕ) (y z : Tally) → Items s done p y → Items s vs q z → q ≡ p ++ r → (r ≡ [] → ⊥) → z.marks ≡ [] → (w : V) × (f : List ℕ) × (t : List ℕ) × (x : Tally) × (s.spelled w f x) × (r ≡ f ++ t) × (x.marks ≡ [])
  items_next [] [] p q r y z a b e n m = absurd (n (sym (ap (λ x. x ++ r) a.0) ∙ sym e ∙ b.0))
  items_next [] (v ∷ vs) p q r y z a b e n m =
      (v, b.front, b.back, b.first, b.fore, sym (ap (λ x. x ++ r) a.0) ∙ sym e ∙ b.bytes, (joined_is_clean (length b.front) b.first b.second z b.tally m).0)
  items_next (d ∷ done) [] p q r y z a b e n m =
      absurd (omega (arith, full d a.front a.first a.fore, ap length a.bytes, length-append a.front a.back, ap length e, length-append p r, ap length b.0))
  items_next (d ∷ done) (v ∷ vs) p q r y z a b e n m =
      let e1 : a.front ++ (a.back ++ r) ≡ b.front ++ b.back = sym (behind p a.front a.back r a.bytes) ∙ sym e ∙ b.bytes in
      let o = l.one d v a.front b.front (a.back ++ r) b.back a.first b.first a.fore b.fore e1 (follows_free s.avoids free (a.back ++ r)) (follows_free s.avoids free b.back) in
      let e2 : b.back ≡ a.back ++ r = sym (append_cancel_left a.front _ _ (e1 ∙ ap (λ x. x ++ b.back) (sym o.bytes))) in
      items_next done vs a.back b.back r a.second b.second a.aft b.aft e2 n (joined_is_clean (length b.front) b.first b.second z b.tally m).1

  -- the next item is refused
  pub items_pass_refuse : (old now new : Cursor) (done : List V) (e : ReadError) → SoFar s old now done → (now.rest ≡ [] → ⊥) → Refuses (thrifty s) now new e → Refuses (thrifty (items s)) old new e
  items_pass_refuse old now new done e i n a =
      let m = i.moved in
      let r = items_refuse s l full free old now new done e i n (record { grows = a.grows; bound = a.bound; min_headers = a.min_headers; spares = λ f. a.spares tt; none = λ w p q z j g h. let o = a.none w p q z j g h in record { memory = o.memory; marked = λ f. o.marked tt }; forward = a.forward; within = a.within; outside = a.outside }) in
      record {
        spares = λ f p. a.spares tt (still_none old now i.bytes i.tally m p);
        grows = r.grows;
        bound = r.bound;
        min_headers = r.min_headers;
        none = λ w p q z b g f. record {
          memory = (r.none w p q z b g f).memory;
          marked = λ t c.
              let e1 : p ≡ i.bytes ++ now.rest = sym (append-nil p) ∙ ap (λ x. p ++ x) (sym (ends q f)) ∙ sym g ∙ m.rest in
              let h = items_next done w i.bytes p now.rest i.tally z i.spelled b e1 n c in
              (a.none h.0 h.1 h.2 h.3 h.4 h.5 (follows_free s.avoids free h.2)).marked tt h.6;
        };
        forward = r.forward;
        within = r.within;
        outside = r.outside;
      }

  -- whether there is no item
  pub kept_none : (old now : Cursor) (done : List V) → SoFar s old now done → now.rest ≡ [] → no_items done ≡ (length old.rest == 0)
  kept_none old now [] i e = let h : old.rest ≡ [] = i.moved.rest ∙ ap (λ x. x ++ now.rest) i.spelled.0 ∙ e in rw h refl
  kept_none old now (v ∷ vs) i e =
      let b = i.spelled in
      let n : 1 ≤ length old.rest = omega (arith, full v b.front b.first b.fore, ap length b.bytes, length-append b.front b.back, ap length i.moved.rest, length-append i.bytes now.rest) in
      grind (arith, nat_tests, n)
