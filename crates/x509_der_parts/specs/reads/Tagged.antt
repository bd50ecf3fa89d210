-- Reading an element by way of its content.
use Rattle.std.proofs.Common.{◌≡◌, ℕ, ◌+◌, ◌*◌, ◌≤◌, List, [], ◌++◌, length, refl, sym, ap, subst, eqb, ⊎_elim, ◌∙◌, arith, append-nil, length-append}
use Rattle.std.proofs.lemmas.List.{append_cancel_left, length-map}
use Rattle.x509_der_parts.specs.declared.errors.ReadError.{ReadError}
use Rattle.x509_der_parts.specs.declared.errors.ReadError.TheVariants.{OutOfMemory}
use Rattle.x509_der_parts.specs.Element.{element, header}
use Rattle.x509_der_parts.specs.facts.Element.{element_one, element_length, header_long}
use Rattle.x509_der_parts.specs.Tally.{Tally, inside, moved}
use Rattle.x509_der_parts.specs.facts.Tally.{inside_headers, inside_is_clean}
use Rattle.x509_der_parts.specs.Shape.{Shape, Lawful, Follows}
use Rattle.x509_der_parts.specs.Tagged.{MinInside, tagged}
use Rattle.x509_der_parts.specs.Reading.{Cursor, Ready, Accepts, Refuses, Entered, NotEntered, Leaves}
use Rattle.x509_der_parts.specs.reads.Cursor.{ready_after, moved_inside}
use Rattle.x509_der_parts.specs.laws.Tagged.{begins_element_follows}

module _ {V : Type 0} (t : ℕ) (s : Shape V) (l : Lawful s) where
  tagged_cost : (c : List ℕ) (v : V) (y : Tally) → s.spelled v c y → (2 * (inside (header c) y).headers ≤ length (element t c)) × (length ((inside (header c) y).marks) ≤ (inside (header c) y).headers)
  unfolding inside
  tagged_cost c v y a = (omega (arith, l.cost v c y a, element_length t c, header_long c), omega (arith, l.few v c y a, length-map y.marks (moved (header c))))

  inner_least : (old inner : Cursor) (after : List ℕ) (i : ℕ) → Entered t old inner after → (k : MinInside t s old.rest i) → s.min_headers inner.rest k.inner
  inner_least old inner after i n k =
      let P : List ℕ → Type 0 = λ x. s.min_headers x k.inner in
      subst P (sym (element_one t t inner.rest k.content after k.after (sym n.bytes ∙ k.bytes)).content) k.min_headers

  pub tagged_accepts : (old inner end new : Cursor) (after : List ℕ) (v : V) → Ready old → Entered t old inner after → Accepts s inner end v → end.rest ≡ [] → Leaves end new after → Accepts (tagged t s) old new v
  tagged_accepts old inner end new after v r n a done f =
      let m = moved_inside t old inner end new after a.bytes a.tally n a.moved done f in
      let cost = tagged_cost a.bytes v a.tally a.spelled in
      let c : inner.rest ≡ a.bytes = a.moved.rest ∙ ap (λ x. a.bytes ++ x) done ∙ append-nil a.bytes in
      record {
        bytes = element t a.bytes;
        tally = inside (header a.bytes) a.tally;
        spelled = record { content = a.bytes; part = a.tally; spelled = a.spelled; bytes = refl; tally = refl };
        moved = m;
        ready = ready_after old new (element t a.bytes) (inside (header a.bytes) a.tally) r m cost.0 cost.1;
        min_headers = λ i j. ⊎_elim (λ k. omega (arith, k, inside_headers (header a.bytes) a.tally)) (λ k. let h2 = a.min_headers k.inner (inner_least old inner after i n k) in omega (arith, h2, k.sum, inside_headers (header a.bytes) a.tally)) j;
        only = λ w p q z b e g.
            let k1 = element_one t t a.bytes b.content new.rest q (sym m.rest ∙ e ∙ ap (λ x. x ++ q) b.bytes) in
            let kc = k1.content in
            let o = a.only w b.content [] b.part b.spelled (c ∙ kc ∙ sym (append-nil b.content)) tt in
            let bb = b.bytes in
            let bt = b.tally in
            let ot = o.tally in
            let ob = o.bytes in
            record { value = o.value; bytes = bb ∙ ap (element t) ob; tally = bt ∙ ap (λ x. inside (header x) b.part) ob ∙ ap (inside (header a.bytes)) ot };
      }

  -- no element with the tag stands there
  pub tagged_wrong : (old new : Cursor) (e : ReadError) → (e ≡ OutOfMemory → ⊥) → new.headers ≡ old.headers + 1 → NotEntered t old new → Refuses (tagged t s) old new e
  tagged_wrong old new e m h n = record {
    spares = λ f p. m;
    grows = omega arith;
    bound = omega arith;
    min_headers = λ m i j. ⊎_elim (λ k. omega (arith, k)) (λ k. absurd (n.none k.content k.after k.bytes)) j;
    none = λ w p q z b g f. absurd (n.none b.content q (g ∙ ap (λ x. x ++ q) b.bytes));
    forward = omega (arith, n.at);
    within = omega (arith, n.at);
    outside = λ f. n.at;
  }

  -- where the tag begins an element, it is not outside
  entered_begins : (old inner : Cursor) (after : List ℕ) → Entered t old inner after → Follows (λ b. eqb b t) old.rest → ⊥
  entered_begins old inner after n f = begins_element_follows t inner.rest after (rw n.bytes at f)

  -- its content is refused
  pub tagged_refuses : (old inner end new : Cursor) (after : List ℕ) (e : ReadError) → Entered t old inner after → Refuses s inner end e → Leaves end new after → Refuses (tagged t s) old new e
  tagged_refuses old inner end new after e n a l = let h = l.headers in record {
    spares = λ f p. a.spares f (n.places ∙ p);
    grows = omega (arith, a.grows, n.headers);
    bound = omega (arith, a.bound, n.headers, ap length n.bytes, length-append (element t inner.rest) after, element_length t inner.rest, header_long inner.rest);
    min_headers = λ m i j. ⊎_elim (λ k. omega (arith, k, a.grows, n.headers)) (λ k. let h2 = a.min_headers m k.inner (inner_least old inner after i n k) in omega (arith, h2, k.sum, n.headers)) j;
    none = λ w p q z b g f.
        let k1 = element_one t t inner.rest b.content after q (sym n.bytes ∙ g ∙ ap (λ x. x ++ q) b.bytes) in
        let o = a.none w b.content [] b.part b.spelled (k1.content ∙ sym (append-nil b.content)) tt in
        record { memory = o.memory; marked = λ i c. o.marked i (inside_is_clean (header b.content) b.part z b.tally c) };
    forward = omega (arith, a.forward, n.at, l.at);
    within = omega (arith, a.within, n.at, l.at, ap length n.bytes, length-append (element t inner.rest) after, element_length t inner.rest);
    outside = λ f. absurd (entered_begins old inner after n f);
  }

  -- bytes are left over in its content
  pub tagged_left_over : (old inner end new : Cursor) (after : List ℕ) (v : V) (e : ReadError) → (e ≡ OutOfMemory → ⊥) → Entered t old inner after → Accepts s inner end v → (end.rest ≡ [] → ⊥) → Leaves end new after → Refuses (tagged t s) old new e
  tagged_left_over old inner end new after v e nm n a more b =
      let m = a.moved in
      let h = b.headers in
      record {
        spares = λ f p. nm;
        grows = omega (arith, m.headers, n.headers);
        bound = omega (arith, m.headers, n.headers, l.cost v a.bytes a.tally a.spelled, ap length m.rest, length-append a.bytes end.rest, ap length n.bytes, length-append (element t inner.rest) after, element_length t inner.rest, header_long inner.rest);
        min_headers = λ x i j. ⊎_elim (λ k. omega (arith, k, m.headers, n.headers)) (λ k. let h2 = a.min_headers k.inner (inner_least old inner after i n k) in omega (arith, h2, k.sum, m.headers, n.headers)) j;
        none = λ w p q z b g f.
            let k1 = element_one t t inner.rest b.content after q (sym n.bytes ∙ g ∙ ap (λ x. x ++ q) b.bytes) in
            let o = a.only w b.content [] b.part b.spelled (k1.content ∙ sym (append-nil b.content)) tt in
            let e1 : a.bytes ++ end.rest ≡ a.bytes ++ [] = sym m.rest ∙ k1.content ∙ o.bytes ∙ sym (append-nil a.bytes) in
            absurd (more (append_cancel_left a.bytes end.rest [] e1));
        forward = omega (arith, m.at, n.at, b.at);
        within = omega (arith, m.at, n.at, b.at, ap length m.rest, length-append a.bytes end.rest, ap length n.bytes, length-append (element t inner.rest) after, element_length t inner.rest);
        outside = λ f. absurd (entered_begins old inner after n f);
      }
