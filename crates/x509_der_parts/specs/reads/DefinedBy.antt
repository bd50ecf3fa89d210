-- Reading a field, and then another whose shape the first one's value chooses.
use Rattle.std.proofs.Common.{◌≡◌, ℕ, Bool, true, false, ◌⊎◌, ⊎_elim, List, [], ◌∷◌, ◌++◌, length, refl, subst, sym, ap, ◌∙◌, arith, length-append}
use Rattle.std.proofs.lemmas.List.{append_cancel_left}
use Rattle.x509_der_parts.specs.declared.errors.ReadError.{ReadError}
use Rattle.x509_der_parts.specs.facts.Lists.{behind}
use Rattle.x509_der_parts.specs.Tally.{joined}
use Rattle.x509_der_parts.specs.facts.Tally.{joined_is_clean}
use Rattle.x509_der_parts.specs.Shape.{Shape, Lawful, Follows}
use Rattle.x509_der_parts.specs.DefinedBy.{defined_by, IsFamily, KeyApart}
use Rattle.x509_der_parts.specs.laws.DefinedBy.{behind_key, behind_value}
use Rattle.x509_der_parts.specs.Reading.{Cursor, Accepts, Refuses}
use Rattle.x509_der_parts.specs.reads.Cursor.{moved_joined, still_none}
use Rattle.x509_der_parts.specs.laws.Join.{follows_left, follows_right}
use Rattle.x509_der_parts.specs.reads.Standing.{stays}

not_true : (b : Bool) → (b ≡ true → ⊥) → b ≡ false
not_true true n = absurd (n refl)
not_true false n = refl

-- what no byte of a set begins, no byte of a smaller set begins
follows_fewer : (f g : ℕ → Bool) (q : List ℕ) → ((c : ℕ) → f c ≡ true → g c ≡ true) → Follows g q → Follows f q
follows_fewer f g [] h k = tt
follows_fewer f g (c ∷ q) h k = not_true (f c) (λ t. let e : true ≡ false = sym (h c t) ∙ k in cc)

module _ {X K W : Type 0} (key : X → K) (value : X → W) (whole : (x y : X) → key x ≡ key y → value x ≡ value y → x ≡ y) (a : Shape K) (shapes : K → Shape W) (begins ends : ℕ → Bool) (la : Lawful a) (family : IsFamily shapes begins ends) (apart : KeyApart a begins) where
  pub defined_by_accepts : (old mid new : Cursor) (x : X) → Accepts a old mid (key x) → Accepts (shapes (key x)) mid new (value x) → Accepts (defined_by key value a shapes begins ends) old new x
  defined_by_accepts old mid new x i j = record {
    bytes = i.bytes ++ j.bytes;
    tally = joined (length i.bytes) i.tally j.tally;
    spelled = record { front = i.bytes; back = j.bytes; first = i.tally; second = j.tally; fore = i.spelled; aft = j.spelled; bytes = refl; tally = refl };
    moved = moved_joined old mid new i.bytes j.bytes i.tally j.tally i.moved j.moved;
    ready = j.ready;
    min_headers = λ n z. omega (arith, z);
    only = λ w p q z k e f.
        let o = i.only (key w) k.front (k.back ++ q) k.first k.fore (e ∙ behind p k.front k.back q k.bytes) (behind_key key value whole a shapes begins ends la family apart (key w) (value w) k.back q k.second k.aft f) in
        let e2 : mid.rest ≡ k.back ++ q = append_cancel_left i.bytes mid.rest (k.back ++ q) (sym i.moved.rest ∙ e ∙ behind p k.front k.back q k.bytes ∙ ap (λ y. y ++ (k.back ++ q)) o.bytes) in
        let P : K → Type 0 = λ c. (shapes c).spelled (value w) k.back k.second in
        let n = j.only (value w) k.back q k.second (subst P o.value k.aft) e2 (behind_value key value whole a shapes begins ends la family apart (key x) q f) in
        let ob = o.bytes in
        let ot = o.tally in
        let nb = n.bytes in
        let nt = n.tally in
        let kb = k.bytes in
        let kt = k.tally in
        record { value = whole w x o.value n.value; bytes = cc; tally = cc };
  }

  -- the key is refused
  pub key_refuses : (old new : Cursor) (e : ReadError) → Refuses a old new e → Refuses (defined_by key value a shapes begins ends) old new e
  key_refuses old new e i = record {
    spares = λ f. i.spares f.0;
    grows = i.grows;
    bound = i.bound;
    min_headers = λ m n z. omega (arith, z, i.grows);
    none = λ w p q z k g f.
        let o = i.none (key w) k.front (k.back ++ q) k.first k.fore (g ∙ behind p k.front k.back q k.bytes) (behind_key key value whole a shapes begins ends la family apart (key w) (value w) k.back q k.second k.aft f) in
        record { memory = o.memory; marked = λ t d. o.marked t.0 (joined_is_clean (length k.front) k.first k.second z k.tally d).0 };
    forward = i.forward;
    within = i.within;
    outside = λ f. i.outside (follows_left a.starts begins old.rest f);
  }

  -- the value is refused by the key's shape; the reader stands where that was, or where the key begins
  pub value_refuses : (old mid end new : Cursor) (c : K) (e : ReadError) → Accepts a old mid c → Refuses (shapes c) mid end e → new.headers ≡ end.headers → (new.at ≡ end.at) ⊎ (new.at ≡ old.at) → Refuses (defined_by key value a shapes begins ends) old new e
  value_refuses old mid end new c e i j h stands =
      let m = i.moved in
      record {
        spares = λ f p. j.spares (f.1 c) (still_none old mid i.bytes i.tally m p);
        grows = omega (arith, m.headers, j.grows, h);
        bound = omega (arith, m.headers, j.bound, h, la.cost c i.bytes i.tally i.spelled, ap length m.rest, length-append i.bytes mid.rest);
        min_headers = λ x n z. omega (arith, z, m.headers, j.grows, h);
        forward = ⊎_elim (λ s. omega (arith, s, j.forward, m.at)) (λ s. omega (arith, s)) stands;
        within = ⊎_elim (λ s. omega (arith, s, j.within, m.at, ap length m.rest, length-append i.bytes mid.rest)) (λ s. omega (arith, s)) stands;
        outside = λ f.
            let s = stays a la old mid c i (follows_left a.starts begins old.rest f) in
            ⊎_elim (λ k. k ∙ j.outside (rw s.0 (follows_fewer (shapes c).starts begins old.rest (family.begin c) (follows_right a.starts begins old.rest f))) ∙ s.1) (λ k. k) stands;
        none = λ w p q z k g f.
            let o = i.only (key w) k.front (k.back ++ q) k.first k.fore (g ∙ behind p k.front k.back q k.bytes) (behind_key key value whole a shapes begins ends la family apart (key w) (value w) k.back q k.second k.aft f) in
            let e2 : mid.rest ≡ k.back ++ q = append_cancel_left i.bytes mid.rest (k.back ++ q) (sym m.rest ∙ g ∙ behind p k.front k.back q k.bytes ∙ ap (λ y. y ++ (k.back ++ q)) o.bytes) in
            let P : K → Type 0 = λ d. (shapes d).spelled (value w) k.back k.second in
            let r = j.none (value w) k.back q k.second (subst P o.value k.aft) e2 (behind_value key value whole a shapes begins ends la family apart c q f) in
            record { memory = r.memory; marked = λ t d. r.marked (t.1 c) (joined_is_clean (length k.front) k.first k.second z k.tally d).1 };
      }
