-- Reading items up to the end of a content.
use Rattle.std.proofs.Common.{◌≡◌, ℕ, ◌<◌, false, ⊎_elim, List, [], ◌∷◌, ◌++◌, length, refl, sym, ap, ◌∙◌, arith, append-nil, length-append}
use Rattle.x509_der_parts.specs.declared.errors.ReadError.{ReadError}
use Rattle.x509_der_parts.specs.declared.errors.ReadError.TheVariants.{OutOfMemory}
use Rattle.x509_der_parts.specs.Tally.{Tally, none, joined}
use Rattle.x509_der_parts.specs.PrimitiveContent.{all}
use Rattle.x509_der_parts.specs.Shape.{Shape, Lawful, Follows}
use Rattle.x509_der_parts.specs.laws.PrimitiveContent.{ends}
use Rattle.x509_der_parts.specs.laws.Optional.{Full}
use Rattle.x509_der_parts.specs.laws.RawElement.{follows_free}
use Rattle.x509_der_parts.specs.Items.{Items, items}
use Rattle.x509_der_parts.specs.laws.Items.{items_push, items_split, items_compare, items_cost, items_lawful}
use Rattle.x509_der_parts.specs.Reading.{Cursor, Ready, Moved, Accepts, Refuses}
use Rattle.x509_der_parts.specs.reads.Cursor.{moved_none, moved_joined}

-- the reader went over these items
pub record SoFar {V : Type 0} (s : Shape V) (old now : Cursor) (done : List V) : Type 0 where
  pub bytes : List ℕ
  pub tally : Tally
  pub spelled : Items s done bytes tally
  pub moved : Moved old now bytes tally
  pub ready : Ready now

none_behind : (p q : List ℕ) → p ++ q ≡ [] → q ≡ []
none_behind [] q e = e
none_behind (c ∷ p) q e = cc

-- where no byte begins a content of items, there is none
none_begins : (old now : Cursor) (p : List ℕ) → old.rest ≡ p ++ now.rest → Follows all old.rest → now.rest ≡ []
none_begins old now p e f = none_behind p now.rest (sym e ∙ ends old.rest f)

module _ {V : Type 0} (s : Shape V) (l : Lawful s) (full : Full s) (free : (c : ℕ) → s.avoids c ≡ false) where
  pub items_start : (old : Cursor) → Ready old → SoFar s old old []
  items_start old r = record { bytes = []; tally = none; spelled = (refl, refl); moved = moved_none old; ready = r }

  pub items_step : (old now new : Cursor) (done : List V) (v : V) → SoFar s old now done → Accepts s now new v → SoFar s old new (done ++ v ∷ [])
  items_step old now new done v i j = record {
    bytes = i.bytes ++ j.bytes;
    tally = joined (length i.bytes) i.tally j.tally;
    spelled = items_push s done v i.bytes j.bytes i.tally j.tally i.spelled j.spelled;
    moved = moved_joined old now new i.bytes j.bytes i.tally j.tally i.moved j.moved;
    ready = j.ready;
  }

  -- an item takes bytes
  pub items_shorter : (now new : Cursor) (v : V) → Accepts s now new v → length new.rest < length now.rest
  items_shorter now new v a = omega (arith, full v a.bytes a.tally a.spelled, ap length a.moved.rest, length-append a.bytes new.rest)

  pub items_accept : (old now : Cursor) (done : List V) → SoFar s old now done → now.rest ≡ [] → Accepts (items s) old now done
  items_accept old now done i e =
      let m = i.moved in
      let whole : old.rest ≡ i.bytes ++ [] = m.rest ∙ ap (λ r. i.bytes ++ r) e in
      record {
        bytes = i.bytes;
        tally = i.tally;
        spelled = i.spelled;
        moved = m;
        ready = i.ready;
        min_headers = λ n o.
            ⊎_elim (λ h. omega (arith, h, o.sum)) (λ h. absurd (omega (arith, full h.value h.front h.tally h.spelled, ap length h.bytes, length-append h.front h.after, ap length e)))
            (items_compare s l full free done o.list i.bytes o.front now.rest o.after i.tally o.tally i.spelled o.spelled (sym m.rest ∙ o.bytes));
        only = λ w p q z b h g. (items_lawful s l full free).one w done p i.bytes q [] z i.tally b i.spelled (sym h ∙ whole) g tt;
      }

  more_front : (vs : List V) (r : List ℕ) (z : Tally) → Items s vs r z → (r ≡ [] → ⊥) → (w : V) × (p : List ℕ) × (q : List ℕ) × (y : Tally) × (s.spelled w p y) × (r ≡ p ++ q)
  more_front [] r z a n = absurd (n a.0)
  more_front (v ∷ vs) r z a n = (v, a.front, a.back, a.first, a.fore, a.bytes)

  -- the next item is refused
  pub items_refuse : (old now new : Cursor) (done : List V) (e : ReadError) → SoFar s old now done → (now.rest ≡ [] → ⊥) → Refuses s now new e → Refuses (items s) old new e
  items_refuse old now new done e i n a =
      let m = i.moved in
      let cost = items_cost s l full free done i.bytes i.tally i.spelled in
      record {
        spares = λ f. absurd f;
        grows = omega (arith, m.headers, a.grows);
        bound = omega (arith, m.headers, a.bound, cost, ap length m.rest, length-append i.bytes now.rest);
        min_headers = λ x k o.
            ⊎_elim (λ h. omega (arith, h, o.sum, m.headers, a.grows)) (λ h. absurd (x (a.none h.value h.front h.after h.tally h.spelled h.bytes (follows_free s.avoids free h.after)).memory))
            (items_compare s l full free done o.list i.bytes o.front now.rest o.after i.tally o.tally i.spelled o.spelled (sym m.rest ∙ o.bytes));
        none = λ w p q z b g f.
            let e1 : p ≡ i.bytes ++ now.rest = sym (append-nil p) ∙ ap (λ x. p ++ x) (sym (ends q f)) ∙ sym g ∙ m.rest in
            let k = items_split s l full free done w i.bytes p now.rest i.tally z i.spelled b e1 in
            let h = more_front k.more now.rest k.tally k.spelled n in
            record { memory = (a.none h.0 h.1 h.2 h.3 h.4 h.5 (follows_free s.avoids free h.2)).memory; marked = λ t. absurd t };
        forward = omega (arith, m.at, a.forward);
        within = omega (arith, m.at, a.within, ap length m.rest, length-append i.bytes now.rest);
        outside = λ f. absurd (n (none_begins old now i.bytes m.rest f));
      }

  -- no memory to keep one more item
  pub items_memory : (old now new : Cursor) (done : List V) (v : V) (e : ReadError) → SoFar s old now done → Accepts s now new v → e ≡ OutOfMemory → Refuses (items s) old new e
  items_memory old now new done v e i j k =
      let m = i.moved in
      let n = j.moved in
      let cost = items_cost s l full free done i.bytes i.tally i.spelled in
      record {
        spares = λ f. absurd f;
        grows = omega (arith, m.headers, n.headers);
        bound = omega (arith, m.headers, n.headers, cost, l.cost v j.bytes j.tally j.spelled, ap length m.rest, length-append i.bytes now.rest, ap length n.rest, length-append j.bytes new.rest);
        min_headers = λ x. absurd (x k);
        none = λ w p q z b g f. record { memory = k; marked = λ t. absurd t };
        forward = omega (arith, m.at, n.at);
        within = omega (arith, m.at, n.at, ap length m.rest, length-append i.bytes now.rest, ap length n.rest, length-append j.bytes new.rest);
        outside = λ f. absurd (omega (arith, full v j.bytes j.tally j.spelled, ap length (none_begins old now i.bytes m.rest f), ap length n.rest, length-append j.bytes new.rest));
      }
