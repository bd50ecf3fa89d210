-- Reading one field and then another.
use Rattle.std.proofs.Common.{◌≡◌, ℕ, ◌||◌, List, ◌++◌, length, refl, sym, ap, ◌∙◌, arith, length-append}
use Rattle.std.proofs.lemmas.List.{append_cancel_left}
use Rattle.x509_der_parts.specs.declared.errors.ReadError.{ReadError}
use Rattle.x509_der_parts.specs.facts.Lists.{behind}
use Rattle.x509_der_parts.specs.Tally.{Tally, joined}
use Rattle.x509_der_parts.specs.facts.Tally.{joined_is_clean}
use Rattle.x509_der_parts.specs.Shape.{Shape, Lawful, Follows}
use Rattle.x509_der_parts.specs.Join.{join, Apart}
use Rattle.x509_der_parts.specs.laws.Join.{follows_left, follows_right, follows_first}
use Rattle.x509_der_parts.specs.Reading.{Cursor, Accepts, Refuses}
use Rattle.x509_der_parts.specs.reads.Cursor.{moved_joined, still_none}
use Rattle.x509_der_parts.specs.reads.Standing.{stays}

module _ {X V W : Type 0} (fst : X → V) (snd : X → W) (whole : (x y : X) → fst x ≡ fst y → snd x ≡ snd y → x ≡ y) (a : Shape V) (b : Shape W) (la : Lawful a) (lb : Lawful b) (apart : Apart a b) where
  before : (w : W) (p q : List ℕ) (y : Tally) → b.spelled w p y → Follows (λ c. a.avoids c || b.avoids c) q → Follows a.avoids (p ++ q)
  before w p q y i f = follows_first a.avoids b.starts p q apart (lb.begins w p y i) (follows_left a.avoids b.avoids q f)

  pub join_accepts : (old mid new : Cursor) (x : X) → Accepts a old mid (fst x) → Accepts b mid new (snd x) → Accepts (join fst snd a b) old new x
  join_accepts old mid new x i j = record {
    bytes = i.bytes ++ j.bytes;
    tally = joined (length i.bytes) i.tally j.tally;
    spelled = record { front = i.bytes; back = j.bytes; first = i.tally; second = j.tally; fore = i.spelled; aft = j.spelled; bytes = refl; tally = refl };
    moved = moved_joined old mid new i.bytes j.bytes i.tally j.tally i.moved j.moved;
    ready = j.ready;
    min_headers = λ n z. omega (arith, z);
    only = λ w p q z k e f.
        let o = i.only (fst w) k.front (k.back ++ q) k.first k.fore (e ∙ behind p k.front k.back q k.bytes) (before (snd w) k.back q k.second k.aft f) in
        let e2 : mid.rest ≡ k.back ++ q = append_cancel_left i.bytes mid.rest (k.back ++ q) (sym i.moved.rest ∙ e ∙ behind p k.front k.back q k.bytes ∙ ap (λ y. y ++ (k.back ++ q)) o.bytes) in
        let n = j.only (snd w) k.back q k.second k.aft e2 (follows_right a.avoids b.avoids q f) in
        let ob = o.bytes in
        let ot = o.tally in
        let nb = n.bytes in
        let nt = n.tally in
        let kb = k.bytes in
        let kt = k.tally in
        record { value = whole w x o.value n.value; bytes = cc; tally = cc };
  }

  pub join_first : (old new : Cursor) (e : ReadError) → Refuses a old new e → Refuses (join fst snd a b) old new e
  join_first old new e i = record {
    spares = λ f. i.spares f.0;
    grows = i.grows;
    bound = i.bound;
    min_headers = λ m n z. omega (arith, z, i.grows);
    none = λ w p q z k g f.
        let o = i.none (fst w) k.front (k.back ++ q) k.first k.fore (g ∙ behind p k.front k.back q k.bytes) (before (snd w) k.back q k.second k.aft f) in
        record { memory = o.memory; marked = λ t c. o.marked t.0 (joined_is_clean (length k.front) k.first k.second z k.tally c).0 };
    forward = i.forward;
    within = i.within;
    outside = λ f. i.outside (follows_left a.starts b.starts old.rest f);
  }

  pub join_second : (old mid new : Cursor) (v : V) (e : ReadError) → Accepts a old mid v → Refuses b mid new e → Refuses (join fst snd a b) old new e
  join_second old mid new v e i j =
      let m = i.moved in
      record {
        spares = λ f p. j.spares f.1 (still_none old mid i.bytes i.tally m p);
        grows = omega (arith, m.headers, j.grows);
        bound = omega (arith, m.headers, j.bound, la.cost v i.bytes i.tally i.spelled, ap length m.rest, length-append i.bytes mid.rest);
        min_headers = λ x n z. omega (arith, z, m.headers, j.grows);
        none = λ w p q z k g f.
            let o = i.only (fst w) k.front (k.back ++ q) k.first k.fore (g ∙ behind p k.front k.back q k.bytes) (before (snd w) k.back q k.second k.aft f) in
            let e2 : mid.rest ≡ k.back ++ q = append_cancel_left i.bytes mid.rest (k.back ++ q) (sym m.rest ∙ g ∙ behind p k.front k.back q k.bytes ∙ ap (λ y. y ++ (k.back ++ q)) o.bytes) in
            let r = j.none (snd w) k.back q k.second k.aft e2 (follows_right a.avoids b.avoids q f) in
            record { memory = r.memory; marked = λ t c. r.marked t.1 (joined_is_clean (length k.front) k.first k.second z k.tally c).1 };
        forward = omega (arith, j.forward, m.at);
        within = omega (arith, j.within, m.at, ap length m.rest, length-append i.bytes mid.rest);
        outside = λ f.
            let s = stays a la old mid v i (follows_left a.starts b.starts old.rest f) in
            j.outside (rw s.0 (follows_right a.starts b.starts old.rest f)) ∙ s.1;
      }
