-- Reading a content that has no elements in it, up to its end; and an element whose content isn't looked into.
use Rattle.std.proofs.Common.{◌≡◌, ℕ, ◌+◌, false, ◌⊎◌, inl, inr, ⊎_elim, List, ◌++◌, length, sum, refl, sym, ap, ◌∙◌, arith, append-nil, length-append}
use Rattle.x509_der_parts.specs.declared.errors.ReadError.{ReadError}
use Rattle.x509_der_parts.specs.declared.errors.ReadError.TheVariants.{OutOfMemory}
use Rattle.x509_der_parts.specs.Element.{AreBytes}
use Rattle.x509_der_parts.specs.Tally.{none}
use Rattle.x509_der_parts.specs.laws.PrimitiveContent.{ends, IsPlain, itself_plain}
use Rattle.x509_der_parts.specs.PrimitiveContent.{plain, IsItself, IsBytes, itself}
use Rattle.x509_der_parts.specs.Element.{AreBytes}
use Rattle.x509_der_parts.specs.RawElement.{Raw, raws, one_header}
use Rattle.x509_der_parts.specs.laws.RawElement.{raws_lawful, follows_free}
use Rattle.x509_der_parts.specs.Reading.{Cursor, Ready, Moved, Accepts, Refuses, PassesRest, RawTaken}
use Rattle.x509_der_parts.specs.reads.Cursor.{placed_none, ready_after}

memory_or_not : (e : ReadError) → (e ≡ OutOfMemory) ⊎ (e ≡ OutOfMemory → ⊥)
memory_or_not OutOfMemory = inl refl
memory_or_not _ = inr (λ h. cc)

moved_rest : (old new : Cursor) → PassesRest old new → Moved old new old.rest none
unfolding none
moved_rest old new t = record {
  rest = sym (ap (λ x. old.rest ++ x) t.rest ∙ append-nil old.rest);
  at = t.at;
  headers = omega (arith, t.headers);
  counts = t.counts;
  places = t.places ∙ sym (placed_none old.at old.places);
}

module _ {V : Type 0} (Is : V → List ℕ → Type 0) (of : V → List ℕ) (Ok : V → Type 0) (Frugal : Type 0) (h : IsPlain Is of Ok) where
  pub plain_accepts : (old new : Cursor) (c : List ℕ) (v : V) → Ready old → c ≡ old.rest → PassesRest old new → Is v c → Accepts (plain Is of Ok Frugal) old new v
  plain_accepts old new c v r all t i =
      let here : Is v old.rest = rw (← all) i in
      record {
        bytes = old.rest;
        tally = none;
        spelled = (here, refl);
        moved = moved_rest old new t;
        ready = record { room = omega (arith, r.room, t.headers, ap length t.rest); booked = omega (arith, r.booked, t.headers, ap sum t.counts); kinds = ap length t.counts ∙ r.kinds; ends = omega (arith, r.ends, t.at, ap length t.rest) };
        min_headers = λ n z. omega (arith, z);
        only = λ w p q z b g f.
            let e2 : old.rest ≡ p = g ∙ ap (λ x. p ++ x) (ends q f) ∙ append-nil p in
            record { value = h.one w v p b.0 (rw e2 at here); bytes = sym e2; tally = b.1 };
      }

  -- memory was refused, or the content is none
  pub plain_refuses : (old : Cursor) (c : List ℕ) (e : ReadError) → c ≡ old.rest → (Frugal → e ≡ OutOfMemory → ⊥) → ((e ≡ OutOfMemory → ⊥) → (w : V) → Is w c → ⊥) → Refuses (plain Is of Ok Frugal) old old e
  plain_refuses old c e all frugal n = record {
    spares = λ f p. frugal f;
    grows = omega arith;
    bound = omega arith;
    min_headers = λ m k z. omega (arith, z);
    forward = omega arith;
    within = omega arith;
    outside = λ f. refl;
    none = λ w p q z b g f.
        let e2 : c ≡ p = all ∙ g ∙ ap (λ x. p ++ x) (ends q f) ∙ append-nil p in
        let m = ⊎_elim (λ h. h) (λ h. absurd (n h w (rw e2 b.0))) (memory_or_not e) in
        record { memory = m; marked = λ i d. frugal i m };
  }

-- bytes that are their own content
pub itself_accepts : (Allowed : List ℕ → Type 0) (old new : Cursor) (c v : List ℕ) → Ready old → AreBytes c → c ≡ old.rest → PassesRest old new → c ≡ v → Allowed v → Accepts (itself Allowed) old new v
itself_accepts Allowed old new c v r b all t e a = plain_accepts (IsItself Allowed) (λ v. v) (IsBytes Allowed) ⊥ (itself_plain Allowed) old new c v r all t ((rw e at b, a), e)

pub raw_accepts : (old new : Cursor) (v p : List ℕ) → Ready old → AreBytes p → RawTaken old new p → v ≡ p → new.headers ≡ old.headers + 1 → new.counts ≡ old.counts → new.at + length new.rest ≡ old.at + length old.rest → new.places ≡ old.places → Accepts raws old new v
raw_accepts old new v p r b t e h c at places =
    let s : Raw v p one_header = record { is = t.raw; each = b; bytes = sym e; tally = refl } in
    let m : Moved old new p one_header = record { rest = t.rest; at = omega (arith, at, ap length t.rest, length-append p new.rest); headers = h; counts = c; places = places ∙ sym (placed_none old.at old.places) } in
    record {
      bytes = p;
      tally = one_header;
      spelled = s;
      moved = m;
      ready = ready_after old new p one_header r m (raws_lawful.cost v p one_header s) (omega arith);
      min_headers = λ n z. z;
      only = λ w q q2 z d g f. raws_lawful.one w v q p q2 new.rest z one_header d s (sym g ∙ t.rest) f (follows_free (λ x. false) (λ x. refl) new.rest);
    }
