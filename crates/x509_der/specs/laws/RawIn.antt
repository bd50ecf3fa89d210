-- Any one element with a tag of a set, whose content is not looked into.
use Rattle.std.proofs.Common.{◌≡◌, ℕ, ◌≤◌, ◌&&◌, Bool, true, false, inl, inr, List, [], ◌∷◌, ◌++◌, length, refl, ap, arith}
use Rattle.x509_der_parts.specs.Reading.{is_tag}
use Rattle.x509_der_parts.specs.declared.errors.ReadError.{ReadError}
use Rattle.x509_der_parts.specs.declared.errors.ReadError.TheVariants.{OutOfMemory}
use Rattle.x509_der_parts.specs.Choice.{Begun}
use Rattle.x509_der_parts.specs.reads.Choice.{not_begun}
use Rattle.x509_der_parts.specs.reads.Optional.{absent_front}
use Rattle.x509_der_parts.specs.facts.Element.{element_length, header_long}
use Rattle.x509_der_parts.specs.reads.Standing.{accepts_no_memory}
use Rattle.x509_der_parts.specs.Shape.{Lawful, IsElement, Begins, Follows}
use Rattle.x509_der_parts.specs.Fields.{Inner}
use Rattle.x509_der_parts.specs.RawElement.{raws}
use Rattle.x509_der_parts.specs.laws.RawElement.{raw_one, raws_lawful}
use Rattle.x509_der_parts.specs.Reading.{Cursor, Accepts, Refuses}
use Rattle.x509_der.specs.RawIn.{raws_in}

begins_both : (f g : ℕ → Bool) (p : List ℕ) → Begins f p → Begins g p → Begins (λ c. f c && g c) p
begins_both f g [] b d = tt
begins_both f g (c ∷ p) b d = rw (b, d) refl

both_tag : (a b : Bool) → (a && b) ≡ true → a ≡ true
both_tag true b h = refl
both_tag false b h = h

both_keep : (a b : Bool) → (a && b) ≡ true → b ≡ true
both_keep true b h = h
both_keep false b h = cc

-- a string begins as that does whose front it is
begins_front : (f g : ℕ → Bool) (p q r : List ℕ) → r ≡ p ++ q → Begun (λ c. f c && g c) r → Begins g p
begins_front f g [] q r e h = tt
begins_front f g (c ∷ p) q r e h = both_keep (f c) (g c) (rw e at h)

module _ (keep : ℕ → Bool) where
  pub raws_in_lawful : Lawful (raws_in keep)
  raws_in_lawful = record {
    one = λ v w p q r t y z a b e f g. raw_one v w p q r t y z a.0 b.0 e;
    written = λ v d r. record { headers = 1; spelled = (record { is = d.0.0; each = d.0.1; bytes = refl; tally = refl }, d.1) };
    clean = λ v p y a e. a.0.bytes;
    valid = λ v p y a. rw (← a.0.bytes) ((a.0.is, a.0.each), a.1);
    read = λ v p y a. tt;
    begins = λ v p y a. begins_both is_tag keep p (raws_lawful.begins v p y a.0) a.1;
    cost = λ v p y a. raws_lawful.cost v p y a.0;
    few = λ v p y a. raws_lawful.few v p y a.0;
    places = λ v p y a. raws_lawful.places v p y a.0;
    parts = λ v p y a n string whole i. tt;
  }

  pub raws_in_element : IsElement (raws_in keep)
  raws_in_element = record { one = λ v p y a. a.0.is; strict = λ v d. d.0.0; free = λ b. refl; tags = λ b h. both_tag (is_tag b) (keep b) h; min_headers = λ b rest h. inr (h, omega arith) }

  pub raws_in_inner : Inner (raws_in keep)
  raws_in_inner v p y a ks z e n string whole i = tt

  pub raws_in_kept : (old new : Cursor) (v : List ℕ) → Begun (λ c. is_tag c && keep c) old.rest → Accepts raws old new v → Begins keep v
  raws_in_kept old new v h a = rw (← a.spelled.bytes) (begins_front is_tag keep a.bytes new.rest old.rest a.moved.rest h)

  pub raws_in_accepts : (old new : Cursor) (v : List ℕ) → Begun (λ c. is_tag c && keep c) old.rest → Accepts raws old new v → Accepts (raws_in keep) old new v
  raws_in_accepts old new v h a = record {
    bytes = a.bytes;
    tally = a.tally;
    spelled = (a.spelled, begins_front is_tag keep a.bytes new.rest old.rest a.moved.rest h);
    moved = a.moved;
    ready = a.ready;
    min_headers = λ n. elim [ inl z ↦ omega (arith, z) | inr k ↦ a.min_headers n k.1 ];
    only = λ w p q z i e f. a.only w p q z i.0 e f;
  }

  pub raws_in_refuses : (old new : Cursor) (e : ReadError) → Begun (λ c. is_tag c && keep c) old.rest → Refuses raws old new e → Refuses (raws_in keep) old new e
  raws_in_refuses old new e h a = record {
    spares = a.spares;
    grows = a.grows;
    bound = a.bound;
    min_headers = λ m n. elim [ inl z ↦ omega (arith, z, a.grows) | inr k ↦ a.min_headers m n k.1 ];
    none = λ w p q z i g f. let o = a.none w p q z i.0 g f in record { memory = o.memory; marked = o.marked };
    forward = a.forward;
    within = a.within;
    outside = λ f. absurd (not_begun (λ c. is_tag c && keep c) old.rest f h);
  }

  -- no element with a tag of the set begins there
  pub raws_in_other : (old : Cursor) (e : ReadError) → (e ≡ OutOfMemory → ⊥) → Follows (λ c. is_tag c && keep c) old.rest → Refuses (raws_in keep) old old e
  raws_in_other old e m h = record {
    spares = λ f. absurd f;
    grows = omega arith;
    bound = omega arith;
    min_headers = λ x n. elim [ inl z ↦ omega (arith, z) | inr k ↦ absurd (not_begun (λ c. is_tag c && keep c) old.rest h k.0) ];
    none = λ w p q z i g f.
        let long : 1 ≤ length p = omega (arith, ap length i.0.is.bytes, element_length i.0.is.tag i.0.is.content, header_long i.0.is.content) in
        absurd (absent_front (λ c. is_tag c && keep c) p q old.rest g long (begins_both is_tag keep p (raws_lawful.begins w p z i.0) i.1) h);
    forward = omega arith;
    within = omega arith;
    outside = λ f. refl;
  }

  -- an element with a tag of the set, for which memory was refused
  pub raws_in_no_memory : (old new : Cursor) (v : List ℕ) → Accepts (raws_in keep) old new v → Refuses (raws_in keep) old new OutOfMemory
  raws_in_no_memory = accepts_no_memory (raws_in keep) raws_in_lawful (λ f. f)
