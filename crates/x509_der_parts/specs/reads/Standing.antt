-- Where a reader stands that went over nothing.
use Rattle.std.proofs.Common.{◌≡◌, ℕ, Bool, false, ◌⊎◌, ⊎_elim, inl, inr, List, [], ◌∷◌, ◌++◌, length, refl, sym, ap, ◌∙◌, arith, length-append}
use Rattle.x509_der_parts.specs.declared.errors.ReadError.{ReadError}
use Rattle.x509_der_parts.specs.declared.reader.Spot.{Spot}
use Rattle.x509_der_parts.specs.Shape.{Shape, Lawful, Follows, Begins}
use Rattle.x509_der_parts.specs.declared.errors.ReadError.TheVariants.{OutOfMemory}
use Rattle.x509_der_parts.specs.Reading.{Cursor, Accepts, Refuses, IsSpot, MayGoBack}

-- what begins with a byte of a set is empty where none of the set stands
no_bytes : (f : ℕ → Bool) (p q r : List ℕ) → r ≡ p ++ q → Begins f p → Follows f r → p ≡ []
no_bytes f [] q r e b h = refl
no_bytes f (c ∷ p) q r e b h = let k : f c ≡ false = rw e at h in cc

-- where no spelling begins, one that is read is empty, and the reader stands where it did
pub stays : {V : Type 0} (s : Shape V) → Lawful s → (old new : Cursor) (v : V) → Accepts s old new v → Follows s.starts old.rest → (new.rest ≡ old.rest) × (new.at ≡ old.at)
stays s l old new v a f =
    let m = a.moved in
    let e = no_bytes s.starts a.bytes new.rest old.rest m.rest (l.begins v a.bytes a.tally a.spelled) f in
    (sym (m.rest ∙ ap (λ p. p ++ new.rest) e), omega (arith, m.at, ap length e))

-- no memory for what was read
pub accepts_no_memory : {V : Type 0} (s : Shape V) → Lawful s → (s.frugal → ⊥) → (old new : Cursor) (v : V) → Accepts s old new v → Refuses s old new OutOfMemory
accepts_no_memory s l costly old new v a =
    let m = a.moved in
    record {
      spares = λ f. absurd (costly f);
      grows = omega (arith, m.headers);
      bound = omega (arith, m.headers, l.cost v a.bytes a.tally a.spelled, ap length m.rest, length-append a.bytes new.rest);
      min_headers = λ x. absurd (x refl);
      none = λ w p q z i g f. record { memory = refl; marked = λ h. absurd (costly h) };
      forward = omega (arith, m.at);
      within = omega (arith, m.at, ap length m.rest, length-append a.bytes new.rest);
      outside = λ f. (stays s l old new v a f).1;
    }

-- a refusal by another name, of which the reader stands where it did or where the read began
pub refused_otherwise : {V : Type 0} (s : Shape V) (old mid new : Cursor) (spot : Spot) (e f : ReadError) → (f ≡ OutOfMemory → e ≡ OutOfMemory) → (e ≡ OutOfMemory → f ≡ OutOfMemory) → IsSpot old spot → MayGoBack mid new spot → Refuses s old mid e → Refuses s old new f
refused_otherwise s old mid new spot e f there back i b r =
    let at : (new.at ≡ mid.at) ⊎ (new.at ≡ old.at) = ⊎_elim (λ k. inl k) (λ k. inr (k ∙ i.start)) b.at in
    record {
      grows = omega (arith, r.grows, b.headers);
      bound = omega (arith, r.bound, b.headers);
      min_headers = λ n k z. omega (arith, r.min_headers (λ m. n (back m)) k z, b.headers);
      spares = λ h n m. r.spares h n (there m);
      none = λ w p q z k g h. let o = r.none w p q z k g h in record { memory = back o.memory; marked = o.marked };
      forward = ⊎_elim (λ k. omega (arith, k, r.forward)) (λ k. omega (arith, k)) at;
      within = ⊎_elim (λ k. omega (arith, k, r.within)) (λ k. omega (arith, k)) at;
      outside = λ g. ⊎_elim (λ k. k ∙ r.outside g) (λ k. k) at;
    }
