-- Contents of primitive elements.
use Rattle.std.proofs.Common.{◌≡◌, ℕ, List, [], ◌∷◌, ◌++◌, length, refl, ap, sym, ◌∙◌, arith, append-nil}
use Rattle.x509_der_parts.specs.facts.MarkOrder.{no_marks}
use Rattle.x509_der_parts.specs.Tally.{Tally, none}
use Rattle.x509_der_parts.specs.Shape.{Lawful, Follows, Begins}
use Rattle.x509_der_parts.specs.PrimitiveContent.{IsBytes, IsItself, IsNothing, all, itself, nothing, octets, plain}

-- only the end follows where nothing may
pub ends : (r : List ℕ) → Follows all r → r ≡ []
ends [] f = refl
ends (c ∷ r) f = cc

pub begins_any : (p : List ℕ) → Begins all p
begins_any [] = tt
begins_any (c ∷ p) = refl

pub record IsPlain {V : Type 0} (Is : V → List ℕ → Type 0) (of : V → List ℕ) (Ok : V → Type 0) : Type 0 where
  pub one : (v w : V) (p : List ℕ) → Is v p → Is w p → v ≡ w
  pub written : (v : V) → Ok v → Is v (of v)
  pub strict : (v : V) (p : List ℕ) → Is v p → p ≡ of v
  pub valid : (v : V) (p : List ℕ) → Is v p → Ok v

none_headers : (y : Tally) → y ≡ none → (y.headers ≡ 0) × (length y.marks ≡ 0)
unfolding none
none_headers y e = (ap (λ (x : Tally). x.headers) e, ap (λ (x : Tally). length x.marks) e)

none_is : none ≡ record { marks = []; headers = 0 }
unfolding none
none_is = refl

module _ {V : Type 0} (Is : V → List ℕ → Type 0) (of : V → List ℕ) (Ok : V → Type 0) (Frugal : Type 0) (h : IsPlain Is of Ok) where
  pub plain_lawful : Lawful (plain Is of Ok Frugal)
  plain_lawful = record {
    one = λ v w p q r u y z a b e f g.
        let e2 : p ≡ q = sym (append-nil p) ∙ ap (λ x. p ++ x) (sym (ends r f)) ∙ e ∙ ap (λ x. q ++ x) (ends u g) ∙ append-nil q in
        record { value = h.one v w q (rw e2 at a.0) b.0; bytes = e2; tally = a.1 ∙ sym b.1 };
    written = λ v d r. record { headers = 0; spelled = (h.written v d, sym none_is) };
    clean = λ v p y a e. h.strict v p a.0;
    valid = λ v p y a. h.valid v p a.0;
    read = λ v p y a. tt;
    begins = λ v p y a. begins_any p;
    cost = λ v p y a. let k = none_headers y a.1 in omega arith;
    places = λ v p y a. no_marks (length p) y.marks (ap (λ (x : Tally). x.marks) (a.1 ∙ none_is));
    parts = λ v p y a n string whole i. tt;
    few = λ v p y a. let k = none_headers y a.1 in omega arith;
  }

pub itself_plain : (Allowed : List ℕ → Type 0) → IsPlain (IsItself Allowed) (λ v. v) (IsBytes Allowed)
itself_plain Allowed = record { one = λ v w p a b. sym a.1 ∙ b.1; written = λ v d. (d, refl); strict = λ v p a. a.1; valid = λ v p a. a.0 }

pub itself_lawful : (Allowed : List ℕ → Type 0) → Lawful (itself Allowed)
itself_lawful Allowed = plain_lawful (IsItself Allowed) (λ v. v) (IsBytes Allowed) ⊥ (itself_plain Allowed)

pub octets_lawful : Lawful octets
octets_lawful = itself_lawful (λ v. Unit {0})

pub nothing_plain : {V : Type 0} → ((v w : V) → v ≡ w) → IsPlain (IsNothing {V = V}) (λ v. []) (λ v. Unit {0})
nothing_plain same = record { one = λ v w p a b. same v w; written = λ v d. refl; strict = λ v p a. a; valid = λ v p a. tt }

pub nothing_lawful : {V : Type 0} → ((v w : V) → v ≡ w) → Lawful (nothing {V = V})
nothing_lawful {V} same = plain_lawful {V = V} IsNothing (λ v. []) (λ v. Unit {0}) (Unit {0}) (nothing_plain same)
