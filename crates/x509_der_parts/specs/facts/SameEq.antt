-- Tests that decide whether two values are the same.
use Rattle.std.specs.Prelude.{◌≡◌, Bool, ◌&&◌}
use Rattle.std.specs.Bool.{Decides}
use Rattle.std.proofs.Common.{◌∙◌, ap, sym}
use Rattle.std.proofs.lemmas.Bool.Decides.{Decides-like, Decides-and}

-- of a field and those behind it
pub both_decide :
    {V W : Type 0} {E : V → V → Bool} {F : W → W → Bool} →
    ((x y : V) → Decides (E x y) (x ≡ y)) →
    ((x y : W) → Decides (F x y) (x ≡ y)) →
    (x y : V × W) → Decides (E x.0 y.0 && F x.1 y.1) (x ≡ y)
both_decide {V = V} {W = W} {E = E} {F = F} d e x y =
    Decides-like (E x.0 y.0 && F x.1 y.1)
    (λ h. ap (λ (a : V). (a, x.1)) h.0 ∙ ap (λ (b : W). (y.0, b)) h.1)
    (λ h. (ap (λ (p : V × W). p.0) h, ap (λ (p : V × W). p.1) h))
    (Decides-and (E x.0 y.0) (F x.1 y.1) (d x.0 y.0) (e x.1 y.1))

-- of a value that its fields tell
pub told_decide :
    {X V : Type 0} {E : V → V → Bool} (parts : X → V) →
    ((x y : X) → parts x ≡ parts y → x ≡ y) →
    ((v w : V) → Decides (E v w) (v ≡ w)) →
    (x y : X) → Decides (E (parts x) (parts y)) (x ≡ y)
told_decide {E = E} parts same d x y =
    Decides-like (E (parts x) (parts y)) (same x y) (λ f. ap parts f) (d (parts x) (parts y))

-- of a value that is made of its fields
pub made_decide :
    {X V : Type 0} {E : V → V → Bool} (parts : X → V) (make : V → X) →
    ((x : X) → make (parts x) ≡ x) →
    ((v w : V) → Decides (E v w) (v ≡ w)) →
    (x y : X) → Decides (E (parts x) (parts y)) (x ≡ y)
made_decide parts make h d = told_decide parts (λ x y f. sym (h x) ∙ ap make f ∙ h y) d
