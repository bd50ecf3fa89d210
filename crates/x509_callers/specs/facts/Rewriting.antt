-- When what is written is what was read.
use Rattle.std.proofs.Common.{◌≡◌, ℕ, Bool, true, List, [], length, nat_eq, ap, sym, ◌∙◌}
use Rattle.std.specs.Prelude.{◌↔◌}
use Rattle.std.specs.Bool.{Decides}
use Rattle.std.proofs.lemmas.Bool.Decides.{Decides-eqb, Decides-like}
use Rattle.std.proofs.lemmas.List.{nil_from_length}

-- exactly where no deviation stands in it, of which there are n
pub same_bytes : {M : Type 0} (written strict string : List ℕ) (marks : List M) (n : ℕ) → written ≡ strict → (string ≡ strict) ↔ (marks ≡ []) → n ≡ length marks → Decides (nat_eq n 0) (written ≡ string)
same_bytes written strict string marks n e w l =
    Decides-like (nat_eq n 0)
    (λ h. e ∙ sym (w.1 (nil_from_length marks (sym l ∙ h))))
    (λ h. l ∙ ap length (w.0 (sym h ∙ e)))
    (Decides-eqb n 0)
