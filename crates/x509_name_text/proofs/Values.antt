-- Values, character by character.
use Rattle.std.proofs.Common.{◌≡◌, ℕ, Bool, true, List, [], ◌∷◌, ◌++◌, refl, sym, ap, ◌∙◌, append_assoc}
use Rattle.std.specs.Char.Utf16.{utf16_chars, utf16_lossy_chars}
use Rattle.x509_name_text.specs.declared.value.Progress.{Progress}
use Rattle.x509_name_text.specs.Texts.{Takes, Writes, WritesTo, escaped, left_text}
use Rattle.x509_name_text.proofs.Writing.{both}

pub one_more : (shown : ℕ → Bool) (all : List ℕ) (c : ℕ) (cs : List ℕ) (at : ℕ) (old : List ℕ) (before : Progress) (between : List ℕ) (after : Progress) (new : List ℕ)
    → WritesTo shown all (c ∷ cs) at old before between → Takes shown c before between after new → WritesTo shown all cs at old after new
one_more shown all c cs at old before between after new so_far taken = record {
  done = so_far.done ++ taken.text;
  written = both so_far.done taken.text at old before.at between after.at new so_far.written taken.written;
  more = append_assoc so_far.done taken.text _ ∙ ap (λ (t : List ℕ). so_far.done ++ t) (sym (taken.left cs)) ∙ so_far.more;
}

pub no_more : (shown : ℕ → Bool) (all : List ℕ) (at : ℕ) (old : List ℕ) (so_far : Progress) (between : List ℕ) (end : ℕ) (new : List ℕ)
    → WritesTo shown all [] at old so_far between → Writes (left_text shown so_far.before []) so_far.at between end new → Writes (escaped shown true all) at old end new
no_more shown all at old so_far between end new held last =
    rw (sym held.more) (both held.done (left_text shown so_far.before []) at old so_far.at between end new held.written last)

pub lossy_nil : utf16_lossy_chars [] ≡ []
unfolding utf16_chars
lossy_nil = refl
