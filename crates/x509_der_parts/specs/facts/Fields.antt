-- The law of fields: where each field of a spelling stands, with the marks that lie within its slice, and so at every depth.
use Rattle.std.proofs.Common.{◌≡◌, ◌↔◌, ℕ, List, [], ◌++◌, map, sym, ap, ◌∙◌}
use Rattle.x509_der_parts.specs.facts.Lists.{map_empty}
use Rattle.x509_der_parts.specs.Tally.{Tally, moved}
use Rattle.x509_der_parts.specs.Shape.{Shape, Lawful}
use Rattle.x509_der_parts.specs.Parts.{IsPart}
use Rattle.x509_der_parts.specs.facts.Parts.{part_whole}
use Rattle.x509_der_parts.specs.Fields.{FieldAt, Stands}

module _ {V : Type 0} (s : Shape V) (l : Lawful s) where
  -- the strict spelling is the one without a mark
  pub strict_where : (v : V) (p : List ℕ) (y : Tally) → s.spelled v p y → (p ≡ s.strict v) ↔ (y.marks ≡ [])
  strict_where v p y b = (
    λ h.
        let w = l.written v (l.valid v p y b) (l.read v p y b) in
        let o = l.one v v p (s.strict v) [] [] y _ b w.spelled (ap (λ x. x ++ []) h) tt tt in
        ap (λ (x : Tally). x.marks) o.tally,
    l.clean v p y b,
  )

  -- a part that is spelled in a lawful shape is a field
  pub field_at : (v : V) (p : List ℕ) (y : Tally) → s.spelled v p y → (n : ℕ) (string : List ℕ) (whole : Tally) → IsPart string whole n p y → FieldAt s v n p string whole
  field_at v p y a n string whole i =
      let w = strict_where v p y a in
      record {
        tally = y;
        spelled = a;
        part = i;
        strict = (λ e. i.marks ∙ ap (map (moved n)) (w.0 e), λ e. w.1 (map_empty (moved n) y.marks (sym i.marks ∙ e)));
      }

  pub stands : (v : V) (p : List ℕ) (y : Tally) → s.spelled v p y → (n : ℕ) (string : List ℕ) (whole : Tally) → IsPart string whole n p y → Stands s v n p string whole
  stands v p y a n string whole i = record { field = field_at v p y a n string whole i; parts = l.parts v p y a n string whole i }

  -- the law of fields: a spelling with all its parts
  pub stands_whole : (v : V) (p : List ℕ) (y : Tally) → s.spelled v p y → Stands s v 0 p p y
  stands_whole v p y a = stands v p y a 0 p y (part_whole p y (l.places v p y a).within)
