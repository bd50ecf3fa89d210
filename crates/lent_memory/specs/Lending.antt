-- What lent memory owns, and the right to give it back.
use Rattle.std.specs.Prelude.{ℕ, zero, suc, ◌/◌}
use mir.Syntax.{Ty, w128, ty_int, ty_array}
use base.Fml.{Fml, fwand, ftrue}
use denote.RawPtr.{Ptr, room_for}

-- as many integers of 16 bytes, which are aligned to 16, as n bytes hold
abbrev pub sixteens : ℕ → Ty
sixteens n = ty_array (ty_int w128) (n / 16)

-- room for them at p; at size 0 nothing, wherever p points
abbrev pub lent_at : Ptr → ℕ → Fml
lent_at p zero = ftrue
lent_at p (suc n) = room_for (sixteens (suc n)) p

-- whoever gives the room for a τ back has lent all n bytes again
abbrev pub lent_token : ℕ → Ty → Ptr → Fml
lent_token n τ p = fwand (room_for τ p) (lent_at p n)
