-- The signed part lies in the bytes, and what is told of it is what was read.
use Rattle.std.proofs.Common.{◌≡◌, ℕ, ◌+◌, ◌<◌, ◌^◌, List, ◌++◌, length, sym, ap, subst, ◌∙◌, arith, length-append}
use Rattle.x509_der.specs.Element.{element}
use Rattle.x509_der.specs.facts.Element.{element_length}
use Rattle.x509_der.specs.FirstField.{FirstPart, StartsContent}
use Rattle.x509_der.specs.Shape.{Shape}
use Rattle.x509_flat.specs.SignedParts.{IsSigned, SignedIn}
use Rattle.x509_flat.specs.declared.signed_part.FlatSigned.{FlatSigned}

pub part_fits : (bytes slice after : List ℕ) (start : ℕ) → bytes ≡ element 48 (slice ++ after) → StartsContent bytes start → length bytes < 2 ^ 64 → start + length slice < 2 ^ 64
part_fits bytes slice after start e starts small =
    omega (arith, ap length e, element_length 48 (slice ++ after), length-append slice after, starts (slice ++ after) e)

pub signed_in : {T V W : Type 0} (view : T → V × W) (a : Shape V) (b : Shape W) (bytes : List ℕ) (value : T) (slice inside outside : List ℕ) (start : ℕ) (signed : FlatSigned)
    → FirstPart view a b bytes value slice inside outside → StartsContent bytes start → IsSigned start slice inside outside signed → SignedIn view a b bytes signed
signed_in view a b bytes value slice inside outside start signed part starts is =
    let P : List ℕ → Type 0 = λ x. FirstPart view a b bytes value slice inside x in
    let Q : List ℕ → Type 0 = λ x. FirstPart view a b bytes value slice x signed.outside in
    let S : ℕ → Type 0 = λ n. StartsContent bytes n in
    record {
      value = value;
      slice = slice;
      part = subst Q (sym is.counted) (subst P (sym is.others) part);
      start = subst S (sym is.from) starts;
      end = is.to ∙ ap (λ n. n + length slice) (sym is.from);
    }
