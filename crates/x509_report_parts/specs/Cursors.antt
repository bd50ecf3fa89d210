-- Where a cursor finds elements.
use Rattle.std.specs.Prelude.{◌≡◌, ◌+◌, ◌⊎◌, ℕ, List, [], ◌∷◌, ◌++◌, length, All, Option, MatchOption}
use Rattle.x509_der.specs.Reading.{IsFirst, NoFirst}
use Rattle.x509_report_parts.specs.declared.cursor.Cursor.{Cursor}
use Rattle.x509_report_parts.specs.declared.cursor.Element.{Element}

-- the bytes of a cursor begin with an element, which stands where it says, with its content, and another cursor goes on behind it
pub record IsNext (old : Cursor) (e : Element) (new : Cursor) : Type 0 where
  pub first : IsFirst old.rest.now e.tag e.inside.rest.now new.rest.now
  pub start : e.span.start ≡ old.at
  pub content : e.inside.at + length e.inside.rest.now ≡ e.span.end
  pub end : e.span.end ≡ new.at
  pub goes : new.at + length new.rest.now ≡ old.at + length old.rest.now

-- they begin with none, and the other cursor is where the first was
pub record IsNone (old new : Cursor) : Type 0 where
  pub none : NoFirst old.rest.now
  pub at : new.at ≡ old.at
  pub rest : new.rest.now ≡ old.rest.now

-- the next element, or an empty place where there is none
abbrev pub Next : Cursor → Element → Cursor → Type 0
Next old e new = IsNext old e new ⊎ (IsNone old new × (e.span.start ≡ old.at) × (e.span.end ≡ old.at))

-- they begin with no element that has the tag, and the other cursor is where the first was
pub record NotNext (tag : ℕ) (old new : Cursor) : Type 0 where
  pub none : (content after : List ℕ) → IsFirst old.rest.now tag content after → ⊥
  pub at : new.at ≡ old.at
  pub rest : new.rest.now ≡ old.rest.now

-- elements one behind another stand between two cursors
abbrev pub GoesPast : Cursor → List Element → Cursor → Type 0
GoesPast old [] new = new ≡ old
GoesPast old (e ∷ es) new = (next : Cursor) × IsNext old e next × GoesPast next es new

-- all elements that a cursor goes past, until there is none
pub record Elements (start : Cursor) (es : List Element) : Type 0 where
  pub end : Cursor
  pub past : GoesPast start es end
  pub none : NoFirst end.rest.now

-- none of them has the tag
abbrev pub Without : ℕ → List Element → Type 0
Without tag es = All (λ e. e.tag ≡ tag → ⊥) es

-- one of them has the tag, and none behind it
pub record IsLastOf (tag : ℕ) (es : List Element) (e : Element) : Type 0 where
  pub before : List Element
  pub after : List Element
  pub split : es ≡ before ++ e ∷ after
  pub tagged : e.tag ≡ tag
  pub others : Without tag after

-- the last element with the tag, of all that a cursor goes past
pub record Last (start : Cursor) (tag : ℕ) (found : Option Element) : Type 0 where
  pub all : List Element
  pub elements : Elements start all
  pub last : MatchOption found (Without tag all) (IsLastOf tag all)
