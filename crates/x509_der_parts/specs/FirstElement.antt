-- Where the element stands that a string begins with (X.690, 8.1).
use Rattle.std.specs.Prelude.{◌≡◌, ℕ, ◌+◌, List, length, Option, Some, None}
use Rattle.x509_der_parts.specs.declared.element.Element.{Element}
use Rattle.x509_der_parts.specs.Element.{header}
use Rattle.x509_der_parts.specs.Reading.{IsFirst, NoFirst}

-- the string begins with an element, whose content stands behind its header, and ends with it
pub record FoundAt (string : List ℕ) (e : Element) : Type 0 where
  pub content : List ℕ
  pub after : List ℕ
  pub first : IsFirst string e.tag content after
  pub start : e.start ≡ header content
  pub end : e.end ≡ header content + length content

-- there, or the string begins with no element
abbrev pub Finds : List ℕ → Option Element → Type 0
Finds string (Some e) = FoundAt string e
Finds string None = NoFirst string
