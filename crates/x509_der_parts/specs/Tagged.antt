-- A shape's spelling as the content of an element.
use Rattle.std.proofs.Common.{◌≡◌, ℕ, ◌+◌, ◌≤◌, false, ◌⊎◌, eqb, List, ◌++◌}
use Rattle.x509_der_parts.specs.Element.{element, header}
use Rattle.x509_der_parts.specs.Tally.{Tally, inside}
use Rattle.x509_der_parts.specs.Shape.{Shape}
use Rattle.x509_der_parts.specs.Fields.{Stands}

-- p is the element with the tag t around a spelling (X.690, 8.1 and 8.14)
pub record IsTagged {V : Type 0} (t : ℕ) (s : Shape V) (v : V) (p : List ℕ) (y : Tally) : Type 0 where
  pub content : List ℕ
  pub part : Tally
  pub spelled : s.spelled v content part
  pub bytes : p ≡ element t content
  pub tally : y ≡ inside (header content) part

-- the headers of a content, and one
pub record MinInside {V : Type 0} (t : ℕ) (s : Shape V) (rest : List ℕ) (n : ℕ) : Type 0 where
  pub content : List ℕ
  pub after : List ℕ
  pub inner : ℕ
  pub bytes : rest ≡ element t content ++ after
  pub min_headers : s.min_headers content inner
  pub sum : n ≡ inner + 1

-- the content stands behind the header
pub record ContentAt {V : Type 0} (t : ℕ) (s : Shape V) (v : V) (n : ℕ) (slice string : List ℕ) (whole : Tally) : Type 0 where
  pub content : List ℕ
  pub bytes : slice ≡ element t content
  pub inner : Stands s v (n + header content) content string whole

abbrev pub tagged : {V : Type 0} → ℕ → Shape V → Shape V
tagged t s = record {
  spelled = IsTagged t s;
  strict = λ v. element t (s.strict v);
  valid = s.valid;
  readable = s.readable;
  starts = λ b. eqb b t;
  avoids = λ b. false;
  min_headers = λ rest n. (n ≤ 1) ⊎ MinInside t s rest n;
  frugal = s.frugal;
  parts = ContentAt t s;
}
