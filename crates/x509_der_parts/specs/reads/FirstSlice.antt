-- A whole SEQUENCE that was gone past, with the slice of its first field.
use Rattle.std.proofs.Common.{◌≡◌, ℕ, List}
use Rattle.x509_der_parts.specs.declared.errors.ReadError.{ReadError}
use Rattle.x509_der_parts.specs.declared.errors.ReadError.TheVariants.{OutOfMemory}
use Rattle.x509_der_parts.specs.Tally.{Tally}
use Rattle.x509_der_parts.specs.Shape.{Shape}
use Rattle.x509_der_parts.specs.Calls.{NoWhole, NoValue}
use Rattle.x509_der_parts.specs.Reading.{thrifty}
use Rattle.x509_der_parts.specs.FirstField.{FirstPart, in_sequence}

module _ {T V W : Type 0} (view : T → V × W) (a : Shape V) (b : Shape W) where
  -- what is spelled is so whether or not going past it takes memory
  thin : (v : T) (string : List ℕ) (y : Tally) → (in_sequence view a b).spelled v string y → (in_sequence view (thrifty a) (thrifty b)).spelled v string y
  thin v string y i = record { content = i.content; part = i.part; spelled = i.spelled; bytes = i.bytes; tally = i.tally }

  pub no_slice : (string : List ℕ) (e : ReadError) → (e ≡ OutOfMemory → ⊥) → NoWhole (in_sequence view (thrifty a) (thrifty b)) string e → NoValue (in_sequence view a b) string e
  no_slice string e m n = (m, λ v y i. n m v y (thin v string y i))

  pub first_slice : (string : List ℕ) (value : T) (slice counts others : List ℕ) → FirstPart view (thrifty a) (thrifty b) string value slice counts others → FirstPart view a b string value slice counts others
  first_slice string value slice counts others p =
      let s = p.whole.spelled in
      record {
        tally = p.tally;
        whole = record { spelled = record { content = s.content; part = s.part; spelled = s.spelled; bytes = s.bytes; tally = s.tally }; strict = p.whole.strict };
        after = p.after;
        bytes = p.bytes;
        part = p.part;
        spelled = p.spelled;
        rest = p.rest;
        behind = p.behind;
        stands = p.stands;
        strict = p.strict;
        counted = p.counted;
        sums = p.sums;
      }
