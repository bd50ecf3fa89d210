-- What is told of values.
use Rattle.std.proofs.Common.{◌≡◌, ℕ, ◌+◌, List, length, sym, subst, arith, inl, inr}
use Rattle.x509_der.specs.Calls.{NoValue}
use Rattle.x509_der.specs.Shape.{Shape}
use Rattle.x509_der.specs.Types.{ReadError}
use Rattle.x509_fields.specs.Spans.{all_of}
use Rattle.x509_flat.specs.Spans.{no_span}
use Rattle.x509_flat.specs.Statuses.{IsStatusOf}
use Rattle.x509_flat.specs.Values.{FrontFilled, FrontTold, SpanTold}
use Rattle.x509_flat.specs.declared.span.FlatSpan.{FlatSpan}
use Rattle.x509_flat.specs.declared.status.Status.{Status}
use Rattle.x509_flat.specs.declared.status.Status.TheVariants as answer

pub filled : {V P : Type 0} (s : Shape V) (bytes : List ℕ) (fact : ℕ → Type 0) (old new : List P) (status : Status) (count size room : ℕ) → fact count → size ≡ count → room ≡ length old → FrontTold status count room → FrontFilled s bytes fact old new status size
filled s bytes fact old new status count size room h e r (inl t) =
    let is : status ≡ answer.Done = t.0 in
    record {
      done = λ _. (subst fact (sym e) h, omega (arith, e, r, t.1));
      short = λ q. absurd (cc);
      refused = λ q. absurd (cc);
      memory = λ q. cc;
      unknown = λ q. cc;
      long = λ q. cc;
    }
filled s bytes fact old new status count size room h e r (inr t) =
    let is : status ≡ answer.TooShort = t.0 in
    record {
      done = λ q. absurd (cc);
      short = λ _. (subst fact (sym e) h, omega (arith, e, r, t.1));
      refused = λ q. absurd (cc);
      memory = λ q. cc;
      unknown = λ q. cc;
      long = λ q. cc;
    }

pub not_filled : {V P : Type 0} (s : Shape V) (bytes : List ℕ) (fact : ℕ → Type 0) (old new : List P) (error : ReadError) (status : Status) (size : ℕ) → NoValue s bytes error → new ≡ old → IsStatusOf error status → size ≡ 0 → FrontFilled s bytes fact old new status size
not_filled s bytes fact old new error status size none same is zero = record {
  done = λ q. absurd (is.done q);
  short = λ q. absurd (is.others.short q);
  refused = λ q. (record { told = zero; same = same }, none.1);
  memory = λ q. none.0 (is.memory q);
  unknown = is.others.unknown;
  long = is.others.long;
}

pub told : {V P : Type 0} (s : Shape V) (bytes : List ℕ) (flat : P → FlatSpan) (fact : P → Type 0) (status : Status) (fields : FlatSpan) (place : P) → status ≡ answer.Done → fact place → fields ≡ flat place → SpanTold s bytes flat fact status fields
told s bytes flat fact status fields place d h e = record {
  done = λ _. record { place = place; holds = h; is = e };
  refused = λ q. absurd (cc);
  memory = λ q. cc;
  others = record { short = λ q. cc; unknown = λ q. cc; long = λ q. cc };
}

pub not_told : {V P : Type 0} (s : Shape V) (bytes : List ℕ) (flat : P → FlatSpan) (fact : P → Type 0) (error : ReadError) (status : Status) (fields : FlatSpan) → NoValue s bytes error → IsStatusOf error status → fields ≡ no_span → SpanTold s bytes flat fact status fields
not_told s bytes flat fact error status fields none is e = record {
  done = λ q. absurd (is.done q);
  refused = λ q. (e, none.1);
  memory = λ q. none.0 (is.memory q);
  others = is.others;
}

-- what ends a span of all bytes
pub from_start : (string : List ℕ) → (all_of string).end ≡ (all_of string).start + length string
from_start string = omega arith
