-- What is told of a check.
use Rattle.std.proofs.Common.{◌≡◌, ℕ, List, refl, subst, Result, Ok, Err}
use Rattle.x509_der.specs.Calls.{Located, LocatedCheck, MeteredCheck}
use Rattle.x509_der.specs.Shape.{Shape}
use Rattle.x509_der.specs.Tally.{Mark}
use Rattle.picky_asn1_x509.specs.Types.{ReadError, Refused}
use Rattle.picky_asn1_x509.specs.Types.read_error as read_error
use Rattle.x509_flat.specs.Checks.{Tells, verdict_of}
use Rattle.x509_flat.specs.Places.{Places, PutsPlaces}
use Rattle.x509_flat.specs.Statuses.{IsStatusOf}
use Rattle.x509_flat.specs.declared.check.Verdict.{Verdict}
use Rattle.x509_flat.specs.declared.places.FlatPlace.{FlatPlace}
use Rattle.x509_flat.specs.declared.status.Status.{Status}
use Rattle.x509_flat.specs.declared.status.Status.TheVariants as answer

pub accepted : {V : Type 0} (s : Shape V) (bytes counts : List ℕ) (headers : ℕ) (r : Result (List ℕ) Refused) → r ≡ Ok counts → MeteredCheck s bytes r headers → Tells s bytes answer.Done (verdict_of (Ok counts) headers)
accepted s bytes counts headers r e m =
    let P : Result (List ℕ) Refused → Type 0 = λ x. MeteredCheck s bytes x headers in
    record { outcome = Ok counts; headers = headers; check = subst P e m; status_is = refl; verdict_is = refl }

-- a read that asked for no memory is refused
refused_status : (error : ReadError) (status : Status) → IsStatusOf error status → (error ≡ read_error.OutOfMemory → ⊥) → status ≡ answer.Refused
refused_status error answer.Refused is known = refl
refused_status error answer.Done is known = absurd (is.done refl)
refused_status error answer.OutOfMemory is known = absurd (known (is.memory refl))
refused_status error answer.TooShort is known = absurd (is.others.short refl)
refused_status error answer.UnknownKind is known = absurd (is.others.unknown refl)
refused_status error answer.TooLong is known = absurd (is.others.long refl)

pub refused : {V : Type 0} (s : Shape V) (bytes : List ℕ) (why : Refused) (headers : ℕ) (r : Result (List ℕ) Refused) (status : Status) (verdict : Verdict) → r ≡ Err why → MeteredCheck s bytes r headers → IsStatusOf why.error status → verdict ≡ verdict_of (Err why) headers → Tells s bytes status verdict
refused s bytes why headers r status verdict e m is told =
    let P : Result (List ℕ) Refused → Type 0 = λ x. MeteredCheck s bytes x headers in
    let k = subst P e m in
    record { outcome = Err why; headers = headers; check = k; status_is = refused_status why.error status is k.0.0; verdict_is = told }

pub placed : {V : Type 0} (s : Shape V) (bytes : List ℕ) (value : V) (marks lent : List Mark) (old new : List FlatPlace) (status : Status) (size : ℕ) → lent ≡ marks → Located s bytes value marks → PutsPlaces lent old new status size → Places s bytes old new status size
placed s bytes value marks lent old new status size e located puts =
    let P : List Mark → Type 0 = λ x. PutsPlaces x old new status size in
    let k = subst P e puts in
    record {
      done = λ q. record { value = value; marks = marks; located = located; holds = k.done q };
      short = λ q. record { value = value; marks = marks; located = located; holds = k.short q };
      refused = λ q. absurd (k.refused q);
      memory = λ q. absurd (k.memory q);
      unknown = k.unknown;
      long = k.long;
    }

pub not_placed : {V : Type 0} (s : Shape V) (bytes : List ℕ) (error : ReadError) (old : List FlatPlace) (status : Status) (size : ℕ) → LocatedCheck s bytes (Err error) → IsStatusOf error status → size ≡ 0 → Places s bytes old old status size
not_placed s bytes error old status size h is told = record {
  done = λ q. absurd (is.done q);
  short = λ q. absurd (is.others.short q);
  refused = λ q. (record { told = told; same = refl }, h.0 (is.refused q));
  memory = λ _. (record { told = told; same = refl }, h.1);
  unknown = is.others.unknown;
  long = is.others.long;
}
