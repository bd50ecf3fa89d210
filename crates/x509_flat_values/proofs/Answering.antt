-- What a status says of what was read.
use Rattle.std.proofs.Common.{◌≡◌, ℕ, List, sym, ◌∙◌, subst}
use Rattle.x509_der.specs.Calls.{IsWhole, NoValue}
use Rattle.x509_der.specs.Shape.{Shape}
use Rattle.x509_der.specs.Tally.{Tally}
use Rattle.x509_der.specs.Types.{ReadError}
use Rattle.x509_flat.specs.Statuses.{IsStatusOf}
use Rattle.x509_flat.specs.declared.status.Status.{Status}
use Rattle.x509_flat.specs.declared.status.Status.TheVariants as answer
use Rattle.x509_flat_values.specs.Told.{Told}

pub told : {V F : Type 0} (s : Shape V) (bytes : List ℕ) (Has : V → F → Type 0) (none fields own : F) (status : Status) (v : V) (y : Tally) → status ≡ answer.Done → fields ≡ own → IsWhole s bytes v y → Has v own → Told s bytes Has none status fields
told s bytes Has none fields own status v y is same whole has = record {
  done = λ _. record { value = v; tally = y; whole = whole; holds = subst (Has v) (sym same) has };
  refused = λ e. absurd (cc);
  memory = λ e. absurd (cc);
  others = record { short = λ e. cc; unknown = λ e. cc; long = λ e. cc };
}

pub not_told : {V F : Type 0} (s : Shape V) (bytes : List ℕ) (Has : V → F → Type 0) (none fields : F) (status : Status) (error : ReadError) → NoValue s bytes error → IsStatusOf error status → fields ≡ none → Told s bytes Has none status fields
not_told s bytes Has none fields status error without is same = record {
  done = λ e. absurd (is.done e);
  refused = λ e. (same, without.1);
  memory = λ e. without.0 (is.memory e);
  others = is.others;
}
