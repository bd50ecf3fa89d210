-- Bytes that are counted, or written, one part in front of another.
use Rattle.std.proofs.Common.{◌≡◌, ℕ, ◌+◌, ◌-◌, ◌≤◌, List, ◌++◌, length, take, drop, refl, sym, ap, ◌∙◌, arith, append_assoc, length-append, Result, Ok, Err}
use Rattle.std.proofs.lemmas.List.{length-take-le, take-append-drop}
use Rattle.x509_der_parts.specs.declared.errors.TooLong.{TooLong}
use Rattle.x509_der_parts.specs.Writing.{Measures, Counts, Writes, HasRoom, IsOutput}
use Rattle.x509_der_parts.specs.facts.Writing.{part_before}

measured_more : (n m : ℕ) (r : Result ℕ TooLong) → n ≡ m → Measures n r → Measures m r
measured_more n m r e h = rw (← e) h

counts_both : (a b s t u : List ℕ) (at mid : ℕ) (r : Result ℕ TooLong) → Counts b s at t (Ok mid) → Counts a t mid u r → Counts (a ++ b) s at u r
counts_both a b s t u at mid r p q = (q.0 ∙ p.0, measured_more (mid + length a) (at + length (a ++ b)) r (omega (arith, p.1, length-append a b)) q.1)

pub counting_output : IsOutput (λ b s at. Unit {0}) Counts (λ at mid. at ≤ mid) (λ at mid. mid - at)
counting_output = record {
  none = λ s at c f. (refl, omega arith);
  last = λ a b s at f. tt;
  first = λ a b s t at mid f p. tt;
  both = counts_both;
  fails = λ a b s t at e p. (p.0, omega (arith, p.1, length-append a b));
  ordered = λ b s t at mid p. omega (arith, p.1);
  spans = λ b s t at mid p. omega (arith, p.1);
}

writes_both : (a b s t u : List ℕ) (at mid : ℕ) (r : Result ℕ TooLong) → Writes b s at t (Ok mid) → Writes a t mid u r → Writes (a ++ b) s at u r
writes_both a b s t u at mid (Ok n) p q = (
  omega (arith, p.0, q.0, length-append a b),
  (p.1.0, q.1.1 ∙ part_before a (b ++ drop at s) s t n mid q.0 (omega (arith, p.0, p.1.0)) p.1.1 ∙ ap (λ x. take n s ++ x) (sym (append_assoc a b (drop at s)))),
)
writes_both a b s t u at mid (Err e) p q = q

length_written : (b s t : List ℕ) (at mid : ℕ) → Writes b s at t (Ok mid) → length t ≡ length s
length_written b s t at mid p = omega (arith, p.0, p.1.0, ap length p.1.1, length-append (take mid s) (b ++ drop at s), length-append b (drop at s), length-take-le mid s (omega (arith, p.0, p.1.0)), ap length (take-append-drop at s), length-append (take at s) (drop at s), length-take-le at s p.1.0)

pub writing_output : IsOutput HasRoom Writes (λ at mid. mid ≤ at) (λ at mid. at - mid)
writing_output = record {
  none = λ s at c f. (omega arith, (f.1, sym (take-append-drop at s)));
  last = λ a b s at f. (omega (arith, f.0, length-append a b), f.1);
  first = λ a b s t at mid f p. (omega (arith, f.0, p.0, length-append a b), omega (arith, p.0, f.1, length_written b s t at mid p));
  both = writes_both;
  fails = λ a b s t at e p. p;
  ordered = λ b s t at mid p. omega (arith, p.0);
  spans = λ b s t at mid p. omega (arith, p.0);
}
