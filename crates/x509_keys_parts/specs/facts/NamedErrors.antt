-- An error names a text, or was made for want of memory.
use Rattle.std.proofs.Common.{◌≡◌, ℕ, List}
use Rattle.std.specs.Prelude.{IfOk, IfErr, Result, Ok, Err}
use Rattle.x509_keys_parts.specs.Unsupported.{Names}
use Rattle.x509_keys_parts.specs.declared.errors.AlgorithmError.{AlgorithmError}
use Rattle.x509_keys_parts.specs.declared.errors.AlgorithmError.TheVariants as error

pub text_or_memory : {A S E : Type 0} (bytes : S → List ℕ) (make : S → AlgorithmError A) → ((s : S) → Names (make s) (bytes s)) → (text : Result S E) (e : AlgorithmError A) (name : List ℕ) → IfOk text (λ s. bytes s ≡ name) → IfOk text (λ s. e ≡ make s) → IfErr text (λ _. e ≡ error.OutOfMemory) → Names e name
text_or_memory bytes make h (Ok s) e name is made refused = rw (made, ← is) (h s)
text_or_memory bytes make h (Err x) e name is made refused = rw refused tt
