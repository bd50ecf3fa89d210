-- Errors that name an algorithm.
use Rattle.std.specs.Prelude.{◌≡◌, ℕ, List}
use Rattle.std.specs.String.{string_bytes}
use Rattle.x509_keys_parts.specs.declared.errors.AlgorithmError.{AlgorithmError}
use Rattle.x509_keys_parts.specs.declared.errors.AlgorithmError.TheVariants as error

-- the algorithm that an error names; want of memory names none
abbrev pub Names : {A : Type 0} → AlgorithmError A → List ℕ → Type 0
Names (error.Unsupported u) text = string_bytes u.algorithm ≡ text
Names error.OutOfMemory text = Unit {0}
