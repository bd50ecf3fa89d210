-- What the program does, from its argument and its input to its outcome.
use Rattle.std.specs.Prelude.{◌≡◌, ◌⊎◌, ℕ, List, Option, IfSome, Result, Ok, Err}
use Rattle.x509_tool_parts.specs.declared.console.Stop.{Stop}
use Rattle.x509_tool_parts.specs.declared.console.Stop.TheVariants.{Fault, Console}
use Rattle.x509_tool_parts.specs.declared.fault.ToolFault.{ToolFault}
use Rattle.x509_tool_parts.specs.Input.{IsGivenUp}
use Rattle.x509_tool_parts.specs.Output.{AnswersNamed, IsServed, IsUsageOrMemory}
use Rattle.x509_tool_parts.specs.Text.{IsTextOf, IsNoText}

-- the answer to an input as a value of the type of a name
pub record AnswersInput (A : Type 0) (type_name input : List ℕ) (r : Result (List ℕ) ToolFault) : Type 0 where
  pub unknown : (IsServed type_name → ⊥) → IsUsageOrMemory r
  pub no_text : IsServed type_name → IsNoText input → IsUsageOrMemory r
  pub text : (bytes : List ℕ) → IsServed type_name → IsTextOf bytes input → AnswersNamed A type_name bytes r

-- the outcome for an input that was read is that answer
abbrev pub Outcome : Type 0 → List ℕ → List ℕ → Result (List ℕ) Stop → Type 0
Outcome A type_name input (Ok out) = AnswersInput A type_name input (Ok out)
Outcome A type_name input (Err (Fault fault)) = AnswersInput A type_name input (Err fault)
Outcome A type_name input (Err Console) = ⊥

-- the outcome for an input that was read, which is what the reader has left, where that is known; or why it wasn't read
abbrev pub OutcomeOver : Type 0 → Option (List ℕ) → List ℕ → Result (List ℕ) Stop → Type 0
OutcomeOver A left type_name r =
    ((input : List ℕ) × IfSome left (λ bytes. input ≡ bytes) × Outcome A type_name input r)
    ⊎ ((stop : Stop) × IsGivenUp stop × (r ≡ Err stop))
