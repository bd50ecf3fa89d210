-- The outcome of an input that was given up, and of one that was read.
use Rattle.std.proofs.Common.{◌≡◌, inl, inr, ℕ, List, refl, ap}
use Rattle.std.specs.Prelude.{Option, IfSome, IfOk, IfErr, Result, Ok, Err}
use Rattle.x509_tool_parts.specs.declared.console.Stop.{Stop}
use Rattle.x509_tool_parts.specs.declared.fault.ToolFault.{ToolFault}
use Rattle.x509_tool_parts.specs.declared.fault.ToolFault.TheVariants.{Usage}
use Rattle.x509_tool_parts.specs.Input.{IsGivenUp}
use Rattle.x509_tool_parts.specs.Outcomes.{AnswersInput, Outcome, OutcomeOver}
use Rattle.x509_tool_parts.specs.Output.{AnswersNamed, IsServed, IsUsageOrMemory, listed_answer}
use Rattle.x509_tool_parts.specs.Text.{IsTextOf, IsNoText}

-- an input that was read, or that was given up
pub read_or_given_up : {L : Type 0} (of : L → List ℕ) (A : Type 0) (left : Option (List ℕ)) (type_name : List ℕ) (read result : Result L Stop) → IfOk read (λ input. IfSome left (λ bytes. of input ≡ bytes)) → IfErr read IsGivenUp → IfOk read (λ input. Outcome A type_name (of input) (listed_answer of result)) → IfErr read (λ stop. result ≡ Err stop) → OutcomeOver A left type_name (listed_answer of result)
read_or_given_up of A left type_name (Ok input) result known why answered passed = inl (of input, known, answered)
read_or_given_up of A left type_name (Err stop) result known why answered passed = inr (stop, why, ap (listed_answer of) passed)

unknown_told : {L : Type 0} (of : L → List ℕ) (r : Result L ToolFault) → r ≡ Err Usage → IsUsageOrMemory (listed_answer of r)
unknown_told of r h = rw h (inl refl)

-- an input that was read, as the bytes that were passed on
pub answers_input : {L : Type 0} (of : L → List ℕ) (A : Type 0) (type_name input passed : List ℕ) (r : Result L ToolFault) → passed ≡ input → ((IsServed type_name → ⊥) → r ≡ Err Usage) → (IsServed type_name → IsNoText passed → IsUsageOrMemory (listed_answer of r)) → ((bytes : List ℕ) → IsServed type_name → IsTextOf bytes passed → AnswersNamed A type_name bytes (listed_answer of r)) → AnswersInput A type_name input (listed_answer of r)
answers_input of A type_name input passed r same unknown no_text text = rw (← same) (record {
  unknown = λ none. unknown_told of r (unknown none);
  no_text = no_text;
  text = text;
})
