-- Lemmas about what the rules ask.
pub mod NumberFacts
pub mod OtherViews
pub mod FirstFeature
pub mod UsageFacts
pub mod LabelSteps
