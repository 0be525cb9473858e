pub mod RectLemmas
pub mod TextLemmas
pub mod ListSteps
pub mod DrawingLemmas
pub mod AlignLemmas
pub mod HiddenLemmas
pub mod WholeLemmas
pub mod InsetLemmas
