pub mod ActLemmas
pub mod AnswerLemmas
pub mod LineLemmas
pub mod LoadLemmas
pub mod OutputLemmas
pub mod ScriptLemmas
pub mod SheetLemmas
pub mod SlotLemmas
