pub mod ScriptLemmas
pub mod SheetLemmas
