pub use Rattle.fx_doc_runs.specs.Views
pub mod Reads
pub mod Judgements
