pub mod Characters
pub mod Grammar
pub mod Machine
pub mod Beginnings
pub mod Verdicts
pub mod Judging
pub mod Judgements
