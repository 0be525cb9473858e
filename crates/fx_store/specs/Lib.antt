pub mod Groups
pub mod Hearing
pub mod Kept
pub mod Looking
pub mod Own
pub mod Together
pub mod UnderWay
pub mod Watching
