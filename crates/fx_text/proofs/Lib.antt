pub mod ClassLemmas
pub mod DigitLemmas
pub mod FrontLemmas
pub mod TrimLemmas
pub mod Utf8Lemmas
