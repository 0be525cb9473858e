pub mod CountLemmas
pub mod GridLemmas
pub mod GridTests
pub mod NeedLemmas
pub mod SharingLemmas
pub mod StartLemmas
