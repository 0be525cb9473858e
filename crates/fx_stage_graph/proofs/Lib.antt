pub mod StaleLemmas
