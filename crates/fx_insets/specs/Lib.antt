pub mod Insets
