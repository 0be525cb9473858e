pub mod Blending
