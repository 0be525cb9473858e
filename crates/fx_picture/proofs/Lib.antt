pub mod CellLemmas
pub mod SamenessLemmas
pub mod BoundsLemmas
pub mod PixelLemmas
