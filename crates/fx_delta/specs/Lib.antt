pub mod Items
pub mod Lines
pub mod Pictures
pub mod Reading
pub mod Stream
