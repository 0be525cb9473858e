pub mod CommandLine
pub mod Demos
pub mod PlainPlayer
pub mod Works
