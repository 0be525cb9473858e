pub mod Causes
pub mod Files
pub mod MemoryFiles
pub mod MemoryPieces
pub mod Pieces
