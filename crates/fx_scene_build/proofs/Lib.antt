pub mod PropertyLemmas
pub mod RoomLemmas
pub mod StepLemmas
pub mod QuietLemmas
