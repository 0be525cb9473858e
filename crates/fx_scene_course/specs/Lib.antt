pub mod Courses
pub mod Made
pub mod Making
pub mod Opens
pub mod Views
