pub mod Forms
pub mod Properties
pub mod Roles
pub mod Scopes
pub mod Statics
pub mod Styles
pub mod Values
pub mod Views
