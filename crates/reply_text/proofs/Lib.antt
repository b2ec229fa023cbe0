pub mod Lines
pub mod Commas
pub mod Left
