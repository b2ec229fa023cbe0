pub mod Digits
pub mod RowSteps
pub mod Words
pub mod LineSteps
pub mod Gathered
pub mod Parts
pub mod Clients
pub mod Loaded
