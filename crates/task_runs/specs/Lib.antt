pub mod Pulling
pub mod Results
