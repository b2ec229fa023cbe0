pub mod Lying
pub mod Plans
pub mod Passing
