pub mod Shelves
pub mod Sinks
pub mod Clocks
pub mod FailPlans
pub mod Memory
