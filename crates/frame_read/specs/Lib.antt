pub mod Targets
pub mod Fetches
pub mod TileSets
pub mod Wanted
pub mod Wholes
pub mod Gathers
pub mod Versions
