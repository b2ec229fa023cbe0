pub mod Sessions
pub mod Blocks
pub mod Parts
pub mod Rooms
