pub mod Libraries
pub mod Steps
pub mod Frames
pub mod Finds
