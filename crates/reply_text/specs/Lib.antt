pub mod Commas
pub mod FrameText
pub mod Replies
