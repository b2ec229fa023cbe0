pub mod Burials
pub mod Tries
pub mod Replies
pub mod Marked
pub mod DeadKeys
pub mod DropCalls
pub mod Finding
pub mod Reclaims
