pub mod Lists
pub mod GridLemmas
pub mod GridTiles
pub mod Wholes
pub mod Cuts
pub mod Orders
pub mod Joined
pub mod JoinSteps
