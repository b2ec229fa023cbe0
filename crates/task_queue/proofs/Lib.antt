pub mod Balance
mod Dealing
mod Told
