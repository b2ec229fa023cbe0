pub mod Steps
pub mod Numbers
pub mod Lists
pub mod Written
pub mod Skipping
