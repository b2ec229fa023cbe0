pub mod Cells
pub mod Exprs
pub mod Typing
pub mod Fitting
pub mod Groups
pub mod Asking
pub mod Viewed
