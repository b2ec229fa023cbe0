pub mod Tiles
pub mod Cuttings
pub mod Grids
pub mod Joins
