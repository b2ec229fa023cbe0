pub mod Levels
pub mod Values
pub mod NamedCells
pub mod Names
pub mod ViewLemmas
pub mod ColumnLemmas
mod WorkedRows
