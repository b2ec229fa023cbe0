pub mod NameRules
pub mod KeyTests
pub mod KeyReading
