pub mod Faults
pub mod AnchorFound
pub mod AddedItems
pub mod CellCounts
pub mod CellFaults
pub mod NamedCells
pub mod SetupFaults
pub mod Named
