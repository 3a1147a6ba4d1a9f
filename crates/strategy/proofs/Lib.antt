pub mod Encoding
pub mod Writing
pub mod FirstMoves
pub mod Numbering
pub mod NodesAt
pub mod Growth
