pub mod Standing
pub mod Paid
pub mod TailRows
pub mod FirstValues
