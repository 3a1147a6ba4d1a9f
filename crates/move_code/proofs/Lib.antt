pub mod Numbers
pub mod Ranges
pub mod CodeSplit
pub mod Covered
pub mod Plies
