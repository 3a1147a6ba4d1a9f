pub mod Written
pub mod FirstMoves
pub mod Growing
pub mod Extracted
