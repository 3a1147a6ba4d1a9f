pub mod ListReaders
pub mod Starts
pub mod GrammarReaders
pub mod Gives
pub mod Faults
