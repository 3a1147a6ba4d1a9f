pub mod Appended
pub mod WithoutGate
pub mod Standing
pub mod Places
pub mod Inserted
