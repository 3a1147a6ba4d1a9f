pub mod Done
pub mod Files
pub mod Stopping
pub mod Games
pub mod Numbers
pub mod Formulas
pub mod Certificates
