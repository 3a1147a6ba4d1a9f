pub mod Outside
pub mod Ends
pub mod Puts
pub mod Fakes
pub mod Adapters
