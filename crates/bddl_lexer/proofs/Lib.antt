pub mod GapLaws
pub mod OneReading
pub mod Placing
pub mod Answered
pub mod PlaceLaws
pub mod WrittenTokens
mod Examples
