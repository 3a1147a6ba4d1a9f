mod Examples
mod TrialExamples
mod CertificateExamples
pub mod PlaceTests
pub mod FirstNamings
mod ReadingExamples
pub mod Bits
pub mod Truth
pub mod Counted
pub mod Assignments
pub mod Blocks
pub mod Numbers
pub mod Tseitin
pub mod NumberLists
pub mod NumbersApart
pub mod FormulaPlaces
pub mod FormulaReading
pub mod PlainTexts
pub mod PlainTokens
pub mod WrittenForms
pub mod OneText
pub mod CircuitForms
pub mod Growth
pub mod WireWords
pub mod WireItems
pub mod GrowthSums
pub mod Anchors
pub mod Covering
pub mod Codes
pub mod Moves
