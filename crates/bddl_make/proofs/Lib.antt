pub mod Drawing
pub mod Stones
pub mod Texts
pub mod Directions
pub mod Checked
