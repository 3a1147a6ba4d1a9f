pub mod Boards
pub mod Touching
pub mod Steps
pub mod CodeParts
pub mod Starting
pub mod Following
pub mod Carried
pub mod FewGates
