mod Levels
mod Values
mod Changes
