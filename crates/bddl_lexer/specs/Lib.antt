pub mod Gaps
