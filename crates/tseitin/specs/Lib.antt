pub mod GateClauses
