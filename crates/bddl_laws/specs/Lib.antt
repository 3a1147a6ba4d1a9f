pub mod WorkedGames
pub mod FollowingValues
pub mod PlacedNodes
pub mod PlaceCosts
pub mod BreadthFirst
