pub mod ClausePlaces
