mod Ids
mod RowNumbers
mod Entering
mod RowWrites
mod Changes
mod Originals
mod Listed
