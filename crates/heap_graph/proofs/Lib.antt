mod WalkLemmas
mod GraphLemmas
pub mod SortedPlaces
