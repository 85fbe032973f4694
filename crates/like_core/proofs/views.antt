-- The views of all seats: as a list, as posts, and what each step keeps of them. Where the words stand.
pub mod ViewLists
pub mod ViewSums
pub mod KeptCounts
pub mod KeptOrder
pub mod Apart
pub mod Chosen
pub mod SplitPages
pub mod Ends
pub mod Ordered
pub mod Labelled
pub mod Clock
