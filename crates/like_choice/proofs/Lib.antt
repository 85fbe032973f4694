-- How pages are put into free slots, and which pages a choice proposes, mask by mask.
pub mod Masks
pub mod Filling
pub mod Choosing
pub mod Newly
pub mod Proposals
pub mod Written
