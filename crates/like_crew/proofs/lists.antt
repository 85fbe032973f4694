-- Lists: pairs, and dealing out.
pub mod Pairs
pub mod Stepped
pub mod Deals
pub mod Dealt
pub mod Mapped
