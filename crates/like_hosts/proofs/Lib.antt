-- How many likes the clients of a host were told, call by call and in all.
pub mod Likes
pub mod Whole
