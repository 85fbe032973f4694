-- Seats of a closed service that the tests hand back in the other order.
pub mod Whole
