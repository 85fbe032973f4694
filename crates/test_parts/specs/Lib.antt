-- What the tests know of the worker and the board that they play with.
pub mod Playing
pub mod Walk
