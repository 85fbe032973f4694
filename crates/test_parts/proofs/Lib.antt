-- What the tests keep of the worker and the board that they play with.
mod Playing
mod Walk
