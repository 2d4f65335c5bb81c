-- What the proofs of several functions share:
--     Exits          each exit of the calls that test, and what an accepted view tells
pub mod Exits
pub mod Shape
pub mod Calls
