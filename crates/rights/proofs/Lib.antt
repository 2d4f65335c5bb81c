-- What the proofs of several functions share:
--     Turns          one turn of each loop
--     Walks          what the code walks, beside the definitions' recursions
pub mod Turns
pub mod Walks
