-- What the proofs of several functions share:
--     Lists          the definitions that go down a number, as what the code makes of a list
pub mod Lists
