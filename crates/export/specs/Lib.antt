-- The blocks of words that C lends, and what each exported function makes of them.
--     Words        the words of a block, and numbers in them; WordsLaws: what cutting and laying them rests on
--     MapWords     a map and its grid; StateWords: a state; AnswerWords: an answer
--     BlockLaws    blocks that are cut into eight parts, and laid so; StateLaws: a state that is read; StateTrips, MapTrips: read back from its own words
--     Reports      what a call's result sets in what was lent; Exports: the exported functions; ExportsLaws
--     Functions    the C functions, that two returns that meet a contract are one, and what a refused one leaves
pub mod Words
pub mod WordsLaws
pub mod MapWords
pub mod StateWords
pub mod AnswerWords
pub mod BlockLaws
pub mod StateLaws
pub mod StateTrips
pub mod MapTrips
pub mod Reports
pub mod Exports
pub mod ExportsLaws
pub mod Functions
