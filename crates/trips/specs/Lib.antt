-- The two round trips:
--     Back           what is said of each
--     BackLaws       the contracts of the two calls, joined with the laws of the definitions
pub mod Back
pub mod BackLaws
