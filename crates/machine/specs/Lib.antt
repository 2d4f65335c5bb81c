-- How the machine's calls stand for the definitions of model.
--     BatchLaws    a step and a batch by steps
--     Playing      a trace that is being played; PlayingLaws
pub mod BatchLaws
pub mod Playing
pub mod PlayingLaws
