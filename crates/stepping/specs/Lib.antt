-- How the loop over steps stands for the definitions of model.
--     Turn         what an ending stretch may ask of the state
--     Turning      what the loop keeps, turn by turn
pub mod Turn
pub mod Turning
