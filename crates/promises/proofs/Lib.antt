-- Theorems over definitions in specs/, each in the file of that name:
--     Wider       demand 3
--     Ruled       each verdict and reading is what its tests come to: laws for Refused
--     Refused     which refusal a call gives, and that it changes nothing
--     Fair        Case L meets the premises of `fair`
pub mod Wider
pub mod Ruled
pub mod Refused
pub mod Fair
