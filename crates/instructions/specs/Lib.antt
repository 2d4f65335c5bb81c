-- How the instructions of one domain are told, and what the code's functions say of them.
--     Suspect      the register byte that decides
--     RowLaws      the rows of the table, kind by kind
--     ByteLaws     bytes read and set
--     Told         how an instruction went: what it means for its context
--     Home         the region that an access mostly lies in
--     Loaded       what a load and a store give; AccessLaws
--     Steps        steps one after the other, and a stretch of one domain among them; StepsLaws
--     OneLaws      each exit of one instruction
pub mod Suspect
pub mod RowLaws
pub mod ByteLaws
pub mod Told
pub mod Home
pub mod Loaded
pub mod AccessLaws
pub mod Steps
pub mod OneLaws
pub mod StepsLaws
