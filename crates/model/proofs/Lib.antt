-- The laws of the definitions in specs/, a file for each of them, with its laws by subject in files of their own:
--     Basics, Map, Refusals, Events (EventsLaws, and TraceLaws), Instructions
--     Sheet    the grid (GridLaws), channel records, one record, domain records (SheetLaws)
--     States   contexts (StatesLaws), the switch, what keeps a state well formed (SoundLaws)
--     WalkLaws for code that walks a list; MadeLaws: that makes an array
--     TestLaws for code that makes the definitions' tests one by one; LoopLaws: for code that counts
-- The facts that a law gives, where they have a name, are in the file of that name in specs/.
pub mod BasicsLaws
pub mod LoopLaws
pub mod WalkLaws
pub mod MadeLaws
pub mod MapLaws
pub mod RefusalsLaws
pub mod TestLaws
pub mod GridLaws
pub mod ChannelLaws
pub mod RecordLaws
pub mod SheetLaws
pub mod StatesLaws
pub mod SwitchLaws
pub mod SoundLaws
pub mod InstructionsLaws
pub mod EventsLaws
pub mod TraceLaws
