-- The meaning of document 01, a file for each of its sections. Laws of each are in proofs/; the words that these laws need are in the files ..Laws here:
--     Basics         the words that all of them use
--     Map            "Map and access"
--     Answers        what the calls return, where it is a Result
--     Refusals       "Refusal numbers": the numbers, and how a map is tested
--     Sheet          "The sheet"; the words of its laws by subject, the grid, channel records, one record, domain records
--     States         "The state"; the words of its laws by subject, contexts, the switch, what keeps a state well formed
--     Table          "Instructions": the table
--     Instructions   "Instructions": what the table's words mean
--     Events         "Events"
--     Calls          the public calls: the tests that each makes, and what it returns and leaves
--     Program        "The program": what it prints
--     Whole          one name that opens all definitions
-- A file ..Edges has its section's definitions at both sides of an edge, by computation.
pub mod Basics
pub mod Map
pub mod MapEdges
pub mod Answers
pub mod Refusals
pub mod RefusalsLaws
pub mod Sheet
pub mod ChannelEdges
pub mod GridLaws
pub mod ChannelLaws
pub mod RecordLaws
pub mod SheetLaws
pub mod States
pub mod StatesEdges
pub mod StatesLaws
pub mod SwitchLaws
pub mod SoundLaws
pub mod Table
pub mod Instructions
pub mod InstructionsEdges
pub mod InstructionsLaws
pub mod Events
pub mod EventsEdges
pub mod EventsLaws
pub mod Calls
pub mod Program
pub mod Whole
