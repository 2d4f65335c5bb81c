-- The promises over document 01's machine; docs/PROMISES.md is the reader's index.
-- The theorems of Wider, Ruled and Refused are in proofs/.
--     CaseL       the paper's example, its map, memory and trace
--     Edges       the cases marked P
--     Wider       demand 3
--     Table1      the access rule, against source 000
--     Isolation   what a step can touch, and what it depends on
--     Faults      an access happens whole or not at all; what a fault leaves
--     Kept        the start is well formed, and every event keeps a state so
--     Fair        a domain that stays ready is active after at most N - 1 switches
--     Batches     a batch's number
--     Traces      a broken record keeps the events before it
--     Sheets      read after write, write after read, the length
--     Trips       the same of the calls
--     Texts       what the program prints: the paper's nine lines, and how long a text is
--     Public      the public calls, and that two returns that meet a contract are one
--     Tests       what each call tests, in the paper's order; Ruled: laws of these
--     Refused     which refusal a call gives, and that it changes nothing
--     Met         the premises can be met
pub mod CaseL
pub mod Edges
pub mod Wider
pub mod Table1
pub mod Isolation
pub mod Faults
pub mod Kept
pub mod Fair
pub mod Batches
pub mod Traces
pub mod Sheets
pub mod Texts
pub mod Trips
pub mod Public
pub mod Tests
pub mod Ruled
pub mod Refused
pub mod Met
