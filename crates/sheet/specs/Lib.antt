-- What the writer leaves in a lent buffer and what the reader's answers say, with the laws that their functions rest on:
--     Laid           bytes laid into a buffer at an offset; LaidLaws: nothing, one byte, a copy, one thing and then another
--     RunLaws        a run of records, split; WriterLaws: the writer's three cases
--     Resumed        what is left to read after each answer
--     HeadLaws, DomainLaws, ChannelReadLaws   each answer on a record
pub mod Laid
pub mod LaidLaws
pub mod RunLaws
pub mod WriterLaws
pub mod Resumed
pub mod HeadLaws
pub mod DomainLaws
pub mod ChannelReadLaws
