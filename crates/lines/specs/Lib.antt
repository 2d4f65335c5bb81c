-- How lines are made in a lent buffer.
--     Puts         bytes, one after the other, where there is room; PutsLaws
--     Pages        the same of a page, which is a lent buffer and how far it is set; PagesLaws
--     Decimal      the digits of std's texts are the definition's
--     Telling      a trace that is being told; TellingLaws; NodeLaws: the same of a node that was accepted; SheetLaws: what comes before
pub mod Puts
pub mod PutsLaws
pub mod Pages
pub mod PagesLaws
pub mod Decimal
pub mod Telling
pub mod TellingLaws
pub mod NodeLaws
pub mod SheetLaws
