-- Why a printed program reads back. `Spelling` and `Words`: its pieces can be spelled, so its text is cut into just
-- these pieces. `Scopes`: what the names of the text that was read stand for, they stand for in the printed text.
-- `Standing`: so the statements of the tree keep the rules there, within the limit of nesting. `Values` and `Bodies`:
-- printed values and statements that do so read back. `Declarations`: and so do globals and headings. `Texts` puts all
-- together.
pub mod Bodies
pub mod Common
pub mod Declarations
pub mod Scopes
pub mod Spelling
pub mod Standing
pub mod Texts
pub mod Values
pub mod Words
