-- The whole: printed procedures, in their order, and the text read back.
pub mod Flagged
pub mod LaterLevels
pub mod OneProcedureBack
pub mod ProceduresBack
pub mod ReadsAgain
pub mod TextBack
