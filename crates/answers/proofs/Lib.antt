pub mod VerdictRows
pub mod AnswerRecords
pub mod Rounds
pub mod Demands
pub mod Marked
