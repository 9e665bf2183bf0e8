-- What is said of a text as a certificate of a program.
pub mod Verdicts
-- Labels with which nothing is wrong.
pub mod Flawless
-- Answers of audits that say the same.
pub mod Alike
-- What is wrong with a method at given labels.
pub mod AtLabels
-- What is wrong with a program.
pub mod Audited
-- The walk over a body, as the code has it.
pub mod Walking
