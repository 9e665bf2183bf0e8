pub mod Judgements
pub mod Answers
-- What is promised of a source by the answer to it.
pub mod Promises
pub mod Existence
-- What may be found of a guarded text.
pub mod Findings
