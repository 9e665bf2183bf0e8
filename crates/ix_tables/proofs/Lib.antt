pub mod ClassOrder
pub mod MissingKeys
pub mod AnswersHold
pub mod EachCase
pub mod AnswersAreBest
pub mod FlagsHold
pub mod RowsHold
