-- What an accepted program is counted by.
pub mod Counts
-- What is said of a program, and where there is none.
pub mod Said
pub mod Statuses
pub mod Answer
pub mod Ends
pub mod Replies
pub mod Delivery
