pub mod Facts
pub mod Rules
pub mod Counter
