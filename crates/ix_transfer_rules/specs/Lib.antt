pub mod OverParts
