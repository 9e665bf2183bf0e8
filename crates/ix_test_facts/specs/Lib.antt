pub mod OverGroups
