pub mod OverNamed
