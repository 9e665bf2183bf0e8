pub mod KnownClasses
