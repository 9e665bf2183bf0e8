pub mod Layouts
pub mod LayoutParts
pub mod StatementLayouts
pub mod PartPlaces
pub mod TreeParts
pub mod HeightParts
pub mod StatementHeights
pub mod FoldsOfForms
