mod Counted
pub mod OneVerdict
mod Judged
mod Loops
mod FlowsBelow
mod Same
pub mod Accepted
pub mod Alike
mod Bodies
mod Items
mod Labels
mod LastItem
mod Listing
mod Lists
mod Methods
mod OneLandmarks
mod Programs
mod Results
mod Stores
mod TextItems
