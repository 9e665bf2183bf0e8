pub mod Ends
pub mod Links
pub mod Lengths
pub mod OnArrays
pub mod HasOrders
