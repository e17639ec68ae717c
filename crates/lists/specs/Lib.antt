pub mod Ends
pub mod Alls
pub mod Sums
pub mod Cuts
