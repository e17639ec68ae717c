pub mod Insert
pub mod Cases
pub mod InOrder
pub mod Bounds
pub mod Appends
