pub mod Insert
pub mod InOrder
pub mod Bounds
pub mod Appends
