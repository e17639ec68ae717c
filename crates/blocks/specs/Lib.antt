pub mod Words
pub mod Fields
pub mod Chain
pub mod Pools
pub mod Views
