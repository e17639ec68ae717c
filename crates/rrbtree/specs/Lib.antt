pub mod Walks
pub mod Rooms
pub mod Pushes
pub mod Pops
