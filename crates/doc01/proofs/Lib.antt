pub mod Trees
pub mod Counts
pub mod Demands
pub mod Levels
