pub mod Leaves
pub mod Branches
pub mod Builds
