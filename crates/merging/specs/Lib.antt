pub mod Areas
pub mod Spines
pub mod Plans
pub mod Packs
pub mod Merges
pub mod Lent
