pub mod Walks
pub mod Counts
pub mod Waits
pub mod Spells
pub mod Lawful
