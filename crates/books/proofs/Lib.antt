pub mod Counts
pub mod Directly
pub mod Order
pub mod Walks
pub mod Entries
pub mod Slots
pub mod Probed
