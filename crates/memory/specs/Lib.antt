pub mod Cells
pub mod Shelves
pub mod Lookups
pub mod Firsts
pub mod Asks
pub mod Rooms
