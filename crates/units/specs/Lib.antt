pub mod Arithmetic
pub mod Values
pub mod Lanes
pub mod Requests
pub mod Units
pub mod Operations
