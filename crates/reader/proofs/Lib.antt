pub mod Passed
pub mod Written
pub mod Readied
