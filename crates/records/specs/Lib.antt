pub mod Types
pub mod Numbers
pub mod Refusals
pub mod Expressions
pub mod Flags
