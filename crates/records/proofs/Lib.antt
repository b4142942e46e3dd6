pub mod Bits
pub mod Equal
