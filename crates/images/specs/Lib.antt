pub mod Rules
pub mod Used
pub mod Finds
pub mod Operands
pub mod Places
pub mod Plans
pub mod Records
