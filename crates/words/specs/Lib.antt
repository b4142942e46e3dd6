pub mod Opcodes
pub mod Masks
pub mod Operands
pub mod Instructions
pub mod Examples
pub mod Laws
