pub mod Books
pub mod Direct
pub mod Probing
pub mod Ring
pub mod Laws
