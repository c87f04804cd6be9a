pub mod Square
pub mod Lone
pub mod Laws
