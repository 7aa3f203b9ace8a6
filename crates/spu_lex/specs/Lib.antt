pub mod Bytes
pub mod Numbers
pub mod Order
pub mod Pieces
pub mod Tokens
