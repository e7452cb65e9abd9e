pub mod Cases
pub mod Counted
pub mod Cuts
pub mod Occurs
pub mod Orders
pub mod Pieces
pub mod Places
