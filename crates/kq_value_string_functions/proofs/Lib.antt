pub mod Places
pub mod Same
pub mod SplitPieces
pub mod Typing
pub mod kq_value_conversions
