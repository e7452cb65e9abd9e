pub mod Filed
pub mod Different
pub mod Typed
pub mod Ranging
pub mod Expanding
pub mod Parted
