pub mod Going
pub mod Keeping
pub mod Looping
pub mod kq_engine
