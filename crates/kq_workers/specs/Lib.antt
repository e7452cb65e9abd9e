pub mod Kept
pub mod Rounds
pub mod kq_engine
pub mod kq_catalog
