pub mod Alone
mod Chains
mod Joined
pub mod Filled
pub mod Kept
pub mod Laws
pub mod Mapped
pub mod Reading
pub mod Standing
mod ByWord
pub mod kq_eval_row
