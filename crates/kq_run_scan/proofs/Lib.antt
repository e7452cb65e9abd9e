mod Bounded
mod Conjunct
mod Constants
mod Cut
mod Firsts
mod Flown
mod InRange
mod Later
mod LeftOut
mod Pairing
mod Picked
mod Settling
mod Sought
mod Walks
mod Widths
pub mod kq_run_row_operators
pub mod kq_eval_pieces
pub mod kq_run_reshape
pub mod kq_eval_row
