mod Arguments
mod Branches
mod Chains
mod Laws
mod Loops
mod OneValue
mod OverIs
mod Pairing
mod Picking
mod Rows
mod SplitMembers
pub mod kq_eval_row
