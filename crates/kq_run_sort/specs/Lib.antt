pub mod Answered
pub mod Dealt
pub mod Entries
pub mod Firsts
pub mod Keyed
pub mod Leading
pub mod Orders
pub mod Parts
