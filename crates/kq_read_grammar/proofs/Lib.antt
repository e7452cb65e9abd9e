pub mod Precedences
