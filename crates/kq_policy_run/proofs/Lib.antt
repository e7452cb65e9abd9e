pub mod Cutting
pub mod Lasting
pub mod LaidOut
pub mod Reading
pub mod Entries
pub mod Records
