pub mod Chunked
pub mod Sent
pub mod Typed
pub mod WidenedLemmas
