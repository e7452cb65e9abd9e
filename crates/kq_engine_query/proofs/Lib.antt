pub mod Reading
pub mod Known
pub mod Covering
pub mod Failing
pub mod Giving
pub mod Standing
pub mod Looking
