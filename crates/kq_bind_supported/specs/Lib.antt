pub mod Unsupported
