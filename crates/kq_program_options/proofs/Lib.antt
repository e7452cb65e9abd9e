pub mod Given
pub mod Lists
pub mod Once
mod Plain
pub mod Walking
