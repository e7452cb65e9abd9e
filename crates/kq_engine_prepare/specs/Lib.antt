pub mod Due
pub mod Fits
pub mod Folds
pub mod Found
pub mod Labels
pub mod Merges
pub mod Shows
