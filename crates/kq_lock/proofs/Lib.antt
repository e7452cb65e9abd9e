pub mod Beginnings
mod Sums
mod Seats
mod Takes
mod Giving
mod Passes
mod Closes
mod Starts
