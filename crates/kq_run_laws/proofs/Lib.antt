mod Arrays
mod Dates
mod Groups
mod Objects
mod Sorts
mod Splits
mod Summaries
