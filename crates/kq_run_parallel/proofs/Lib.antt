mod Crossing
mod Cutting
