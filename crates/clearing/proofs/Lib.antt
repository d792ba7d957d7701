pub mod Pairs
pub mod Unique
pub mod Once
pub mod Prices
pub mod Pays
pub mod Lead
pub mod Split
pub mod Halving
pub mod Choices
mod Tests
mod Judging
mod Listing
mod Worked
