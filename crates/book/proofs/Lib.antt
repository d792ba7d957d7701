pub mod Adding
pub mod Allowed
pub mod TakenAsked
pub mod Deposits
pub mod Ends
mod Examples
pub mod Finding
pub mod Fronts
pub mod Halved
pub mod Known
pub mod Later
pub mod Law
pub mod Limited
pub mod Longer
pub mod Once
pub mod Parts
pub mod Placed
pub mod Reading
mod RunExamples
pub mod Saving
pub mod Steps
pub mod Sums
pub mod Withheld
pub mod Within
