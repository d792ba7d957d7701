pub mod Fault
pub mod Date
pub mod Periods
pub mod Opening
pub mod Kept
pub mod Month
