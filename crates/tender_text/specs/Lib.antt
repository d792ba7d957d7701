pub mod Answer
pub mod Fault
pub mod Needs
pub mod Opening
pub mod Report
