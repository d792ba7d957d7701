pub mod Form
pub mod Judging
pub mod Laws
pub mod Lines
pub mod Tokens
pub mod Written
