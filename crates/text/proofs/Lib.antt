pub mod Fields
pub mod FieldsBack
pub mod FormKeeps
pub mod Keywords
pub mod NumbersBack
pub mod Parts
pub mod Prices
pub mod RunsBack
