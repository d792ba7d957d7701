pub mod Rule
pub mod Whole
pub mod Money
pub mod LeftOut
pub mod Pair
pub mod Scan
pub mod Grid
