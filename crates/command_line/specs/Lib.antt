pub mod Arguments
pub mod Bounds
pub mod Inner
pub mod Orders
pub mod Words
