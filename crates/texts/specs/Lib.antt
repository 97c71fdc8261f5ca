pub mod Inner
pub mod Texts
