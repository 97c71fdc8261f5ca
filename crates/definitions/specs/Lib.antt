pub mod Alike
pub mod Inner
pub mod Others
