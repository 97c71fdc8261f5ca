pub mod Heads
pub mod Inner
pub mod Pages
pub mod Puts
pub mod Rows
