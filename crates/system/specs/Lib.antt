pub mod Begun
pub mod Causes
pub mod Clock
pub mod Files
pub mod Services
pub mod Shields
pub mod Totals
