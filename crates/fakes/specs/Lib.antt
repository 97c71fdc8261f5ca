pub mod Files
pub mod Peers
pub mod Services
