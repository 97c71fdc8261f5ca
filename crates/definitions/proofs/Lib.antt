mod Apart
mod Defining
pub mod Naming
