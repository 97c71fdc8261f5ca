-- Contracts between functions: nothing here has to be believed, since what it says of public calls is tied to the definitions beside this folder.
pub mod Counts
pub mod Firsts
pub mod Groups
pub mod Heads
pub mod Keys
pub mod Missing
pub mod FaultChecks
pub mod Places
pub mod Stores
pub mod Workspaces
