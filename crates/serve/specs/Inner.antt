-- Contracts between functions: nothing here has to be believed, since what it says of public calls is tied to the definitions beside this folder.
pub mod Judging
pub mod Prepared
pub mod Units
pub mod Taking
pub mod Replying
pub mod Doors
pub mod Tracing
