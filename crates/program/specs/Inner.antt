-- Contracts between functions: nothing here has to be believed, since what it says of public calls is tied to the definitions beside this folder.
pub mod Batches
pub mod Doors
pub mod Outcomes
