-- Contracts between functions. Nobody has to believe this folder: the definitions beside it say what public functions promise.
pub mod Imports
pub mod Comparing
pub mod Copies
pub mod Counting
pub mod Removals
pub mod Edits
pub mod Keys
pub mod Lists
pub mod Points
pub mod Making
pub mod Remembering
pub mod Scans
pub mod Standing
pub mod Steps
pub mod Units
