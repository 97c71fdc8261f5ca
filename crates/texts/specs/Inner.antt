-- Contracts between functions. Nobody has to believe this folder: the definitions beside it say what public functions promise.
pub mod Calls
pub mod Ahead
