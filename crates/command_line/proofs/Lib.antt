pub mod Examples
pub mod MisfitLemmas
