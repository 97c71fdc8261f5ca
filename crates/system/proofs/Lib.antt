pub mod Beginning
pub mod CopyLemmas
mod ServiceLemmas
