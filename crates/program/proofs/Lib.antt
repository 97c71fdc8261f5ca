pub mod Examples
pub mod BatchExamples
pub mod OperatorExamples
pub mod LineFaultExamples
pub mod FrameLemmas
pub mod WordLemmas
mod ReplayLemmas
mod ServingLemmas
mod OutcomeLemmas
mod EnvironmentLemmas
mod ErrorLemmas
mod LogLemmas
mod ServedLemmas
pub mod ServiceLemmas
mod MoveLemmas
mod CopyLemmas
mod RemoveLemmas
mod BatchLemmas
mod LineFaultLemmas
mod OperatorLemmas
pub mod InputLemmas
