-- What private functions and proofs alone need.
pub mod BioTable
pub mod TraceForm
pub mod TraceRecords
