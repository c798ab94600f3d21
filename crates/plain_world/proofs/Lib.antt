pub mod GivenBack
pub mod CallLemmas
pub mod AllocationCalls
pub mod Begun
pub mod Closed
pub mod HeldRegisters
mod StoreLogs
pub mod Rows
