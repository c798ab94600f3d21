pub mod Words
pub mod Grammar
pub mod Text
pub mod Ops
pub mod Parts
pub mod Arguments
pub mod Readers
pub mod Shortening
