pub mod Contents
pub mod Footprints
pub mod Growth
pub mod Lists
pub mod Prelude
