pub mod WorkedKinds
