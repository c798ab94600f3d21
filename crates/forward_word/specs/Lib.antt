pub mod CollectorWords
