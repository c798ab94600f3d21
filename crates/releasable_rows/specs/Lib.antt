pub mod BlockTests
