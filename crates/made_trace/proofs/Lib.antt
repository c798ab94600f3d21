mod Making
mod Counting
