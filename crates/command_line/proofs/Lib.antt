mod Settings
mod Walks
mod Options
mod Matches
mod TakenWords
mod Spelled
