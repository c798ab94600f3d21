mod LastObjects
mod ClearTails
