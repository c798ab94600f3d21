mod LargeObjects
mod TracersGoOn
mod TraceStarts
mod NextBlocks
mod RacingParts
