-- The state of a sink in memory, and the calls that fail.
use Rattle.std.specs.Prelude.{ℕ, List, Bool, nat_le, length, Some}
use Rattle.outside.specs.declared.memory_sinks.MemSink.{MemSink}
use Rattle.outside.specs.Outside.{SinkState}

-- the bytes written
abbrev pub bytes_of : MemSink → List ℕ
bytes_of s = s.bytes.items

-- the most bytes that the sink can hold
abbrev pub room_of : MemSink → ℕ
room_of s = s.room

-- the most bytes in one call
abbrev pub most_bytes_of : MemSink → ℕ
most_bytes_of s = s.most

-- the sink has no room left
abbrev pub has_no_room : MemSink → Bool
has_no_room s = nat_le s.room (length s.bytes.items)

-- the count of faults
abbrev pub faults_of : MemSink → ℕ
faults_of s = s.count

-- the count of calls
abbrev pub calls_of : MemSink → ℕ
calls_of s = s.calls

-- the numbers of the calls that fail
abbrev pub fails_of : MemSink → List ℕ
fails_of s = s.fails.items

abbrev pub sink_state : MemSink → SinkState
sink_state s = record { written = Some (bytes_of s); faults = faults_of s }
