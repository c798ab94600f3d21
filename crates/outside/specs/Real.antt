-- Real files and streams: what is known to the contract, and the results of system calls.
use Rattle.std.specs.Prelude.{ℕ, zero, suc, List, [], ◌∷◌, Bool, true, false, Option, Some, None, Result, Ok, Err}
use Rattle.std.specs.Prelude.{if◌then◌else◌}
use Rattle.std.specs.IoError.{error_kind}
use Rattle.std.specs.declared.io.Error.{Error}
use Rattle.std.specs.declared.io.ErrorKind.{ErrorKind}
use Rattle.std.specs.declared.io.ErrorKind.TheVariants as kinds
use Rattle.outside.specs.declared.traits.Failed.{Failed}
use Rattle.outside.specs.declared.traits.OpenFault.{OpenFault}
use Rattle.outside.specs.declared.traits.OpenFault.TheVariants as fault

-- the bytes left of the open file, if known; no bytes are left if no file is open
abbrev pub left_of_file : {F : Type 0} → (F → Option (List ℕ)) → Option F → Option (List ℕ)
left_of_file remaining None = Some []
left_of_file remaining (Some file) = remaining file

-- the error of a read or a write
abbrev pub failed : Failed
failed = record {}

-- a signal interrupted the call before a byte moved
abbrev pub is_interrupted : ErrorKind → Bool
is_interrupted kinds.Interrupted = true
is_interrupted _ = false

-- out of memory if the system reports it, and otherwise a fault
abbrev pub open_fault_of : ErrorKind → OpenFault
open_fault_of kinds.OutOfMemory = fault.OutOfMemory
open_fault_of _ = fault.Failed

-- the result of a call that returned this error; None if the call is repeated
abbrev pub answer_to : Error → Option (Result ℕ Failed)
answer_to e = if is_interrupted (error_kind e) then None else Some (Err failed)

-- the result of a read; None if it is repeated
abbrev pub read_answer : Result ℕ Error → Option (Result ℕ Failed)
read_answer (Ok n) = Some (Ok n)
read_answer (Err e) = answer_to e

-- the result of a write; to write no byte of a piece that is not empty is a fault
abbrev pub write_answer : List ℕ → Result ℕ Error → Option (Result ℕ Failed)
write_answer [] (Ok n) = Some (Ok n)
write_answer (b ∷ piece) (Ok zero) = Some (Err failed)
write_answer (b ∷ piece) (Ok (suc n)) = Some (Ok (suc n))
write_answer piece (Err e) = answer_to e
