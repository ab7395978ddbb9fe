-- What is said of a failure, and the status with which the program ends: docs/messages.md, "Looking into a captured
-- conversation".
use Rattle.std.specs.Prelude.{ℕ, Result, Ok, Err, List, [], ◌∷◌, ◌++◌, codes, decimal}
use Rattle.capn_trees.specs.Numbers.{number_of}
use Rattle.capn_stream.specs.declared.error.StreamError.{StreamError}
use Rattle.capn_stream.specs.declared.error.StreamError.TheVariants as stream
use Rattle.program_files.specs.declared.fault.ProgramFailure.TheVariants as program
use Rattle.program_files.specs.Failures.{said_of as program_said_of}
use Rattle.rpc_dump_lib.specs.declared.failure.Failure.{Failure}
use Rattle.rpc_dump_lib.specs.declared.failure.Failure.TheVariants as failure

abbrev pub status_after : Result (Unit {0}) Failure → ℕ
status_after (Ok done) = 0
status_after (Err why) = 2

-- What is said of a failure if the input has that name.
abbrev pub said_of : List ℕ → Failure → List ℕ
said_of name (failure.Program given) = program_said_of (codes "usage: rpc_dump [--schema FILE] [--hex] [--payloads] [FILE]") name given
said_of name (failure.NotHex number) = codes "line " ++ (decimal number ++ (codes ": not hexadecimal" ++ 10 ∷ []))
said_of name (failure.Message number fault) = codes "message " ++ (decimal number ++ (codes ": fault " ++ (decimal fault ++ 10 ∷ [])))

-- the failure of a stream, in place of the message with that number
abbrev pub of_stream : StreamError → ℕ → Failure
of_stream stream.Memory number = failure.Program program.Memory
of_stream (stream.Fault fault) number = failure.Message number (number_of fault)
