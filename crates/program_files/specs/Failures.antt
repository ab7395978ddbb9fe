-- What a program says of a failure that any program may have.
use Rattle.std.specs.Prelude.{ℕ, List, [], ◌∷◌, ◌++◌, codes}
use Rattle.program_files.specs.declared.fault.ProgramFailure.{ProgramFailure}
use Rattle.program_files.specs.declared.fault.ProgramFailure.TheVariants as failure

-- A line, if the program has that usage and its input that name. Of an output that can't be written nothing is said.
abbrev pub said_of : List ℕ → List ℕ → ProgramFailure → List ℕ
said_of usage name failure.Usage = usage ++ 10 ∷ []
said_of usage name failure.Memory = codes "out of memory" ++ 10 ∷ []
said_of usage name failure.Unreadable = codes "cannot read " ++ (name ++ 10 ∷ [])
said_of usage name failure.NotText = codes "cannot read " ++ (name ++ 10 ∷ [])
said_of usage name failure.Unwritten = []
