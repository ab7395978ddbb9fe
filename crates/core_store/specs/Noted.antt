-- What is noted as going: the notes of each kind, apart from counts and rooms.
use Rattle.std.specs.Prelude.{ℕ, List, [], ◌∷◌, ◌++◌}
use Rattle.core_refcounts.specs.Names.{Names}

pub record Notes : Type 0 where
  pub promises : List ℕ
  pub outcomes : List ℕ
  pub imports : List ℕ
  pub questions : List ℕ

abbrev pub noted_of : Names → Notes
noted_of c = record { promises = c.promises.noted; outcomes = c.outcomes.noted; imports = c.imports.noted; questions = c.questions.noted }

abbrev pub nothing_noted : Notes
nothing_noted = record { promises = []; outcomes = []; imports = []; questions = [] }
