-- Paths into payloads (PromisedAnswer.Op).
use Rattle.std.specs.Prelude.{List, [], ◌∷◌}
use Rattle.capn_wire.specs.declared.path.Op.{Op}
use Rattle.capn_wire.specs.declared.path.Op.TheVariants.{Noop, Field}

-- A path without its Noops, which lead nowhere.
abbrev pub fields : List Op → List Op
fields [] = []
fields (Noop ∷ ops) = fields ops
fields (Field n ∷ ops) = Field n ∷ fields ops
