-- Objects, from lists of their members.
use Rattle.std.specs.Prelude.{ℕ, List, [], ◌∷◌}
use Rattle.serde_json.specs.Data.{Data, Members, put}

-- the members, with each of the list put in
abbrev pub with_all : List (List ℕ × Data) → Members → Members
with_all [] ms = ms
with_all (m ∷ more) ms = with_all more (put m.0 m.1 ms)
