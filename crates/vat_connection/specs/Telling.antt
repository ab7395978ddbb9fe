-- What is between for the function that tells the peer all of something or nothing.
use Rattle.std.specs.Prelude.{◌≡◌, ℕ, List, ◌++◌}
use Rattle.rpc_outgoing.specs.Outflows.{Outflow}

-- There are more bytes behind the others.
abbrev pub IsLonger : Outflow → Outflow → Type 0
IsLonger old new = (more : List ℕ) × (new ≡ record old { bytes = old.bytes ++ more })
