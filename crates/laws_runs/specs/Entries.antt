-- The counts of entries are above 0.
use Rattle.std.specs.Prelude.{ℕ, ◌<◌, Option, None, Some, List, [], ◌∷◌}
use Rattle.std.specs.FinMap as map
use Rattle.rpc_msg.specs.declared.message.PlainMessage.{PlainMessage}
use Rattle.rpc_msg.specs.declared.message.PlainMessage.TheVariants as plain
use Rattle.rpc_machine.specs.declared.entries.Import.{Import}
use Rattle.rpc_machine.specs.declared.entries.Export.{Export}
use Rattle.rpc_machine.specs.State.{State}
use Rattle.rpc_machine.specs.Progress.{Progress}
use Rattle.laws_acts.specs.Acts.{Acts, Consumes}
use Rattle.laws_acts.specs.Sent.{Noted, all_sent, sent_at_once}

abbrev pub ImportCounts : Option Import → Type 0
ImportCounts None = Unit {0}
ImportCounts (Some x) = 0 < x.count

abbrev pub ExportCounts : Option Export → Type 0
ExportCounts None = Unit {0}
ExportCounts (Some x) = 0 < x.count

abbrev pub IsAbove : Option ℕ → Type 0
IsAbove None = Unit {0}
IsAbove (Some n) = 0 < n

pub record AreCounted (s : State) : Type 0 where
  pub imports : (e : ℕ) → ImportCounts (map.get s.imports e)
  pub exports : (e : ℕ) → ExportCounts (map.get s.exports e)

-- In the middle of a step: so is what waits for its Release.
pub record IsCounted (d : Progress) : Type 0 where
  pub state : AreCounted d.state
  pub released : (e : ℕ) → IsAbove (map.get d.released e)

-- A Release lets go at least one.
abbrev pub LetsGo : PlainMessage → Type 0
LetsGo (plain.Release r) = 0 < r.count
LetsGo (plain.Abort exception) = Unit {0}
LetsGo (plain.Bootstrap q) = Unit {0}
LetsGo (plain.Call c) = Unit {0}
LetsGo (plain.Return r) = Unit {0}
LetsGo (plain.Finish f) = Unit {0}
LetsGo (plain.Resolve r) = Unit {0}
LetsGo (plain.Disembargo d) = Unit {0}
LetsGo (plain.Other n) = Unit {0}

abbrev pub AllLetGo : List Noted → Type 0
AllLetGo [] = Unit {0}
AllLetGo (n ∷ ns) = LetsGo n.message × AllLetGo ns

pub record Counts (sent : List Noted) (new : Progress) : Type 0 where
  pub counted : IsCounted new
  pub lets_go : AllLetGo sent

pub record EntriesCount : Type 0 where
  pub acts : (last d : Progress) (list : Acts last d) → IsCounted d → Counts (all_sent list) last
  pub consumes : (d first : Progress) (m : PlainMessage) (h : Consumes m d first) → IsCounted d → Counts (sent_at_once d first m h) first
