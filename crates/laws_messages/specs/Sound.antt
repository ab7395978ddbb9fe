-- What is left to show of scenes for all that is promised of runs (docs/protocol.md, "Scenes").
use Rattle.std.specs.Prelude.{◌≡◌, false, Option}
use Rattle.rpc_msg.specs.declared.ids.ObjectId.{ObjectId}
use Rattle.rpc_journal.specs.Meaning.{History}
use Rattle.rpc_machine.specs.Claims.{IsInOrder, IsInFull, IsInTime, EndsAreSo, EveryRunIsSound, history}
use Rattle.laws_runs.specs.Scenes.{Scene, IsScene}
use Rattle.laws_messages.specs.Taken.{Premises}

-- Beside the order and what is delivered, the premises of the laws on the oldest message. The counts stand.
pub record Rest (h : History) (x : Scene) : Type 0 where
  pub in_order : IsInOrder h.journal
  pub in_full : x.over_a ≡ false → x.over_b ≡ false → IsInFull h x.world
  pub in_time : IsInTime h
  pub ends : EndsAreSo h
  pub premises : Premises x.world

abbrev pub SoundByTheRest : Type 0
SoundByTheRest = ((root_a root_b : Option ObjectId) (x : Scene) → IsScene root_a root_b x → Rest (history root_a root_b x.journal) x) → EveryRunIsSound
