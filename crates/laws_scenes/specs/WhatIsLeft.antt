-- What is left to show of scenes for all that is promised of runs (docs/protocol.md, "Scenes").
use Rattle.std.specs.Prelude.{◌≡◌, ℕ, false, Option, []}
use Rattle.rpc_msg.specs.declared.ids.ObjectId.{ObjectId}
use Rattle.rpc_msg.specs.declared.ids.Vat.{Vat}
use Rattle.rpc_journal.specs.History.{Ref, delivered, made}
use Rattle.rpc_journal.specs.Meaning.{History, ObjectAt, StandsFor}
use Rattle.rpc_machine.specs.Claims.{EndsAreSo, EveryRunIsSound, IsInTime, history}
use Rattle.rpc_machine.specs.Pending.{pending}
use Rattle.laws_runs.specs.Scenes.{Scene, IsScene}

-- What references stand for: each delivery, each end, and that of a reference which stands for an object no call is lost before the
-- first one was delivered.
pub record IsMeant (h : History) (x : Scene) : Type 0 where
  pub none_lost : x.over_a ≡ false → x.over_b ≡ false → (r : Ref) (v : Vat) (o : ℕ) → StandsFor h r (ObjectAt v o) → pending x.world r ≡ [] → delivered h.journal r ≡ [] → made h.journal r ≡ []
  pub in_time : IsInTime h
  pub ends : EndsAreSo h

abbrev pub SoundByMeanings : Type 0
SoundByMeanings = ((root_a root_b : Option ObjectId) (x : Scene) → IsScene root_a root_b x → IsMeant (history root_a root_b x.journal) x) → EveryRunIsSound
