-- The sessions of two vats.
use Rattle.std.specs.Prelude.{ℕ, List}
use Rattle.std.specs.FinMap as map
use Rattle.rpc_msg.specs.declared.message.PlainMessage.{PlainMessage}
use Rattle.rpc_machine.specs.State.{State}
use Rattle.rpc_machine.specs.Progress.{Progress}
use Rattle.laws_acts.specs.Acts.{Acts, Consumes}
use Rattle.laws_acts.specs.Sent.{Noted, all_sent, sent_at_once}
use Rattle.laws_runs.specs.Questions.{Row}
use Rattle.laws_runs.specs.Views.{asker_of, answerer_of, outs, rets, IsUseful, AreUseful, IsReady, Did, Heard}
use Rattle.laws_runs.specs.Between.{InSteadyWorlds}

-- The laws of one vat: of acts, and of what a message does at once.
pub record ActsKeepSessions : Type 0 where
  pub acts : (last d : Progress) (list : Acts last d) → IsReady d.state → Did d (all_sent list) last
  pub consumes : (m : PlainMessage) (d first : Progress) (h : Consumes m d first) → IsReady d.state → IsUseful m → Heard m d (sent_at_once d first m h) first

-- The questions of the vat s and the answers of the vat t, with what is on its way to each.
abbrev pub AreRows : State → List Noted → State → List Noted → Type 0
AreRows s to_s t to_t = (q : ℕ) → Row (asker_of (map.get s.questions q)) (outs q to_t) (answerer_of (map.get t.answers q)) (rets q to_s)

-- So do those of both: what s asks, and what t asks.
pub record Stand (s : State) (to_s : List Noted) (t : State) (to_t : List Noted) : Type 0 where
  pub useful_s : AreUseful to_s
  pub useful_t : AreUseful to_t
  pub ready_s : IsReady s
  pub ready_t : IsReady t
  pub of_s : AreRows s to_s t to_t
  pub of_t : AreRows t to_t s to_s

abbrev pub SessionsStand : Type 0
SessionsStand = InSteadyWorlds Stand
