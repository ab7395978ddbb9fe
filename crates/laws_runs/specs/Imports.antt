-- The count of an import: what a step lets go of it, its messages tell the exporter (docs/protocol.md, "Counts").
use Rattle.std.specs.Prelude.{◌≡◌, ◌⊎◌, ◌≤◌, ℕ, ◌+◌, cond, nat_eq, Option, None, Some, List, [], ◌∷◌}
use Rattle.std.specs.FinMap as map
use Rattle.rpc_msg.specs.declared.ids.ExportId.{ExportId}
use Rattle.rpc_msg.specs.declared.message.PlainMessage.{PlainMessage}
use Rattle.rpc_msg.specs.declared.message.PlainMessage.TheVariants as plain
use Rattle.rpc_msg.specs.Messages.{given, descriptors_of_plain}
use Rattle.finite_maps.specs.Tally.{tally, worth}
use Rattle.rpc_machine.specs.declared.entries.Question.{Question}
use Rattle.rpc_machine.specs.declared.entries.AnswerEntry.{AnswerEntry}
use Rattle.rpc_machine.specs.State.{State}
use Rattle.rpc_machine.specs.Limits.{import_count}
use Rattle.rpc_machine.specs.Lists.{how_many}
use Rattle.rpc_machine.specs.Progress.{Progress, with_state, numbers}
use Rattle.rpc_machine.specs.Sweeping.{got_of}
use Rattle.rpc_machine.specs.UnderWay.{if_true}
use Rattle.rpc_machine.specs.Nodes.{is_import}
use Rattle.rpc_machine.specs.Places.{named_by_returned}
use Rattle.laws_acts.specs.Acts.{Acts, Consumes}
use Rattle.laws_acts.specs.Sent.{Ids, Noted, all_sent, sent_at_once}
use Rattle.laws_runs.specs.Views.{IsUseful, IsReady}

abbrev pub count : ℕ → State → ℕ
count e s = import_count (map.get s.imports e)

-- What a message lets go of the import e.
abbrev pub lets_of : ℕ → PlainMessage → Ids → ℕ
lets_of e (plain.Abort exception) l = 0
lets_of e (plain.Bootstrap q) l = 0
lets_of e (plain.Call c) l = 0
lets_of e (plain.Return r) l = how_many (nat_eq e) (if_true r.release_param_caps l)
lets_of e (plain.Finish f) l = how_many (nat_eq e) (if_true f.release_result_caps l)
lets_of e (plain.Resolve r) l = 0
lets_of e (plain.Release r) l = cond (nat_eq e r.export.0) r.count 0
lets_of e (plain.Disembargo d) l = 0
lets_of e (plain.Other n) l = 0

abbrev pub letting : ℕ → List Noted → ℕ
letting e [] = 0
letting e (n ∷ ns) = lets_of e n.message n.lets + letting e ns

-- The descriptors that a returned question, or an answer that has not returned, may still give back.
abbrev pub got : ℕ → Question → ℕ
got e x = how_many (nat_eq e) (got_of x.returned)

abbrev pub kept_by : List ExportId → Option (List ExportId) → List ℕ
kept_by ids None = numbers ids
kept_by ids (Some gave) = []

abbrev pub kept : ℕ → AnswerEntry → ℕ
kept e a = how_many (nat_eq e) (kept_by a.taken a.returned)

abbrev pub reserved : ℕ → State → ℕ
reserved e s = tally (got e) s.questions + tally (kept e) s.answers

abbrev pub Brought : Option Question → Type 0
Brought None = Unit {0}
Brought (Some x) = (e : ℕ) → how_many (nat_eq e) (got_of x.returned) ≤ how_many (is_import e) (named_by_returned x.returned)

-- What may be given back is there; and what a returned question names has each import as often as its descriptors.
pub record IsCovered (s : State) : Type 0 where
  pub cover : (e : ℕ) → reserved e s ≤ count e s
  pub brought : (q : ℕ) → Brought (map.get s.questions q)

-- ---- In the middle of a step

-- What waits for its Release.
abbrev pub pending : ℕ → Progress → ℕ
pending e d = worth (λ n. n) (map.get d.released e)

-- An import that is to be released is gone.
abbrev pub AreApart : Progress → Type 0
AreApart d = (e : ℕ) → (map.get d.released e ≡ None) ⊎ (map.get d.state.imports e ≡ None)

-- What an import's count lost was let go by what was sent, or waits for its Release.
pub record Paid (d : Progress) (sent : List Noted) (new : Progress) : Type 0 where
  pub covered : IsCovered new.state
  pub apart : AreApart new
  pub balance : (e : ℕ) → count e new.state + (pending e new + letting e sent) ≡ count e d.state + pending e d

-- What a message does at once: its sender descriptors count one each; then what it sends thereby.
pub record Took (m : PlainMessage) (d : Progress) (sent : List Noted) (first : Progress) : Type 0 where
  pub mid : State
  pub counts : (e : ℕ) → count e mid ≡ count e d.state + how_many (nat_eq e) (given (descriptors_of_plain m))
  pub paid : Paid (with_state d mid) sent first

pub record ImportsArePaid : Type 0 where
  pub acts : (last d : Progress) (list : Acts last d) → IsReady d.state → IsCovered d.state → AreApart d → Paid d (all_sent list) last
  pub consumes : (m : PlainMessage) (d first : Progress) (h : Consumes m d first) → IsReady d.state → IsCovered d.state → ((e : ℕ) → map.get d.released e ≡ None) → IsUseful m → Took m d (sent_at_once d first m h) first
