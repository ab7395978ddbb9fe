-- A call that breaks is at no place any more.
use Rattle.std.proofs.Common.{ℕ, ◌+◌, ◌≤◌, Option, List, ap, arith}
use Rattle.rpc_msg.specs.declared.ids.Vat.{Vat}
use Rattle.rpc_msg.specs.declared.ids.Stamp.{Stamp}
use Rattle.rpc_msg.specs.declared.message.Message.{Message}
use Rattle.rpc_journal.specs.declared.report.Outcome.{Outcome}
use Rattle.rpc_journal.specs.declared.report.Outcome.TheVariants as outcome
use Rattle.rpc_journal.specs.declared.entry.JournalEntry.{JournalEntry}
use Rattle.rpc_journal.specs.Sources.{Asking, OfCall}
use Rattle.rpc_machine.specs.declared.node.Reason.{Reason}
use Rattle.rpc_machine.specs.declared.calls.Caller.{Caller}
use Rattle.rpc_machine.specs.declared.command.Command.{Command}
use Rattle.rpc_machine.specs.declared.command.Granted.{Granted}
use Rattle.rpc_machine.specs.declared.command.Effects.{Effects}
use Rattle.rpc_machine.specs.State.{State}
use Rattle.rpc_machine.specs.Routing.{failed, reason_text}
use Rattle.rpc_machine.specs.Journal.{granted_entries}
use Rattle.laws_acts.specs.Moments.{Moment}
use Rattle.laws_acts.specs.SmallActs.{Acts, NoMore, Then, DoesActs, HandlesActs}
use Rattle.laws_acts.proofs.EachStep.{kept, at_end}
use Rattle.laws_runs.specs.MadeCalls.{NumbersItsCalls}
use Rattle.laws_meanings.specs.OnePlace.{counted, waiting, on_way, in_message}
use Rattle.laws_meanings.proofs.Stamped.{same_itself}
use Rattle.laws_meanings.specs.NoneLost.{in_yet, in_deliveries, here}
use Rattle.laws_meanings.proofs.Placed.{times_made}
use Rattle.laws_meanings.proofs.Placing as placing
use Rattle.laws_meanings.proofs.Placing.{Leaves}
use Rattle.laws_meanings.proofs.Whose as whose

module _ (C : Caller → Option Asking) (L : ℕ → Option Asking) (T : ℕ → Stamp → Type 0) (W : Asking → Outcome → ℕ → Type 0) (U : ℕ → Type 0) (E : Stamp → Type 0) (broken : (s : Stamp) (why : Reason) → E s → W (OfCall s) (outcome.Exception (failed (reason_text why))) 0) where
  module _ (limit : Stamp → ℕ) (last : Moment) (ends : (z : Stamp) → here z last + 1 ≤ limit z → E z) where
    all_so : (d : Moment) (list : Acts last d) → placing.Fine limit d → whose.AllBreak C L T W U E broken list
    all_so d NoMore i = tt
    all_so d (Then {mid = mid} a rest) i = (
      λ c n r x e f.
          let z = c.request.stamp in
          let b = i z in
          let y = ap (in_yet z) e in
          let one = ap counted (same_itself z) in
          let now = ap (here z) f in
          let l = kept (placing.Fine (λ j. here j mid)) (placing.acted (λ j. here j mid)) last mid rest (λ j. omega arith) z in
          ends z (omega arith),
      all_so mid rest (placing.acted limit d mid i a),
    )

  less : (last : Moment) (z : Stamp) (n : ℕ) → here z last + 1 ≤ n → waiting z last.state + (on_way z last.effects.sends + in_deliveries z last.effects.deliveries) + 1 ≤ n
  less last z n i = omega arith

  pub commands : (h : List JournalEntry) (v : Vat) (s : State) (c : Command) (g : Granted) (x : Effects) (t : State) → NumbersItsCalls v s h → ((z : Stamp) → Leaves z t x + 1 ≤ waiting z s + times_made z (granted_entries h v c g) → E z) → (k : DoesActs s c g x t)
      → whose.AllBreak C L T W U E broken k.acts
  commands h v s c g x t m f k =
      let own : Stamp → ℕ = λ z. times_made z (granted_entries h v c g) in
      let limit : Stamp → ℕ = λ z. waiting z s + own z in
      all_so limit k.last (λ z i. f z (at_end (λ u y. Leaves z u y + 1 ≤ limit z) k.last x t k.ends (less k.last z (limit z) i))) k.started k.acts
      (placing.started limit s own (λ z. omega arith) c g k.started (placing.has_own h v s m c g k.started k.starts) k.starts)

  pub messages : (s : State) (m : Message) (x : Effects) (t : State) → ((z : Stamp) → Leaves z t x + 1 ≤ waiting z s + in_message z m → E z) → (k : HandlesActs s m x t) → whose.AllBreak C L T W U E broken k.acts
  messages s m x t f k =
      let limit : Stamp → ℕ = λ z. waiting z s + in_message z m in
      all_so limit k.last (λ z i. f z (at_end (λ u y. Leaves z u y + 1 ≤ limit z) k.last x t k.ends (less k.last z (limit z) i))) k.consumed k.acts
      (placing.consumed limit s m (λ z. omega arith) k.consumed k.consumes)
