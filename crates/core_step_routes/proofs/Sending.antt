-- A call goes out as a question.
use Rattle.std.proofs.Common.{◌≡◌, ℕ, ◌+◌, ◌≤◌, List, None, sym, ap, subst, ◌∙◌}
use Rattle.std.specs.FinMap as map
use Rattle.finite_maps.specs.Tally.{Map}
use Rattle.rpc_msg.specs.declared.ids.ExportId.{ExportId}
use Rattle.rpc_msg.specs.declared.parts.Descriptor.{Descriptor}
use Rattle.rpc_msg.specs.declared.parts.Target.{Target}
use Rattle.rpc_msg.specs.declared.message.PlainMessage.{PlainMessage}
use Rattle.rpc_msg.specs.declared.message.PlainMessage.TheVariants as plain
use Rattle.rpc_msg.specs.Messages.{given}
use Rattle.rpc_machine.specs.declared.node.Node.{Node}
use Rattle.rpc_machine.specs.declared.calls.Request.{Request}
use Rattle.rpc_machine.specs.declared.entries.Question.{Question}
use Rattle.rpc_machine.specs.declared.entries.Role.{Role}
use Rattle.rpc_machine.specs.declared.entries.Finishing.TheVariants as finishing
use Rattle.rpc_machine.specs.State.{State}
use Rattle.rpc_machine.specs.Progress.{Progress, with_state, send, export_ids}
use Rattle.rpc_machine.specs.Descriptors.{DescribesAll}
use Rattle.rpc_machine.specs.Routing.{Asks}
use Rattle.core_store.specs.declared.store.Store.{Store}
use Rattle.core_store.specs.Holding.{state_of, IsSound}
use Rattle.core_store_tables.specs.Peer.{NewQuestion}
use Rattle.core_step.specs.declared.step.Step.{Step}
use Rattle.core_step.specs.InProgress.{progress_of, IsReady}
use Rattle.core_step_routes.proofs.Describing.{all_only}
use Rattle.core_step.proofs.Readying.{ready_asked}

abbrev pub asked_by : Role → List ExportId → Question
asked_by role ids = record { role = role; given = ids; returned = None; finish = finishing.Owed }

abbrev pub call_of : ℕ → Target → Request → List Descriptor → PlainMessage
call_of q target r ds =
    plain.Call (record { question = record { 0 = q }; target = target; interface = r.interface; method = r.method; payload = r.payload; descriptors = ds; stamp = r.stamp })

module _ (x : Step) (q : ℕ) (role : Role) (ns : List Node) (ds : List Descriptor) (ids : List ExportId) (mid new : Store) (said : DescribesAll (state_of x.store) ns ds (state_of mid)) (asked : NewQuestion (state_of mid) q (asked_by role ids) (state_of new)) where
  only : state_of mid ≡ record (state_of x.store) { exports = mid.exports.entries }
  only = all_only (state_of x.store) ns ds (state_of mid) said

  questions : mid.questions.entries ≡ x.store.questions.entries
  questions = ap (λ (s : State). s.questions) only

  pub ready_relayed : IsReady x → IsSound new → new.slack + 1 ≤ x.store.slack → IsReady (record x { store = new })
  ready_relayed h sound less =
      ready_asked x mid new q (asked_by role ids) asked.0 (ap (λ (s : State). s.questions) asked.1) questions
      (ap (λ (s : State). s.imports) asked.1 ∙ ap (λ (s : State). s.imports) only) h sound less

  pub asks : (target : Target) (r : Request) (ls : List Descriptor) (p : Progress) → ns ≡ r.caps → ids ≡ export_ids (given ds) → ls ≡ ds
      → p ≡ send (progress_of (record x { store = new })) (call_of q target r ls) → Asks (progress_of x) q role target r p
  asks target r ls p is given_is listed sent =
      let d : Progress = progress_of x in
      let all : State → List Descriptor → Progress = λ u es. send (with_state d u) (call_of q target r es) in
      let put : List ExportId → State = λ js. record (state_of mid) { questions = map.insert mid.questions.entries q (asked_by role js) } in (
        sym (ap (λ (m : Map Question). map.get m q) questions) ∙ asked.0,
        (
          ds,
          state_of mid,
          subst (λ (l : List Node). DescribesAll (state_of x.store) l ds (state_of mid)) is said,
          sent ∙ ap (λ (u : State). all u ls) (asked.1 ∙ ap put given_is) ∙ ap (all (put (export_ids (given ds)))) listed,
        ),
      )
