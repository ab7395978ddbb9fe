-- A call of the application goes out as a question.
use Rattle.std.proofs.Common.{◌≡◌, ℕ, ◌+◌, ◌≤◌, List, [], ◌∷◌, Option, Some, None, sym, ap, subst, ◌∙◌}
use Rattle.std.specs.FinMap as map
use Rattle.finite_maps.specs.Tally.{Map}
use Rattle.rpc_msg.specs.declared.ids.CallId.{CallId}
use Rattle.rpc_msg.specs.declared.ids.QuestionId.{QuestionId}
use Rattle.rpc_msg.specs.declared.ids.ExportId.{ExportId}
use Rattle.rpc_msg.specs.declared.parts.Descriptor.{Descriptor}
use Rattle.rpc_msg.specs.declared.parts.Target.{Target}
use Rattle.rpc_msg.specs.Messages.{given}
use Rattle.rpc_machine.specs.declared.node.Node.{Node}
use Rattle.rpc_machine.specs.declared.node.Node.TheVariants as node
use Rattle.rpc_machine.specs.declared.calls.OwnCall.{OwnCall}
use Rattle.rpc_machine.specs.declared.calls.OwnCall.TheVariants as own
use Rattle.rpc_machine.specs.declared.calls.Request.{Request}
use Rattle.rpc_machine.specs.declared.entries.Export.{Export}
use Rattle.rpc_machine.specs.declared.entries.Question.{Question}
use Rattle.rpc_machine.specs.declared.entries.Role.TheVariants as role
use Rattle.rpc_machine.specs.State.{State}
use Rattle.rpc_machine.specs.Nodes.{settle}
use Rattle.rpc_machine.specs.Progress.{Progress, with_state, send, export_ids}
use Rattle.rpc_machine.specs.Descriptors.{ExportedAs, Described, DescribesAll}
use Rattle.rpc_machine.specs.Commands.{CallsDirect}
use Rattle.core_store.specs.declared.store.Store.{Store}
use Rattle.core_store.specs.Holding.{state_of, IsSound}
use Rattle.core_store_tables.specs.Peer.{NewQuestionFor}
use Rattle.core_step.specs.declared.step.Step.{Step}
use Rattle.core_step.specs.InProgress.{progress_of, IsReady}
use Rattle.core_step_routes.proofs.Describing.{all_only}
use Rattle.core_step.proofs.Readying.{ready_asked}
use Rattle.core_step_routes.proofs.Sending.{asked_by, call_of}

-- ---- Descriptors do not see the calls

abbrev with_calls : Map OwnCall → State → State
with_calls m s = record s { calls = m }

exported_with : (m : Map OwnCall) (s : State) (n : Node) (e : ℕ) (o : Option Export) (new : State) → ExportedAs s n e o new → ExportedAs (with_calls m s) n e o (with_calls m new)
exported_with m s n e None new h = (h.0, ap (with_calls m) h.1)
exported_with m s n e (Some x) new h = (h.0, ap (with_calls m) h.1)

described_with : (m : Map OwnCall) (s : State) (n : Node) (d : Descriptor) (new : State) → Described s n d new → Described (with_calls m s) n d (with_calls m new)
described_with m s (node.Object o) d new h = (h.0, h.1, exported_with m s (node.Object o) h.0 (map.get s.exports h.0) new h.2)
described_with m s (node.Promise p) d new h = (h.0, h.1, exported_with m s (node.Promise p) h.0 (map.get s.exports h.0) new h.2)
described_with m s (node.Field o path) d new h = (h.0, h.1, exported_with m s (node.Field o path) h.0 (map.get s.exports h.0) new h.2)
described_with m s (node.Import e) d new h = (h.0, ap (with_calls m) h.1)
described_with m s (node.Pipe q path) d new h = (h.0, ap (with_calls m) h.1)
described_with m s (node.Broken reason) d new h = (h.0, ap (with_calls m) h.1)

all_with : (m : Map OwnCall) (s : State) (ns : List Node) (ds : List Descriptor) (new : State) → DescribesAll s ns ds new → DescribesAll (with_calls m s) ns ds (with_calls m new)
all_with m s [] [] new h = ap (with_calls m) h
all_with m s [] (d ∷ ds) new h = absurd h
all_with m s (n ∷ ns) [] new h = absurd h
all_with m s (n ∷ ns) (d ∷ ds) new h = (with_calls m h.0, described_with m s (settle s n) d h.0 h.1, all_with m h.0 ns ds new h.2)

-- ---- The descriptors are made, then the question

pub calls_kept : (s mid : State) (ns : List Node) (ds : List Descriptor) → DescribesAll s ns ds mid → mid.calls ≡ s.calls
calls_kept s mid ns ds said = ap (λ (t : State). t.calls) (all_only s ns ds mid said)

pub next_call_kept : (s mid : State) (ns : List Node) (ds : List Descriptor) → DescribesAll s ns ds mid → mid.next_call ≡ s.next_call
next_call_kept s mid ns ds said = ap (λ (t : State). t.next_call) (all_only s ns ds mid said)

module _ (x : Step) (q : QuestionId) (c : CallId) (ns : List Node) (ds : List Descriptor) (ids : List ExportId) (mid new : Store) (said : DescribesAll (state_of x.store) ns ds (state_of mid)) (asked : NewQuestionFor (state_of mid) c.0 q.0 (own.Direct q) (asked_by (role.Direct c) ids) (state_of new)) where
  only : state_of mid ≡ record (state_of x.store) { exports = mid.exports.entries }
  only = all_only (state_of x.store) ns ds (state_of mid) said

  questions : mid.questions.entries ≡ x.store.questions.entries
  questions = ap (λ (s : State). s.questions) only

  pub ready_called : IsReady x → IsSound new → new.slack + 1 ≤ x.store.slack → IsReady (record x { store = new })
  ready_called h sound less =
      ready_asked x mid new q.0 (asked_by (role.Direct c) ids) asked.0 (ap (λ (s : State). s.questions) asked.1) questions
      (ap (λ (s : State). s.imports) asked.1 ∙ ap (λ (s : State). s.imports) only) h sound less

  pub calls : (target : Target) (r : Request) (ls : List Descriptor) (p : Progress) → ns ≡ r.caps → ids ≡ export_ids (given ds) → ls ≡ ds
      → p ≡ send (progress_of (record x { store = new })) (call_of q.0 target r ls) → CallsDirect (progress_of x) c.0 r target p
  calls target r ls p is given_is listed sent =
      let d : Progress = progress_of x in
      let own_calls : Map OwnCall = map.insert x.store.calls.entries c.0 (own.Direct q) in
      let all : State → List Descriptor → Progress = λ u es. send (with_state d u) (call_of q.0 target r es) in
      let put : Map OwnCall → List ExportId → State = λ m js. record (state_of mid) { questions = map.insert mid.questions.entries q.0 (asked_by (role.Direct c) js); calls = m } in
      let entered : map.insert mid.calls.entries c.0 (own.Direct q) ≡ own_calls = ap (λ (m : Map OwnCall). map.insert m c.0 (own.Direct q)) (ap (λ (s : State). s.calls) only) in (
        q.0,
        (
          sym (ap (λ (m : Map Question). map.get m q.0) questions) ∙ asked.0,
          (
            ds,
            with_calls own_calls (state_of mid),
            subst (λ (l : List Node). DescribesAll (with_calls own_calls (state_of x.store)) l ds (with_calls own_calls (state_of mid))) is (all_with own_calls (state_of x.store) ns ds (state_of mid) said),
            sent ∙ ap (λ (u : State). all u ls) (asked.1 ∙ ap (λ (m : Map OwnCall). put m ids) entered ∙ ap (put own_calls) given_is) ∙ ap (all (put own_calls (export_ids (given ds)))) listed,
          ),
        ),
      )
