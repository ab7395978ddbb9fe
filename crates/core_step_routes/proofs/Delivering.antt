-- A call reaches an object.
use Rattle.std.proofs.Common.{◌≡◌, ℕ, ◌+◌, ◌≤◌, List, [], ◌∷◌, refl, ap, ◌∙◌}
use Rattle.std.specs.FinMap as map
use Rattle.finite_maps.specs.Tally.{Map}
use Rattle.rpc_msg.specs.declared.ids.RefId.{RefId}
use Rattle.rpc_msg.specs.declared.ids.TaskId.{TaskId}
use Rattle.rpc_msg.specs.declared.ids.ObjectId.{ObjectId}
use Rattle.rpc_journal.specs.declared.report.Delivery.{Delivery}
use Rattle.rpc_machine.specs.declared.node.Node.{Node}
use Rattle.rpc_machine.specs.declared.calls.WaitingCall.{WaitingCall}
use Rattle.rpc_machine.specs.State.{State}
use Rattle.rpc_machine.specs.Progress.{Progress, with_state, tell_delivery, with_refs, new_refs}
use Rattle.rpc_machine.specs.Routing.{deliver}
use Rattle.core_store.specs.declared.store.Store.{Store}
use Rattle.core_store.specs.Holding.{state_of, IsSound}
use Rattle.core_step.specs.declared.step.Step.{Step}
use Rattle.core_step.specs.InProgress.{progress_of, IsReady}
use Rattle.core_step.proofs.Readying.{ready_same}

-- ---- What new references leave as it is

abbrev referred : State → Node → State
referred s n = with_refs s (n ∷ [])

refs_tasks : (s : State) (ns : List Node) → (with_refs s ns).tasks ≡ s.tasks
refs_tasks s [] = refl
refs_tasks s (n ∷ ns) = refs_tasks (referred s n) ns

refs_next_task : (s : State) (ns : List Node) → (with_refs s ns).next_task ≡ s.next_task
refs_next_task s [] = refl
refs_next_task s (n ∷ ns) = refs_next_task (referred s n) ns

refs_questions : (s : State) (ns : List Node) → (with_refs s ns).questions ≡ s.questions
refs_questions s [] = refl
refs_questions s (n ∷ ns) = refs_questions (referred s n) ns

refs_imports : (s : State) (ns : List Node) → (with_refs s ns).imports ≡ s.imports
refs_imports s [] = refl
refs_imports s (n ∷ ns) = refs_imports (referred s n) ns

-- ---- The references are made, then the task

abbrev tasked : State → ℕ → State
tasked s outcome = record s { tasks = map.insert s.tasks s.next_task outcome; next_task = s.next_task + 1 }

abbrev told : WaitingCall → ObjectId → TaskId → List RefId → Delivery
told c o task ids =
    let r = c.request in
    record { task = task; object = o; stamp = r.stamp; interface = r.interface; method = r.method; payload = r.payload; refs = ids }

pub same_next : (x mid : Store) (ns : List Node) → state_of mid ≡ with_refs (state_of x) ns → mid.next_task ≡ x.next_task
same_next x mid ns made = ap (λ (s : State). s.next_task) made ∙ refs_next_task (state_of x) ns

module _ (x : Step) (c : WaitingCall) (ns : List Node) (mid new : Store) (made : state_of mid ≡ with_refs (state_of x.store) ns) (put : state_of new ≡ tasked (state_of mid) c.outcome) where
  pub ready_tasked : IsReady x → IsSound new → new.slack ≤ x.store.slack → IsReady (record x { store = new })
  ready_tasked h sound less =
      ready_same x new h sound less
      (ap (λ (s : State). s.questions) put ∙ ap (λ (s : State). s.questions) made ∙ refs_questions (state_of x.store) ns)
      (ap (λ (s : State). s.imports) put ∙ ap (λ (s : State). s.imports) made ∙ refs_imports (state_of x.store) ns)

  pub delivered : (o : ObjectId) (task : TaskId) (ids : List RefId) (p : Progress) → ns ≡ c.request.caps → task ≡ record { 0 = mid.next_task } → ids ≡ new_refs x.store.next_ref ns
      → p ≡ tell_delivery (progress_of (record x { store = new })) (told c o task ids) → p ≡ deliver (progress_of x) c o
  delivered o task ids p is numbered listed said =
      let d : Progress = progress_of x in
      let s : State = state_of x.store in
      let t : State = with_refs s c.request.caps in
      let full : State = record t { tasks = map.insert s.tasks s.next_task c.outcome; next_task = s.next_task + 1 } in
      let all : State → TaskId → List RefId → Progress = λ u k js. tell_delivery (with_state d u) (told c o k js) in
      let last : state_of new ≡ full =
      put ∙ ap (λ (u : State). tasked u c.outcome) (made ∙ ap (with_refs s) is)
      ∙ ap (λ (m : Map ℕ). record t { tasks = map.insert m t.next_task c.outcome; next_task = t.next_task + 1 }) (refs_tasks s c.request.caps)
      ∙ ap (λ (k : ℕ). record t { tasks = map.insert s.tasks k c.outcome; next_task = k + 1 }) (refs_next_task s c.request.caps) in
      said ∙ ap (λ (u : State). all u task ids) last
      ∙ ap (λ (k : TaskId). all full k ids) (numbered ∙ ap (λ (k : ℕ). record { 0 = k }) (same_next x.store mid ns made))
      ∙ ap (all full (record { 0 = s.next_task })) (listed ∙ ap (new_refs s.next_ref) is)
