-- A question whose Return came stays in the table until its Finish is sent.
use Rattle.std.proofs.Common.{◌≡◌, ◌≢◌, ℕ, ◌+◌, Bool, true, false, cond, nat_eq, List, [], ◌∷◌, Option, None, Some, refl, sym, ap, subst, ◌∙◌}
use Rattle.std.specs.declared.cmp.Ordering.{Ordering}
use Rattle.std.specs.declared.cmp.Ordering.TheVariants.{Less, Equal, Greater}
use Rattle.std.specs.Ordering.{nat_cmp}
use Rattle.std.specs.Cmp.{nat_cmp_total}
use Rattle.std.specs.FinMap as map
use Rattle.std.specs.FinMap.Entries.{put, by_order}
use Rattle.finite_maps.specs.Tally.{Map}
use Rattle.rpc_msg.specs.declared.ids.CallId.{CallId}
use Rattle.rpc_msg.specs.declared.parts.Descriptor.{Descriptor}
use Rattle.rpc_msg.specs.declared.parts.Descriptor.TheVariants as descriptor
use Rattle.rpc_msg.specs.declared.message.Return.{Return}
use Rattle.rpc_msg.specs.declared.message.PlainMessage.TheVariants as plain
use Rattle.rpc_msg.specs.declared.message.Message.TheVariants as message
use Rattle.rpc_msg.specs.Messages.{descriptors_of_body}
use Rattle.rpc_machine.specs.declared.node.Node.{Node}
use Rattle.rpc_machine.specs.declared.command.Level.{Level}
use Rattle.rpc_machine.specs.declared.command.Level.TheVariants.{Zero, One}
use Rattle.rpc_machine.specs.declared.command.Effects.{Effects}
use Rattle.rpc_machine.specs.declared.calls.OwnCall.{OwnCall}
use Rattle.rpc_machine.specs.declared.calls.Value.{Value}
use Rattle.rpc_machine.specs.declared.entries.Role.{Role}
use Rattle.rpc_machine.specs.declared.entries.Role.TheVariants as role
use Rattle.rpc_machine.specs.declared.entries.Finishing.{Finishing}
use Rattle.rpc_machine.specs.declared.entries.Finishing.TheVariants as finishing
use Rattle.rpc_machine.specs.declared.entries.Returned.{Returned}
use Rattle.rpc_machine.specs.declared.entries.Question.{Question}
use Rattle.rpc_machine.specs.State.{State}
use Rattle.rpc_machine.specs.Progress.{Progress, begin, with_state, with_refs, send, export_id, numbers, caps_of}
use Rattle.rpc_machine.specs.Descriptors.{take_one, take_each, take_at, take_all}
use Rattle.rpc_machine.specs.Flags.{obey, give_if, flag_for}
use Rattle.rpc_machine.specs.Collecting.{Goes, PromiseGoes, OutcomeGoes, ImportGoes, Collects, Tight, Loose}
use Rattle.rpc_machine.specs.Settling.{report, TellsCall}
use Rattle.rpc_machine.specs.Sweeping.{IsOver, IsToFinish, closed_map, closed, Withers, Over, Thing, Asked, got_of, finished_by, FinishesEach, release_each, Sweeps}
use Rattle.rpc_machine.specs.Messages.{results_of, value_of_results, kept_returned, ComesFor, ComesBack, TakesReturn, TakesUnless}
use Rattle.rpc_machine.specs.Faults.{is_foreign}
use Rattle.rpc_machine.specs.Steps.{Handles}
use Rattle.rpc_machine_examples.proofs.GivenMaps.{entries_empty}
use Rattle.rpc_machine_examples.proofs.EndOfStep.{none_arose}
use Rattle.rpc_machine_examples.proofs.TurningBack.{get_put_same}
use Rattle.rpc_machine_examples.proofs.DescriptorsFirst.{understood}
use Rattle.finite_maps.proofs.Tested.{equal, get_put, get_cut}

abbrev Others : ℕ → List (ℕ × Question) → Type 0
Others q [] = Unit {0}
Others q (x ∷ xs) = (x.0 ≢ q) × Others q xs

others_order : (q k : ℕ) (v : Question) (x : ℕ × Question) (xs : List (ℕ × Question)) (o : Ordering) → k ≢ q → x.0 ≢ q → Others q xs → Others q (put nat_cmp k v xs) → Others q (by_order o ((k, v) ∷ x ∷ xs) ((x.0, v) ∷ xs) (x ∷ put nat_cmp k v xs))
others_order q k v x xs Less f g h r = (f, (g, h))
others_order q k v x xs Equal f g h r = (g, h)
others_order q k v x xs Greater f g h r = (g, r)

others_put : (q k : ℕ) (v : Question) (xs : List (ℕ × Question)) → k ≢ q → Others q xs → Others q (put nat_cmp k v xs)
others_put q k v [] f h = (f, tt)
others_put q k v (x ∷ xs) f h = others_order q k v x xs (nat_cmp k x.0) f h.0 h.1 (others_put q k v xs f h.1)

-- Another question closes.
other_closes : (m : Map Question) (k q : ℕ) (x : Question) (said : Option Returned) → k ≢ q → map.get (closed_map m k x said) q ≡ map.get m q
other_closes m k q x None f = get_put m k _ q ∙ by (nat_eq q k) refl
  where
    by : (b : Bool) → nat_eq q k ≡ b → cond b (Some (record x { finish = finishing.Sent })) (map.get m q) ≡ map.get m q
    by true t = absurd (f (sym (equal q k t)))
    by false t = refl
other_closes m k q x (Some r) f = get_cut m k q ∙ by (nat_eq q k) refl
  where
    by : (b : Bool) → nat_eq q k ≡ b → cond b None (map.get m q) ≡ map.get m q
    by true t = absurd (f (sym (equal q k t)))
    by false t = refl

-- The question q, that was asked for the call c, which is not finished.
module _ (q c : ℕ) (y : Question) (from : OwnCall) (direct : y.role ≡ role.Direct (record { 0 = c })) where
  abbrev Open : State → Type 0
  Open s = (map.get s.questions q ≡ Some y) × (map.get s.calls c ≡ Some from)

  not_over : (s : State) (x : Question) → map.get s.questions q ≡ Some x → IsToFinish s q (Some x) → Open s → ⊥
  not_over s x f h o =
      let e : Some x ≡ Some y = sym f ∙ o.0 in
      let i : x ≡ y = cc in
      let k : IsOver s q x (role.Direct (record { 0 = c })) = subst (λ (r : Role). IsOver s q x r) (ap (λ (z : Question). z.role) i ∙ direct) h.1 in
      let g : Some from ≡ None = sym o.1 ∙ k.0 in
      cc

  goes_open : (d new : Progress) → Goes d new → Open d.state → Open new.state
  goes_open d new (PromiseGoes p h f) o = rw f o
  goes_open d new (OutcomeGoes p h f) o = rw f o
  goes_open d new (ImportGoes i h f) o = rw f o

  collects_open : (new d : Progress) → Collects new d → Open d.state → Open new.state
  collects_open new d (Tight h) o = o
  collects_open new d (Loose {mid = mid} g rest) o = collects_open new mid rest (goes_open d mid g o)

  -- It is not among those that are finished.
  withers_others : (d : Progress) (over : Map Question) → Withers d over → Open d.state → Others q (map.entries over)
  withers_others d over (Over h k) o = subst (λ xs. Others q xs) (sym entries_empty) tt
  withers_others d over (Thing {mid = mid} g rest) o = withers_others mid over rest (goes_open d mid g o)
  withers_others d over (Asked {over = rest_over} k x f h rest) o =
      let apart : k ≢ q = λ e. not_over d.state x (subst (λ j. map.get d.state.questions j ≡ Some x) e f) (subst (λ j. IsToFinish d.state j (Some x)) e h) o in
      let r = withers_others (with_state d (closed d.state k x)) rest_over rest (other_closes d.state.questions k q x x.returned apart ∙ o.0, o.1) in
      subst (λ xs. Others q xs) (sym (map.entries-insert nat_cmp_total rest_over k x)) (others_put q k x (map.entries rest_over) apart r)

  gives_open : (s : State) (b : Bool) (ids : List ℕ) → Open s → Open (give_if s b ids)
  gives_open s true ids o = o
  gives_open s false ids o = o

  finished_open : (d : Progress) (k : ℕ) (x : Question) (f : Finishing) → k ≢ q → Open d.state → Open (finished_by d k x f).state
  finished_open d k x finishing.Owed apart o =
      let g = gives_open d.state (flag_for d.state (got_of x.returned)) (got_of x.returned) o in
      (other_closes (give_if d.state (flag_for d.state (got_of x.returned)) (got_of x.returned)).questions k q x x.returned apart ∙ g.0, g.1)
  finished_open d k x finishing.Sent apart o = o
  finished_open d k x finishing.Waived apart o = (other_closes d.state.questions k q x x.returned apart ∙ o.0, o.1)

  each_open : (d : Progress) (xs : List (ℕ × Question)) (new : Progress) → Others q xs → FinishesEach d xs new → Open d.state → Open new.state
  each_open d [] new a h o = rw h o
  each_open d (x ∷ xs) new a h o =
      let next = finished_by h.0 x.0 x.1 x.1.finish in
      each_open next xs new a.1 h.2 (finished_open h.0 x.0 x.1 x.1.finish a.0 (collects_open h.0 d h.1 o))

  releases_open : (d : Progress) (xs : List (ℕ × ℕ)) → Open d.state → Open (release_each d xs).state
  releases_open d [] o = o
  releases_open d (x ∷ xs) o = releases_open (send d (plain.Release (record { export = export_id x.0; count = x.1 }))) xs o

  sweeps_open : (d new : Progress) → Sweeps d new → Open d.state → Open new.state
  sweeps_open d new h o =
      let g = h.2 in
      let k = g.2 in
      let a = withers_others d h.0 h.1 o in
      let b = collects_open k.0 g.0 k.1 (each_open d (map.entries h.0) g.0 a g.1 o) in
      rw k.2 (releases_open k.0 (map.entries k.0.released) b)

-- ---- The received Return

abbrev Same : State → State → Type 0
Same s t = (t.questions ≡ s.questions) × (t.calls ≡ s.calls)

one_same : (s : State) (d : Descriptor) → Same s (take_one s d)
one_same s descriptor.None = (refl, refl)
one_same s (descriptor.SenderHosted k) = (refl, refl)
one_same s (descriptor.SenderPromise k) = (refl, refl)
one_same s (descriptor.ReceiverHosted k) = (refl, refl)
one_same s (descriptor.ReceiverAnswer k path) = (refl, refl)

each_same : (s : State) (ds : List Descriptor) → Same s (take_each s ds)
each_same s [] = (refl, refl)
each_same s (d ∷ ds) =
    let a = one_same s d in
    let b = each_same (take_one s d) ds in
    (b.0 ∙ a.0, b.1 ∙ a.1)

taken_same : (l : Level) (s : State) (ds : List Descriptor) → Same s (take_at l s ds)
taken_same Zero s ds = (refl, refl)
taken_same One s ds = each_same s ds

obeyed_same : (s : State) (b : Bool) (ids : List ℕ) → Same s (obey s b ids)
obeyed_same s false ids = (refl, refl)
obeyed_same s true ids = (refl, refl)

refs_same : (s : State) (ns : List Node) → Same s (with_refs s ns)
refs_same s [] = (refl, refl)
refs_same s (n ∷ ns) = refs_same (record s { refs = map.insert s.refs s.next_ref (record { head = n; embargo = None; made = 0 }); next_ref = s.next_ref + 1 }) ns

pub returned_stay : (s : State) (r : Return) (fx : Effects) (new : State) (x : Question) (c : CallId) (from : OwnCall) → Handles s (message.Plain (plain.Return r)) fx new → map.get s.questions r.answer.0 ≡ Some x → x.role ≡ role.Direct c → x.finish ≡ finishing.Owed → map.get s.calls c.0 ≡ Some from → map.get new.questions r.answer.0 ≡ Some (record x { returned = Some (results_of s r.body) })
returned_stay s r fx new x c from h there direct owed told =
    let q = r.answer.0 in
    let ids = numbers x.given in
    let ds = descriptors_of_body r.body in
    let t : State = take_all s ds in
    let low : State = obey t r.release_param_caps ids in
    let d : Progress = with_state (begin s) low in
    let said : Returned = results_of s r.body in
    let v : Value = value_of_results said in
    let y : Question = record x { returned = Some said } in
    let kept : Progress = kept_returned d q x said in
    let a : TakesReturn (begin s) r (map.get s.questions q) h.taken = subst (λ (b : Bool). TakesUnless b (begin s) (plain.Return r) h.taken) (understood s.level r) h.takes in
    let b : ComesBack d q x said x.finish h.taken = subst (λ (o : Option Question). TakesReturn (begin s) r o h.taken) there a in
    let g : ComesFor kept x.role v h.taken = subst (λ (o : Finishing). ComesBack d q x said o h.taken) owed b in
    let i : TellsCall kept c.0 v (map.get low.calls c.0) h.taken = subst (λ (o : Role). ComesFor kept o v h.taken) direct g in
    let one = taken_same s.level s ds in
    let two = obeyed_same t r.release_param_caps ids in
    let call : map.get low.calls c.0 ≡ Some from = ap (λ j. map.get j c.0) (two.1 ∙ one.1) ∙ told in
    let k : h.taken ≡ report kept c.0 v = subst (λ (o : Option OwnCall). TellsCall kept c.0 v o h.taken) call i in
    let ends = h.ends in
    let e : ends.drained ≡ report kept c.0 v = none_arose ends.drained h.taken ends.drains (ap (λ (p : Progress). p.arisen) k) ∙ k in
    let three = refs_same kept.state (caps_of v) in
    let open_then : Open q c.0 y from direct (report kept c.0 v).state = (ap (λ j. map.get j q) three.0 ∙ get_put_same low.questions q y, ap (λ j. map.get j c.0) three.1 ∙ call) in
    let open_now : Open q c.0 y from direct ends.drained.state = subst (λ (p : Progress). Open q c.0 y from direct p.state) (sym e) open_then in
    let last = sweeps_open q c.0 y from direct ends.drained ends.swept ends.sweeps open_now in
    ap (λ (z : State). map.get z.questions q) ends.new_is ∙ last.0
