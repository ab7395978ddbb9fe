-- What places name stays there in every command.
use Rattle.std.proofs.Common.{◌≡◌, inl, inr, ℕ, zero, suc, ◌+◌, List, [], ◌∷◌, ◌++◌, Option, None, Some, refl, sym, subst}
use Rattle.std.specs.FinMap as map
use Rattle.laws_acts.specs.rpc_msg.specs.declared.ids.RefId.{RefId}
use Rattle.laws_acts.specs.rpc_msg.specs.declared.ids.EmbargoId.{EmbargoId}
use Rattle.laws_acts.specs.rpc_msg.specs.Op.{Op}
use Rattle.laws_acts.specs.rpc_msg.specs.CapAt.{CapAt}
use Rattle.laws_acts.specs.rpc_msg.specs.CapAt.TheVariants.{Cap, Null, NotCap}
use Rattle.laws_acts.specs.rpc_msg.specs.declared.parts.Descriptor.{Descriptor}
use Rattle.laws_acts.specs.rpc_msg.specs.declared.parts.Descriptor.TheVariants as descriptor
use Rattle.laws_acts.specs.rpc_msg.specs.declared.parts.Target.{Target}
use Rattle.laws_acts.specs.rpc_msg.specs.declared.exception.Exception.{Exception}
use Rattle.finite_maps.specs.Tally.{Map}
use Rattle.laws_acts.specs.rpc_machine.specs.Payloads.{cap_at}
use Rattle.laws_acts.specs.rpc_machine.specs.declared.node.Node.{Node}
use Rattle.laws_acts.specs.rpc_machine.specs.declared.node.Node.TheVariants as node
use Rattle.laws_acts.specs.rpc_machine.specs.declared.command.Command.{Command}
use Rattle.laws_acts.specs.rpc_machine.specs.declared.command.Command.TheVariants as command
use Rattle.laws_acts.specs.rpc_machine.specs.declared.command.CallCommand.{CallCommand}
use Rattle.laws_acts.specs.rpc_machine.specs.declared.command.Granted.{Granted}
use Rattle.laws_acts.specs.rpc_machine.specs.declared.calls.Request.{Request}
use Rattle.laws_acts.specs.rpc_machine.specs.declared.calls.WaitingCall.{WaitingCall}
use Rattle.laws_acts.specs.rpc_machine.specs.declared.calls.Promise.{Promise}
use Rattle.laws_acts.specs.rpc_machine.specs.declared.calls.Promise.TheVariants as promise
use Rattle.laws_acts.specs.rpc_machine.specs.declared.calls.KeptOutcome.{KeptOutcome}
use Rattle.laws_acts.specs.rpc_machine.specs.declared.calls.Value.{Value}
use Rattle.laws_acts.specs.rpc_machine.specs.declared.calls.Value.TheVariants as value
use Rattle.laws_acts.specs.rpc_machine.specs.declared.calls.Caller.{Caller}
use Rattle.laws_acts.specs.rpc_machine.specs.declared.calls.Caller.TheVariants as caller
use Rattle.laws_acts.specs.rpc_machine.specs.declared.calls.OwnCall.{OwnCall}
use Rattle.laws_acts.specs.rpc_machine.specs.declared.calls.OwnCall.TheVariants as own
use Rattle.laws_acts.specs.rpc_machine.specs.declared.entries.Role.TheVariants as role
use Rattle.laws_acts.specs.rpc_machine.specs.declared.entries.Returned.{Returned}
use Rattle.laws_acts.specs.rpc_machine.specs.declared.entries.Returned.TheVariants as back
use Rattle.laws_acts.specs.rpc_machine.specs.declared.entries.Resolution.{Resolution}
use Rattle.laws_acts.specs.rpc_machine.specs.declared.entries.Resolution.TheVariants as resolution
use Rattle.laws_acts.specs.rpc_machine.specs.declared.entries.Question.{Question}
use Rattle.laws_acts.specs.rpc_machine.specs.declared.entries.Import.{Import}
use Rattle.laws_acts.specs.rpc_machine.specs.declared.entries.Reference.{Reference}
use Rattle.laws_acts.specs.rpc_machine.specs.declared.entries.Embargo.{Embargo}
use Rattle.laws_acts.specs.rpc_machine.specs.State.{State}
use Rattle.laws_acts.specs.rpc_machine.specs.Nodes.{settle}
use Rattle.laws_acts.specs.rpc_machine.specs.Places.{named_by_reference, named_by_calls, named_by_embargo, named_by_question, named_by_import, nodes}
use Rattle.laws_acts.specs.rpc_machine.specs.Progress.{Progress, with_state, caps_of}
use Rattle.laws_acts.specs.rpc_machine.specs.Settling.{SettlesOpen, SettlesFrom, SettlesOutcome, FixesPromise}
use Rattle.laws_acts.specs.rpc_machine.specs.Commands.{head_of, heads, counted, request, field_node, with_outcome, NewRef, ClonesRef, DropsRef, settled_now, CallsDirect, CallsHere, CallsBy, WaitsForEmbargo, CallsThrough, MakesCall, NamesField, ResolvesPromise, RejectsPromise, AnswersTask, FinishesCall, Acts}
use Rattle.laws_acts.specs.rpc_machine.specs.Advancing.{Known, NothingYet, IsBroken, Leads, known_by_resolve, resolution_of, known_at, known_cap, known_by_return, returned_of, known_of_wire, known_by, wire_target, Embargoes, AdvancesBy, AdvancesTo, AdvancesFrom, Advances}
use Rattle.finite_maps.proofs.Gets.{get-insert_same}
use Rattle.laws_steps.specs.Callers.{IsFor, peer, AnswersWith}
use Rattle.laws_steps.proofs.NamedNodes.{Present, Asked, AllIn, EachIn, all_none, all_cons, all_one, at_put, at_cut, each_put, each_cut, each_at, HasKept, HereIn, Sound, Fine, Good, good, more_asked, set_refs, set_embargoes, set_questions, set_calls, grows_outcome, set_promise, set_outcome}
use Rattle.laws_steps.proofs.HeldQuestions.{question, asked_too, asked_here, asked_before, tied_new, brings_none, brought_put}
use Rattle.laws_steps.proofs.NamedPieces.{all_grow, set_rest, new_refs, asks, calls_and, routes, fixed, settled}

-- ---- Commands

held : (o : Option ℕ) {c : ℕ} → o ≡ Some c → Present o
held o e = subst (λ (x : Option ℕ). Present x) (sym e) tt

-- What is known of a wire leads to a node that is there.
abbrev LeadsHere : Asked → State → Known → Type 0
LeadsHere w s NothingYet = Unit {0}
LeadsHere w s (IsBroken reason) = Unit {0}
LeadsHere w s (Leads said n) = HereIn w s n

known_one : (w : Asked) (s : State) (said : Descriptor) (n : Node) → HereIn w s n → LeadsHere w s (known_by said n)
known_one w s descriptor.None n h = tt
known_one w s (descriptor.SenderHosted e) n h = h
known_one w s (descriptor.SenderPromise e) n h = h
known_one w s (descriptor.ReceiverHosted e) n h = h
known_one w s (descriptor.ReceiverAnswer q path) n h = h

known_each : (w : Asked) (s : State) (caps : List (Descriptor × Node)) (i : ℕ) → AllIn (HereIn w s) (nodes caps) → LeadsHere w s (known_at caps i)
known_each w s [] i h = tt
known_each w s (c ∷ cs) zero h = known_one w s c.0 c.1 (h c.1 (inl refl))
known_each w s (c ∷ cs) (suc i) h = known_each w s cs i (λ n j. h n (inr j))

known_there : (w : Asked) (s : State) (caps : List (Descriptor × Node)) (a : CapAt) → AllIn (HereIn w s) (nodes caps) → LeadsHere w s (known_cap caps a)
known_there w s caps (Cap i) h = known_each w s caps i h
known_there w s caps Null h = tt
known_there w s caps NotCap h = tt

module _ {w : Asked} where
  head_here : {T : Map Question → Type 0} (s : State) → Sound w T s → (r : ℕ) (o : Option Reference) → map.get s.refs r ≡ o → HereIn w s (head_of o)
  head_here s h r None e = tt
  head_here s h r (Some x) e = let n = h.names in each_at (HereIn w s) named_by_reference s.refs r x n.0 e x.head (inl refl)

  pub heads_here : {T : Map Question → Type 0} (s : State) → Sound w T s → (rs : List RefId) → AllIn (HereIn w s) (heads s rs)
  heads_here s h [] = all_none (HereIn w s)
  heads_here s h (r ∷ rs) = all_cons (HereIn w s) (head_of (map.get s.refs r.0)) (heads s rs) (head_here s h r.0 (map.get s.refs r.0) refl) (heads_here s h rs)

  new_ref : (g : Granted) (d : Progress) (n : Node) (new : Progress) → Fine w d.state → HereIn w d.state n → NewRef g d n new → Fine w new.state
  new_ref g d n new i k h = rw h.1 (let a = new_refs d.state (n ∷ []) i (all_one (HereIn w d.state) n k) in a.0)

  clones : (d : Progress) (r : ℕ) (o : Option Reference) (g : Granted) (new : Progress) → map.get d.state.refs r ≡ o → Fine w d.state → ClonesRef d o g new → Fine w new.state
  clones d r None g new e i h = absurd h
  clones d r (Some x) g new e i h = new_ref g d x.head new i (head_here d.state i r (Some x) e) h

  drops : (d : Progress) (r : ℕ) (o : Option Reference) (g : Granted) (new : Progress) → Fine w d.state → DropsRef d r o g new → Fine w new.state
  drops d r None g new i h = absurd h
  drops d r (Some x) g new i h = rw h.1 (let n = i.names in set_refs d.state (map.remove d.state.refs r) i (each_cut (HereIn w d.state) named_by_reference d.state.refs r n.0))

  -- A new call of the application.
  numbered : {T : Map Question → Type 0} (s : State) (from : OwnCall) (m : Map Reference) → Sound w T s → EachIn (HereIn w s) named_by_reference m → HasKept w s.outcomes s.next_call (Some from) → Sound w T (record s { refs = m; calls = map.insert s.calls s.next_call from; next_call = s.next_call + 1 })
  numbered {T} s from m h a k =
      let t : State = record s { refs = m } in
      let u : State = record t { calls = map.insert t.calls t.next_call from } in
      let one : Sound w T t = set_refs s m h a in
      let two : Sound w T u = set_calls t (map.insert t.calls t.next_call from) one (at_put (λ c o. HasKept w t.outcomes c o) t.calls t.next_call from k one.calls) in
      set_rest u u.tasks u.unsettled u.next_ref (s.next_call + 1) u.next_task u.next_promise two

  -- A new outcome with a free key.
  opens : (s : State) (o : ℕ) (who : Caller) → Fine w s → map.get s.outcomes o ≡ None → ((q : ℕ) → who ≡ peer q → AnswersWith o (map.get s.answers q)) → Fine w (with_outcome s o who)
  opens s o who h free a =
      let y : KeptOutcome = record { caller = who; value = None; waiting = [] } in
      let t : State = record s { outcomes = map.insert s.outcomes o y } in
      set_outcome s o y h (all_none (HereIn w t)) (λ w k. absurd (subst (IsFor w) free k)) (λ q k. a q k.1)

bootstraps : {w : Asked} (d : Progress) (g : Granted) (new : Progress) → Fine w d.state → Acts d command.Bootstrap g new → Good new.state
bootstraps {w} d g new i h =
    let s = d.state in
    let q = h.0 in
    let v = asked_too w q s.next_call in
    let y : Question = question (role.Direct (record { 0 = s.next_call })) [] in
    let m = map.insert s.questions q y in
    let t : State = record s { questions = m } in
    let zero = more_asked w v (λ x. Unit {0}) s i (asked_before w s.questions q s.next_call i.asked h.1) tt in
    let n = zero.names in
    let one : Fine v t = set_questions s m zero (each_put (HereIn v s) named_by_question s.questions q y (all_none (HereIn v s)) n.4) (brought_put s.level s.questions q y (brings_none s.level y refl) zero.brought) (tied_new w s.questions q s.next_call y i.asked refl) in
    rw h.3 (let k = numbered t (own.Direct (record { 0 = q })) t.refs one (let a = one.names in a.0) (asked_here w q s.next_call) in good _ k)

-- The reference counts the call.
module _ {w : Asked} (d : Progress) (c : CallCommand) (x : Reference) (there : map.get d.state.refs c.reference.0 ≡ Some x) (i : Fine w d.state) where
  abbrev pub made : Progress
  made = with_state d (counted d.state c.reference.0 x)

  abbrev pub counting : Map Reference
  counting = map.insert d.state.refs c.reference.0 (record x { made = x.made + 1 })

  same_heads : (P : Node → Type 0) → EachIn P named_by_reference d.state.refs → EachIn P named_by_reference counting
  same_heads P h = each_put P named_by_reference d.state.refs c.reference.0 (record x { made = x.made + 1 }) (each_at P named_by_reference d.state.refs c.reference.0 x h there) h

  abbrev pub asked : Request
  asked = request d.state c x

  direct : (to : Target) (new : Progress) → CallsDirect made d.state.next_call asked to new → Good new.state
  direct to new h =
      let s = d.state in
      let q = h.0 in
      let v = asked_too w q s.next_call in
      let free = h.1.0 in
      let zero = more_asked w v (λ x. Unit {0}) s i (asked_before w s.questions q s.next_call i.asked free) tt in
      let n = zero.names in
      let one = numbered s (own.Direct (record { 0 = q })) counting zero (same_heads (HereIn v s) n.0) (asked_here w q s.next_call) in
      let r = asks _ q _ to asked new one (heads_here s zero c.refs) (λ ids. tied_new w s.questions q s.next_call (question (role.Direct (record { 0 = s.next_call })) ids) i.asked refl) h.1 in
      good new.state r.0

  -- The state with the new outcome and the number.
  abbrev pub kept_state : ℕ → State
  kept_state o = record (with_outcome d.state o (caller.Application (record { 0 = d.state.next_call }))) { refs = counting; calls = map.insert d.state.calls d.state.next_call (own.Kept o); next_call = d.state.next_call + 1 }

  its_caller : (o : ℕ) → IsFor (caller.Application (record { 0 = d.state.next_call })) (map.get (kept_state o).outcomes o)
  its_caller o = subst (IsFor (caller.Application (record { 0 = d.state.next_call }))) (sym (get-insert_same d.state.outcomes o (record { caller = caller.Application (record { 0 = d.state.next_call }); value = None; waiting = [] }))) refl

  not_peer : (o q : ℕ) → caller.Application (record { 0 = d.state.next_call }) ≡ peer q → AnswersWith o (map.get d.state.answers q)
  not_peer o q e = cc

  pub kept_here : (o : ℕ) → map.get d.state.outcomes o ≡ None → Fine w (kept_state o)
  kept_here o free =
      let s = with_outcome d.state o (caller.Application (record { 0 = d.state.next_call })) in
      let one : Fine w s = opens d.state o (caller.Application (record { 0 = d.state.next_call })) i free (not_peer o) in
      let n = one.names in
      numbered s (own.Kept o) counting one (same_heads (HereIn w s) n.0) (its_caller o)

  pub grown : (o : ℕ) → AllIn (HereIn w (kept_state o)) asked.caps
  grown o = all_grow w d.state (kept_state o) asked.caps (grows_outcome w d.state o (record { caller = caller.Application (record { 0 = d.state.next_call }); value = None; waiting = [] })) (heads_here d.state i c.refs)

  here : (n : Node) (new : Progress) → CallsHere made d.state.next_call asked n new → Good new.state
  here n new h = let r = routes _ (record { request = asked; outcome = h.0 }) n new (kept_here h.0 h.1) (grown h.0) h.2 in good new.state r.0

  by_node : (head n : Node) (new : Progress) → CallsBy made d.state.next_call asked head n new → Good new.state
  by_node head (node.Object o) new h = here head new h
  by_node head (node.Promise p) new h = here head new h
  by_node head (node.Field o path) new h = here head new h
  by_node head (node.Import e) new h = direct _ new h
  by_node head (node.Pipe q path) new h = direct _ new h
  by_node head (node.Broken reason) new h = here head new h

  through : (head : Node) (o : Option EmbargoId) (new : Progress) → CallsThrough made d.state.next_call asked head o new → Good new.state
  through head None new h = by_node head (settle made.state head) new h
  through head (Some e) new h = waits (map.get d.state.embargoes e.0) refl h.2
    where
      waits : (b : Option Embargo) → map.get d.state.embargoes e.0 ≡ b → WaitsForEmbargo (with_state d (kept_state h.0)) (record { request = asked; outcome = h.0 }) e.0 b new → Good new.state
      waits None f k = absurd k
      waits (Some b) f k =
          let s = kept_state h.0 in
          let one_more : WaitingCall = record { request = asked; outcome = h.0 } in
          let one = kept_here h.0 h.1 in
          let n = one.names in
          let old = each_at (HereIn w s) named_by_embargo s.embargoes e.0 b n.1 f in
          let more = calls_and (HereIn w s) b.waiting one_more (λ m j. old m (inr j)) (grown h.0) in
          rw k (good _ (set_embargoes s _ one (each_put (HereIn w s) named_by_embargo s.embargoes e.0 (record b { waiting = b.waiting ++ one_more ∷ [] }) (all_cons (HereIn w s) b.node (named_by_calls (b.waiting ++ one_more ∷ [])) (old b.node (inl refl)) more) n.1)))

calls : {w : Asked} (d : Progress) (c : CallCommand) (o : Option Reference) (g : Granted) (new : Progress) → map.get d.state.refs c.reference.0 ≡ o → Fine w d.state → MakesCall d c o g new → Good new.state
calls d c None g new e i h = absurd h
calls d c (Some x) g new e i h = through d c x e i x.head x.embargo new h.1

module _ {w : Asked} where
  field : (d : Progress) (c : ℕ) (path : List Op) (o : Option OwnCall) (g : Granted) (new : Progress) → map.get d.state.calls c ≡ o → Fine w d.state → NamesField d path o g new → Fine w new.state
  field d c path None g new e i h = absurd h
  field d c path (Some (own.Direct q)) g new e i h = new_ref g d (field_node path (own.Direct q)) new i (held (w q.0) (subst (HasKept w d.state.outcomes c) e (i.calls c))) h
  field d c path (Some (own.Kept o)) g new e i h = new_ref g d (field_node path (own.Kept o)) new i (here (map.get d.state.outcomes o) (subst (HasKept w d.state.outcomes c) e (i.calls c))) h
    where
      here : (x : Option KeptOutcome) → IsFor (caller.Application (record { 0 = c })) x → Present x
      here None k = k
      here (Some x) k = tt

  promises : (d : Progress) (g : Granted) (new : Progress) → Fine w d.state → Acts d command.Promise g new → Fine w new.state
  promises d g new i h =
      let s = d.state in
      let p = h.0 in
      let t : State = record s { promises = map.insert s.promises p (promise.Open []) } in
      let u : State = record t { unsettled = map.insert s.unsettled s.next_promise p; next_promise = s.next_promise + 1 } in
      let here : HereIn w t (node.Promise p) = subst (λ (y : Option Promise). Present y) (sym (get-insert_same s.promises p (promise.Open []))) tt in
      let one : Fine w t = set_promise s p (promise.Open []) i (all_one (HereIn w t) (node.Promise p) here) in
      let two : Fine w u = set_rest t t.tasks u.unsettled t.next_ref t.next_call t.next_task u.next_promise one in
      rw h.3 (let a = new_refs u (node.Promise p ∷ []) two (all_one (HereIn w u) (node.Promise p) here) in a.0)

  fixing : (d : Progress) (p key : ℕ) (to : Node) (e : Option Exception) (new : Progress) → Fine w d.state → HereIn w d.state to → FixesPromise (settled_now d p) key to e new → Fine w new.state
  fixing d p key to e new i k h =
      let s = d.state in
      let r = fixed (settled_now d p) key to e new (set_rest s s.tasks (map.remove s.unsettled p) s.next_ref s.next_call s.next_task s.next_promise i) k h in
      r.0

  resolves : (d : Progress) (p r : ℕ) (o : Option ℕ) (x : Option Reference) (g : Granted) (new : Progress) → map.get d.state.refs r ≡ x → Fine w d.state → ResolvesPromise d p o x g new → Fine w new.state
  resolves d p r None x g new e i h = absurd h
  resolves d p r (Some key) None g new e i h = absurd h
  resolves d p r (Some key) (Some x) g new e i h = fixing d p key x.head None new i (head_here d.state i r (Some x) e) h.1

  rejects : (d : Progress) (p : ℕ) (x : Exception) (o : Option ℕ) (g : Granted) (new : Progress) → Fine w d.state → RejectsPromise d p x o g new → Fine w new.state
  rejects d p x None g new i h = absurd h
  rejects d p x (Some key) g new i h = fixing d p key _ (Some x) new i tt h.1

  -- An outcome is settled.
  pub settles : (d : Progress) (o : ℕ) (v : Value) (new : Progress) → Fine w d.state → AllIn (HereIn w d.state) (caps_of v) → SettlesOutcome d o v new → Fine w new.state
  settles d o v new i k h = from (map.get d.state.outcomes o) refl h
    where
      once : (x : KeptOutcome) → map.get d.state.outcomes o ≡ Some x → (b : Option Value) → x.value ≡ b → SettlesOpen d o v x b new → Fine w new.state
      once x e (Some b) f j = absurd j
      once x e None f j = settled d o v x new e f i k j

      from : (x : Option KeptOutcome) → map.get d.state.outcomes o ≡ x → SettlesFrom d o v x new → Fine w new.state
      from None e j = absurd j
      from (Some x) e j = once x e x.value refl j

  answers : (d : Progress) (t : ℕ) (v : Value) (o : Option ℕ) (g : Granted) (new : Progress) → Fine w d.state → AllIn (HereIn w d.state) (caps_of v) → AnswersTask d t v o g new → Fine w new.state
  answers d t v None g new i k h = absurd h
  answers d t v (Some o) g new i k h =
      let s = d.state in
      settles _ o v new (set_rest s (map.remove s.tasks t) s.unsettled s.next_ref s.next_call s.next_task s.next_promise i) k h.1

  finishes : (d : Progress) (c : ℕ) (o : Option OwnCall) (g : Granted) (new : Progress) → Fine w d.state → FinishesCall d c o g new → Fine w new.state
  finishes d c None g new i h = absurd h
  finishes d c (Some from) g new i h = rw h.1 (set_calls d.state (map.remove d.state.calls c) i (at_cut (λ k o. HasKept w d.state.outcomes k o) d.state.calls c tt i.calls))

  -- ---- Shortening a path

  pub of_wire : (s : State) → Fine w s → (n : Node) → LeadsHere w s (known_of_wire s n)
  of_wire s h (node.Object o) = tt
  of_wire s h (node.Promise p) = tt
  of_wire s h (node.Field o path) = tt
  of_wire s h (node.Broken reason) = tt
  of_wire s h (node.Import e) = by (map.get s.imports e.0) refl
    where
      said : (x : Import) → map.get s.imports e.0 ≡ Some x → (r : Option Resolution) → x.resolution ≡ r → LeadsHere w s (known_by_resolve r)
      said x f None j = tt
      said x f (Some (resolution.Exception exception)) j = tt
      said x f (Some (resolution.To d n)) j =
          let names = h.names in
          let all = each_at (HereIn w s) named_by_import s.imports e.0 x names.5 f in
          known_one w s d n (subst (λ (r : Option Resolution). AllIn (HereIn w s) (named_by_import e.0 (record x { resolution = r }))) j all n (inl refl))

      by : (o : Option Import) → map.get s.imports e.0 ≡ o → LeadsHere w s (known_by_resolve (resolution_of o))
      by None f = tt
      by (Some x) f = said x f x.resolution refl
  of_wire s h (node.Pipe q path) = by (map.get s.questions q.0) refl
    where
      said : (x : Question) → map.get s.questions q.0 ≡ Some x → (r : Option Returned) → x.returned ≡ r → LeadsHere w s (known_by_return path r)
      said x f None j = tt
      said x f (Some (back.Exception exception)) j = tt
      said x f (Some (back.Results payload caps)) j =
          let names = h.names in
          let all = each_at (HereIn w s) named_by_question s.questions q.0 x names.4 f in
          known_there w s caps (cap_at payload path) (subst (λ (r : Option Returned). AllIn (HereIn w s) (named_by_question q.0 (record x { returned = r }))) j all)

      by : (o : Option Question) → map.get s.questions q.0 ≡ o → LeadsHere w s (known_by_return path (returned_of o))
      by None f = tt
      by (Some x) f = said x f x.returned refl

  module _ (d : Progress) (r : ℕ) (x : Reference) (i : Fine w d.state) where
    turned : (y : Reference) → HereIn w d.state y.head → Fine w (record (d.state) { refs = map.insert d.state.refs r y })
    turned y k = let n = i.names in set_refs d.state (map.insert d.state.refs r y) i (each_put (HereIn w d.state) named_by_reference d.state.refs r y (all_one (HereIn w d.state) y.head k) n.0)

    embargoes : (to : Option Target) (n : Node) (g : Granted) (new : Progress) → HereIn w d.state n → Embargoes d r x to n g new → Fine w new.state
    embargoes None n g new k h = absurd h
    embargoes (Some to) n g new k h =
        let a = h.1 in
        let y : Reference = record { head = n; embargo = Some (record { 0 = a.0 }); made = x.made } in
        let s : State = record (d.state) { refs = map.insert d.state.refs r y } in
        let one : Fine w s = turned y k in
        let names = one.names in
        rw a.2 (set_embargoes s _ one (each_put (HereIn w s) named_by_embargo s.embargoes a.0 (record { reference = record { 0 = r }; node = n; waiting = [] }) (all_one (HereIn w s) n k) names.1))

    advances_by : (wire : Node) (said : Descriptor) (n : Node) (g : Granted) (new : Progress) → HereIn w d.state n → AdvancesBy d r x wire said n g new → Fine w new.state
    advances_by wire descriptor.None n g new k h = absurd h
    advances_by wire (descriptor.SenderHosted e) n g new k h = rw h.1 (turned (record x { head = n }) k)
    advances_by wire (descriptor.SenderPromise e) n g new k h = rw h.1 (turned (record x { head = n }) k)
    advances_by wire (descriptor.ReceiverHosted e) n g new k h = embargoes (wire_target wire) n g new k h
    advances_by wire (descriptor.ReceiverAnswer q path) n g new k h = embargoes (wire_target wire) n g new k h

    advances_to : (wire : Node) (known : Known) (g : Granted) (new : Progress) → LeadsHere w d.state known → AdvancesTo d r x wire known g new → Fine w new.state
    advances_to wire NothingYet g new k h = rw h.1 i
    advances_to wire (IsBroken reason) g new k h = rw h.1 (turned (record x { head = node.Broken reason }) tt)
    advances_to wire (Leads said n) g new k (inl h) = let j = h.1 in rw j.1 i
    advances_to wire (Leads said n) g new k (inr h) = advances_by wire said n g new k h.1

    advances_from : (o : Option EmbargoId) (g : Granted) (new : Progress) → AdvancesFrom d r x o g new → Fine w new.state
    advances_from (Some e) g new h = rw h.1 i
    advances_from None g new h = advances_to (settle d.state x.head) (known_of_wire d.state (settle d.state x.head)) g new (of_wire d.state i (settle d.state x.head)) h

  advances : (d : Progress) (r : ℕ) (o : Option Reference) (g : Granted) (new : Progress) → Fine w d.state → Advances d r o g new → Fine w new.state
  advances d r None g new i h = absurd h
  advances d r (Some x) g new i h = advances_from d r x i x.embargo g new h

pub acts : {w : Asked} (d : Progress) (c : Command) (g : Granted) (new : Progress) → Fine w d.state → Acts d c g new → Good new.state
acts d (command.Host o) g new i h = good new.state (new_ref g d _ new i tt h)
acts d (command.CloneRef r) g new i h = good new.state (clones d r.0 _ g new refl i h)
acts d (command.DropRef r) g new i h = good new.state (drops d r.0 _ g new i h)
acts d command.Bootstrap g new i h = bootstraps d g new i h
acts d (command.Call c) g new i h = calls d c _ g new refl i h
acts d (command.Field c path) g new i h = good new.state (field d c.0 path _ g new refl i h)
acts d command.Promise g new i h = good new.state (promises d g new i h)
acts d (command.Resolve p r) g new i h = good new.state (resolves d p.0 r.0 _ _ g new refl i h)
acts d (command.Reject p x) g new i h = good new.state (rejects d p.0 x _ g new i h)
acts d (command.Answer t payload refs) g new i h = good new.state (answers d t.0 (value.Results payload (heads d.state refs)) _ g new i (heads_here d.state i refs) h)
acts {w} d (command.Fail t x) g new i h = good new.state (answers d t.0 (value.Exception x) _ g new i (all_none (HereIn w d.state)) h)
acts d (command.Finish c) g new i h = good new.state (finishes d c.0 _ g new i h)
acts d (command.Advance r) g new i h = good new.state (advances d r.0 _ g new i h)
acts d (command.Shut n) g new i h = absurd h
