-- What each command and each received message keeps: each embargo with its calls, and the ids of the questions that
-- stand.
use Rattle.std.proofs.Common.{◌≡◌, ◌⊎◌, inl, inr, ℕ, ◌+◌, Bool, true, false, cond, nat_eq, List, [], ◌∷◌, ◌++◌, Option, None, Some, refl, sym, ap, subst, ◌∙◌, arith}
use Rattle.std.specs.FinMap as map
use Rattle.rpc_msg.specs.declared.ids.EmbargoId.{EmbargoId}
use Rattle.rpc_msg.specs.Op.{Op}
use Rattle.rpc_msg.specs.declared.parts.Descriptor.{Descriptor}
use Rattle.rpc_msg.specs.declared.parts.Descriptor.TheVariants as descriptor
use Rattle.rpc_msg.specs.declared.parts.Target.{Target}
use Rattle.rpc_msg.specs.declared.message.Disembargo.{Disembargo}
use Rattle.rpc_msg.specs.declared.message.DisembargoContext.{DisembargoContext}
use Rattle.rpc_msg.specs.declared.message.DisembargoContext.TheVariants.{SenderLoopback, ReceiverLoopback}
use Rattle.rpc_msg.specs.declared.message.ResolvedTo.{ResolvedTo}
use Rattle.rpc_msg.specs.declared.message.ResolvedTo.TheVariants as resolved
use Rattle.rpc_msg.specs.declared.exception.Exception.{Exception}
use Rattle.rpc_msg.specs.declared.message.Call.{Call}
use Rattle.rpc_msg.specs.declared.message.Return.{Return}
use Rattle.rpc_msg.specs.declared.message.PlainMessage.{PlainMessage}
use Rattle.rpc_msg.specs.declared.message.PlainMessage.TheVariants as plain
use Rattle.rpc_msg.specs.declared.message.Message.{Message}
use Rattle.rpc_msg.specs.declared.message.Message.TheVariants as message
use Rattle.rpc_msg.specs.Messages.{descriptors_of_body}
use Rattle.rpc_machine.specs.declared.node.Node.{Node}
use Rattle.rpc_machine.specs.declared.node.Node.TheVariants as node
use Rattle.rpc_machine.specs.declared.command.Level.{Level}
use Rattle.rpc_machine.specs.declared.command.Level.TheVariants.{Zero, One}
use Rattle.rpc_machine.specs.declared.command.Command.{Command}
use Rattle.rpc_machine.specs.declared.command.Command.TheVariants as command
use Rattle.rpc_machine.specs.declared.command.CallCommand.{CallCommand}
use Rattle.rpc_machine.specs.declared.command.Granted.{Granted}
use Rattle.rpc_machine.specs.declared.command.Effects.{Effects}
use Rattle.rpc_machine.specs.declared.calls.Request.{Request}
use Rattle.rpc_machine.specs.declared.calls.WaitingCall.{WaitingCall}
use Rattle.rpc_machine.specs.declared.entries.Role.{Role}
use Rattle.rpc_machine.specs.declared.entries.Role.TheVariants as role
use Rattle.rpc_machine.specs.declared.entries.Finishing.{Finishing}
use Rattle.rpc_machine.specs.declared.entries.Finishing.TheVariants as finishing
use Rattle.rpc_machine.specs.declared.entries.Returned.{Returned}
use Rattle.rpc_machine.specs.declared.calls.Value.{Value}
use Rattle.rpc_machine.specs.declared.calls.Value.TheVariants as value
use Rattle.rpc_machine.specs.declared.calls.OwnCall.{OwnCall}
use Rattle.rpc_machine.specs.declared.calls.OwnCall.TheVariants as own
use Rattle.rpc_machine.specs.declared.entries.Question.{Question}
use Rattle.rpc_machine.specs.declared.entries.AnswerEntry.{AnswerEntry}
use Rattle.rpc_machine.specs.declared.entries.Import.{Import}
use Rattle.rpc_machine.specs.declared.entries.Resolution.{Resolution}
use Rattle.rpc_machine.specs.declared.entries.Reference.{Reference}
use Rattle.rpc_machine.specs.declared.entries.Embargo.{Embargo}
use Rattle.rpc_machine.specs.State.{State}
use Rattle.rpc_machine.specs.Nodes.{settle}
use Rattle.rpc_machine.specs.Lists.{how_many, update}
use Rattle.rpc_machine.specs.Progress.{Progress, begin, with_state, caps_of, numbers}
use Rattle.rpc_machine.specs.Descriptors.{taken_of, take_one, take_each, take_at, take_all}
use Rattle.rpc_machine.specs.Settling.{TellsCall}
use Rattle.rpc_machine.specs.Commands.{heads, counted, request, kept, field_node, settled_now, answered, NewRef, ClonesRef, DropsRef, CallsDirect, CallsHere, CallsBy, WaitsForEmbargo, CallsThrough, MakesCall, NamesField, ResolvesPromise, RejectsPromise, AnswersTask, FinishesCall, Acts}
use Rattle.rpc_machine.specs.Advancing.{Known, NothingYet, IsBroken, Leads, known_of_wire, wire_target, Embargoes, AdvancesBy, AdvancesTo, AdvancesFrom, Advances}
use Rattle.rpc_machine.specs.Messages.{opened, unembargoed, received_request, waived, not_understood, kept_returned, ComesFor, ComesBack, TakesReturn, TakesEchoed, TakesFinish, resolve_import, take_resolve, Bounces, Lifts, TakesDisembargo, TakesPlain, TakesUnimplemented, TakesUnless, Takes}
use Rattle.rpc_machine.specs.Flags.{obey}
use Rattle.rpc_machine.specs.Faults.{target_node, is_foreign}
use Rattle.rpc_machine.specs.Steps.{Ends, Does, Handles}
use Rattle.rpc_machine_examples.specs.HeldEmbargoes.{GoesOn, IsLoopback, IsLift}
use Rattle.rpc_machine_examples.specs.TakenQuestions.{asks}
use Rattle.rpc_machine_examples.proofs.Keeping.{Apart, refs_alike, IsThere, goes_on_same, asked, Keeps, then, quiet, same, quiet_by, says_by, asks_by, questions_asked, routes, routes_all, settles, fixes, drains}
use Rattle.rpc_machine_examples.proofs.EndOfStep.{Swept, asks_none, sweeps, none_arose}
use Rattle.finite_maps.proofs.Tested.{equal, get_put, get_cut}
use Rattle.rpc_machine.proofs.ExportCounts.{how_many-append}

some_is : {X : Type 0} (a b : X) → Some a ≡ Some b → a ≡ b
some_is a b h = cc

module _ (e q : ℕ) where
  -- ---- Commands

  new_ref : (g : Granted) (d : Progress) (n : Node) (new : Progress) → NewRef g d n new → Keeps e q d new
  new_ref g d n new h = quiet_by e q d new h.1 (refl, refl) refl

  clones : (d : Progress) (o : Option Reference) (g : Granted) (new : Progress) → ClonesRef d o g new → Keeps e q d new
  clones d None g new h = absurd h
  clones d (Some x) g new h = new_ref g d x.head new h

  drops : (d : Progress) (r : ℕ) (o : Option Reference) (g : Granted) (new : Progress) → DropsRef d r o g new → Keeps e q d new
  drops d r None g new h = absurd h
  drops d r (Some x) g new h = quiet_by e q d new h.1 (refl, refl) refl

  direct : (d : Progress) (c : ℕ) (r : Request) (t : Target) (new : Progress) → CallsDirect d c r t new → Keeps e q d new
  direct d c r t new h = questions_asked e q (with_state d (record (d.state) { calls = map.insert d.state.calls c (own.Direct (record { 0 = h.0 })) })) h.0 _ t r new h.1

  here : (d : Progress) (c : ℕ) (r : Request) (n : Node) (new : Progress) → CallsHere d c r n new → Keeps e q d new
  here d c r n new h = routes e q (kept d c h.0) (record { request = r; outcome = h.0 }) n new h.2

  by_node : (d : Progress) (c : ℕ) (r : Request) (head n : Node) (new : Progress) → CallsBy d c r head n new → Keeps e q d new
  by_node d c r head (node.Object o) new h = here d c r head new h
  by_node d c r head (node.Promise p) new h = here d c r head new h
  by_node d c r head (node.Field o path) new h = here d c r head new h
  by_node d c r head (node.Import i) new h = direct d c r _ new h
  by_node d c r head (node.Pipe k path) new h = direct d c r _ new h
  by_node d c r head (node.Broken reason) new h = here d c r head new h

  -- A call is put behind those that wait already.
  more : (d : Progress) (k : ℕ) (b : Embargo) (w : WaitingCall) → map.get d.state.embargoes k ≡ Some b → (c : Embargo) → map.get d.state.embargoes e ≡ Some c → GoesOn (map.get (map.insert d.state.embargoes k (record b { waiting = b.waiting ++ w ∷ [] })) e) c
  more d k b w f c g = by (nat_eq e k) refl
    where
      by : (t : Bool) → nat_eq e k ≡ t → GoesOn (map.get (map.insert d.state.embargoes k (record b { waiting = b.waiting ++ w ∷ [] })) e) c
      by true t =
          let i : b ≡ c = some_is b c (sym f ∙ ap (map.get d.state.embargoes) (sym (equal e k t)) ∙ g) in
          (w ∷ [], get_put d.state.embargoes k _ e ∙ ap (λ j. cond j (Some (record b { waiting = b.waiting ++ w ∷ [] })) (map.get d.state.embargoes e)) t ∙ ap (λ (x : Embargo). Some (record x { waiting = x.waiting ++ w ∷ [] })) i)
      by false t =
          goes_on_same _ c (get_put d.state.embargoes k _ e ∙ ap (λ j. cond j (Some (record b { waiting = b.waiting ++ w ∷ [] })) (map.get d.state.embargoes e)) t ∙ g)

  embargoed : (d : Progress) (w : WaitingCall) (k : ℕ) (o : Option Embargo) (new : Progress) → map.get d.state.embargoes k ≡ o → WaitsForEmbargo d w k o new → Keeps e q d new
  embargoed d w k None new f h = absurd h
  embargoed d w k (Some b) new f h = rw h (more d k b w f, λ t. t, λ t. refl)

  through : (d : Progress) (c : ℕ) (r : Request) (head : Node) (o : Option EmbargoId) (new : Progress) → CallsThrough d c r head o new → Keeps e q d new
  through d c r head None new h = by_node d c r head (settle d.state head) new h
  through d c r head (Some k) new h = embargoed (kept d c h.0) (record { request = r; outcome = h.0 }) k.0 (map.get d.state.embargoes k.0) new refl h.2

  calls : (d : Progress) (c : CallCommand) (o : Option Reference) (g : Granted) (new : Progress) → MakesCall d c o g new → Keeps e q d new
  calls d c None g new h = absurd h
  calls d c (Some x) g new h =
      through (with_state d (counted d.state c.reference.0 x)) d.state.next_call (request d.state c x) x.head x.embargo new h.1

  field : (d : Progress) (path : List Op) (o : Option OwnCall) (g : Granted) (new : Progress) → NamesField d path o g new → Keeps e q d new
  field d path None g new h = absurd h
  field d path (Some from) g new h = new_ref g d (field_node path from) new h

  resolves : (d : Progress) (p : ℕ) (o : Option ℕ) (x : Option Reference) (g : Granted) (new : Progress) → ResolvesPromise d p o x g new → Keeps e q d new
  resolves d p None x g new h = absurd h
  resolves d p (Some key) None g new h = absurd h
  resolves d p (Some key) (Some x) g new h = fixes e q (settled_now d p) key x.head None new h.1

  rejects : (d : Progress) (p : ℕ) (why : Exception) (o : Option ℕ) (g : Granted) (new : Progress) → RejectsPromise d p why o g new → Keeps e q d new
  rejects d p why None g new h = absurd h
  rejects d p why (Some key) g new h = fixes e q (settled_now d p) key _ (Some why) new h.1

  answers : (d : Progress) (t : ℕ) (v : Value) (o : Option ℕ) (g : Granted) (new : Progress) → AnswersTask d t v o g new → Keeps e q d new
  answers d t v None g new h = absurd h
  answers d t v (Some o) g new h = settles e q (answered d t) o v new h.1

  finishes : (d : Progress) (c : ℕ) (o : Option OwnCall) (g : Granted) (new : Progress) → FinishesCall d c o g new → Keeps e q d new
  finishes d c None g new h = absurd h
  finishes d c (Some from) g new h = quiet_by e q d new h.1 (refl, refl) refl

  -- Another embargo begins.
  begins : (d : Progress) (k : ℕ) (x : Embargo) → map.get d.state.embargoes k ≡ None → (b : Embargo) → map.get d.state.embargoes e ≡ Some b → GoesOn (map.get (map.insert d.state.embargoes k x) e) b
  begins d k x f b g = by (nat_eq e k) refl
    where
      by : (t : Bool) → nat_eq e k ≡ t → GoesOn (map.get (map.insert d.state.embargoes k x) e) b
      by true t = let i : Some b ≡ None = sym g ∙ ap (map.get d.state.embargoes) (equal e k t) ∙ f in cc
      by false t = goes_on_same _ b (get_put d.state.embargoes k x e ∙ ap (λ j. cond j (Some x) (map.get d.state.embargoes e)) t ∙ g)

  sum : (ms : List Message) (m : Message) → asks q m ≡ false → asked e q (ms ++ m ∷ []) ≡ asked e q ms
  sum ms m h = how_many-append (asks q) ms (m ∷ []) ∙ rw h (omega arith)

  embargoes : (d : Progress) (r : ℕ) (x : Reference) (t : Option Target) (n : Node) (g : Granted) (new : Progress) → Embargoes d r x t n g new → Keeps e q d new
  embargoes d r x None n g new h = absurd h
  embargoes d r x (Some t) n g new h =
      let k = h.1 in
      let said : Disembargo = record { target = t; context = SenderLoopback (record { 0 = k.0 }) } in
      rw k.2 (begins d k.0 _ k.1, λ t. t, λ t. sum d.effects.sends (message.Plain (plain.Disembargo said)) refl)

  advances_by : (d : Progress) (r : ℕ) (x : Reference) (w : Node) (a : Descriptor) (n : Node) (g : Granted) (new : Progress) → AdvancesBy d r x w a n g new → Keeps e q d new
  advances_by d r x w descriptor.None n g new h = absurd h
  advances_by d r x w (descriptor.SenderHosted k) n g new h = quiet_by e q d new h.1 (refl, refl) refl
  advances_by d r x w (descriptor.SenderPromise k) n g new h = quiet_by e q d new h.1 (refl, refl) refl
  advances_by d r x w (descriptor.ReceiverHosted k) n g new h = embargoes d r x (wire_target w) n g new h
  advances_by d r x w (descriptor.ReceiverAnswer k path) n g new h = embargoes d r x (wire_target w) n g new h

  advances_to : (d : Progress) (r : ℕ) (x : Reference) (w : Node) (k : Known) (g : Granted) (new : Progress) → AdvancesTo d r x w k g new → Keeps e q d new
  advances_to d r x w NothingYet g new h = rw h.1 (same e q d)
  advances_to d r x w (IsBroken reason) g new h = quiet_by e q d new h.1 (refl, refl) refl
  advances_to d r x w (Leads a n) g new (inl h) = let k = h.1 in rw k.1 (same e q d)
  advances_to d r x w (Leads a n) g new (inr h) = advances_by d r x w a n g new h.1

  advances_from : (d : Progress) (r : ℕ) (x : Reference) (o : Option EmbargoId) (g : Granted) (new : Progress) → AdvancesFrom d r x o g new → Keeps e q d new
  advances_from d r x (Some k) g new h = rw h.1 (same e q d)
  advances_from d r x None g new h = advances_to d r x (settle d.state x.head) (known_of_wire d.state (settle d.state x.head)) g new h

  advances : (d : Progress) (r : ℕ) (o : Option Reference) (g : Granted) (new : Progress) → Advances d r o g new → Keeps e q d new
  advances d r None g new h = absurd h
  advances d r (Some x) g new h = advances_from d r x x.embargo g new h

  bootstraps : (d : Progress) (g : Granted) (new : Progress) → Acts d command.Bootstrap g new → Keeps e q d new
  bootstraps d g new h =
      let x : Question = record { role = role.Direct (record { 0 = d.state.next_call }); given = []; returned = None; finish = finishing.Owed } in
      asks_by e q d new h.0 x (message.Plain (plain.Bootstrap (record { 0 = h.0 }))) h.3 h.1 refl refl refl refl

  acts : (d : Progress) (c : Command) (g : Granted) (new : Progress) → Acts d c g new → Keeps e q d new
  acts d (command.Host o) g new h = new_ref g d _ new h
  acts d (command.CloneRef r) g new h = clones d _ g new h
  acts d (command.DropRef r) g new h = drops d r.0 _ g new h
  acts d command.Bootstrap g new h = bootstraps d g new h
  acts d (command.Call c) g new h = calls d c _ g new h
  acts d (command.Field c path) g new h = field d path _ g new h
  acts d command.Promise g new h = quiet_by e q d new h.3 (refl, refl) refl
  acts d (command.Resolve p r) g new h = resolves d p.0 _ _ g new h
  acts d (command.Reject p x) g new h = rejects d p.0 x _ g new h
  acts d (command.Answer t payload refs) g new h = answers d t.0 (value.Results payload (heads d.state refs)) _ g new h
  acts d (command.Fail t x) g new h = answers d t.0 (value.Exception x) _ g new h
  acts d (command.Finish c) g new h = finishes d c.0 _ g new h
  acts d (command.Advance r) g new h = advances d r.0 _ g new h
  acts d (command.Shut n) g new h = absurd h

  -- ---- Received messages

  take_one_apart : (s : State) (d : Descriptor) → Apart s (take_one s d)
  take_one_apart s descriptor.None = (refl, refl)
  take_one_apart s (descriptor.SenderHosted k) = (refl, refl)
  take_one_apart s (descriptor.SenderPromise k) = (refl, refl)
  take_one_apart s (descriptor.ReceiverHosted k) = (refl, refl)
  take_one_apart s (descriptor.ReceiverAnswer k path) = (refl, refl)

  next_to : (s t u : State) → Apart s t → Apart t u → Apart s u
  next_to s t u h k = (k.0 ∙ h.0, k.1 ∙ h.1)

  take_each_apart : (s : State) (ds : List Descriptor) → Apart s (take_each s ds)
  take_each_apart s [] = (refl, refl)
  take_each_apart s (d ∷ ds) = next_to s (take_one s d) (take_each (take_one s d) ds) (take_one_apart s d) (take_each_apart (take_one s d) ds)

  take_at_apart : (l : Level) (s : State) (ds : List Descriptor) → Apart s (take_at l s ds)
  take_at_apart Zero s ds = (refl, refl)
  take_at_apart One s ds = take_each_apart s ds

  obey_apart : (s : State) (b : Bool) (ids : List ℕ) → Apart s (obey s b ids)
  obey_apart s false ids = (refl, refl)
  obey_apart s true ids = (refl, refl)

  -- The question closes, and nothing comes of it.
  abbrev Closes : Progress → Progress → Type 0
  Closes d new = (new.arisen ≡ d.arisen) × (new.effects.sends ≡ d.effects.sends) × (new.state.embargoes ≡ d.state.embargoes)

  tells_call : (d : Progress) (c : ℕ) (v : Value) (o : Option OwnCall) (new : Progress) → TellsCall d c v o new → Keeps e q d new
  tells_call d c v None new h = rw h (same e q d)
  tells_call d c v (Some from) new h = quiet_by e q d new h (refs_alike d.state (caps_of v)).0 refl

  comes_for : (d : Progress) (r : Role) (v : Value) (new : Progress) → ComesFor d r v new → Keeps e q d new
  comes_for d (role.Relay o) v new h = quiet_by e q d new h (refl, refl) refl
  comes_for d (role.Direct c) v new h = tells_call d c.0 v _ new h

  -- The entry of a question is written anew.
  rewritten : (d : Progress) (k : ℕ) (x : Question) → Keeps e q d (with_state d (record (d.state) { questions = map.insert d.state.questions k x }))
  rewritten d k x = (λ b g. goes_on_same _ b g, λ t. subst (λ (o : Option Question). IsThere o) (sym (get_put d.state.questions k x q)) (by (nat_eq q k) t), λ t. refl)
    where
      by : (b : Bool) → IsThere (map.get d.state.questions q) → IsThere (cond b (Some x) (map.get d.state.questions q))
      by true t = tt
      by false t = t

  comes_back : (d : Progress) (k : ℕ) (x : Question) (said : Returned) (f : Finishing) (new : Progress) → ComesBack d k x said f new → Keeps e q d new ⊎ Closes d new
  comes_back d k x said finishing.Sent new h = inr (rw h (refl, refl, refl))
  comes_back d k x said finishing.Owed new h = inl (then e q d (kept_returned d k x said) new (rewritten d k _) (comes_for (kept_returned d k x said) x.role _ new h))
  comes_back d k x said finishing.Waived new h = inl (then e q d (kept_returned d k x said) new (rewritten d k _) (comes_for (kept_returned d k x said) x.role _ new h))

  from_state : (d : Progress) (s : State) (new : Progress) → Apart d.state s → Keeps e q (with_state d s) new ⊎ Closes (with_state d s) new → Keeps e q d new ⊎ Closes d new
  from_state d s new a (inl k) = inl (then e q d (with_state d s) new (quiet e q d (with_state d s) a refl) k)
  from_state d s new a (inr k) = inr (k.0, k.1, k.2 ∙ a.0)

  takes_return : (d : Progress) (r : Return) (o : Option Question) (new : Progress) → TakesReturn d r o new → Keeps e q d new ⊎ Closes d new
  takes_return d r None new h = absurd h
  takes_return d r (Some x) new h =
      let ds = descriptors_of_body r.body in
      let t = take_all d.state ds in
      let ids = numbers x.given in
      let u = obey t r.release_param_caps ids in
      from_state d u new (next_to d.state t u (take_at_apart d.state.level d.state ds) (obey_apart t r.release_param_caps ids)) (comes_back (with_state d u) r.answer.0 x _ x.finish new h)

  takes_echoed : (d : Progress) (k : ℕ) (o : Option Question) (new : Progress) → TakesEchoed d k o new → Keeps e q d new ⊎ Closes d new
  takes_echoed d k None new h = absurd h
  takes_echoed d k (Some x) new h =
      let s = obey d.state true (numbers x.given) in
      from_state d s new (refl, refl) (comes_back (with_state d s) k (record x { finish = waived x.finish }) not_understood (waived x.finish) new h)

  takes_finish : (d : Progress) (k : ℕ) (b : Bool) (o : Option AnswerEntry) (new : Progress) → TakesFinish d k b o new → Keeps e q d new
  takes_finish d k b None new h = absurd h
  takes_finish d k b (Some a) new h = quiet_by e q d new h (obey_apart d.state b _) refl

  takes_resolution : (s : State) (k : ℕ) (said : Resolution) (o : Option Import) → Apart s (resolve_import s k said o)
  takes_resolution s k said None = (refl, refl)
  takes_resolution s k said (Some x) = (refl, refl)

  takes_resolve : (s : State) (k : ℕ) (to : ResolvedTo) → Apart s (take_resolve s k to)
  takes_resolve s k (resolved.Exception x) = takes_resolution s k _ (map.get s.imports k)
  takes_resolve s k (resolved.Cap d) =
      let t = take_all s (d ∷ []) in
      next_to s t (take_resolve s k (resolved.Cap d)) (take_at_apart s.level s (d ∷ [])) (takes_resolution t k _ (map.get s.imports k))

  bounces : (d : Progress) (x : EmbargoId) (t : Option Target) (new : Progress) → Bounces d x t new → Keeps e q d new
  bounces d x None new h = absurd h
  bounces d x (Some t) new h = says_by e q d new _ h (refl, refl) refl refl

  -- Another embargo is lifted.
  ended : (d : Progress) (k : ℕ) → ¬ (k ≡ e) → (b : Embargo) → map.get d.state.embargoes e ≡ Some b → GoesOn (map.get (map.remove d.state.embargoes k) e) b
  ended d k f b g = by (nat_eq e k) refl
    where
      by : (t : Bool) → nat_eq e k ≡ t → GoesOn (map.get (map.remove d.state.embargoes k) e) b
      by true t = absurd (f (sym (equal e k t)))
      by false t = goes_on_same _ b (get_cut d.state.embargoes k e ∙ ap (λ j. cond j None (map.get d.state.embargoes e)) t ∙ g)

  lifts : (d : Progress) (k : ℕ) (o : Option Embargo) (new : Progress) → ¬ (k ≡ e) → Lifts d k o new → Keeps e q d new
  lifts d k None new f h = absurd h
  lifts d k (Some b) new f h =
      let lifted : Progress = with_state d (record (d.state) { refs = update d.state.refs b.reference.0 unembargoed; embargoes = map.remove d.state.embargoes k }) in
      then e q d lifted new (ended d k f, λ t. t, λ t. refl) (routes_all e q lifted b.waiting b.node new h)

  disembargo : (d : Progress) (t : Target) (c : DisembargoContext) (new : Progress) → ¬ (IsLoopback e c) → TakesDisembargo d t c new → Keeps e q d new
  disembargo d t (SenderLoopback x) new f h = bounces d x _ new h
  disembargo d t (ReceiverLoopback x) new f h = lifts d x.0 _ new f h

  takes_call : (d : Progress) (c : Call) (new : Progress) → TakesPlain d (plain.Call c) new → Keeps e q d new
  takes_call d c new h =
      let s = take_all d.state c.descriptors in
      let w : WaitingCall = record { request = received_request d.state c; outcome = h.0 } in
      let t : Progress = with_state d (opened s c.question.0 h.0 (taken_of d.state c.descriptors)) in
      then e q d t new (quiet e q d t (take_at_apart d.state.level d.state c.descriptors) refl) (routes e q t w (target_node d.state c.target) new h.2)

  takes_plain : (d : Progress) (m : PlainMessage) (new : Progress) → ¬ (IsLift e (message.Plain m)) → TakesPlain d m new → Keeps e q d new ⊎ Closes d new
  takes_plain d (plain.Abort x) new f h = absurd h
  takes_plain d (plain.Bootstrap k) new f h = inl (settles e q (with_state d (opened d.state k.0 h.0 [])) h.0 _ new h.2)
  takes_plain d (plain.Call c) new f h = inl (takes_call d c new h)
  takes_plain d (plain.Return r) new f h = takes_return d r _ new h
  takes_plain d (plain.Finish k) new f h = inl (takes_finish d k.question.0 k.release_result_caps _ new h)
  takes_plain d (plain.Resolve r) new f h = inl (quiet_by e q d new h (takes_resolve d.state r.promise.0 r.to) refl)
  takes_plain d (plain.Release r) new f h = inl (quiet_by e q d new h (refl, refl) refl)
  takes_plain d (plain.Disembargo x) new f h = inl (disembargo d x.target x.context new f h)
  takes_plain d (plain.Other n) new f h = inl (says_by e q d new _ h (refl, refl) refl refl)

  takes_unimplemented : (d : Progress) (m : PlainMessage) (new : Progress) → TakesUnimplemented d m new → Keeps e q d new ⊎ Closes d new
  takes_unimplemented d (plain.Abort x) new h = absurd h
  takes_unimplemented d (plain.Bootstrap k) new h = takes_echoed d k.0 _ new h
  takes_unimplemented d (plain.Call c) new h = takes_echoed d c.question.0 _ new h
  takes_unimplemented d (plain.Return r) new h = absurd h
  takes_unimplemented d (plain.Finish f) new h = absurd h
  takes_unimplemented d (plain.Resolve r) new h = inl (quiet_by e q d new h (refl, refl) refl)
  takes_unimplemented d (plain.Release r) new h = inl (rw h (same e q d))
  takes_unimplemented d (plain.Disembargo x) new h = absurd h
  takes_unimplemented d (plain.Other n) new h = absurd h

  unless : (b : Bool) (d : Progress) (m : PlainMessage) (new : Progress) → ¬ (IsLift e (message.Plain m)) → TakesUnless b d m new → Keeps e q d new ⊎ Closes d new
  unless true d m new f h = inl (says_by e q d new _ h (refl, refl) refl refl)
  unless false d m new f h = takes_plain d m new f h

  takes : (d : Progress) (m : Message) (new : Progress) → ¬ (IsLift e m) → Takes d m new → Keeps e q d new ⊎ Closes d new
  takes d (message.Plain m) new f h = unless (is_foreign d.state.level m) d m new f h
  takes d (message.Unimplemented m) new f h = takes_unimplemented d m new h

  -- ---- Steps

  swept_keeps : (d new : Progress) → Swept d new → IsThere (map.get d.state.questions q) → asked e q new.effects.sends ≡ asked e q d.effects.sends
  swept_keeps d new h t =
      let f = h.3 in
      ap (asked e q) f.2 ∙ how_many-append (asks q) d.effects.sends f.0 ∙ (let z = asks_none q f.0 f.1 in omega arith)

  -- What holds of the whole step.
  abbrev pub Holds : State → Effects → State → Type 0
  Holds s x new =
      ((b : Embargo) → map.get s.embargoes e ≡ Some b → GoesOn (map.get new.embargoes e) b)
      × (IsThere (map.get s.questions q) → asked e q x.sends ≡ 0)

  ends : (s : State) (acted : Progress) (x : Effects) (new : State) → Keeps e q (begin s) acted → Ends acted x new → Holds s x new
  ends s acted x new k h =
      let a : Keeps e q (begin s) h.drained = then e q (begin s) acted h.drained k (drains e q h.drained acted h.drains) in
      let w : Swept h.drained h.swept = sweeps h.drained h.swept h.sweeps in
      let r = w.0 in
      rw (h.new_is, h.effects_are) (
        λ b f. subst (λ (j : _). GoesOn (map.get j e) b) (sym r.0) (a.0 b f),
        λ t. swept_keeps h.drained h.swept w (a.1 t) ∙ a.2 t,
      )

  closes : (s : State) (acted : Progress) (x : Effects) (new : State) → Closes (begin s) acted → Ends acted x new → Holds s x new
  closes s acted x new k h =
      let f : h.drained ≡ acted = none_arose h.drained acted h.drains k.0 in
      let w : Swept acted h.swept = subst (λ (d : Progress). Swept d h.swept) f (sweeps h.drained h.swept h.sweeps) in
      let r = w.0 in
      let g = w.3 in
      let i : h.swept.effects.sends ≡ g.0 = g.2 ∙ ap (λ xs. xs ++ g.0) k.1 in
      rw (h.new_is, h.effects_are) (
        λ b j. goes_on_same _ b (ap (λ m. map.get m e) (r.0 ∙ k.2) ∙ j),
        λ t. ap (asked e q) i ∙ asks_none q g.0 g.1,
      )

  pub does : (s : State) (c : Command) (g : Granted) (x : Effects) (new : State) → Does s c g x new → Holds s x new
  does s c g x new h = ends s h.acted x new (acts (begin s) c g h.acted h.acts) h.ends

  pub handles : (s : State) (m : Message) (x : Effects) (new : State) → ¬ (IsLift e m) → Handles s m x new → Holds s x new
  handles s m x new f h = by (takes (begin s) m h.taken f h.takes)
    where
      by : Keeps e q (begin s) h.taken ⊎ Closes (begin s) h.taken → Holds s x new
      by (inl k) = ends s h.taken x new k h.ends
      by (inr k) = closes s h.taken x new k h.ends

-- ---- The ids of questions

there : (o : Option Question) (x : Question) → o ≡ Some x → IsThere o
there o x h = rw h tt

another : (c : DisembargoContext) → (e : ℕ) × (¬ (IsLoopback e c))
another (SenderLoopback x) = (0, λ h. h)
another (ReceiverLoopback x) = (x.0 + 1, λ h. omega arith)

-- Some embargo that a message does not lift.
not_lifted_plain : (m : PlainMessage) → (e : ℕ) × (¬ (IsLift e (message.Plain m)))
not_lifted_plain (plain.Abort x) = (0, λ h. h)
not_lifted_plain (plain.Bootstrap k) = (0, λ h. h)
not_lifted_plain (plain.Call c) = (0, λ h. h)
not_lifted_plain (plain.Return r) = (0, λ h. h)
not_lifted_plain (plain.Finish f) = (0, λ h. h)
not_lifted_plain (plain.Resolve r) = (0, λ h. h)
not_lifted_plain (plain.Release r) = (0, λ h. h)
not_lifted_plain (plain.Disembargo x) = another x.context
not_lifted_plain (plain.Other n) = (0, λ h. h)

not_lifted : (m : Message) → (e : ℕ) × (¬ (IsLift e m))
not_lifted (message.Plain m) = not_lifted_plain m
not_lifted (message.Unimplemented m) = (0, λ h. h)

pub command_asks : (s : State) (c : Command) (g : Granted) (x : Effects) (new : State) → Does s c g x new → (q : ℕ) (y : Question) → map.get s.questions q ≡ Some y → how_many (asks q) x.sends ≡ 0
command_asks s c g x new h q y f = let k = does 0 q s c g x new h in k.1 (there (map.get s.questions q) y f)

pub message_asks : (s : State) (m : Message) (x : Effects) (new : State) → Handles s m x new → (q : ℕ) (y : Question) → map.get s.questions q ≡ Some y → how_many (asks q) x.sends ≡ 0
message_asks s m x new h q y f =
    let e = not_lifted m in
    let k = handles e.0 q s m x new e.1 h in
    k.1 (there (map.get s.questions q) y f)
