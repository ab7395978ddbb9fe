-- The count of an export, over a command and over the end of each step: it rises by the descriptors that are sent.
use Rattle.std.proofs.Common.{◌≡◌, ◌+◌, inl, inr, ℕ, List, [], ◌∷◌, Option, None, Some, arith}
use Rattle.std.specs.FinMap as map
use Rattle.rpc_journal.specs.rpc_msg.specs.declared.ids.EmbargoId.{EmbargoId}
use Rattle.rpc_journal.specs.rpc_msg.specs.Op.{Op}
use Rattle.rpc_journal.specs.rpc_msg.specs.declared.parts.Descriptor.{Descriptor}
use Rattle.rpc_journal.specs.rpc_msg.specs.declared.parts.Descriptor.TheVariants as descriptor
use Rattle.rpc_journal.specs.rpc_msg.specs.declared.parts.Target.{Target}
use Rattle.rpc_journal.specs.rpc_msg.specs.declared.exception.Exception.{Exception}
use Rattle.rpc_journal.specs.rpc_msg.specs.declared.message.PlainMessage.TheVariants as plain
use Rattle.rpc_machine.specs.declared.node.Node.{Node}
use Rattle.rpc_machine.specs.declared.node.Node.TheVariants as node
use Rattle.rpc_machine.specs.declared.command.Command.{Command}
use Rattle.rpc_machine.specs.declared.command.Command.TheVariants as command
use Rattle.rpc_machine.specs.declared.command.CallCommand.{CallCommand}
use Rattle.rpc_machine.specs.declared.command.Granted.{Granted}
use Rattle.rpc_machine.specs.declared.command.Effects.{Effects}
use Rattle.rpc_machine.specs.declared.calls.Request.{Request}
use Rattle.rpc_machine.specs.declared.calls.WaitingCall.{WaitingCall}
use Rattle.rpc_machine.specs.declared.entries.Finishing.{Finishing}
use Rattle.rpc_machine.specs.declared.entries.Finishing.TheVariants as finishing
use Rattle.rpc_machine.specs.declared.calls.Value.{Value}
use Rattle.rpc_machine.specs.declared.calls.Value.TheVariants as value
use Rattle.rpc_machine.specs.declared.calls.OwnCall.{OwnCall}
use Rattle.rpc_machine.specs.declared.entries.Question.{Question}
use Rattle.rpc_machine.specs.declared.entries.Reference.{Reference}
use Rattle.rpc_machine.specs.declared.entries.Embargo.{Embargo}
use Rattle.rpc_machine.specs.State.{State}
use Rattle.rpc_machine.specs.Nodes.{settle}
use Rattle.rpc_machine.specs.Progress.{Progress, with_state}
use Rattle.rpc_machine.specs.Commands.{heads, counted, request, field_node, NewRef, ClonesRef, DropsRef, CallsDirect, CallsHere, CallsBy, WaitsForEmbargo, CallsThrough, MakesCall, NamesField, ResolvesPromise, RejectsPromise, AnswersTask, FinishesCall, Acts}
use Rattle.rpc_machine.specs.Advancing.{Known, NothingYet, IsBroken, Leads, known_of_wire, wire_target, Embargoes, AdvancesBy, AdvancesTo, AdvancesFrom, Advances}
use Rattle.rpc_machine.specs.Steps.{Ends, Does}
use Rattle.rpc_machine.specs.declared.calls.Promise.{Promise}
use Rattle.rpc_machine.specs.declared.calls.Promise.TheVariants as promise
use Rattle.rpc_machine.specs.Progress.{begin, send, export_id}
use Rattle.rpc_machine.specs.Descriptors.{giving}
use Rattle.rpc_machine.specs.Flags.{flag_for, give_back}
use Rattle.rpc_machine.specs.Settling.{FixesFrom, FixesPromise}
use Rattle.rpc_machine.specs.Sweeping.{got_of, finished_by, FinishesEach, release_each, Sweeps}
use Rattle.rpc_machine.proofs.ExportCounts.{count, Balanced, then, same, sends, asks, routes, routes_all, resolves_each, settles, drains, collects, gives}

fixes : (e : ℕ) (d : Progress) (p : ℕ) (to : Node) (x : Option Exception) (new : Progress) → FixesPromise d p to x new → Balanced e d new
fixes e d p to x new h = from (map.get d.state.promises p) h
  where
    from : (o : Option Promise) → FixesFrom d p to x o new → Balanced e d new
    from None h = absurd h
    from (Some (promise.Fixed before)) h = absurd h
    from (Some (promise.Open calls)) h = then e d h.0 new (routes_all e _ calls (node.Promise p) h.0 h.1) (resolves_each e h.0 x _ new h.2)

module _ (e : ℕ) where
  new_ref : (g : Granted) (d : Progress) (n : Node) (new : Progress) → NewRef g d n new → Balanced e d new
  new_ref g d n new h = rw h.1 (same e d)

  clones : (d : Progress) (o : Option Reference) (g : Granted) (new : Progress) → ClonesRef d o g new → Balanced e d new
  clones d None g new h = absurd h
  clones d (Some x) g new h = new_ref g d x.head new h

  drops : (d : Progress) (r : ℕ) (o : Option Reference) (g : Granted) (new : Progress) → DropsRef d r o g new → Balanced e d new
  drops d r None g new h = absurd h
  drops d r (Some x) g new h = rw h.1 (same e d)

  direct : (d : Progress) (c : ℕ) (r : Request) (t : Target) (new : Progress) → CallsDirect d c r t new → Balanced e d new
  direct d c r t new h = asks e _ h.0 _ t r new h.1

  here : (d : Progress) (c : ℕ) (r : Request) (n : Node) (new : Progress) → CallsHere d c r n new → Balanced e d new
  here d c r n new h = routes e _ (record { request = r; outcome = h.0 }) n new h.2

  by : (d : Progress) (c : ℕ) (r : Request) (head n : Node) (new : Progress) → CallsBy d c r head n new → Balanced e d new
  by d c r head (node.Object o) new h = here d c r head new h
  by d c r head (node.Promise p) new h = here d c r head new h
  by d c r head (node.Field o path) new h = here d c r head new h
  by d c r head (node.Import i) new h = direct d c r _ new h
  by d c r head (node.Pipe q path) new h = direct d c r _ new h
  by d c r head (node.Broken reason) new h = here d c r head new h

  embargoed : (d : Progress) (w : WaitingCall) (k : ℕ) (o : Option Embargo) (new : Progress) → WaitsForEmbargo d w k o new → Balanced e d new
  embargoed d w k None new h = absurd h
  embargoed d w k (Some b) new h = rw h (same e d)

  through : (d : Progress) (c : ℕ) (r : Request) (head : Node) (o : Option EmbargoId) (new : Progress) → CallsThrough d c r head o new → Balanced e d new
  through d c r head None new h = by d c r head (settle d.state head) new h
  through d c r head (Some k) new h = embargoed _ (record { request = r; outcome = h.0 }) k.0 (map.get d.state.embargoes k.0) new h.2

  calls : (d : Progress) (c : CallCommand) (o : Option Reference) (g : Granted) (new : Progress) → MakesCall d c o g new → Balanced e d new
  calls d c None g new h = absurd h
  calls d c (Some x) g new h =
      through (with_state d (counted d.state c.reference.0 x)) d.state.next_call (request d.state c x) x.head x.embargo new h.1

  field : (d : Progress) (path : List Op) (o : Option OwnCall) (g : Granted) (new : Progress) → NamesField d path o g new → Balanced e d new
  field d path None g new h = absurd h
  field d path (Some from) g new h = new_ref g d (field_node path from) new h

  resolves : (d : Progress) (p : ℕ) (o : Option ℕ) (x : Option Reference) (g : Granted) (new : Progress) → ResolvesPromise d p o x g new → Balanced e d new
  resolves d p None x g new h = absurd h
  resolves d p (Some key) None g new h = absurd h
  resolves d p (Some key) (Some x) g new h = fixes e _ key x.head None new h.1

  rejects : (d : Progress) (p : ℕ) (why : Exception) (o : Option ℕ) (g : Granted) (new : Progress) → RejectsPromise d p why o g new → Balanced e d new
  rejects d p why None g new h = absurd h
  rejects d p why (Some key) g new h = fixes e _ key _ (Some why) new h.1

  answers : (d : Progress) (t : ℕ) (v : Value) (o : Option ℕ) (g : Granted) (new : Progress) → AnswersTask d t v o g new → Balanced e d new
  answers d t v None g new h = absurd h
  answers d t v (Some o) g new h = settles e _ o v new h.1

  finishes : (d : Progress) (c : ℕ) (o : Option OwnCall) (g : Granted) (new : Progress) → FinishesCall d c o g new → Balanced e d new
  finishes d c None g new h = absurd h
  finishes d c (Some from) g new h = rw h.1 (same e d)

  embargoes : (d : Progress) (r : ℕ) (x : Reference) (t : Option Target) (n : Node) (g : Granted) (new : Progress) → Embargoes d r x t n g new → Balanced e d new
  embargoes d r x None n g new h = absurd h
  embargoes d r x (Some t) n g new h = let k = h.1 in rw k.2 (sends e d.state d.state d.effects.sends _ (omega arith))

  advances_by : (d : Progress) (r : ℕ) (x : Reference) (w : Node) (a : Descriptor) (n : Node) (g : Granted) (new : Progress) → AdvancesBy d r x w a n g new → Balanced e d new
  advances_by d r x w descriptor.None n g new h = absurd h
  advances_by d r x w (descriptor.SenderHosted k) n g new h = rw h.1 (same e d)
  advances_by d r x w (descriptor.SenderPromise k) n g new h = rw h.1 (same e d)
  advances_by d r x w (descriptor.ReceiverHosted k) n g new h = embargoes d r x (wire_target w) n g new h
  advances_by d r x w (descriptor.ReceiverAnswer q path) n g new h = embargoes d r x (wire_target w) n g new h

  advances_to : (d : Progress) (r : ℕ) (x : Reference) (w : Node) (k : Known) (g : Granted) (new : Progress) → AdvancesTo d r x w k g new → Balanced e d new
  advances_to d r x w NothingYet g new h = rw h.1 (same e d)
  advances_to d r x w (IsBroken reason) g new h = rw h.1 (same e d)
  advances_to d r x w (Leads a n) g new (inl h) = let k = h.1 in rw k.1 (same e d)
  advances_to d r x w (Leads a n) g new (inr h) = advances_by d r x w a n g new h.1

  advances_from : (d : Progress) (r : ℕ) (x : Reference) (o : Option EmbargoId) (g : Granted) (new : Progress) → AdvancesFrom d r x o g new → Balanced e d new
  advances_from d r x (Some k) g new h = rw h.1 (same e d)
  advances_from d r x None g new h = advances_to d r x (settle d.state x.head) (known_of_wire d.state (settle d.state x.head)) g new h

  advances : (d : Progress) (r : ℕ) (o : Option Reference) (g : Granted) (new : Progress) → Advances d r o g new → Balanced e d new
  advances d r None g new h = absurd h
  advances d r (Some x) g new h = advances_from d r x x.embargo g new h

  pub acts : (d : Progress) (c : Command) (g : Granted) (new : Progress) → Acts d c g new → Balanced e d new
  acts d (command.Host o) g new h = new_ref g d _ new h
  acts d (command.CloneRef r) g new h = clones d _ g new h
  acts d (command.DropRef r) g new h = drops d r.0 _ g new h
  acts d command.Bootstrap g new h = rw h.3 (sends e d.state d.state d.effects.sends _ (omega arith))
  acts d (command.Call c) g new h = calls d c _ g new h
  acts d (command.Field c path) g new h = field d path _ g new h
  acts d command.Promise g new h = rw h.3 (same e d)
  acts d (command.Resolve p r) g new h = resolves d p.0 _ _ g new h
  acts d (command.Reject p x) g new h = rejects d p.0 x _ g new h
  acts d (command.Answer t payload refs) g new h = answers d t.0 (value.Results payload (heads d.state refs)) _ g new h
  acts d (command.Fail t x) g new h = answers d t.0 (value.Exception x) _ g new h
  acts d (command.Finish c) g new h = finishes d c.0 _ g new h
  acts d (command.Advance r) g new h = advances d r.0 _ g new h
  acts d (command.Shut n) g new h = absurd h

  -- ---- The end of a step

  finished : (d : Progress) (q : ℕ) (x : Question) (f : Finishing) → Balanced e d (finished_by d q x f)
  finished d q x finishing.Owed =
      let b = flag_for d.state (got_of x.returned) in
      sends e d.state (give_back d.state (got_of x.returned)) d.effects.sends _ (let g = gives e d.state b (got_of x.returned) in omega arith)
  finished d q x finishing.Sent = same e d
  finished d q x finishing.Waived = same e d

  finishes_each : (d : Progress) (xs : List (ℕ × Question)) (new : Progress) → FinishesEach d xs new → Balanced e d new
  finishes_each d [] new h = rw h (same e d)
  finishes_each d (x ∷ xs) new h =
      let next = finished_by h.0 x.0 x.1 x.1.finish in
      then e d h.0 new (collects e h.0 d h.1) (then e h.0 next new (finished h.0 x.0 x.1 x.1.finish) (finishes_each next xs new h.2))

  releases_each : (d : Progress) (xs : List (ℕ × ℕ)) → Balanced e d (release_each d xs)
  releases_each d [] = same e d
  releases_each d (x ∷ xs) =
      let next = send d (plain.Release (record { export = export_id x.0; count = x.1 })) in
      then e d next (release_each next xs) (sends e d.state d.state d.effects.sends _ (omega arith)) (releases_each next xs)

  pub sweeps : (d new : Progress) → Sweeps d new → Balanced e d new
  sweeps d new h =
      let g = h.2 in
      let k = g.2 in
      then e d g.0 new (finishes_each d _ g.0 g.1) (then e g.0 k.0 new (collects e k.0 g.0 k.1) (rw k.2 (releases_each k.0 (map.entries k.0.released))))

  pub ends : (acted : Progress) (x : Effects) (new : State) → Ends acted x new → count e new + giving e acted.effects.sends ≡ count e acted.state + giving e x.sends
  ends acted x new h =
      let b : Balanced e acted h.swept = then e acted h.drained h.swept (drains e h.drained acted h.drains) (sweeps h.drained h.swept h.sweeps) in
      rw (h.new_is, h.effects_are) b

  -- In a command's step the count of an export rises by what its sends give.
  pub command_counts : (s : State) (c : Command) (g : Granted) (x : Effects) (new : State) → Does s c g x new → count e new ≡ count e s + giving e x.sends
  command_counts s c g x new h =
      let a : count e h.acted.state + 0 ≡ count e s + giving e h.acted.effects.sends = acts (begin s) c g h.acted h.acts in
      let b = ends h.acted x new h.ends in
      omega arith
