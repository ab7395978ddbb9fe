-- What an end answers to a command is an answer to it.
use Rattle.std.proofs.Common.{◌≡◌, ℕ, Bool, true, false, ◌&&◌, is_some, Option, None, Some, Result, Ok, Err, List, [], ◌∷◌, inl, inr, refl, sym, ap, subst, ◌∙◌}
use Rattle.rpc_msg.specs.Op.{Op}
use Rattle.rpc_msg.specs.declared.ids.EmbargoId.{EmbargoId}
use Rattle.rpc_msg.specs.declared.exception.Exception.{Exception}
use Rattle.rpc_msg.specs.declared.message.Message.{Message}
use Rattle.rpc_msg.specs.declared.parts.Descriptor.{Descriptor}
use Rattle.rpc_msg.specs.declared.parts.Descriptor.TheVariants as descriptor
use Rattle.rpc_msg.specs.declared.parts.Target.{Target}
use Rattle.rpc_journal.specs.History.{if_so}
use Rattle.rpc_machine.specs.declared.calls.OwnCall.{OwnCall}
use Rattle.rpc_machine.specs.declared.calls.Value.{Value}
use Rattle.rpc_machine.specs.declared.calls.Value.TheVariants as value
use Rattle.rpc_machine.specs.declared.command.CallCommand.{CallCommand}
use Rattle.rpc_machine.specs.declared.command.Command.{Command}
use Rattle.rpc_machine.specs.declared.command.Command.TheVariants as command
use Rattle.rpc_machine.specs.declared.command.Granted.{Granted}
use Rattle.rpc_machine.specs.declared.command.Granted.TheVariants as granted
use Rattle.rpc_machine.specs.declared.command.Refusal.{Refusal}
use Rattle.rpc_machine.specs.declared.command.Refusal.TheVariants as refusal
use Rattle.rpc_machine.specs.declared.command.Effects.{Effects}
use Rattle.rpc_machine.specs.declared.entries.Reference.{Reference}
use Rattle.rpc_machine.specs.declared.node.Node.{Node}
use Rattle.rpc_machine.specs.State.{State}
use Rattle.rpc_machine.specs.Lists.{earliest}
use Rattle.rpc_machine.specs.Nodes.{settle}
use Rattle.rpc_machine.specs.Refusals.{is_shut}
use Rattle.rpc_machine.specs.Progress.{Progress, begin}
use Rattle.rpc_machine.specs.Commands.{Acts, ClonesRef, DropsRef, MakesCall, NamesField, ResolvesPromise, RejectsPromise, AnswersTask, FinishesCall, heads}
use Rattle.rpc_machine.specs.Advancing.{Known, NothingYet, IsBroken, Leads, known_of_wire, wire_target, Advances, AdvancesFrom, AdvancesTo, AdvancesBy, Embargoes}
use Rattle.rpc_machine.specs.Steps.{Obeys, Refuses, LacksMemory, GoesDown, Shuts, IsDone, MayFall}
use Rattle.rpc_machine.specs.World.{CommandTold}
use Rattle.link_sides.specs.Answer.{Answer}
use Rattle.link_sides.specs.Answer.TheVariants.{Done, Refused}
use Rattle.link_sides.specs.Told.{given_of, without_sends}
use Rattle.laws_merge.specs.Machine as weave
use Rattle.laws_runs.specs.Sides.{TakesStep}
use Rattle.link_rings.specs.Parties.{IsOf}
use Rattle.link_rings.specs.Ends.{IsSameEnd}
use Rattle.link_rings.specs.Entries.{Place}
use Rattle.link_rings.specs.Seats.{CommandsAt}
use Rattle.link_logs.specs.declared.note.Told.{Told}
use Rattle.link_logs.specs.declared.note.Told.TheVariants as told
use Rattle.link_logs.specs.declared.note.Note.{Note}
use Rattle.link_logs.specs.Notes.{input_by, sends_by, noted}
use Rattle.link_logs.specs.Steps.{Held, StepsSo, input_of, sends_of}
use Rattle.link_sides.specs.Sides.{down_by, AnswersBy, AnswersSo, IsQuiet, when_down}
use Rattle.link_ends.specs.Commands.{Grants, IsAnswer, IsNone, IsReference, IsCall, IsPromise, IsAdvanced}
use Rattle.link_ends.specs.Ends.{VatEnded, Takes}

-- ---- What a command grants

clones : (d new : Progress) (o : Option Reference) (g : Granted) → ClonesRef d o g new → IsReference g
clones d new None g h = absurd h
clones d new (Some x) g h = subst IsReference (sym h.0) tt

drops : (d new : Progress) (r : ℕ) (o : Option Reference) (g : Granted) → DropsRef d r o g new → IsNone g
drops d new r None g h = absurd h
drops d new r (Some x) g h = subst IsNone (sym h.0) tt

makes : (d new : Progress) (c : CallCommand) (o : Option Reference) (g : Granted) → MakesCall d c o g new → IsCall g
makes d new c None g h = absurd h
makes d new c (Some x) g h = subst IsCall (sym h.0) tt

names : (d new : Progress) (path : List Op) (o : Option OwnCall) (g : Granted) → NamesField d path o g new → IsReference g
names d new path None g h = absurd h
names d new path (Some from) g h = subst IsReference (sym h.0) tt

resolves : (d new : Progress) (p : ℕ) (o : Option ℕ) (x : Option Reference) (g : Granted) → ResolvesPromise d p o x g new → IsNone g
resolves d new p None x g h = absurd h
resolves d new p (Some key) None g h = absurd h
resolves d new p (Some key) (Some x) g h = subst IsNone (sym h.0) tt

rejects : (d new : Progress) (p : ℕ) (e : Exception) (o : Option ℕ) (g : Granted) → RejectsPromise d p e o g new → IsNone g
rejects d new p e None g h = absurd h
rejects d new p e (Some key) g h = subst IsNone (sym h.0) tt

answers : (d new : Progress) (t : ℕ) (v : Value) (o : Option ℕ) (g : Granted) → AnswersTask d t v o g new → IsNone g
answers d new t v None g h = absurd h
answers d new t v (Some o) g h = subst IsNone (sym h.0) tt

finishes : (d new : Progress) (c : ℕ) (o : Option OwnCall) (g : Granted) → FinishesCall d c o g new → IsNone g
finishes d new c None g h = absurd h
finishes d new c (Some from) g h = subst IsNone (sym h.0) tt

embargoes : (d new : Progress) (r : ℕ) (x : Reference) (t : Option Target) (n : Node) (g : Granted) → Embargoes d r x t n g new → IsAdvanced g
embargoes d new r x None n g h = absurd h
embargoes d new r x (Some t) n g h = subst IsAdvanced (sym h.0) tt

advances_by : (d new : Progress) (r : ℕ) (x : Reference) (w : Node) (said : Descriptor) (n : Node) (g : Granted) → AdvancesBy d r x w said n g new → IsAdvanced g
advances_by d new r x w descriptor.None n g h = absurd h
advances_by d new r x w (descriptor.SenderHosted e) n g h = subst IsAdvanced (sym h.0) tt
advances_by d new r x w (descriptor.SenderPromise e) n g h = subst IsAdvanced (sym h.0) tt
advances_by d new r x w (descriptor.ReceiverHosted e) n g h = embargoes d new r x (wire_target w) n g h
advances_by d new r x w (descriptor.ReceiverAnswer q path) n g h = embargoes d new r x (wire_target w) n g h

advances_to : (d new : Progress) (r : ℕ) (x : Reference) (w : Node) (k : Known) (g : Granted) → AdvancesTo d r x w k g new → IsAdvanced g
advances_to d new r x w NothingYet g h = subst IsAdvanced (sym h.0) tt
advances_to d new r x w (IsBroken reason) g h = subst IsAdvanced (sym h.0) tt
advances_to d new r x w (Leads said n) g (inl h) = subst IsAdvanced (sym h.1.0) tt
advances_to d new r x w (Leads said n) g (inr h) = advances_by d new r x w said n g h.1

advances_from : (d new : Progress) (r : ℕ) (x : Reference) (e : Option EmbargoId) (g : Granted) → AdvancesFrom d r x e g new → IsAdvanced g
advances_from d new r x (Some e) g h = subst IsAdvanced (sym h.0) tt
advances_from d new r x None g h = advances_to d new r x (settle d.state x.head) (known_of_wire d.state (settle d.state x.head)) g h

advances : (d new : Progress) (r : ℕ) (o : Option Reference) (g : Granted) → Advances d r o g new → IsAdvanced g
advances d new r None g h = absurd h
advances d new r (Some x) g h = advances_from d new r x x.embargo g h

acts_grant : (d new : Progress) (c : Command) (g : Granted) → Acts d c g new → Grants c g
acts_grant d new (command.Host o) g h = subst IsReference (sym h.0) tt
acts_grant d new (command.CloneRef r) g h = clones d new _ g h
acts_grant d new (command.DropRef r) g h = drops d new _ _ g h
acts_grant d new command.Bootstrap g h = subst IsCall (sym h.2) tt
acts_grant d new (command.Call c) g h = makes d new c _ g h
acts_grant d new (command.Field c path) g h = names d new path _ g h
acts_grant d new command.Promise g h = subst IsPromise (sym h.2) tt
acts_grant d new (command.Resolve p r) g h = resolves d new _ _ _ g h
acts_grant d new (command.Reject p exception) g h = rejects d new _ _ _ g h
acts_grant d new (command.Answer t payload refs) g h = answers d new t.0 (value.Results payload (heads d.state refs)) _ g h
acts_grant d new (command.Fail t exception) g h = answers d new t.0 (value.Exception exception) _ g h
acts_grant d new (command.Finish c) g h = finishes d new _ _ g h
acts_grant d new (command.Advance r) g h = advances d new _ _ g h
acts_grant d new (command.Shut n) g h = absurd h

fell : (c : Command) (g : Granted) → MayFall c → g ≡ granted.Done → Grants c g
fell (command.Resolve p r) g m e = subst IsNone (sym e) tt
fell (command.Reject p exception) g m e = subst IsNone (sym e) tt
fell (command.Answer t payload refs) g m e = subst IsNone (sym e) tt
fell (command.Fail t exception) g m e = subst IsNone (sym e) tt
fell (command.Host o) g m e = absurd m
fell (command.CloneRef r) g m e = absurd m
fell (command.DropRef r) g m e = absurd m
fell command.Bootstrap g m e = absurd m
fell (command.Call c) g m e = absurd m
fell (command.Field c path) g m e = absurd m
fell command.Promise g m e = absurd m
fell (command.Finish c) g m e = absurd m
fell (command.Advance r) g m e = absurd m
fell (command.Shut n) g m e = absurd m

obeys_grant : (s t : State) (c : Command) (g : Granted) (x : Effects) → Obeys s c (Ok g) x t → Grants c g
obeys_grant s t c g x (Refuses r f e u) = absurd (let h : Ok g ≡ Err r = e in cc)
obeys_grant s t c g x (LacksMemory f m e u) = absurd (let h : Ok g ≡ Err refusal.Memory = e in cc)
obeys_grant s t c g x (GoesDown f m e u) = fell c g m (let k : Ok g ≡ Ok granted.Done = e in cc)
obeys_grant s t c g x (Shuts n e a u) = subst (λ (k : Command). Grants k g) (sym e) (subst IsNone (let k : Ok g ≡ Ok granted.Done = a in let f : granted.Done ≡ g = cc in f) tt)
obeys_grant s t c g x (IsDone given f e h w) = subst (λ (k : Granted). Grants c k) (let k : Ok g ≡ Ok given = e in let f : given ≡ g = cc in f) (acts_grant (begin s) h.acted c given h.acts)

-- ---- A shut is not refused

no_check : (o : Option ℕ) (r : Refusal) → earliest (if_so (is_some o && false) refusal.Down ∷ if_so false refusal.Full ∷ []) ≡ Some r → ⊥
no_check None r h = let f : None ≡ Some r = h in cc
no_check (Some n) r h = let f : None ≡ Some r = h in cc

shut_done : (s t : State) (n : ℕ) (r : Refusal) (x : Effects) → Obeys s (command.Shut n) (Err r) x t → ⊥
shut_done s t n r x (Refuses q f e u) = no_check s.down q f
shut_done s t n r x (LacksMemory f m e u) = absurd m
shut_done s t n r x (GoesDown f m e u) = absurd m
shut_done s t n r x (Shuts m e a u) = let h : Err r ≡ Ok granted.Done = a in cc
shut_done s t n r x (IsDone given f e h w) = let k : Err r ≡ Ok given = e in cc

no_shut : (s t : State) (c : Command) (r : Refusal) (x : Effects) → Obeys s c (Err r) x t → is_shut c ≡ false
no_shut s t (command.Shut n) r x h = absurd (shut_done s t n r x h)
no_shut s t (command.Host o) r x h = refl
no_shut s t (command.CloneRef q) r x h = refl
no_shut s t (command.DropRef q) r x h = refl
no_shut s t command.Bootstrap r x h = refl
no_shut s t (command.Call c) r x h = refl
no_shut s t (command.Field c path) r x h = refl
no_shut s t command.Promise r x h = refl
no_shut s t (command.Resolve p q) r x h = refl
no_shut s t (command.Reject p exception) r x h = refl
no_shut s t (command.Answer i payload refs) r x h = refl
no_shut s t (command.Fail i exception) r x h = refl
no_shut s t (command.Finish c) r x h = refl
no_shut s t (command.Advance q) r x h = refl

-- ---- What is answered

quiet_still : (c : Command) (x : Effects) → IsQuiet c x → IsQuiet c (without_sends x)
quiet_still (command.Host o) x q = ap without_sends q
quiet_still (command.CloneRef r) x q = ap without_sends q
quiet_still (command.Field c path) x q = ap without_sends q
quiet_still command.Promise x q = ap without_sends q
quiet_still (command.DropRef r) x q = tt
quiet_still command.Bootstrap x q = tt
quiet_still (command.Call c) x q = tt
quiet_still (command.Resolve p r) x q = tt
quiet_still (command.Reject p exception) x q = tt
quiet_still (command.Answer t payload refs) x q = tt
quiet_still (command.Fail t exception) x q = tt
quiet_still (command.Finish c) x q = tt
quiet_still (command.Advance r) x q = tt
quiet_still (command.Shut n) x q = tt

of_step : (s t : State) (c : Command) (r : Result Granted Refusal) (x : Effects) (a : Answer) → Obeys s c r x t → IsQuiet c x → a ≡ given_of c r x → IsAnswer c a
of_step s t c (Ok g) x a k q h = subst (λ (b : Answer). IsAnswer c b) (sym h) (obeys_grant s t c g x k, quiet_still c x q)
of_step s t c (Err r) x a k q h = subst (λ (b : Answer). IsAnswer c b) (sym h) (refl, no_shut s t c r x k)

told_so : (s t : State) (c : Command) (r : Result Granted Refusal) (x : Effects) (room : Bool) → room ≡ true → CommandTold s c r x room t → Obeys s c r x t
told_so s t c r x room e h =
    let k : CommandTold s c r x true t = subst (λ (b : Bool). CommandTold s c r x b t) e h in
    subst (λ (u : State). Obeys s c r x u) (sym k.5.1) (subst (λ (y : Effects). Obeys s c r y k.2) (sym k.5.0) (subst (λ (q : Result Granted Refusal). Obeys s c q k.1 k.2) (sym k.4) k.3))

of_told : (old new : Held) (n : Note) (t : Told) (c : Command) (a : Answer) → n.told ≡ t → StepsSo old n new → IsOf c (input_by t) → AnswersBy c t a → IsAnswer c a
of_told old new n (told.Obeyed d r e room) c a is s of h =
    let k : TakesStep old.core (weave.Command d.value) (noted (told.Obeyed d r e room)) e.value.sends new.core = subst (λ (x : Told). TakesStep old.core (input_by x) (noted x) (sends_by x) new.core) is s.takes in
    of_step old.core new.core c r.value e.value a (subst (λ (x : Command). Obeys old.core x r.value e.value new.core) of (told_so old.core new.core d.value r.value e.value room h.0 k.1.0)) h.1 h.2
of_told old new n (told.Shut e) c a is s of h = subst (λ (b : Answer). IsAnswer c b) (sym h.1) (refl, h.0)
of_told old new n (told.Received m e room) c a is s of h = absurd h

while_down : (c : Command) → IsAnswer c (when_down c)
while_down (command.Shut n) = (tt, tt)
while_down (command.Host o) = (refl, refl)
while_down (command.CloneRef r) = (refl, refl)
while_down (command.DropRef r) = (refl, refl)
while_down command.Bootstrap = (refl, refl)
while_down (command.Call c) = (refl, refl)
while_down (command.Field c path) = (refl, refl)
while_down command.Promise = (refl, refl)
while_down (command.Resolve p r) = (refl, refl)
while_down (command.Reject p exception) = (refl, refl)
while_down (command.Answer t payload refs) = (refl, refl)
while_down (command.Fail t exception) = (refl, refl)
while_down (command.Finish c) = (refl, refl)
while_down (command.Advance r) = (refl, refl)

pub answered : (d : Option ℕ) (old new : Place Held Message Note) (c : Command) (a : Answer) → CommandsAt down_by input_of sends_of StepsSo AnswersSo (λ c a. a ≡ when_down c) d old c a new → IsAnswer c a
answered None old new c a h = of_told old.state new.state h.entry.note h.entry.note.told c a refl h.logs.logs.is_step h.logs.is_of h.answered
answered (Some n) old new c a h = subst (λ (b : Answer). IsAnswer c b) (sym h.0) (while_down c)

-- ---- By what is answered

pub of_done : (c : Command) (a : Answer) (g : Granted) (x : Effects) → a ≡ Done g x → IsAnswer c a → Grants c g × IsQuiet c x
of_done c a g x e h = subst (λ (b : Answer). IsAnswer c b) e h

pub of_refused : (c back : Command) (a : Answer) (r : Refusal) → a ≡ Refused r back → IsAnswer c a → (back ≡ c) × (is_shut c ≡ false)
of_refused c back a r e h = subst (λ (b : Answer). IsAnswer c b) e h

pub none_is : (g : Granted) → IsNone g → g ≡ granted.Done
none_is granted.Done h = refl
none_is (granted.Reference r) h = absurd h
none_is (granted.Call c) h = absurd h
none_is (granted.Promise p r) h = absurd h
none_is (granted.Advanced a) h = absurd h

pub takes_done : (old mid new : VatEnded) (c : Command) (a : Answer) (g h : Granted) (x y : Effects) → a ≡ Done g x → g ≡ h → x ≡ y → new ≡ mid → Takes old c a mid → Takes old c (Done h y) new
takes_done old mid new c a g h x y e f k same t =
    subst (λ (z : VatEnded). Takes old c (Done h y) z) (sym same) (subst (λ (b : Answer). Takes old c b mid) (e ∙ ap (λ (u : Granted). Done u x) f ∙ ap (λ (z : Effects). Done h z) k) t)

pub takes_refused : (old new : VatEnded) (c back : Command) (a : Answer) (r : Refusal) → a ≡ Refused r back → back ≡ c → Takes old c a new → Takes old c (Refused r c) new
takes_refused old new c back a r e f t = subst (λ (b : Answer). Takes old c b new) (e ∙ ap (λ (k : Command). Refused r k) f) t

pub same_after : (old mid new : VatEnded) → new ≡ mid → IsSameEnd old mid → IsSameEnd old new
same_after old mid new e h = subst (λ (z : VatEnded). IsSameEnd old z) (sym e) h
