-- What arises within a step is exceptions: of calls that went to broken nodes. Results come with a command or a message.
use Rattle.std.proofs.Common.{ℕ, Option, None, Some, List, [], ◌∷◌, ◌++◌, subst}
use Rattle.std.specs.FinMap as map
use Rattle.laws_acts.specs.rpc_msg.specs.declared.exception.Exception.{Exception}
use Rattle.laws_acts.specs.rpc_msg.specs.declared.parts.Target.{Target}
use Rattle.laws_acts.specs.rpc_msg.specs.declared.message.Call.{Call}
use Rattle.laws_acts.specs.rpc_msg.specs.declared.message.DisembargoContext.{DisembargoContext}
use Rattle.laws_acts.specs.rpc_msg.specs.declared.message.DisembargoContext.TheVariants.{SenderLoopback, ReceiverLoopback}
use Rattle.laws_acts.specs.rpc_msg.specs.declared.message.PlainMessage.TheVariants as plain
use Rattle.laws_acts.specs.rpc_machine.specs.declared.calls.Value.{Value}
use Rattle.laws_acts.specs.rpc_machine.specs.declared.calls.Value.TheVariants as value
use Rattle.laws_acts.specs.rpc_machine.specs.declared.calls.OwnCall.{OwnCall}
use Rattle.laws_acts.specs.rpc_machine.specs.declared.calls.WaitingCall.{WaitingCall}
use Rattle.laws_acts.specs.rpc_machine.specs.declared.entries.Embargo.{Embargo}
use Rattle.laws_acts.specs.rpc_machine.specs.declared.command.Command.{Command}
use Rattle.laws_acts.specs.rpc_machine.specs.declared.command.Granted.{Granted}
use Rattle.laws_acts.specs.rpc_machine.specs.declared.node.Node.{Node}
use Rattle.laws_acts.specs.rpc_machine.specs.State.{State}
use Rattle.laws_acts.specs.rpc_machine.specs.Progress.{Progress, begin, with_state}
use Rattle.laws_acts.specs.rpc_machine.specs.Descriptors.{take_all, taken_of}
use Rattle.laws_acts.specs.rpc_machine.specs.Routing.{RoutesAll}
use Rattle.laws_acts.specs.rpc_machine.specs.Settling.{SettlesOutcome, TellsCall}
use Rattle.laws_acts.specs.rpc_machine.specs.Commands as commands
use Rattle.laws_acts.specs.rpc_machine.specs.Messages.{opened, received_request, TakesPlain, TakesDisembargo, Bounces, Lifts}
use Rattle.laws_acts.specs.rpc_machine.specs.Faults.{target_node}
use Rattle.laws_acts.specs.Moments.{Moment, beginning, at_rest}
use Rattle.laws_acts.specs.FirstActs.{Starts}
use Rattle.laws_acts.specs.FirstActs as first
use Rattle.laws_acts.specs.SmallActs.{Act, Acts}
use Rattle.laws_acts.specs.SmallActs as act
use Rattle.laws_acts.proofs.Pieces.{routes, routes_all, settles}
use Rattle.laws_acts.proofs.Commanded.{begun}
use Rattle.laws_acts.proofs.EachStep.{kept}

abbrev pub IsException : Value → Type 0
IsException (value.Results payload caps) = ⊥
IsException (value.Exception exception) = Unit {0}

abbrev pub AllExceptions : List (ℕ × Value) → Type 0
AllExceptions [] = Unit {0}
AllExceptions (x ∷ xs) = IsException x.1 × AllExceptions xs

pub one_more : (xs : List (ℕ × Value)) (o : ℕ) (e : Exception) → AllExceptions xs → AllExceptions (xs ++ (o, value.Exception e) ∷ [])
one_more [] o e h = (tt, tt)
one_more (x ∷ xs) o e h = (h.0, one_more xs o e h.1)

abbrev Fine : Moment → Type 0
Fine d = AllExceptions d.arisen

acted : (d new : Moment) → Fine d → Act d new → Fine new
acted d new i (act.Delivers c n rest u e f h) = rw h i
acted d new i (act.Waits c n rest p calls e f j h) = rw h i
acted d new i (act.Holds c n rest u path x e f j h) = rw h i
acted d new i (act.Relays c n rest q t ds es e f j k h) = rw h i
acted d new i (act.Breaks c n rest reason e f h) = rw h (one_more d.arisen c.outcome _ i)
acted d new i (act.NextArisen u v rest e f h) = let k = subst AllExceptions f i in rw h k.1
acted d new i (act.Knows u v fit x ps e f j k h) = rw h i
acted d new i (act.Reports c v from e f h) = rw h i
acted d new i (act.TellsNobody c v e f h) = rw h i
acted d new i (act.MakesReturn q v x b ds es e f j k h) = rw h i
acted d new i (act.SendsReturn x y e f j h) = rw h i
acted d new i (act.Clears x e f h) = rw h i
acted d new i (act.Lists x e h) = rw h i
acted d new i (act.SendsResolve x rest k es e w f h) = rw h i
acted d new i (act.SendsBroken x rest reason e f h) = rw h i
acted d new i (act.PromiseGoes p to w e f h) = rw h i
acted d new i (act.OutcomeGoes u x v w e f j k l h) = rw h i
acted d new i (act.ImportGoes k x w e f h) = rw h i
acted d new i (act.Sweeps over e f j h) = rw h i
acted d new i (act.SendsFinish q x rest e f j k l h) = rw h i
acted d new i (act.Closes q x rest e f j k l h) = rw h i
acted d new i (act.Releases w e f h) = rw h i

-- If all outcomes that arose before were exceptions, all are.
all : (last d : Moment) → Acts last d → Fine d → Fine last
all last d h i = kept Fine acted last d h i

started : (s : State) (c : Command) (g : Granted) (new : Moment) → Starts (beginning s) c g new → Fine new
started s c g new (first.Hosts o e a h) = rw h tt
started s c g new (first.Clones r x e f a h) = rw h tt
started s c g new (first.Drops r x e f a h) = rw h tt
started s c g new (first.AsksRoot q e f a h) = rw h tt
started s c g new (first.CallsOut k x q t ds es e f j w l m a h) = rw h tt
started s c g new (first.CallsHere k x u e f j w l a h) = rw h tt
started s c g new (first.CallsLater k x u z b e f j l m a h) = rw h tt
started s c g new (first.NamesField k path from e f a h) = rw h tt
started s c g new (first.Promises p e f a h) = rw h tt
started s c g new (first.Fixes p r x key calls e f j k a h) = rw h tt
started s c g new (first.Rejects p why key calls e f j a h) = rw h tt
started s c g new (first.Answers t payload refs u e f a h) = rw h tt
started s c g new (first.Fails t why u e f a h) = rw h tt
started s c g new (first.Finishes k from e f a h) = rw h tt
started s c g new (first.StaysPut r x e f a h) = rw h tt
started s c g new (first.Breaks r x reason e f j k a h) = rw h tt
started s c g new (first.Switches r x by n e f j k l m a h) = rw h tt
started s c g new (first.Turns r x by n t k e f j l m w u v a h) = rw h tt

-- ---- Of the pieces of a step

pub act_arises : (s : State) (c : Command) (g : Granted) (new : Progress) → commands.Acts (begin s) c g new → AllExceptions new.arisen
act_arises s c g new h = let k = begun s c g new h in all (at_rest new) k.0 k.2 (started s c g k.0 k.1)

pub first_arises : (d : Progress) (o : ℕ) (v : Value) (new : Progress) → SettlesOutcome d o v new → AllExceptions d.arisen → AllExceptions new.arisen
first_arises d o v new h i = all (at_rest new) _ (settles d o v new h) i

pub call_arises : (d : Progress) (c : Call) (new : Progress) → TakesPlain d (plain.Call c) new → AllExceptions d.arisen → AllExceptions new.arisen
call_arises d c new h i =
    let mid = with_state d (opened (take_all d.state c.descriptors) c.question.0 h.0 (taken_of d.state c.descriptors)) in
    let w : WaitingCall = record { request = received_request d.state c; outcome = h.0 } in
    all _ _ (routes (at_rest mid) w (target_node d.state c.target) [] new h.2) i

routed : (d : Progress) (cs : List WaitingCall) (n : Node) (new : Progress) → RoutesAll d cs n new → AllExceptions d.arisen → AllExceptions new.arisen
routed d cs n new h i = all _ _ (routes_all (at_rest d) cs n new h) i

pub disembargo_arises : (d : Progress) (to : Target) (c : DisembargoContext) (new : Progress) → TakesDisembargo d to c new → AllExceptions d.arisen → AllExceptions new.arisen
disembargo_arises d to (SenderLoopback x) new h i = bounces _ h
  where
    bounces : (o : Option Target) → Bounces d x o new → AllExceptions new.arisen
    bounces None h = absurd h
    bounces (Some to) h = rw h i
disembargo_arises d to (ReceiverLoopback x) new h i = lifts (map.get d.state.embargoes x.0) h
  where
    lifts : (o : Option Embargo) → Lifts d x.0 o new → AllExceptions new.arisen
    lifts None h = absurd h
    lifts (Some b) h = routed _ b.waiting b.node new h i

pub told_arises : (d : Progress) (c : ℕ) (v : Value) (o : Option OwnCall) (new : Progress) → TellsCall d c v o new → AllExceptions d.arisen → AllExceptions new.arisen
told_arises d c v None new h i = rw h i
told_arises d c v (Some from) new h i = rw h i
