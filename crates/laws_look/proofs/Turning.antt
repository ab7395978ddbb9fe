-- What a vat turns with a Disembargo is known to lead on: at most the first message of a command does so.
use Rattle.std.proofs.Common.{◌≡◌, ℕ, List, [], ◌∷◌, ◌++◌, Option, None, Some, refl, sym, ap, subst}
use Rattle.std.specs.FinMap as map
use Rattle.rpc_msg.specs.declared.parts.Descriptor.{Descriptor}
use Rattle.rpc_msg.specs.declared.parts.Target.{Target}
use Rattle.rpc_msg.specs.declared.parts.Target.TheVariants.{ImportedCap, PromisedAnswer}
use Rattle.rpc_msg.specs.declared.message.DisembargoContext.{DisembargoContext}
use Rattle.rpc_msg.specs.declared.message.DisembargoContext.TheVariants.{SenderLoopback, ReceiverLoopback}
use Rattle.rpc_msg.specs.declared.message.PlainMessage.{PlainMessage}
use Rattle.rpc_msg.specs.declared.message.PlainMessage.TheVariants as plain
use Rattle.rpc_msg.specs.declared.message.Message.{Message}
use Rattle.rpc_msg.specs.declared.message.Message.TheVariants as wire
use Rattle.rpc_machine.specs.declared.command.Command.{Command}
use Rattle.rpc_machine.specs.declared.command.Granted.{Granted}
use Rattle.rpc_machine.specs.declared.command.Effects.{Effects}
use Rattle.rpc_machine.specs.declared.node.Node.{Node}
use Rattle.rpc_machine.specs.declared.node.Node.TheVariants as node
use Rattle.rpc_machine.specs.State.{State}
use Rattle.rpc_machine.specs.Nodes.{settle}
use Rattle.rpc_machine.specs.Advancing.{Leads, known_of_wire, wire_target}
use Rattle.rpc_machine.specs.Faults.{fault_of}
use Rattle.rpc_machine.specs.Steps.{Does, Handles}
use Rattle.laws_acts.specs.Moments.{Moment, beginning}
use Rattle.laws_acts.specs.FirstActs.{Starts}
use Rattle.laws_acts.specs.FirstActs as first
use Rattle.laws_acts.specs.MessageActs.{Consumes}
use Rattle.laws_acts.specs.MessageActs as message
use Rattle.laws_acts.specs.SmallActs.{Act, Acts, release_messages}
use Rattle.laws_acts.specs.SmallActs as act
use Rattle.laws_acts.proofs.Commanded.{does}
use Rattle.laws_acts.proofs.Received.{handles}
use Rattle.laws_acts.proofs.EachStep.{kept}
use Rattle.laws_messages.specs.Mentions.{wire as wire_node}

abbrev pub turned_to : Target → DisembargoContext → Option Target
turned_to t (SenderLoopback x) = Some t
turned_to t (ReceiverLoopback x) = None

-- The target of a Disembargo that begins.
abbrev pub turn_in : PlainMessage → Option Target
turn_in (plain.Abort x) = None
turn_in (plain.Bootstrap q) = None
turn_in (plain.Call c) = None
turn_in (plain.Return r) = None
turn_in (plain.Finish f) = None
turn_in (plain.Resolve r) = None
turn_in (plain.Release r) = None
turn_in (plain.Disembargo d) = turned_to d.target d.context
turn_in (plain.Other n) = None

abbrev pub turn_of : Message → Option Target
turn_of (wire.Plain m) = turn_in m
turn_of (wire.Unimplemented m) = None

abbrev pub IfTurn : (Target → Type 0) → Option Target → Type 0
IfTurn P None = Unit {0}
IfTurn P (Some t) = P t

abbrev pub NoTurns : List Message → Type 0
NoTurns [] = Unit {0}
NoTurns (m ∷ ms) = (turn_of m ≡ None) × NoTurns ms

-- Only the first one may.
abbrev pub OneTurn : (Target → Type 0) → List Message → Type 0
OneTurn P [] = Unit {0}
OneTurn P (m ∷ ms) = IfTurn P (turn_of m) × NoTurns ms

-- What is known of the wire leads on.
abbrev pub IsKnown : State → Target → Type 0
IsKnown s t = (by : Descriptor) × (n : Node) × (known_of_wire s (wire_node t) ≡ Leads by n)

no_more : (xs ys : List Message) → NoTurns xs → NoTurns ys → NoTurns (xs ++ ys)
no_more [] ys h g = g
no_more (x ∷ xs) ys h g = (h.0, no_more xs ys h.1 g)

module _ (P : Target → Type 0) where
  one_more : (xs ys : List Message) → OneTurn P xs → NoTurns ys → OneTurn P (xs ++ ys)
  one_more [] [] h g = tt
  one_more [] (y ∷ ys) h g = (subst (IfTurn P) (sym g.0) tt, g.1)
  one_more (x ∷ xs) ys h g = (h.0, no_more xs ys h.1 g)

  abbrev At : Moment → Type 0
  At d = OneTurn P d.effects.sends

  quiet : (xs : List (ℕ × ℕ)) → NoTurns (release_messages xs)
  quiet [] = tt
  quiet (x ∷ xs) = (refl, quiet xs)

  acted : (d new : Moment) → At d → Act d new → At new
  acted d new i (act.Delivers c n rest o f g h) = rw h i
  acted d new i (act.Waits c n rest q calls f g j h) = rw h i
  acted d new i (act.Holds c n rest o path x f g j h) = rw h i
  acted d new i (act.Breaks c n rest reason f g h) = rw h i
  acted d new i (act.Relays c n rest q t ds es f g j k h) = rw h (one_more d.effects.sends _ i (refl, tt))
  acted d new i (act.NextArisen o v rest f g h) = rw h i
  acted d new i (act.Knows o v fit x ps f g j k h) = rw h i
  acted d new i (act.Reports c v from f g h) = rw h i
  acted d new i (act.TellsNobody c v f g h) = rw h i
  acted d new i (act.MakesReturn q v x b ds es f g j k h) = rw h i
  acted d new i (act.SendsReturn x y f g j h) = rw h (one_more d.effects.sends _ i (refl, tt))
  acted d new i (act.Clears x f j h) = rw h i
  acted d new i (act.Lists x f h) = rw h i
  acted d new i (act.SendsResolve x rest k es f j g h) = rw h (one_more d.effects.sends _ i (refl, tt))
  acted d new i (act.SendsBroken x rest reason f j h) = rw h (one_more d.effects.sends _ i (refl, tt))
  acted d new i (act.PromiseGoes q to c f g h) = rw h i
  acted d new i (act.OutcomeGoes k x v c f g j l m h) = rw h i
  acted d new i (act.ImportGoes k x c f g h) = rw h i
  acted d new i (act.Sweeps over f g j h) = rw h i
  acted d new i (act.SendsFinish q x rest f g j k l h) = rw h (one_more d.effects.sends _ i (refl, tt))
  acted d new i (act.Closes q x rest f g j k l h) = rw h i
  acted d new i (act.Releases c f g h) = rw h (one_more d.effects.sends _ i (quiet (map.entries d.released)))

  walked : (from last : Moment) → Acts last from → At from → At last
  walked from last acts h = kept At acted last from acts h

wire_of : (w : Node) (t : Target) → wire_target w ≡ Some t → w ≡ wire_node t
wire_of (node.Object o) t e = absurd (let bad : None ≡ Some t = e in cc)
wire_of (node.Promise p) t e = absurd (let bad : None ≡ Some t = e in cc)
wire_of (node.Field o path) t e = absurd (let bad : None ≡ Some t = e in cc)
wire_of (node.Import i) t e = let same : ImportedCap i ≡ t = cc in ap wire_node same
wire_of (node.Pipe q path) t e = let same : PromisedAnswer q path ≡ t = cc in ap wire_node same
wire_of (node.Broken reason) t e = absurd (let bad : None ≡ Some t = e in cc)

starts : (s : State) (c : Command) (g : Granted) (new : Moment) → Starts (beginning s) c g new → At (IsKnown s) new
starts s c g new (first.Hosts o f i h) = rw h tt
starts s c g new (first.Clones r x f i j h) = rw h tt
starts s c g new (first.Drops r x f i j h) = rw h tt
starts s c g new (first.CallsHere y x o f i j l m n h) = rw h tt
starts s c g new (first.CallsLater y x o d b f i j l m n h) = rw h tt
starts s c g new (first.NamesField y path from f i j h) = rw h tt
starts s c g new (first.Promises p f i j h) = rw h tt
starts s c g new (first.Fixes p r x key calls f i j l m h) = rw h tt
starts s c g new (first.Rejects p why key calls f i j l h) = rw h tt
starts s c g new (first.Answers t payload refs o f i j h) = rw h tt
starts s c g new (first.Fails t why o f i j h) = rw h tt
starts s c g new (first.Finishes y from f i j h) = rw h tt
starts s c g new (first.StaysPut r x f i j h) = rw h tt
starts s c g new (first.Breaks r x reason f i j l m h) = rw h tt
starts s c g new (first.Switches r x by n f i j l m o q h) = rw h tt
starts s c g new (first.AsksRoot q f i j h) = rw h (tt, tt)
starts s c g new (first.CallsOut y x q t ds es f i j l m n o h) = rw h (tt, tt)
starts s c g new (first.Turns r x by n t d f i j l m o q u v h) = rw h ((by, n, subst (λ (w : Node). known_of_wire s w ≡ Leads by n) (wire_of (settle s x.head) t q) l), tt)

abbrev Never : Target → Type 0
Never t = ⊥

takes : (s : State) (m : Message) (new : Moment) → Consumes (beginning s) m new → At Never new
takes s m new (message.OpensRoot q o f i j h) = rw h tt
takes s m new (message.OpensCall c o f i j h) = rw h tt
takes s m new (message.Loses b x f i j l h) = rw h tt
takes s m new (message.ComesToCall b x c f i j l o h) = rw h tt
takes s m new (message.ComesToRelay b x o f i j l n h) = rw h tt
takes s m new (message.IsFinished x y f i j h) = rw h tt
takes s m new (message.IsResolved r f h) = rw h tt
takes s m new (message.IsReleased r f h) = rw h tt
takes s m new (message.SendsBack t to x f i h) = rw h (tt, tt)
takes s m new (message.Lifts t x b f i h) = rw h tt
takes s m new (message.SendsForeign p f i h) = rw h (tt, tt)
takes s m new (message.SendsOther n f h) = rw h (tt, tt)
takes s m new (message.TakesBack r f h) = rw h tt
takes s m new (message.Ignores r f h) = rw h tt

pub commands : (s : State) (c : Command) (g : Granted) (x : Effects) (t : State) → Does s c g x t → OneTurn (IsKnown s) x.sends
commands s c g x t h =
    let k = does s c g x t h in
    subst (λ (y : Effects). OneTurn (IsKnown s) y.sends) (sym k.ends.effects) (walked (IsKnown s) k.started k.last k.acts (starts s c g k.started k.starts))

none_turns : (ms : List Message) → OneTurn Never ms → NoTurns ms
none_turns [] h = tt
none_turns (m ∷ ms) h = (by (turn_of m) h.0, h.1)
  where
    by : (o : Option Target) → IfTurn Never o → o ≡ None
    by None h = refl
    by (Some t) h = absurd h

pub messages : (s : State) (m : Message) (x : Effects) (t : State) → fault_of s m ≡ None → Handles s m x t → NoTurns x.sends
messages s m x t free h =
    let k = handles s m x t free h in
    subst (λ (y : Effects). NoTurns y.sends) (sym k.ends.effects) (none_turns k.last.effects.sends (walked Never k.consumed k.last k.acts (takes s m k.consumed k.consumes)))
