-- What a step names on the wire is there when it is named: the imports that are targets or that descriptors name, and
-- the questions whose answers they name. This is no property of any acts, but of those of a step.
use Rattle.std.specs.Prelude.{Option, None, Some, List, [], ◌∷◌, ◌≡◌}
use Rattle.rpc_msg.specs.declared.parts.Target.{Target}
use Rattle.rpc_msg.specs.declared.parts.Target.TheVariants.{ImportedCap, PromisedAnswer}
use Rattle.rpc_msg.specs.declared.message.DisembargoContext.{DisembargoContext}
use Rattle.rpc_msg.specs.declared.message.DisembargoContext.TheVariants.{SenderLoopback, ReceiverLoopback}
use Rattle.rpc_msg.specs.declared.message.PlainMessage.{PlainMessage}
use Rattle.rpc_machine.specs.declared.node.Node.{Node}
use Rattle.rpc_machine.specs.State.{State}
use Rattle.rpc_machine.specs.Nodes.{settle}
use Rattle.rpc_machine.specs.Progress.{Progress, caps_of, begin}
use Rattle.rpc_machine.specs.Settling.{known}
use Rattle.laws_steps.specs.NodesThere.{Stands, IsReached}
use Rattle.laws_acts.specs.Acts.{Act, Makes, Drops, AsksRoot, CallsOut, Keeps, Joins, Promises, Unsettles, Answers, Finishes, Heads, Turns, Delivers, Waits, Holds, Relays, Fails, Fixes, Settles, Reports, Resolves, NextArisen, Gone, Ends, Releases, TurnsBy, Consumes, Acts, NoMore, Then}
use Rattle.rpc_machine.specs.declared.command.Level.TheVariants.{One}
use Rattle.rpc_machine.specs.Faults.{fault_of}
use Rattle.rpc_machine.specs.declared.command.Command.{Command}
use Rattle.rpc_machine.specs.declared.command.Granted.{Granted}
use Rattle.rpc_machine.specs.declared.command.Effects.{Effects}
use Rattle.rpc_machine.specs.Steps.{staying_up, Does, Handles}
use Rattle.rpc_msg.specs.declared.parts.Descriptor.{Descriptor}
use Rattle.rpc_machine.specs.Descriptors.{DescribesAll}
use Rattle.rpc_msg.specs.declared.message.PlainMessage.TheVariants as plain
use Rattle.rpc_machine.specs.declared.node.Node.TheVariants as node
use Rattle.std.specs.FinMap as map
use Rattle.rpc_msg.specs.declared.message.Message.TheVariants as message
use Rattle.rpc_msg.specs.declared.parts.Descriptor.TheVariants as descriptor

-- Where each of these nodes settles stands: an import is there; so is a question, and its Finish was not sent.
abbrev pub AllStand : State → List Node → Type 0
AllStand s [] = Unit {0}
AllStand s (n ∷ ns) = Stands s (settle s n) × AllStand s ns

abbrev pub wire : Target → Node
wire (ImportedCap e) = node.Import e
wire (PromisedAnswer q path) = node.Pipe q path

abbrev pub TargetStands : State → Option Target → Type 0
TargetStands s None = Unit {0}
TargetStands s (Some t) = Stands s (wire t)

abbrev pub Names : {d new : Progress} → Act d new → Type 0
Names {d} (Makes n h) = Unit {0}
Names {d} (Drops r x there h) = Unit {0}
Names {d} (AsksRoot g h) = Unit {0}
Names {d} (CallsOut r x c q t there h) = TargetStands d.state (Some t) × AllStand d.state q.caps
Names {d} (Keeps r x c o there free h) = Unit {0}
Names {d} (Joins w e b there h) = Unit {0}
Names {d} (Promises p free h) = Unit {0}
Names {d} (Unsettles p h) = Unit {0}
Names {d} (Answers t h) = Unit {0}
Names {d} (Finishes c h) = Unit {0}
Names {d} (Heads r x n there free h) = Unit {0}
Names {d} (Turns r x t n g there free h) = TargetStands d.state t
Names {d} (Delivers c o h) = Unit {0}
Names {d} (Waits p calls c there h) = Unit {0}
Names {d} (Holds o x w there h) = Unit {0}
Names {d} (Relays q o t r h) = TargetStands d.state (Some t) × AllStand d.state r.caps
Names {d} (Fails o v h) = Unit {0}
Names {d} (Fixes p calls to there h) = Unit {0}
Names {d} (Settles o x v fit mid told there unknown f t e) = AllStand (known mid o x.caller x.waiting fit) (caps_of fit)
Names {d} (Reports c v from there h) = Unit {0}
Names {d} (Resolves e told n h) = Stands d.state (settle d.state (settle d.state n))
Names {d} (NextArisen o v rest e h) = Unit {0}
Names {d} (Gone h) = Unit {0}
Names {d} (Ends q x there due h) = Unit {0}
Names {d} (Releases h) = Unit {0}

abbrev pub AllName : {last d : Progress} → Acts last d → Type 0
AllName NoMore = Unit {0}
AllName (Then a rest) = Names a × AllName rest

-- A Disembargo that comes back goes to a wire.
abbrev pub NamesTurned : (d first : Progress) (c : DisembargoContext) → TurnsBy d c first → Type 0
NamesTurned d first (SenderLoopback x) h = Stands d.state (wire h.0)
NamesTurned d first (ReceiverLoopback x) h = Unit {0}

abbrev pub NamesAtOnce : (d first : Progress) (m : PlainMessage) → Consumes m d first → Type 0
NamesAtOnce d first (plain.Abort x) h = Unit {0}
NamesAtOnce d first (plain.Bootstrap q) h = Unit {0}
NamesAtOnce d first (plain.Call c) h = Unit {0}
NamesAtOnce d first (plain.Return r) h = Unit {0}
NamesAtOnce d first (plain.Finish f) h = Unit {0}
NamesAtOnce d first (plain.Resolve r) h = Unit {0}
NamesAtOnce d first (plain.Release r) h = Unit {0}
NamesAtOnce d first (plain.Disembargo x) h = NamesTurned d first x.context h
NamesAtOnce d first (plain.Other n) h = Unit {0}

-- ---- What descriptors name

abbrev pub IsNamed : State → Descriptor → Type 0
IsNamed s descriptor.None = Unit {0}
IsNamed s (descriptor.SenderHosted e) = Unit {0}
IsNamed s (descriptor.SenderPromise e) = Unit {0}
IsNamed s (descriptor.ReceiverHosted e) = Stands s (node.Import e)
IsNamed s (descriptor.ReceiverAnswer q path) = Stands s (node.Pipe q path)

abbrev pub AreNamed : State → List Descriptor → Type 0
AreNamed s [] = Unit {0}
AreNamed s (d ∷ ds) = IsNamed s d × AreNamed s ds

abbrev pub DescriptorsStand : Type 0
DescriptorsStand = (s : State) (ns : List Node) (ds : List Descriptor) (new : State) → AllStand s ns → DescribesAll s ns ds new → AreNamed s ds

-- ---- Steps

abbrev pub NamingActs : Progress → Effects → State → Type 0
NamingActs d x t = (last : Progress) × (list : Acts last d) × AllName list × (x ≡ staying_up last.effects) × (t ≡ last.state) × (last.released ≡ map.empty)

pub record MentionsStand : Type 0 where
  pub commands : (s : State) (c : Command) (g : Granted) (x : Effects) (t : State) → IsReached s → Does s c g x t → NamingActs (begin s) x t
  pub messages : (s : State) (m : PlainMessage) (x : Effects) (t : State) → IsReached s → s.level ≡ One → fault_of s (message.Plain m) ≡ None → Handles s (message.Plain m) x t
      → (first : Progress) × (h : Consumes m (begin s) first) × NamesAtOnce (begin s) first m h × NamingActs first x t
