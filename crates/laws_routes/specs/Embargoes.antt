-- What is so of the embargoes of a vat alone, between steps, and in the middle of one (docs/protocol.md, "Shortening a path").
use Rattle.std.specs.Prelude.{◌≡◌, ℕ, ◌<◌, true, false, Option, None, Some, List}
use Rattle.std.specs.FinMap as map
use Rattle.rpc_msg.specs.Op.{Op}
use Rattle.finite_maps.specs.Tally.{Map}
use Rattle.rpc_msg.specs.declared.ids.ObjectId.{ObjectId}
use Rattle.rpc_msg.specs.declared.ids.Vat.{Vat}
use Rattle.rpc_msg.specs.declared.message.Message.{Message}
use Rattle.rpc_machine.specs.declared.command.Command.{Command}
use Rattle.rpc_machine.specs.declared.command.Effects.{Effects}
use Rattle.rpc_machine.specs.declared.command.Granted.{Granted}
use Rattle.rpc_machine.specs.declared.command.Level.{Level}
use Rattle.rpc_machine.specs.declared.entries.Embargo.{Embargo}
use Rattle.rpc_machine.specs.declared.entries.Import.{Import}
use Rattle.rpc_machine.specs.declared.entries.Question.{Question}
use Rattle.rpc_machine.specs.declared.entries.Reference.{Reference}
use Rattle.rpc_machine.specs.State.{State, start}
use Rattle.rpc_machine.specs.Advancing.{IsBroken, Known, Leads, NothingYet, known_by_resolve, known_by_return, resolution_of, returned_of}
use Rattle.rpc_machine.specs.Faults.{fault_of}
use Rattle.rpc_machine.specs.Nodes.{is_wire}
use Rattle.rpc_machine.specs.Steps.{Does, Handles}
use Rattle.laws_acts.specs.FirstActs.{is_receiver}
use Rattle.laws_routes.specs.Premises.{ExportsAreOwn, IsOnlyEmbargo}
use Rattle.laws_routes.specs.Sides.{IsEmbargoOf}
use Rattle.laws_routes.specs.FirstActs.{EmbargoesAreNamed}

-- What leads back to the vat leads to an own node.
abbrev pub LeadsBackOwn : Known → Type 0
LeadsBackOwn NothingYet = Unit {0}
LeadsBackOwn (IsBroken reason) = Unit {0}
LeadsBackOwn (Leads said n) = is_receiver said ≡ true → is_wire n ≡ false

pub record AreRight (refs : Map Reference) (next : ℕ) (embargoes : Map Embargo) (imports : Map Import) (questions : Map Question) : Type 0 where
  -- references, and those of embargoes, have had their numbers
  pub low : (r : ℕ) (x : Reference) → map.get refs r ≡ Some x → r < next
  pub below : (e : ℕ) (b : Embargo) → map.get embargoes e ≡ Some b → b.reference.0 < next
  -- a reference that has no embargo has none, and no reference has two
  pub named : (r : ℕ) (x : Reference) → map.get refs r ≡ Some x → x.embargo ≡ None → (e : ℕ) → IsEmbargoOf r (map.get embargoes e) → ⊥
  pub only : (e : ℕ) (b : Embargo) → map.get embargoes e ≡ Some b → (k : ℕ) (c : Embargo) → map.get embargoes k ≡ Some c → c.reference.0 ≡ b.reference.0 → k ≡ e
  -- embargoes are of own nodes, and so is what they may come to be of
  pub own : (e : ℕ) (b : Embargo) → map.get embargoes e ≡ Some b → is_wire b.node ≡ false
  pub resolved : (e : ℕ) → LeadsBackOwn (known_by_resolve (resolution_of (map.get imports e)))
  pub returned : (q : ℕ) (path : List Op) → LeadsBackOwn (known_by_return path (returned_of (map.get questions q)))

abbrev pub EmbargoesAreRight : State → Type 0
EmbargoesAreRight s = AreRight s.refs s.next_ref s.embargoes s.imports s.questions

-- It is so of a new vat, and each step of a vat whose exports are own nodes keeps it.
abbrev pub NewEmbargoesAreRight : Type 0
NewEmbargoesAreRight = (v : Vat) (l : Level) (b : Option ObjectId) → EmbargoesAreRight (start v l b)

abbrev pub CommandsKeepEmbargoes : Type 0
CommandsKeepEmbargoes = (s : State) (c : Command) (g : Granted) (x : Effects) (t : State) → EmbargoesAreRight s → Does s c g x t → EmbargoesAreRight t

abbrev pub MessagesKeepEmbargoes : Type 0
MessagesKeepEmbargoes = (s : State) (m : Message) (x : Effects) (t : State) → EmbargoesAreRight s → ExportsAreOwn s → fault_of s m ≡ None → Handles s m x t → EmbargoesAreRight t

-- So each embargo is its reference's only, and of an own node; and no embargo is of a reference that has none.
abbrev pub RightEmbargoesAreOnly : Type 0
RightEmbargoesAreOnly =
    (s : State) → EmbargoesAreRight s → EmbargoesAreNamed s × ((e : ℕ) (b : Embargo) → map.get s.embargoes e ≡ Some b → IsOnlyEmbargo s e b.reference.0 × (is_wire b.node ≡ false))
