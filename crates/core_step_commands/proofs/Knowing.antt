-- A wire that was resolved to something is known by a descriptor that is named.
use Rattle.std.proofs.Common.{ℕ, zero, suc, Option, None, Some, List, [], ◌∷◌}
use Rattle.std.specs.FinMap as map
use Rattle.rpc_msg.specs.Op.{Op}
use Rattle.rpc_msg.specs.CapAt.{CapAt}
use Rattle.rpc_msg.specs.CapAt.TheVariants.{Cap, Null, NotCap}
use Rattle.rpc_msg.specs.declared.parts.Descriptor.{Descriptor}
use Rattle.rpc_msg.specs.declared.parts.Descriptor.TheVariants as descriptor
use Rattle.rpc_machine.specs.declared.node.Node.{Node}
use Rattle.rpc_machine.specs.declared.node.Node.TheVariants as node
use Rattle.rpc_machine.specs.declared.entries.Returned.{Returned}
use Rattle.rpc_machine.specs.declared.entries.Returned.TheVariants as back
use Rattle.rpc_machine.specs.declared.entries.Resolution.{Resolution}
use Rattle.rpc_machine.specs.declared.entries.Resolution.TheVariants as resolution
use Rattle.rpc_machine.specs.State.{State}
use Rattle.rpc_machine.specs.Payloads.{cap_at}
use Rattle.rpc_machine.specs.Advancing.{Known, NothingYet, IsBroken, Leads, known_by, known_by_resolve, resolution_of, known_at, known_cap, known_by_return, returned_of, known_of_wire}
use Rattle.core_step_commands.specs.Named.{IsNamed}

abbrev pub LeadsNamed : Known → Type 0
LeadsNamed NothingYet = Unit {0}
LeadsNamed (IsBroken reason) = Unit {0}
LeadsNamed (Leads said to) = IsNamed said

by_named : (d : Descriptor) (n : Node) → LeadsNamed (known_by d n)
by_named descriptor.None n = tt
by_named (descriptor.SenderHosted e) n = tt
by_named (descriptor.SenderPromise e) n = tt
by_named (descriptor.ReceiverHosted e) n = tt
by_named (descriptor.ReceiverAnswer q path) n = tt

by_resolve : (r : Option Resolution) → LeadsNamed (known_by_resolve r)
by_resolve None = tt
by_resolve (Some (resolution.To d n)) = by_named d n
by_resolve (Some (resolution.Exception exception)) = tt

at_place : (caps : List (Descriptor × Node)) (i : ℕ) → LeadsNamed (known_at caps i)
at_place [] i = tt
at_place (c ∷ cs) zero = by_named c.0 c.1
at_place (c ∷ cs) (suc i) = at_place cs i

at_cap : (caps : List (Descriptor × Node)) (at : CapAt) → LeadsNamed (known_cap caps at)
at_cap caps (Cap i) = at_place caps i
at_cap caps Null = tt
at_cap caps NotCap = tt

by_return : (path : List Op) (r : Option Returned) → LeadsNamed (known_by_return path r)
by_return path None = tt
by_return path (Some (back.Results payload caps)) = at_cap caps (cap_at payload path)
by_return path (Some (back.Exception exception)) = tt

pub wire_named : (s : State) (w : Node) → LeadsNamed (known_of_wire s w)
wire_named s (node.Object o) = tt
wire_named s (node.Promise p) = tt
wire_named s (node.Field o path) = tt
wire_named s (node.Import e) = by_resolve (resolution_of (map.get s.imports e.0))
wire_named s (node.Pipe q path) = by_return path (returned_of (map.get s.questions q.0))
wire_named s (node.Broken reason) = tt
