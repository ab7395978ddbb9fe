-- How the parts of the checks make up the machine's refusals and faults.
use Rattle.std.specs.Prelude.{◌≡◌, true, ℕ, List, [], ◌∷◌}
use Rattle.rpc_msg.specs.declared.parts.Descriptor.{Descriptor}
use Rattle.rpc_msg.specs.declared.message.Message.{Message}
use Rattle.rpc_msg.specs.Messages.{descriptors_of}
use Rattle.rpc_journal.specs.History.{or_rest, if_so}
use Rattle.rpc_machine.specs.declared.command.CallCommand.{CallCommand}
use Rattle.rpc_machine.specs.declared.command.Command.TheVariants as command
use Rattle.rpc_machine.specs.declared.command.Refusal.TheVariants as refusal
use Rattle.rpc_machine.specs.State.{State}
use Rattle.rpc_machine.specs.Lists.{earliest}
use Rattle.rpc_machine.specs.Refusals.{refused}
use Rattle.rpc_machine.specs.Descriptors.{take_all}
use Rattle.rpc_machine.specs.Faults.{each_fault, descriptors_fault, flag_fault, fault_of}
use Rattle.core_step_checks.specs.Rooms.{refused_but_exports, exports_lack_for}
use Rattle.core_step_checks.specs.Parts.{fault_before, fault_behind, fault_in_turn, flagged, flag_in_turn}

-- A call is refused for what `refused_but_exports` says, and then for want of room in the exports.
abbrev pub CallsAreRefused : Type 0
CallsAreRefused =
    (s : State) (c : CallCommand) →
    refused s (command.Call c) ≡ or_rest (refused_but_exports s c) (if_so (exports_lack_for s c) refusal.Full)

-- Looking at each descriptor with those before it in mind finds what taking them one after the other finds.
abbrev pub DescriptorsInTurn : Type 0
DescriptorsInTurn = (s : State) (ds : List Descriptor) → each_fault s [] ds ≡ fault_in_turn s ds

-- Counting each id among all finds what giving them back one after the other finds.
abbrev pub FlagsInTurn : Type 0
FlagsInTurn = (s : State) (ids : List ℕ) → flag_fault s true ids ≡ flag_in_turn s.exports ids

-- The four parts, in their order.
abbrev pub FaultsInParts : Type 0
FaultsInParts =
    (s : State) (m : Message) →
    fault_of s m
    ≡ earliest
    (fault_before s m
    ∷ descriptors_fault s (descriptors_of m)
    ∷ fault_behind s m
    ∷ flag_fault s true (flagged s m)
    ∷ [])

-- What comes behind the descriptors is the same where they were taken.
abbrev pub TakingChangesNone : Type 0
TakingChangesNone =
    (s : State) (ds : List Descriptor) (m : Message) →
    (fault_behind (take_all s ds) m ≡ fault_behind s m)
    × (flagged (take_all s ds) m ≡ flagged s m)
    × ((take_all s ds).exports ≡ s.exports)
