-- A reference that was made.
use Rattle.std.proofs.Common.{◌≡◌, [], ◌∷◌, Option, None, Some, List}
use Rattle.rpc_msg.specs.Op.{Op}
use Rattle.rpc_machine.specs.declared.node.Node.{Node}
use Rattle.rpc_machine.specs.declared.command.Granted.{Granted}
use Rattle.rpc_machine.specs.declared.command.Granted.TheVariants as granted
use Rattle.rpc_machine.specs.declared.calls.OwnCall.{OwnCall}
use Rattle.rpc_machine.specs.declared.entries.Reference.{Reference}
use Rattle.rpc_machine.specs.State.{State}
use Rattle.rpc_machine.specs.Progress.{Progress, begin, with_refs}
use Rattle.rpc_machine.specs.Commands.{NewRef, ClonesRef, NamesField, field_node}
use Rattle.core_steps.proofs.Calm.{new_ref}

-- There is one reference more, and nothing else.
abbrev pub MadeRef : State → Granted → Progress → Type 0
MadeRef s g new = (n : Node) × (g ≡ granted.Reference (record { 0 = s.next_ref })) × (new ≡ begin (with_refs s (n ∷ [])))

pub hosted : (s : State) (n : Node) (g : Granted) (d new : Progress) → d ≡ begin s → NewRef g d n new → MadeRef s g new
hosted s n g d new began acts =
    let made = new_ref s n g d new began acts in
    (n, made.0, made.1)

pub cloned : (s : State) (o : Option Reference) (g : Granted) (d new : Progress) → d ≡ begin s → ClonesRef d o g new → MadeRef s g new
cloned s None g d new began acts = absurd acts
cloned s (Some x) g d new began acts = hosted s x.head g d new began acts

pub named : (s : State) (path : List Op) (o : Option OwnCall) (g : Granted) (d new : Progress) → d ≡ begin s → NamesField d path o g new → MadeRef s g new
named s path None g d new began acts = absurd acts
named s path (Some from) g d new began acts = hosted s (field_node path from) g d new began acts
