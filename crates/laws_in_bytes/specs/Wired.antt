-- What two joined connections do is a run of two vats over wires.
use Rattle.std.specs.Prelude.{◌≡◌, cond, Option, Ok, List, [], ◌∷◌, ◌++◌, flat_map}
use Rattle.rpc_msg.specs.declared.ids.ObjectId.{ObjectId}
use Rattle.rpc_msg.specs.declared.ids.Vat.{Vat}
use Rattle.rpc_journal.specs.History.{same_vat}
use Rattle.rpc_machine.specs.Refusals.{is_shut}
use Rattle.rpc_machine.specs.World.{World, Happening, core}
use Rattle.laws_wired.specs.Wires.{WiredRun, named_world}
use Rattle.vat_host.specs.declared.event.Event.{Event}
use Rattle.vat_host.specs.declared.event.Event.TheVariants as event
use Rattle.vat_hosts.specs.Calls.{of_calls}
use Rattle.vat_hosts.specs.Hosts.{Done}
use Rattle.vat_hosts.specs.Worlds.{done_in, told_in}
use Rattle.vat_connection.specs.OwnCalls.{IsCutOff}
use Rattle.vat_connections.specs.OneConnection.{Act, told_by as told_by_act}
use Rattle.vat_connections.specs.OneConnection.Act.{Commands}
use Rattle.laws_in_bytes.specs.Joined.{Doing, FinishAtOnce, Joined, JoinedRun, end, new_joined}

-- ---- what the applications did

-- A shut counts as none: a vat also goes down by itself.
abbrev pub but_shut : Done → List Done
but_shut d = cond (is_shut d.command) [] (d ∷ [])

abbrev pub done_by_act : Vat → Act → List Done
done_by_act v (Commands c (Ok granted)) = but_shut (record { vat = v; command = c; granted = granted })
done_by_act v x = []

-- the command, if one was done
abbrev pub done_by : Doing → List Done
done_by x = done_by_act x.vat x.act

-- the command of an event, if one was done
abbrev pub done_of : Happening → List Done
done_of x = flat_map but_shut (done_in x)

-- ---- what the applications are told

abbrev pub told_by : Vat → Doing → List Event
told_by v x = cond (same_vat v x.vat) (told_by_act x.act) []

-- what the application of a vat was told of calls, and what it is still to be told of them
abbrev pub told_to : List Doing → Joined → Vat → List Event
told_to xs j v = flat_map (told_by v) xs ++ flat_map of_calls (end j v).speaker.host.events

-- An own call that was open when the vat went down is told as cut off.
abbrev pub TellsCutOff : Event → Type 0
TellsCutOff (event.Ended x) = IsCutOff x
TellsCutOff e = ⊥

abbrev pub AreCutOff : List Event → Type 0
AreCutOff [] = Unit {0}
AreCutOff (e ∷ es) = TellsCutOff e × AreCutOff es

-- ---- the law

-- What an application was told of calls, and is still to be told, is what the run tells of its vat, in order; and behind that, own
-- calls as cut off.
pub record IsToldSo (told run : List Event) : Type 0 where
  pub cut : List Event
  pub cut_off : AreCutOff cut
  pub is : told ≡ run ++ cut

-- There is a run over wires of the commands that were done, in order and with the same answers, that leads to where both vats are.
-- What takes a vat down beside its machine, as the end of a stream, is a shut of the run.
pub record AreOverWires (letters : Vat → Vat) (root_a root_b : Option ObjectId) (xs : List Doing) (j : Joined) : Type 0 where
  pub happened : List Happening
  pub world : World
  pub ran : WiredRun (named_world letters root_a root_b) happened world
  pub done : flat_map done_of happened ≡ flat_map done_by xs
  pub told : (v : Vat) → IsToldSo (told_to xs j v) (flat_map (told_in v) happened)
  pub cores : (v : Vat) → core world v ≡ (end j v).speaker.host.core

-- Whatever two new connections do that are joined by two streams, with any letters, if Finishes go at once.
abbrev pub JoinedRunsAreWired : Type 0
JoinedRunsAreWired =
    (letters : Vat → Vat) (root_a root_b : Option ObjectId) (xs : List Doing) (j : Joined) → JoinedRun (new_joined letters root_a root_b) xs j → FinishAtOnce xs
    → AreOverWires letters root_a root_b xs j
