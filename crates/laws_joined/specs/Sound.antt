-- What is promised of two vats in one world holds of two connections that are joined by streams of bytes.
use Rattle.std.specs.Prelude.{◌≡◌, Bool, true, false, List, map, flat_map, Option}
use Rattle.rpc_msg.specs.declared.ids.ObjectId.{ObjectId}
use Rattle.rpc_msg.specs.declared.ids.Vat.{Vat}
use Rattle.laws_wired.specs.Pairs.{TwoDeliveries, TwoEnded, delivery_at, ended_at}
use Rattle.laws_wired.specs.Wires.{happening_at}
use Rattle.laws_over_wires.specs.Sound.{IsSoundThere}
use Rattle.vat_host.specs.declared.event.Event.{Event}
use Rattle.vat_host.specs.declared.event.Event.TheVariants as event
use Rattle.vat_hosts.specs.Worlds.{told_in}
use Rattle.laws_in_bytes.specs.Joined.{Doing, FinishAtOnce, Joined, JoinedRun, new_joined}
use Rattle.laws_in_bytes.specs.Wired.{AreOverWires, done_by, done_of}

-- What an application is told of a call, over wires and in one world at once: the two differ in the stamp and the contents, and in the
-- text of an exception that says why a node is broken.
pub data TwoTold : Type 0 where
  ServesBoth : TwoDeliveries → TwoTold
  EndsBoth : TwoEnded → TwoTold

abbrev pub told_at : Bool → TwoTold → Event
told_at b (ServesBoth d) = event.Served (delivery_at b d)
told_at b (EndsBoth x) = event.Ended (ended_at b x)

-- Both are told alike, one by one.
pub record AreToldAlike (over there : List Event) : Type 0 where
  pub told : List TwoTold
  pub over_is : over ≡ map (told_at false) told
  pub there_is : there ≡ map (told_at true) told

-- There is a run of two vats in one world of which all holds that is promised. The commands that were done are those of the run, in
-- order and with the same answers; and what each application is told of calls is alike to what the run tells of its vat. (How that is
-- what it was told and is still to be told, `wires` says.)
pub record AreSoundInBytes (letters : Vat → Vat) (root_a root_b : Option ObjectId) (xs : List Doing) (j : Joined) : Type 0 where
  pub wires : AreOverWires letters root_a root_b xs j
  pub sound : IsSoundThere root_a root_b wires.happened wires.world
  pub done : flat_map done_of (map (happening_at true) sound.there.happened) ≡ flat_map done_by xs
  pub told : (v : Vat) → AreToldAlike (flat_map (told_in v) wires.happened) (flat_map (told_in v) (map (happening_at true) sound.there.happened))

-- Whatever two new connections do that are joined by two streams, with any letters, if Finishes go at once.
abbrev pub JoinedRunsAreSound : Type 0
JoinedRunsAreSound =
    (letters : Vat → Vat) (root_a root_b : Option ObjectId) (xs : List Doing) (j : Joined) → JoinedRun (new_joined letters root_a root_b) xs j → FinishAtOnce xs
    → AreSoundInBytes letters root_a root_b xs j
