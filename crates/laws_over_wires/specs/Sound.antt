-- What is promised of two vats in one world holds of two vats over wires.
use Rattle.std.specs.Prelude.{Option, true, List, map}
use Rattle.rpc_msg.specs.declared.ids.ObjectId.{ObjectId}
use Rattle.rpc_msg.specs.declared.ids.Vat.{Vat}
use Rattle.rpc_machine.specs.World.{World, Happening}
use Rattle.rpc_machine.specs.Journal.{journal}
use Rattle.rpc_machine.specs.Claims.{IsSound, history}
use Rattle.laws_wired.specs.Wires.{WiredRun, InOneWorld, happening_at, named_world, world_at}

-- What happened over wires is a run of one world, but for stamps, contents, why nodes are broken and the letters of the vats, and
-- of that run all holds that is promised.
pub record IsSoundThere (root_a root_b : Option ObjectId) (over : List Happening) (led : World) : Type 0 where
  pub there : InOneWorld root_a root_b over led
  pub sound :
      let xs = map (happening_at true) there.happened in
      IsSound (history root_a root_b (journal xs)) xs (world_at true there.worlds)

abbrev pub WiredRunsAreSound : Type 0
WiredRunsAreSound =
    (letters : Vat → Vat) (root_a root_b : Option ObjectId) (xs : List Happening) (w : World)
    → WiredRun (named_world letters root_a root_b) xs w → IsSoundThere root_a root_b xs w
