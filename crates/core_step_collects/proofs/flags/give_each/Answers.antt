use Rattle.std.proofs.Common.{◌≡◌, ◌+◌, List, [], ◌∷◌, ◌++◌, take, get_or, sym, ap, ◌∙◌}
use Rattle.std.proofs.lemmas.List.{take_more}
use Rattle.std.specs.FinMap as map
use Rattle.finite_maps.specs.Tally.{Map}
use Rattle.rpc_msg.specs.declared.ids.ExportId.{ExportId}
use Rattle.rpc_machine.specs.declared.entries.Import.{Import}
use Rattle.rpc_machine.specs.State.{State}
use Rattle.rpc_machine.specs.Progress.{numbers}
use Rattle.rpc_machine.specs.Flags.{give_one, give_each}
use Rattle.core_store.specs.Holding.{state_of}
use Rattle.core_step_collects.proofs.Giving.{give_more}
use Rattle.core_step_collects.proofs.flags.give_each.Goals as goal

pub give_one-requires : goal.give_one-requires
give_one-requires c = c.loop-id.invariant.sound

pub loop-id-preserved : goal.loop-id-preserved
loop-id-preserved c =
    let s : State = state_of c.args.store.now in
    let xs : List ExportId = c.args.ids.now in
    let i = c.loop-id.id-index in
    let none : ExportId = record { 0 = 0 } in
    let x : ExportId = get_or xs i none in
    let taken : take i xs ++ x ∷ [] ≡ take (i + 1) xs = sym (take_more xs i none c.loop-id-test.true) in record {
      state = c.give_one.ensures.state ∙ ap (λ (t : State). record t { imports = give_one t.imports x.0 (map.get t.imports x.0) }) c.loop-id.invariant.state
          ∙ ap (λ (m : Map Import). record s { imports = m }) (sym (give_more s.imports (take i xs) x)) ∙ ap (λ (ys : List ExportId). record s { imports = give_each s.imports (numbers ys) }) taken;
      left = c.give_one.ensures.left ∙ c.loop-id.invariant.left;
      waits = c.give_one.ensures.waits ∙ c.loop-id.invariant.waits;
      sound = c.give_one.ensures.sound;
    }
