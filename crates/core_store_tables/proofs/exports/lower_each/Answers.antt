use Rattle.std.proofs.Common.{◌≡◌, ◌+◌, List, [], ◌∷◌, ◌++◌, true, take, get_or, sym, ap, ◌∙◌}
use Rattle.std.proofs.lemmas.List.{take_more}
use Rattle.finite_maps.specs.Tally.{Map}
use Rattle.rpc_msg.specs.declared.ids.ExportId.{ExportId}
use Rattle.rpc_machine.specs.declared.entries.Export.{Export}
use Rattle.rpc_machine.specs.State.{State}
use Rattle.rpc_machine.specs.Progress.{numbers}
use Rattle.rpc_machine.specs.Flags.{obey, lower_by}
use Rattle.core_store.specs.Holding.{state_of}
use Rattle.core_store_tables.proofs.Exporting.{lower_more}
use Rattle.core_store_tables.proofs.exports.lower_each.Goals as goal

pub lower-requires : goal.lower-requires
lower-requires c = c.loop-id.invariant.sound

pub loop-id-preserved : goal.loop-id-preserved
loop-id-preserved c =
    let s : State = state_of c.args.store.now in
    let xs : List ExportId = c.args.ids.now in
    let i = c.loop-id.id-index in
    let none : ExportId = record { 0 = 0 } in
    let x : ExportId = get_or xs i none in
    let taken : take i xs ++ x ∷ [] ≡ take (i + 1) xs = sym (take_more xs i none c.loop-id-test.true) in record {
      state = c.lower.ensures.state ∙ ap (λ (t : State). record t { exports = lower_by t.exports x.0 1 }) c.loop-id.invariant.state
          ∙ ap (λ (m : Map Export). record s { exports = m }) (sym (lower_more s.exports (take i xs) x)) ∙ ap (λ (ys : List ExportId). obey s true (numbers ys)) taken;
      left = c.lower.ensures.left ∙ c.loop-id.invariant.left;
      waits = c.lower.ensures.waits ∙ c.loop-id.invariant.waits;
      sound = c.lower.ensures.sound;
    }
