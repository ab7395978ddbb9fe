use Rattle.std.proofs.Common.{◌≡◌, ◌+◌, List, [], ◌∷◌, ◌++◌, take, sym, ap, ◌∙◌}
use Rattle.std.proofs.lemmas.List.{take_more}
use Rattle.finite_maps.specs.Tally.{Map}
use Rattle.rpc_msg.specs.declared.parts.Descriptor.{Descriptor}
use Rattle.rpc_machine.specs.declared.node.Node.{Node}
use Rattle.rpc_machine.specs.declared.entries.Import.{Import}
use Rattle.rpc_machine.specs.State.{State}
use Rattle.rpc_machine.specs.Flags.{give_each}
use Rattle.core_store.specs.Holding.{state_of}
use Rattle.core_step_collects.proofs.Getting.{got, got_by, give_got}
use Rattle.core_step_collects.proofs.got.give_each_got.Goals as goal

pub loop-cap-preserved : goal.loop-cap-preserved
loop-cap-preserved c =
    let s : State = state_of c.args.store.now in
    let xs : List (Descriptor × Node) = c.args.caps.now in
    let i = c.loop-cap.cap-index in
    let x = c.cap-item.result in
    let taken : take i xs ++ x ∷ [] ≡ take (i + 1) xs = ap (λ n. take i xs ++ n ∷ []) c.cap-item.is ∙ sym (take_more xs i x c.loop-cap-test.true) in record {
      state = c.give_one_got.ensures.state ∙ ap (λ (t : State). record t { imports = give_each t.imports (got_by x.0) }) c.loop-cap.invariant.state
          ∙ ap (λ (m : Map Import). record s { imports = m }) (sym (give_got s.imports (take i xs) x)) ∙ ap (λ (ys : List (Descriptor × Node)). record s { imports = give_each s.imports (got ys) }) taken;
      left = c.give_one_got.ensures.left ∙ c.loop-cap.invariant.left;
      waits = c.give_one_got.ensures.waits ∙ c.loop-cap.invariant.waits;
      sound = c.give_one_got.ensures.sound;
    }
