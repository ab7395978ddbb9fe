use Rattle.std.specs.Prelude.{option_map}
use Rattle.vat_payloads.proofs.Pointing.{caps_more}
use Rattle.vat_payloads.specs.Contents.{to_text}
use Rattle.capn_trees.specs.Views.{held}
use Rattle.vat_payloads.proofs.payloads.pointers_to.Goals as goal

pub loop-index-preserved : goal.loop-index-preserved
loop-index-preserved c = caps_more (to_text (option_map (λ t. t.now) c.args.text)) (held c.loop-index.pointers) (held c.push.new.self) c.capability.result c.loop-index.index
    c.in_ok-push.ensures.pushed c.capability.ensures c.loop-index.invariant
