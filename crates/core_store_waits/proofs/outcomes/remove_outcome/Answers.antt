use Rattle.core_store.specs.Holding.{state_of}
use Rattle.core_store_waits.proofs.Unled.{no_link_to_field}
use Rattle.core_store_waits.proofs.Knowing.{sound_absent, links_enough, sound_gone}
use Rattle.core_store_waits.proofs.outcomes.remove_outcome.Goals as goal

pub returns-in_err-caller-clause-sound : goal.returns-in_err-caller-clause-sound
returns-in_err-caller-clause-sound c =
    sound_absent c.args.store.now c.args.key c.remove_outcome.new.self c.requires.sound c.remove_outcome.ensures.removed c.in_err-caller.ensures.value

pub overflow_sub-store : goal.overflow_sub-store
overflow_sub-store c =
    links_enough c.args.store.now c.args.key c.in_ok-caller.caller c.in_ok-caller.value c.caps_if_known-caps.result.now c.caps_if_known-caps.ensures c.requires.sound c.in_ok-caller.ensures.value

pub returns-clause-sound : goal.returns-clause-sound
returns-clause-sound c =
    sound_gone c.args.store.now c.args.key c.in_ok-caller.caller c.in_ok-caller.value c.caps_if_known-caps.result.now c.caps_if_known-caps.ensures c.requires.sound c.remove_outcome.new.self c.sub_all.new.self c.in_ok-caller.ensures.value c.requires.none_waiting c.remove_outcome.ensures.removed c.sub_all.ensures

pub remove_outcome-requires-clause-no_link : goal.remove_outcome-requires-clause-no_link
remove_outcome-requires-clause-no_link c = no_link_to_field (state_of c.args.store.now) c.args.key c.requires.unnamed
