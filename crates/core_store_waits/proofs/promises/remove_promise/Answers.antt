use Rattle.core_store.specs.Holding.{state_of}
use Rattle.core_store_waits.proofs.Promising.{sound_gone}
use Rattle.core_store_waits.proofs.Unled.{no_link_to_promise}
use Rattle.core_store_waits.proofs.promises.remove_promise.Goals as goal

pub returns-clause-sound : goal.returns-clause-sound
returns-clause-sound c =
    sound_gone c.args.store.now c.args.key c.in_ok-to.to c.remove_promise.new.self c.sub.new.self c.requires.sound c.in_ok-to.ensures c.remove_promise.ensures.removed c.sub.ensures

pub remove_promise-requires-clause-no_link : goal.remove_promise-requires-clause-no_link
remove_promise-requires-clause-no_link c = no_link_to_promise (state_of c.args.store.now) c.args.key c.requires.unnamed
