-- What a step sends is read as it was meant.
use Rattle.std.proofs.Common.{◌≡◌, ℕ, List, [], ◌∷◌}
use Rattle.finite_maps.specs.Tally.{Map}
use Rattle.rpc_msg.specs.declared.ids.Vat.{Vat}
use Rattle.rpc_msg.specs.declared.message.Message.{Message}
use Rattle.rpc_msg.specs.declared.message.Message.TheVariants as message
use Rattle.rpc_msg.specs.Messages.{descriptors_of}
use Rattle.rpc_journal.specs.Meaning.{History}
use Rattle.rpc_machine.specs.declared.calls.Promise.{Promise}
use Rattle.rpc_machine.specs.declared.entries.Export.{Export}
use Rattle.laws_routes.specs.Sayings.{Has, has_behind}
use Rattle.laws_meanings.specs.NodeLabels.{Labels}
use Rattle.laws_wires.specs.Wires.{Session, Reader, LinkMeans, export_label, past_one}
use Rattle.laws_wires.specs.Sent.{AllSaySo}
use Rattle.laws_wires.specs.SentLinks.{AllRead, LinksSaySo}
use Rattle.laws_wires.proofs.SentRead.{sent_is_read}

module _ (h : History) (v : Vat) (l : Labels) (E : Map Export) (P : Map Promise) (said : ℕ → Session) (x : Reader) (own : (e : ℕ) → x.sender e ≡ export_label h v l E e) where
  all_read : (has : Has) (now : ℕ → Session) (ms : List Message) → AllRead v l x said has now ms → AllSaySo h v l E P said ms → LinkMeans h v x has now ms
  all_read has now [] r k = tt
  all_read has now (message.Plain m ∷ ms) r k =
      let ds = descriptors_of (message.Plain m) in
      let says = k.0 in
      (sent_is_read h v l E x has now said m own r.0 r.1 says.0, all_read (has_behind has ds) (past_one v now (message.Plain m)) ms r.2 k.1)
  all_read has now (message.Unimplemented m ∷ ms) r k = (k.0, all_read has now ms r k.1)

pub links_say_so : LinksSaySo
links_say_so h v l E P said x has now ms own r k = all_read h v l E P said x own has now ms r k
