-- All that a step sends, as its receiver will read it.
use Rattle.std.specs.Prelude.{◌≡◌, ℕ, List, [], ◌∷◌}
use Rattle.finite_maps.specs.Tally.{Map}
use Rattle.rpc_msg.specs.declared.ids.Vat.{Vat}
use Rattle.rpc_msg.specs.declared.message.Message.{Message}
use Rattle.rpc_msg.specs.declared.message.Message.TheVariants as message
use Rattle.rpc_msg.specs.Messages.{descriptors_of}
use Rattle.rpc_journal.specs.Meaning.{History}
use Rattle.rpc_machine.specs.declared.calls.Promise.{Promise}
use Rattle.rpc_machine.specs.declared.entries.Export.{Export}
use Rattle.laws_routes.specs.Sayings.{Has, has_behind}
use Rattle.laws_meanings.specs.NodeLabels.{Labels}
use Rattle.laws_wires.specs.Wires.{Session, Reader, LinkMeans, export_label, past_one}
use Rattle.laws_wires.specs.SentWires.{EachRead, IsAimed}
use Rattle.laws_wires.specs.Sent.{AllSaySo}

-- Each, behind those in front of it, names and is aimed at what stands for the same there.
abbrev pub AllRead : Vat → Labels → Reader → (ℕ → Session) → Has → (ℕ → Session) → List Message → Type 0
AllRead v l x said has now [] = Unit {0}
AllRead v l x said has now (message.Plain m ∷ ms) =
    EachRead l x now (descriptors_of (message.Plain m)) × IsAimed l x now has said m × AllRead v l x said (has_behind has (descriptors_of (message.Plain m))) (past_one v now (message.Plain m)) ms
AllRead v l x said has now (message.Unimplemented m ∷ ms) = AllRead v l x said has now ms

abbrev pub LinksSaySo : Type 0
LinksSaySo =
    (h : History) (v : Vat) (l : Labels) (E : Map Export) (P : Map Promise) (said : ℕ → Session) (x : Reader) (has : Has) (now : ℕ → Session) (ms : List Message)
    → ((e : ℕ) → x.sender e ≡ export_label h v l E e) → AllRead v l x said has now ms → AllSaySo h v l E P said ms → LinkMeans h v x has now ms
