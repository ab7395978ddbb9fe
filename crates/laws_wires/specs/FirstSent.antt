-- What the first act of a step sends means what it should.
use Rattle.std.specs.Prelude.{◌≡◌, ◌⊎◌, ℕ, true, Some}
use Rattle.std.specs.FinMap as map
use Rattle.finite_maps.specs.Tally.{Map}
use Rattle.rpc_msg.specs.declared.ids.Vat.{Vat}
use Rattle.rpc_msg.specs.declared.message.Message.{Message}
use Rattle.rpc_msg.specs.declared.message.Message.TheVariants as message
use Rattle.rpc_msg.specs.declared.message.PlainMessage.{PlainMessage}
use Rattle.rpc_journal.specs.Meaning.{History}
use Rattle.rpc_machine.specs.declared.node.Node.TheVariants as node
use Rattle.rpc_machine.specs.declared.calls.Promise.{Promise}
use Rattle.rpc_machine.specs.declared.command.Command.{Command}
use Rattle.rpc_machine.specs.declared.command.Granted.{Granted}
use Rattle.rpc_machine.specs.declared.entries.Export.{Export}
use Rattle.rpc_machine.specs.Faults.{is_foreign}
use Rattle.rpc_machine.specs.State.{State}
use Rattle.laws_acts.specs.Moments.{Moment, beginning}
use Rattle.laws_acts.specs.FirstActs.{Starts}
use Rattle.laws_acts.specs.MessageActs.{Consumes}
use Rattle.laws_routes.specs.Sayings.{IsSilentPlain}
use Rattle.laws_meanings.specs.CommandMeanings.{OpensNothing, IsWritten, IsWrittenOpen}
use Rattle.laws_meanings.specs.NodeLabels.{Labels, MomentMeans}
use Rattle.laws_wires.specs.Wires.{Session}
use Rattle.laws_wires.specs.Sent.{IsKept, CallerSo, SentMean}

-- Each export is there still, and of its node.
abbrev pub AreThere : Map Export → Map Export → Type 0
AreThere E F = (e : ℕ) (x : Export) → map.get E e ≡ Some x → (y : Export) × (map.get F e ≡ Some y) × (y.node ≡ x.node)

abbrev pub PromisesThere : Map Promise → Map Promise → Type 0
PromisesThere P Q = (p : ℕ) (y : Promise) → map.get P p ≡ Some y → IsKept Q (node.Promise p)

-- By labels that say what nodes mean behind it, and where before it the outcomes for which the peer waits are what its
-- questions stand for.
abbrev pub CommandsSaySo : Type 0
CommandsSaySo =
    (h : History) (l : Labels) (said : ℕ → Session) (s : State) (c : Command) (g : Granted) (new : Moment)
    → (OpensNothing c × IsWritten h s.vat s c) ⊎ IsWrittenOpen h s.vat s c → Starts (beginning s) c g new → MomentMeans h s.vat l new → ((o : ℕ) → CallerSo h s.vat l said o (map.get s.outcomes o))
    → AreThere s.exports new.state.exports × PromisesThere s.promises new.state.promises × SentMean h s.vat l said new

-- A message sends nothing but a Disembargo that turns back, or what is not understood, which asks nothing.
abbrev pub MessagesSaySo : Type 0
MessagesSaySo =
    (h : History) (v : Vat) (l : Labels) (said : ℕ → Session) (s : State) (m : Message) (new : Moment)
    → Consumes (beginning s) m new → ((p : PlainMessage) → m ≡ message.Plain p → is_foreign s.level p ≡ true → IsSilentPlain p) → ((o : ℕ) → CallerSo h v l said o (map.get new.state.outcomes o))
    → SentMean h v l said new
