-- What is proved of what stands on the wires.
use Rattle.std.specs.Prelude.{◌≡◌, ◌⊎◌, ℕ, true, Option, None, IsSome, List, [], ◌∷◌, ◌++◌}
use Rattle.std.specs.FinMap as map
use Rattle.finite_maps.specs.Tally.{Map}
use Rattle.rpc_msg.specs.declared.ids.ObjectId.{ObjectId}
use Rattle.rpc_msg.specs.declared.ids.Vat.{Vat}
use Rattle.rpc_msg.specs.declared.message.PlainMessage.{PlainMessage}
use Rattle.rpc_msg.specs.declared.message.Message.{Message}
use Rattle.rpc_msg.specs.declared.message.Message.TheVariants as message
use Rattle.rpc_journal.specs.declared.entry.JournalEntry.{JournalEntry}
use Rattle.rpc_journal.specs.Meaning.{History}
use Rattle.rpc_machine.specs.declared.entries.Export.{Export}
use Rattle.laws_runs.specs.Meanings.{with_more}
use Rattle.laws_runs.specs.Scenes.{begins}
use Rattle.laws_routes.specs.Named.{AllMet, EachReturn}
use Rattle.laws_routes.specs.Premises.{EachTargetCap}
use Rattle.laws_routes.specs.QuietLaws.{NoneAims, NoneNames}
use Rattle.laws_routes.specs.Sayings.{Has, IsSilentPlain}
use Rattle.laws_meanings.specs.NodeLabels.{Labels}
use Rattle.laws_wires.specs.Wires.{Session, Reader, MessageMeans, LinkMeans, WorldMeans, has_past, past}

abbrev pub unlabelled : Labels
unlabelled = record { promise = λ p. None; import = λ e. None; outcome = λ o. None; question = λ q. None }

abbrev pub NewVatsMean : Type 0
NewVatsMean = (h : History) (root_a root_b : Option ObjectId) → WorldMeans h (begins root_a root_b).world (λ v. unlabelled)

-- ---- What is on its way

-- In a longer history.
abbrev pub LinksLive : Type 0
LinksLive = (h : History) (more : List JournalEntry) (v : Vat) (x : Reader) (has : Has) (now : ℕ → Session) (ms : List Message) → LinkMeans h v x has now ms → LinkMeans (with_more h more) v x has now ms

-- The exports that are there, E of the sender and F of the receiver, mean the same.
pub record IsAlike (E F : Map Export) (x y : Reader) : Type 0 where
  pub sender : (e : ℕ) → IsSome (map.get E e) → y.sender e ≡ x.sender e
  pub receiver : (e : ℕ) → IsSome (map.get F e) → y.receiver e ≡ x.receiver e

-- Where all exports that are named on the way are among those.
abbrev pub LinksAreMet : Type 0
LinksAreMet =
    (h : History) (v : Vat) (E F : Map Export) (x y : Reader) (has : Has) (now : ℕ → Session) (ms : List Message) → IsAlike E F x y → AllMet E F has ms
    → EachTargetCap (λ e. IsSome (map.get F e)) ms → EachReturn (λ q. has.question q ≡ true → y.question q ≡ x.question q) ms → LinkMeans h v x has now ms → LinkMeans h v y has now ms

-- Where the receiver lets imports and questions go.
abbrev pub LinksAreFewer : Type 0
LinksAreFewer =
    (h : History) (v : Vat) (x : Reader) (has left : Has) (now : ℕ → Session) (ms : List Message) → ((e : ℕ) → left.import e ≡ true → has.import e ≡ true)
    → EachReturn (λ q. left.question q ≡ true → has.question q ≡ true) ms → LinkMeans h v x has now ms → LinkMeans h v x left now ms

-- As answers close, at which nothing on the way is aimed, and that nothing there names.
abbrev pub LinksAreClosed : Type 0
LinksAreClosed =
    (h : History) (v : Vat) (x : Reader) (has : Has) (now then : ℕ → Session) (ms : List Message) → ((q : ℕ) → (then q ≡ now q) ⊎ (NoneAims q ms × NoneNames q ms))
    → LinkMeans h v x has now ms → LinkMeans h v x has then ms

-- As one more is sent.
abbrev pub LinksAreSent : Type 0
LinksAreSent =
    (h : History) (v : Vat) (x : Reader) (has : Has) (now : ℕ → Session) (ms : List Message) (m : PlainMessage) → LinkMeans h v x has now ms → MessageMeans h v x (has_past has ms) (past v now ms) m
    → LinkMeans h v x has now (ms ++ message.Plain m ∷ [])

abbrev pub LinksAreSentBack : Type 0
LinksAreSentBack =
    (h : History) (v : Vat) (x : Reader) (has : Has) (now : ℕ → Session) (ms : List Message) (m : PlainMessage) → LinkMeans h v x has now ms → IsSilentPlain m → LinkMeans h v x has now (ms ++ message.Unimplemented m ∷ [])

-- As more are sent, one after the other.
abbrev pub LinksAreJoined : Type 0
LinksAreJoined =
    (h : History) (v : Vat) (x : Reader) (has : Has) (now : ℕ → Session) (ms more : List Message) → LinkMeans h v x has now ms → LinkMeans h v x (has_past has ms) (past v now ms) more
    → LinkMeans h v x has now (ms ++ more)
