-- What a Resolve counts on (docs/protocol.md, "Received messages of the whole machine"; rpc.capnp, Resolve).
use Rattle.std.specs.Prelude.{◌≡◌, ℕ, ◌+◌, false, cond, nat_eq, List, [], ◌∷◌}
use Rattle.std.specs.FinMap as map
use Rattle.rpc_msg.specs.declared.ids.ExportId.{ExportId}
use Rattle.rpc_msg.specs.declared.parts.Descriptor.{Descriptor}
use Rattle.rpc_msg.specs.declared.message.ResolvedTo.TheVariants as resolved
use Rattle.rpc_msg.specs.declared.message.PlainMessage.TheVariants as plain
use Rattle.rpc_msg.specs.declared.message.Message.{Message}
use Rattle.rpc_msg.specs.declared.message.Message.TheVariants as message
use Rattle.rpc_msg.specs.Messages.{given}
use Rattle.rpc_machine.specs.declared.command.Level.TheVariants.{One}
use Rattle.rpc_machine.specs.declared.command.Command.{Command}
use Rattle.rpc_machine.specs.declared.command.Granted.{Granted}
use Rattle.rpc_machine.specs.declared.command.Effects.{Effects}
use Rattle.rpc_machine.specs.State.{State}
use Rattle.rpc_machine.specs.Lists.{how_many}
use Rattle.rpc_machine.specs.Limits.{import_count, export_count}
use Rattle.rpc_machine.specs.Descriptors.{giving}
use Rattle.rpc_machine.specs.Steps.{Does, Handles}

-- How much of the import these messages release.
abbrev pub released_for : ℕ → List Message → ℕ
released_for e [] = 0
released_for e (message.Plain (plain.Release r) ∷ ms) = cond (nat_eq e r.export.0) r.count 0 + released_for e ms
released_for e (m ∷ ms) = released_for e ms

-- No Finish among these messages gives anything back by its flag.
abbrev pub NoTrueFlag : List Message → Type 0
NoTrueFlag [] = Unit {0}
NoTrueFlag (message.Plain (plain.Finish f) ∷ ms) = (f.release_result_caps ≡ false) × NoTrueFlag ms
NoTrueFlag (m ∷ ms) = NoTrueFlag ms

pub record ResolvesCount : Type 0 where
  -- A received Resolve counts one on the import that its capability names, whether the promise's import is still there
  -- or gone, and nothing on the promise's own: what a vat then holds of each import and what it releases at once are
  -- what it held, and that one.
  pub received : (s : State) (promise : ExportId) (d : Descriptor) (effects : Effects) (new : State) → s.level ≡ One → Handles s (message.Plain (plain.Resolve (record { promise = promise; to = resolved.Cap d }))) effects new → NoTrueFlag effects.sends → (e : ℕ) → import_count (map.get new.imports e) + released_for e effects.sends ≡ import_count (map.get s.imports e) + how_many (nat_eq e) (given (d ∷ []))
  -- An export that no sent descriptor names keeps its count in every command, whatever Resolves are sent for it.
  pub sent : (s : State) (c : Command) (answer : Granted) (effects : Effects) (new : State) → Does s c answer effects new → (e : ℕ) → giving e effects.sends ≡ 0 → export_count (map.get new.exports e) ≡ export_count (map.get s.exports e)
