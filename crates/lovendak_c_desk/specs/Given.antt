-- What numbers and bytes that are given stand for (docs/languages.md).
use Rattle.std.specs.Prelude.{◌<◌, ◌^◌, ℕ, zero, suc, List, Option, Some, None, Result, Ok, Err, map, length}
use Rattle.std.specs.Str.{IsUtf8}
use Rattle.rpc_msg.specs.Op.{Op}
use Rattle.rpc_msg.specs.Op.TheVariants.{Field}
use Rattle.rpc_msg.specs.Payloads.{Contents, IsEncoded}
use Rattle.rpc_msg.specs.declared.ids.RefId.{RefId}
use Rattle.rpc_msg.specs.declared.exception.ExceptionKind.{ExceptionKind}
use Rattle.rpc_msg.specs.declared.exception.ExceptionKind.TheVariants as kind
use Rattle.rpc_machine.specs.declared.command.Level.{Level}
use Rattle.rpc_machine.specs.declared.command.Level.TheVariants as level
use Rattle.rpc_machine.specs.declared.command.Refusal.TheVariants as refusal
use Rattle.peer_finishes.specs.declared.held.Finishes.{Finishes}
use Rattle.peer_finishes.specs.declared.held.Finishes.TheVariants as finishes
use Rattle.lovendak_c_desk.specs.declared.not_done.NotDone.{NotDone}
use Rattle.lovendak_c_desk.specs.declared.not_done.NotDone.TheVariants as not_done

-- want of memory
abbrev pub lacks_memory : NotDone
lacks_memory = not_done.Refused refusal.Memory

-- 0 and 1 are levels of the protocol.
abbrev pub level_at : ℕ → Option Level
level_at zero = Some level.Zero
level_at (suc zero) = Some level.One
level_at (suc (suc n)) = None

-- Kinds of exceptions, as `Exception.Type` of rpc.capnp counts them.
abbrev pub kind_at : ℕ → Option ExceptionKind
kind_at zero = Some kind.Failed
kind_at (suc zero) = Some kind.Overloaded
kind_at (suc (suc zero)) = Some kind.Disconnected
kind_at (suc (suc (suc zero))) = Some kind.Unimplemented
kind_at (suc (suc (suc (suc n)))) = None

-- When a Finish goes: at once, or behind its Return.
abbrev pub finishes_at : ℕ → Option Finishes
finishes_at zero = Some finishes.AtOnce
finishes_at (suc zero) = Some finishes.AfterReturn
finishes_at (suc (suc n)) = None

abbrev pub reference : ℕ → RefId
reference n = record { 0 = n }

abbrev pub references : List ℕ → List RefId
references ns = map (λ n. record { 0 = n }) ns

-- the path of these pointers, one after the other
abbrev pub path : List ℕ → List Op
path ns = map (λ n. Field n) ns

-- the bytes with a capability for each of these references
abbrev pub with_refs : List ℕ → List ℕ → Contents
with_refs bytes refs = record { bytes = bytes; caps = length refs }

-- No payload is read of it, for that reason: it is no message of the encoding, or has more capabilities than any has.
abbrev pub IsNoPayload : Contents → NotDone → Type 0
IsNoPayload p not_done.Malformed = p.caps < 2 ^ 32 → ¬ (IsEncoded p)
IsNoPayload p e = ⊥

abbrev pub IsNoText : List ℕ → NotDone → Type 0
IsNoText bytes not_done.Malformed = ¬ (IsUtf8 bytes)
IsNoText bytes e = ⊥

-- What is known, or why nothing is.
abbrev pub known_or : {A : Type 0} → NotDone → Option A → Result A NotDone
known_or e None = Err e
known_or e (Some x) = Ok x
