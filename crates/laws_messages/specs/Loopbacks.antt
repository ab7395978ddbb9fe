-- The embargoes of two vats, with the Disembargos that are on their way (rpc.capnp, Disembargo; docs/protocol.md,
-- "Shortening a path").
use Rattle.std.specs.Prelude.{◌≡◌, ◌≤◌, ℕ, ◌+◌, None, List, ◌∷◌}
use Rattle.std.specs.FinMap as map
use Rattle.rpc_msg.specs.Vats.{other_vat}
use Rattle.rpc_msg.specs.declared.ids.Vat.{Vat}
use Rattle.rpc_msg.specs.declared.ids.EmbargoId.{EmbargoId}
use Rattle.rpc_msg.specs.declared.parts.Target.{Target}
use Rattle.rpc_msg.specs.declared.message.DisembargoContext.TheVariants.{ReceiverLoopback}
use Rattle.rpc_msg.specs.declared.message.PlainMessage.TheVariants as plain
use Rattle.rpc_msg.specs.declared.message.Message.{Message}
use Rattle.rpc_msg.specs.declared.message.Message.TheVariants as message
use Rattle.rpc_machine.specs.State.{State}
use Rattle.rpc_machine.specs.Faults.{fault_of}
use Rattle.rpc_machine.specs.World.{World, core, inbox}
use Rattle.laws_acts.specs.Sent.{Noted, messages}
use Rattle.laws_nodes.specs.Embargoes.{here, out, back}
use Rattle.laws_runs.specs.Worlds.{Stand}
use Rattle.laws_runs.specs.SceneSessions.{InScenes}

-- Of the embargoes of the vat s: one is there for each Disembargo of it that is about.
abbrev pub AreAbout : State → List Noted → List Noted → Type 0
AreAbout s to_s to_t = (e : ℕ) → here (map.get s.embargoes e) ≡ out e (messages to_t) + back e (messages to_s)

-- So of those of both; with the sessions, as each vat stays at level 1.
pub record EmbargoesStand (s : State) (to_s : List Noted) (t : State) (to_t : List Noted) : Type 0 where
  pub stand : Stand s to_s t to_t
  pub of_s : AreAbout s to_s to_t
  pub of_t : AreAbout t to_t to_s

-- How many Disembargos of the embargo e of that vat are about.
abbrev pub about : World → Vat → ℕ → ℕ
about w v e = out e (inbox w (other_vat v)) + back e (inbox w v)

pub record OneIsAbout (w : World) : Type 0 where
  pub there : (v : Vat) (e : ℕ) → here (map.get (core w v).embargoes e) ≡ about w v e
  pub one : (v : Vat) (e : ℕ) → about w v e ≤ 1

abbrev pub EmbargoesAreAbout : Type 0
EmbargoesAreAbout = InScenes OneIsAbout

-- Such a Disembargo, as the oldest on its way to a vat, meets no fault.
abbrev pub ComesBackWell : World → Type 0
ComesBackWell w = (v : Vat) (x : EmbargoId) (t : Target) (ms : List Message)
    → let m = message.Plain (plain.Disembargo (record { target = t; context = ReceiverLoopback x })) in inbox w v ≡ m ∷ ms → fault_of (core w v) m ≡ None

abbrev pub DisembargosAreMet : Type 0
DisembargosAreMet = InScenes ComesBackWell
