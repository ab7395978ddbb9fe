-- What holds of two vats with notes of what is on the way holds of a world, seen from either vat.
use Rattle.std.proofs.Common.{◌≡◌, List, sym, subst}
use Rattle.rpc_msg.specs.declared.ids.Vat.TheVariants.{A, B}
use Rattle.rpc_msg.specs.declared.message.Message.{Message}
use Rattle.rpc_machine.specs.State.{State}
use Rattle.rpc_machine.specs.World.{World}
use Rattle.laws_acts.specs.Sent.{Noted, messages}
use Rattle.laws_runs.specs.Between.{HoldsIn}
use Rattle.laws_scenes.specs.Meeting.{OfBoth}

pub of_both : (P : State → State → List Message → List Message → Type 0) (R : State → List Noted → State → List Noted → Type 0) → ((s t : State) (to_s to_t : List Noted) → R s to_s t to_t → P s t (messages to_t) (messages to_s))
    → ((s t : State) (to_s to_t : List Noted) → R s to_s t to_t → R t to_t s to_s) → (w : World) → HoldsIn R w → OfBoth P w
of_both P R f turned w h = by
  where
    at : (s t : State) (to_s to_t : List Noted) (out back : List Message) → out ≡ messages to_t → back ≡ messages to_s → R s to_s t to_t → P s t out back
    at s t to_s to_t out back e i k = subst (λ (ms : List Message). P s t ms back) (sym e) (subst (λ (ms : List Message). P s t (messages to_t) ms) (sym i) (f s t to_s to_t k))

    by : OfBoth P w
    by A = at w.a.core w.b.core h.to_a h.to_b w.b.inbox w.a.inbox h.is_b h.is_a h.holds
    by B = at w.b.core w.a.core h.to_b h.to_a w.a.inbox w.b.inbox h.is_a h.is_b (turned w.a.core w.b.core h.to_a h.to_b h.holds)
