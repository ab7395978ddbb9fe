-- What a scene says of the oldest message on its way to a vat, the run says that it shows.
use Rattle.std.proofs.Common.{◌≡◌, ◌⊎◌, inl, inr, Bool, true, false, IsSome, List, [], ◌∷◌, Option, None, refl, sym, subst, ◌∙◌}
use Rattle.rpc_msg.specs.declared.ids.Vat.{Vat}
use Rattle.rpc_msg.specs.declared.ids.Vat.TheVariants.{A, B}
use Rattle.rpc_msg.specs.declared.ids.ObjectId.{ObjectId}
use Rattle.rpc_msg.specs.declared.exception.Exception.{Exception}
use Rattle.rpc_msg.specs.declared.message.PlainMessage.TheVariants as plain
use Rattle.rpc_msg.specs.declared.message.Message.{Message}
use Rattle.rpc_msg.specs.declared.message.Message.TheVariants as message
use Rattle.rpc_journal.specs.declared.entry.JournalEntry.{JournalEntry}
use Rattle.rpc_machine.specs.State.{State}
use Rattle.rpc_machine.specs.World.{World, core, inbox}
use Rattle.rpc_machine.specs.Journal.{journal}
use Rattle.rpc_machine.specs.Claims.{EveryRun}
use Rattle.laws_runs.specs.Scenes.{Scene, IsScene, IsLast, AtVat, Shows}
use Rattle.laws_runs.specs.Shown.{EveryRunIsShown}
use Rattle.laws_messages.specs.Left.{IsLastWord}

-- At one vat: what the other left there when it went down comes behind all that the scene has.
abbrev IsAbort : Bool → Message → Type 0
IsAbort other m = (x : Exception) × (m ≡ message.Plain (plain.Abort x)) × (other ≡ true)

last_word : (other : Bool) (m : Message) (ms last : List Message) → IsLast other last → m ∷ ms ≡ last → IsAbort other m
last_word false m ms last h e = absurd (let bad : m ∷ ms ≡ [] = e ∙ h in cc)
last_word true m ms last (inl h) e = absurd (let bad : m ∷ ms ≡ [] = e ∙ h in cc)
last_word true m ms last (inr h) e = (h.0, (let f : m ∷ ms ≡ message.Plain (plain.Abort h.0) ∷ [] = e ∙ h.1 in cc), refl)

module _ (P : State → Message → Type 0) where
  oldest_at : (over other : Bool) (s t : State) (m : Message) (ms ns : List Message) → s.down ≡ None → AtVat over other s (m ∷ ms) t ns → ((n : Message) (rest : List Message) → ns ≡ n ∷ rest → P t n) → IsAbort other m ⊎ P s m
  oldest_at true other s t m ms ns up h k = absurd (let bad : IsSome s.down = h in cc)
  oldest_at false other s t m ms [] up h k = inl (last_word other m ms h.2.0 h.2.1 h.2.2)
  oldest_at false other s t m ms (n ∷ ns) up h k =
      let e = h.2.2 in
      let f : n ≡ m = cc in
      inr (subst (λ (u : State). P u m) (sym h.1) (subst (λ (l : Message). P t l) f (k n ns refl)))

-- One that takes no more steps in the scene is down in the run.
down_too : (over other : Bool) (s t : State) (ms ns : List Message) → AtVat over other s ms t ns → over ≡ true → IsSome s.down
down_too true other s t ms ns h e = h
down_too false other s t ms ns h e = absurd (let bad : false ≡ true = e in cc)

-- What holds of the oldest messages of a scene.
abbrev pub OldestHave : (State → Message → Type 0) → World → Type 0
OldestHave P w = (v : Vat) (m : Message) (ms : List Message) → inbox w v ≡ m ∷ ms → P (core w v) m

module _ (P : State → Message → Type 0) where
  abbrev AtOne : World → Vat → Type 0
  AtOne w v = (m : Message) (ms : List Message) → inbox w v ≡ m ∷ ms → IsLastWord w v m ⊎ P (core w v) m

  at_vat : (x : Scene) (h : List JournalEntry) (w : World) → Shows x h w → OldestHave P x.world → (v : Vat) → (core w v).down ≡ None → AtOne w v
  at_vat x h w k have A up m ms e = by (oldest_at P x.over_a x.over_b w.a.core x.world.a.core m ms x.world.a.inbox up (subst (λ (l : List Message). AtVat x.over_a x.over_b w.a.core l x.world.a.core x.world.a.inbox) e k.at_a) (have A))
    where
      by : IsAbort x.over_b m ⊎ P w.a.core m → IsLastWord w A m ⊎ P w.a.core m
      by (inl a) = inl (a.0, a.1, down_too x.over_b x.over_a w.b.core x.world.b.core w.b.inbox x.world.b.inbox k.at_b a.2)
      by (inr l) = inr l
  at_vat x h w k have B up m ms e = by (oldest_at P x.over_b x.over_a w.b.core x.world.b.core m ms x.world.b.inbox up (subst (λ (l : List Message). AtVat x.over_b x.over_a w.b.core l x.world.b.core x.world.b.inbox) e k.at_b) (have B))
    where
      by : IsAbort x.over_a m ⊎ P w.b.core m → IsLastWord w B m ⊎ P w.b.core m
      by (inl a) = inl (a.0, a.1, down_too x.over_a x.over_b w.a.core x.world.a.core w.a.inbox x.world.a.inbox k.at_a a.2)
      by (inr l) = inr l

  pub in_runs : EveryRunIsShown → ((a b : Option ObjectId) (x : Scene) → IsScene a b x → OldestHave P x.world) → EveryRun (λ h xs w. (v : Vat) → (core w v).down ≡ None → AtOne w v)
  in_runs shown have a b xs w k v up = let r = shown a b xs w k in at_vat r.0 (journal xs) w r.2 (have a b r.0 r.1) v up
