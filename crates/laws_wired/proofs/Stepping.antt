-- A step over a wire is one in one world.
use Rattle.std.proofs.Common.{◌≡◌, ℕ, true, false, [], ◌∷◌, codes, decimal, ◌++◌, Bool, Option, None, Some, Result, refl, sym, subst, ◌∙◌}
use Rattle.std.specs.FinMap as finite
use Rattle.finite_maps.proofs.Values.{map_values-empty}
use Rattle.rpc_msg.specs.declared.message.PlainMessage.TheVariants as plain
use Rattle.rpc_msg.specs.declared.message.Message.TheVariants as message
use Rattle.rpc_machine.specs.declared.command.Command.{Command}
use Rattle.rpc_machine.specs.declared.command.Granted.{Granted}
use Rattle.rpc_machine.specs.declared.command.Refusal.{Refusal}
use Rattle.rpc_machine.specs.declared.command.Effects.{Effects}
use Rattle.rpc_machine.specs.State.{State}
use Rattle.rpc_machine.specs.Routing.{failed}
use Rattle.rpc_machine.specs.Down.{fallen, falling_by, Falls, IsUnchanged, ShutsFrom}
use Rattle.rpc_machine.specs.Limits.{IsWithin}
use Rattle.rpc_machine.specs.Steps.{Obeys, Refuses, LacksMemory, GoesDown, Shuts, IsDone, MayLackRoom, Receives, WasDown, FaultsBy, LacksRoom, IsHandled}
use Rattle.laws_wired.specs.Steps.{ComesAlike, StepsAreAlike}
use Rattle.laws_wired.specs.Pairs.{TwoStates, TwoMessages, Same, Calls, Returns, ReturnsWhy, ResolvesWhy, SendsBack, import_at, reference_at, TwoEffects, question_at, promise_at, kept_at, embargo_at, state_at, message_at, effects_at}
use Rattle.laws_wired.proofs.Going.{TwoProgress, progress_at}
use Rattle.laws_wired.proofs.Swept.{ends}
use Rattle.laws_wired.proofs.Commanded.{acts}
use Rattle.laws_wired.proofs.Heard.{takes}
use Rattle.laws_wired.proofs.Faulted.{same_fault}
use Rattle.laws_wired.proofs.Refused.{same_refused, within}

abbrev begin2 : TwoStates → TwoProgress
begin2 z = record { state = z; effects = record { sends = []; deliveries = []; answers = []; down = None }; arisen = []; released = finite.empty }

abbrev quiet2 : TwoEffects
quiet2 = record { sends = []; deliveries = []; answers = []; down = None }

abbrev pub fallen2 : TwoStates → ℕ → TwoStates
fallen2 z k = record { rest = fallen z.rest k; vat = z.vat; questions = finite.empty; imports = finite.empty; refs = finite.empty; promises = finite.empty; outcomes = finite.empty; embargoes = finite.empty }

pub falls_so : (b : Bool) (z : TwoStates) (k : ℕ) → state_at b (fallen2 z k) ≡ fallen (state_at b z) k
falls_so b z k =
    let q = map_values-empty (question_at b) in
    let m = map_values-empty (import_at b) in
    let r = map_values-empty (reference_at b) in
    let p = map_values-empty (promise_at b) in
    let o = map_values-empty (kept_at b) in
    let e = map_values-empty (embargo_at b) in
    λ i. record (fallen z.rest k) { vat = z.vat b; questions = q i; imports = m i; refs = r i; promises = p i; outcomes = o i; embargoes = e i }

abbrev pub falling2 : ℕ → TwoEffects
falling2 k = record { sends = Same (message.Plain (plain.Abort (failed (codes "fault " ++ decimal k)))) ∷ []; deliveries = []; answers = []; down = Some k }

abbrev silent2 : ℕ → TwoEffects
silent2 k = record { sends = []; deliveries = []; answers = []; down = Some k }

falls : (z : TwoStates) (k : ℕ) (said : Effects) (new : State) → Falls (state_at false z) k said new → ComesAlike said new (Falls (state_at true z) k)
falls z k said new h = (falling2 k, fallen2 z k, h.effects_are, h.new_is ∙ sym (falls_so false z k), record { effects_are = refl; new_is = falls_so true z k })

unchanged : (z : TwoStates) (said : Effects) (new : State) → IsUnchanged (state_at false z) said new → ComesAlike said new (IsUnchanged (state_at true z))
unchanged z said new h = (quiet2, z, h.effects_are, h.new_is, record { effects_are = refl; new_is = refl })

shuts : (z : TwoStates) (k : ℕ) (o : Option ℕ) (said : Effects) (new : State) → ShutsFrom (state_at false z) k o said new → ComesAlike said new (ShutsFrom (state_at true z) k o)
shuts z k None said new h = falls z k said new h
shuts z k (Some before) said new h = unchanged z said new h

-- With which effects a vat goes down by a message.
falls_by : (m : TwoMessages) (k : ℕ) → (e : TwoEffects) × (falling_by (message_at false m) k ≡ effects_at false e) × (effects_at true e ≡ falling_by (message_at true m) k)
falls_by (Same (message.Plain (plain.Abort x))) k = (silent2 k, refl, refl)
falls_by (Same (message.Plain (plain.Bootstrap q))) k = (falling2 k, refl, refl)
falls_by (Same (message.Plain (plain.Call c))) k = (falling2 k, refl, refl)
falls_by (Same (message.Plain (plain.Return r))) k = (falling2 k, refl, refl)
falls_by (Same (message.Plain (plain.Finish f))) k = (falling2 k, refl, refl)
falls_by (Same (message.Plain (plain.Resolve r))) k = (falling2 k, refl, refl)
falls_by (Same (message.Plain (plain.Release r))) k = (falling2 k, refl, refl)
falls_by (Same (message.Plain (plain.Disembargo d))) k = (falling2 k, refl, refl)
falls_by (Same (message.Plain (plain.Other o))) k = (falling2 k, refl, refl)
falls_by (Same (message.Unimplemented m)) k = (falling2 k, refl, refl)
falls_by (Calls c stamp x gone) k = (falling2 k, refl, refl)
falls_by (Returns a flag x ds gone) k = (falling2 k, refl, refl)
falls_by (ReturnsWhy a flag why) k = (falling2 k, refl, refl)
falls_by (ResolvesWhy e why) k = (falling2 k, refl, refl)
falls_by (SendsBack e why) k = (falling2 k, refl, refl)

lacks_as : (m : TwoMessages) → MayLackRoom (message_at false m) → MayLackRoom (message_at true m)
lacks_as (Same m) h = h
lacks_as (Calls c stamp x gone) h = h
lacks_as (Returns a flag x ds gone) h = h
lacks_as (ReturnsWhy a flag why) h = h
lacks_as (ResolvesWhy e why) h = h
lacks_as (SendsBack e why) h = h

pub obeys : (z : TwoStates) (c : Command) (answer : Result Granted Refusal) (said : Effects) (new : State) → Obeys (state_at false z) c answer said new → ComesAlike said new (Obeys (state_at true z) c answer)
obeys z c answer said new (Refuses r e a u) =
    let k = unchanged z said new u in
    (k.0, k.1, k.2, k.3, Refuses r (same_refused z c ∙ e) a k.4)
obeys z c answer said new (LacksMemory e m a u) =
    let k = unchanged z said new u in
    (k.0, k.1, k.2, k.3, LacksMemory (same_refused z c ∙ e) m a k.4)
obeys z c answer said new (GoesDown e m a u) =
    let k = falls z 33 said new u in
    (k.0, k.1, k.2, k.3, GoesDown (same_refused z c ∙ e) m a k.4)
obeys z c answer said new (Shuts n e a u) =
    let k = shuts z n z.rest.down said new u in
    (k.0, k.1, k.2, k.3, Shuts n e a k.4)
obeys z c answer said new (IsDone given e a d w) =
    let k = acts (begin2 z) c given d.acted d.acts in
    let r = ends k.0 d.acted said new k.1 d.ends in (
      r.0,
      r.1,
      r.2,
      r.3,
      IsDone given (same_refused z c ∙ e) a (record { acted = progress_at true k.0; acts = k.2; ends = r.4 }) (within r.1 (subst IsWithin r.3 w)),
    )

pub receives : (z : TwoStates) (m : TwoMessages) (said : Effects) (new : State) → Receives (state_at false z) (message_at false m) said new → ComesAlike said new (Receives (state_at true z) (message_at true m))
receives z m said new (WasDown d u) =
    let k = unchanged z said new u in
    (k.0, k.1, k.2, k.3, WasDown d k.4)
receives z m said new (FaultsBy n d e a u) =
    let f = falls_by m n in
    (f.0, fallen2 z n, a ∙ f.1, u ∙ sym (falls_so false z n), FaultsBy n d (same_fault z m ∙ e) f.2 (falls_so true z n))
receives z m said new (LacksRoom d l u) =
    let k = falls z 33 said new u in
    (k.0, k.1, k.2, k.3, LacksRoom d (lacks_as m l) k.4)
receives z m said new (IsHandled d e h w) =
    let k = takes (begin2 z) m h.taken h.takes in
    let r = ends k.0 h.taken said new k.1 h.ends in (
      r.0,
      r.1,
      r.2,
      r.3,
      IsHandled d (same_fault z m ∙ e) (record { taken = progress_at true k.0; takes = k.2; ends = r.4 }) (within r.1 (subst IsWithin r.3 w)),
    )

pub steps_are_alike : StepsAreAlike
steps_are_alike = record {
  commands = λ z c answer said new h. obeys z c answer said new h;
  messages = λ z m said new h. receives z m said new h;
}
