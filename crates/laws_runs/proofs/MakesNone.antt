-- Which entries make no call: all but the own entry of a `call` that was granted.
use Rattle.std.proofs.Common.{◌≡◌, ◌⊎◌, inl, inr, Option, None, Some, List, [], ◌∷◌, ◌++◌, map, append-nil, refl, ap, ◌∙◌}
use Rattle.rpc_msg.specs.declared.ids.Vat.{Vat}
use Rattle.rpc_msg.specs.declared.ids.RefId.{RefId}
use Rattle.rpc_msg.specs.declared.ids.Stamp.{Stamp}
use Rattle.rpc_journal.specs.declared.entry.Origin.{Origin}
use Rattle.rpc_journal.specs.declared.entry.Origin.TheVariants as origin
use Rattle.rpc_journal.specs.declared.entry.JournalEntry.{JournalEntry}
use Rattle.rpc_journal.specs.declared.entry.JournalEntry.TheVariants as entry
use Rattle.rpc_journal.specs.History.{Ref, in_front, made_stamp, made}
use Rattle.rpc_machine.specs.declared.command.CallCommand.{CallCommand}
use Rattle.rpc_machine.specs.declared.command.Command.{Command}
use Rattle.rpc_machine.specs.declared.command.Command.TheVariants as command
use Rattle.rpc_machine.specs.declared.command.Granted.{Granted}
use Rattle.rpc_machine.specs.declared.command.Granted.TheVariants as granted
use Rattle.rpc_machine.specs.declared.command.Refusal.{Refusal}
use Rattle.rpc_machine.specs.declared.command.Refusal.TheVariants as refusal
use Rattle.rpc_machine.specs.declared.command.Effects.{Effects}
use Rattle.rpc_machine.specs.Steps.{MayFall}
use Rattle.rpc_machine.specs.World.{StepAnswer, Answered, Handled, Empty}
use Rattle.rpc_machine.specs.Journal.{went_down, effect_entries, refused_entries, born, born_promise, asked_entries, advanced_entries, granted_entries, deliver_entries}
use Rattle.laws_runs.proofs.KeptCounts.{IsNoCall}
use Rattle.laws_runs.proofs.Reading.{made-append}

abbrev pub MakesNone : List JournalEntry → Type 0
MakesNone es = (r : Ref) → made es r ≡ []

pub both : (xs ys : List JournalEntry) → MakesNone xs → MakesNone ys → MakesNone (xs ++ ys)
both xs ys h k r = made-append xs ys r ∙ ap (λ (l : List Stamp). l ++ made ys r) (h r) ∙ k r

-- So what was made stays as it was.
pub none_behind : (h es : List JournalEntry) → MakesNone es → (r : Ref) → made (h ++ es) r ≡ made h r
none_behind h es k r = made-append h es r ∙ ap (λ (l : List Stamp). made h r ++ l) (k r) ∙ append-nil (made h r)

-- ---- Effects

none_of : {X : Type 0} (f : X → JournalEntry) → ((x : X) (r : Ref) → made_stamp r (f x) ≡ None) → (xs : List X) → MakesNone (map f xs)
none_of f n [] r = refl
none_of f n (x ∷ xs) r = ap (λ (o : Option Stamp). in_front o (made (map f xs) r)) (n x r) ∙ none_of f n xs r

none_down : (v : Vat) (o : Option _) → MakesNone (went_down v o)
none_down v None r = refl
none_down v (Some n) r = refl

pub effects_make_none : (v : Vat) (x : Effects) → MakesNone (effect_entries v x)
effects_make_none v x =
    let ms = map (entry.Sent v) x.sends in
    let ds = map (entry.Delivered v) x.deliveries in
    let es = map (entry.Ended v) x.answers in
    both (ms ++ ds ++ es) (went_down v x.down)
    (both (ms ++ ds) es (both ms ds (none_of (entry.Sent v) (λ y r. refl) x.sends) (none_of (entry.Delivered v) (λ y r. refl) x.deliveries)) (none_of (entry.Ended v) (λ y r. refl) x.answers))
    (none_down v x.down)

pub deliver_none : (v : Vat) (a : StepAnswer) → MakesNone (deliver_entries v a)
deliver_none v (Answered a told) r = refl
deliver_none v (Handled told) r = effects_make_none v told r
deliver_none v Empty r = refl

-- ---- What a command writes of itself

pub refused_none : (v : Vat) (x : Refusal) → MakesNone (refused_entries v x)
refused_none v refusal.Down r = refl
refused_none v x r = refl

born_none : (v : Vat) (o : Origin) (g : Granted) → MakesNone (born v o g)
born_none v o (granted.Reference x) r = refl
born_none v o g r = refl

promise_none : (v : Vat) (g : Granted) → MakesNone (born_promise v g)
promise_none v (granted.Promise p x) r = refl
promise_none v g r = refl

asked_none : (v : Vat) (g : Granted) → MakesNone (asked_entries v g)
asked_none v (granted.Call c) r = refl
asked_none v g r = refl

advanced_none : (v : Vat) (x : RefId) (g : Granted) → MakesNone (advanced_entries v x g)
advanced_none v x (granted.Advanced a) r = refl
advanced_none v x g r = refl

pub call_or_not : (c : Command) → IsNoCall c ⊎ ((k : CallCommand) × (c ≡ command.Call k))
call_or_not (command.Call k) = inr (k, refl)
call_or_not c = inl tt

-- A call is refused for want of room, it does not fall.
pub falls_no_call : (c : Command) → MayFall c → IsNoCall c
falls_no_call (command.Call k) h = absurd h
falls_no_call c h = tt

pub granted_none : (h : List JournalEntry) (v : Vat) (c : Command) (g : Granted) → IsNoCall c → MakesNone (granted_entries h v c g)
granted_none h v (command.Host o) g i = born_none v (origin.Object o) g
granted_none h v (command.CloneRef x) g i = born_none v (origin.Clone x) g
granted_none h v command.Bootstrap g i = asked_none v g
granted_none h v (command.Call k) g i = absurd i
granted_none h v (command.Field k path) g i = born_none v (origin.Field k path) g
granted_none h v command.Promise g i = promise_none v g
granted_none h v (command.Advance x) g i = advanced_none v x g
granted_none h v c g i = λ r. refl
