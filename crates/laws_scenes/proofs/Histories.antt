-- What a step adds to the journal: the call that is made, and what is delivered.
use Rattle.std.proofs.Common.{◌≡◌, ◌⊎◌, inl, inr, ℕ, suc, ◌+◌, Bool, true, false, ◌&&◌, nat_eq, Option, None, Some, Ok, List, [], ◌∷◌, ◌++◌, map, length, length-append, append-nil, refl, sym, ap, subst, ◌∙◌, arith}
use Rattle.finite_maps.proofs.Tested as tested
use Rattle.rpc_msg.specs.declared.ids.Vat.{Vat}
use Rattle.rpc_msg.specs.declared.ids.CallId.{CallId}
use Rattle.rpc_msg.specs.declared.ids.RefId.{RefId}
use Rattle.rpc_msg.specs.declared.ids.Stamp.{Stamp}
use Rattle.rpc_msg.specs.declared.message.Message.{Message}
use Rattle.rpc_journal.specs.declared.report.Delivery.{Delivery}
use Rattle.rpc_journal.specs.declared.report.Ended.{Ended}
use Rattle.rpc_journal.specs.declared.entry.Origin.{Origin}
use Rattle.rpc_journal.specs.declared.entry.Origin.TheVariants as origin
use Rattle.rpc_journal.specs.declared.entry.JournalEntry.{JournalEntry}
use Rattle.rpc_journal.specs.declared.entry.JournalEntry.TheVariants as entry
use Rattle.rpc_journal.specs.History.{DeliveredAt, Ref, if_so, in_front, made, same_ref}
use Rattle.rpc_machine.specs.declared.command.CallCommand.{CallCommand}
use Rattle.rpc_machine.specs.declared.command.Command.{Command}
use Rattle.rpc_machine.specs.declared.command.Command.TheVariants as command
use Rattle.rpc_machine.specs.declared.command.Granted.{Granted}
use Rattle.rpc_machine.specs.declared.command.Granted.TheVariants as granted
use Rattle.rpc_machine.specs.declared.command.Effects.{Effects}
use Rattle.rpc_machine.specs.State.{State}
use Rattle.rpc_machine.specs.Steps.{Does}
use Rattle.rpc_machine.specs.World.{Answered, Handled}
use Rattle.rpc_machine.specs.Journal.{advanced_entries, asked_entries, born, born_promise, command_entries, deliver_entries, effect_entries, granted_entries, index_in, made_entries, went_down}
use Rattle.laws_order.specs.Machine.{changed, choose}
use Rattle.laws_runs.proofs.KeptCounts.{IsNoCall, does_call}
use Rattle.laws_runs.proofs.MakesNone.{MakesNone, both, call_or_not, deliver_none, effects_make_none, granted_none, none_behind}
use Rattle.laws_runs.proofs.Reading.{all_that-append, itself, made-append, same_ref_is}
use Rattle.laws_routes.specs.Points.{routes}
use Rattle.laws_routes.specs.Ghosts.{ref_at}
use Rattle.laws_routes.specs.Ties.{Around, all_at}
use Rattle.laws_routes.specs.StepLaws.{made_by}
use Rattle.laws_scenes.specs.Walked.{Counts, all_told, told_one}

-- ---- What is delivered

abbrev pub TellsNone : List JournalEntry → Type 0
TellsNone es = all_told es ≡ []

sent_none : (v : Vat) (ms : List Message) → TellsNone (map (entry.Sent v) ms)
sent_none v [] = refl
sent_none v (m ∷ ms) = sent_none v ms

ended_none : (v : Vat) (xs : List Ended) → TellsNone (map (entry.Ended v) xs)
ended_none v [] = refl
ended_none v (x ∷ xs) = ended_none v xs

down_none : (v : Vat) (o : Option ℕ) → TellsNone (went_down v o)
down_none v None = refl
down_none v (Some n) = refl

delivered_all : (v : Vat) (ds : List Delivery) → all_told (map (entry.Delivered v) ds) ≡ all_at v ds
delivered_all v [] = refl
delivered_all v (d ∷ ds) = ap (λ (l : List DeliveredAt). record { vat = v; delivery = d } ∷ l) (delivered_all v ds)

pub none_behind_all : (xs ys : List JournalEntry) → TellsNone ys → all_told (xs ++ ys) ≡ all_told xs
none_behind_all xs ys e = all_that-append told_one xs ys ∙ ap (λ (l : List DeliveredAt). all_told xs ++ l) e ∙ append-nil (all_told xs)

none_ahead : (xs ys : List JournalEntry) → TellsNone xs → all_told (xs ++ ys) ≡ all_told ys
none_ahead xs ys e = all_that-append told_one xs ys ∙ ap (λ (l : List DeliveredAt). l ++ all_told ys) e

pub effects_tell : (v : Vat) (x : Effects) → all_told (effect_entries v x) ≡ all_at v x.deliveries
effects_tell v x =
    let ms = map (entry.Sent v) x.sends in
    let ds = map (entry.Delivered v) x.deliveries in
    let es = map (entry.Ended v) x.answers in
    none_behind_all (ms ++ ds ++ es) (went_down v x.down) (down_none v x.down) ∙ none_behind_all (ms ++ ds) es (ended_none v x.answers) ∙ none_ahead ms ds (sent_none v x.sends) ∙ delivered_all v x.deliveries

born_none : (v : Vat) (o : Origin) (g : Granted) → TellsNone (born v o g)
born_none v o (granted.Reference x) = refl
born_none v o g = refl

promise_none : (v : Vat) (g : Granted) → TellsNone (born_promise v g)
promise_none v (granted.Promise p x) = refl
promise_none v g = refl

asked_none : (v : Vat) (g : Granted) → TellsNone (asked_entries v g)
asked_none v (granted.Call c) = refl
asked_none v g = refl

advanced_none : (v : Vat) (x : RefId) (g : Granted) → TellsNone (advanced_entries v x g)
advanced_none v x (granted.Advanced a) = refl
advanced_none v x g = refl

made_none : (h : List JournalEntry) (v : Vat) (c : CallCommand) (g : Granted) → TellsNone (made_entries h v c g)
made_none h v c (granted.Call id) = refl
made_none h v c g = refl

pub granted_tell : (h : List JournalEntry) (v : Vat) (c : Command) (g : Granted) → TellsNone (granted_entries h v c g)
granted_tell h v (command.Host o) g = born_none v (origin.Object o) g
granted_tell h v (command.CloneRef x) g = born_none v (origin.Clone x) g
granted_tell h v command.Bootstrap g = asked_none v g
granted_tell h v (command.Call k) g = made_none h v k g
granted_tell h v (command.Field k path) g = born_none v (origin.Field k path) g
granted_tell h v command.Promise g = promise_none v g
granted_tell h v (command.Advance x) g = advanced_none v x g
granted_tell h v c g = refl

pub commands_tell : (h : List JournalEntry) (v : Vat) (c : Command) (g : Granted) (x : Effects) → all_told (h ++ command_entries h v c true (Answered (Ok g) x)) ≡ all_told h ++ all_at v x.deliveries
commands_tell h v c g x =
    all_that-append told_one h (command_entries h v c true (Answered (Ok g) x))
    ∙ ap (λ (l : List DeliveredAt). all_told h ++ l) (none_ahead (granted_entries h v c g) (effect_entries v x) (granted_tell h v c g) ∙ effects_tell v x)

pub messages_tell : (h : List JournalEntry) (v : Vat) (x : Effects) → all_told (h ++ deliver_entries v (Handled x)) ≡ all_told h ++ all_at v x.deliveries
messages_tell h v x = all_that-append told_one h (deliver_entries v (Handled x)) ∙ ap (λ (l : List DeliveredAt). all_told h ++ l) (effects_tell v x)

-- ---- What is made

pub none_counts : (f : Ref → ℕ) (h es : List JournalEntry) → MakesNone es → Counts f h → Counts f (h ++ es)
none_counts f h es n k r = k r ∙ ap (λ (l : List Stamp). length l) (sym (none_behind h es n r))

no_call_made : (w : Around) (c : Command) → IsNoCall c → (made_by w c).made ≡ w.made
no_call_made w (command.Call k) i = absurd i
no_call_made w c i = refl

-- All else is as it was.
pub same_ref_itself : (v : Vat) (n : ℕ) → same_ref (ref_at v n) (ref_at v n) ≡ true
same_ref_itself v n = ap (λ (b : Bool). b && nat_eq n n) (itself v) ∙ tested.itself n

module _ (h : List JournalEntry) (w : Around) (c : CallCommand) (id : CallId) (told : Effects) (k : Counts w.made h) where
  abbrev v : Vat
  v = w.vat

  abbrev to : Ref
  to = ref_at v c.reference.0

  abbrev stamp : Stamp
  stamp = record { vat = v; reference = c.reference; index = index_in h v c.reference }

  behind : (q : Ref) → made (h ++ (made_entries h v c (granted.Call id) ++ effect_entries v told)) q ≡ made h q ++ in_front (if_so (same_ref q to) stamp) []
  behind q =
      let es = made_entries h v c (granted.Call id) in
      made-append h (es ++ effect_entries v told) q
      ∙ ap (λ (l : List Stamp). made h q ++ l) (made-append es (effect_entries v told) q ∙ ap (λ (l : List Stamp). made es q ++ l) (effects_make_none v told q) ∙ append-nil (made es q))

  one_counts : Counts (changed routes.same_ref w.made to (suc (w.made to))) (h ++ (made_entries h v c (granted.Call id) ++ effect_entries v told))
  one_counts q = by (routes.same_ref q to) ∙ ap (λ (l : List Stamp). length l) (sym (behind q))
    where
      by : (d : Dec (q ≡ to)) → choose d (suc (w.made to)) (w.made q) ≡ length (made h q ++ in_front (if_so (same_ref q to) stamp) [])
      by (yes e) =
          let t : same_ref q to ≡ true = ap (λ (p : Ref). same_ref p to) e ∙ same_ref_itself v c.reference.0 in
          let l : length (made h q ++ stamp ∷ []) ≡ length (made h q) + 1 = length-append (made h q) (stamp ∷ []) in
          let n : w.made to ≡ length (made h q) = ap w.made (sym e) ∙ k q in
          let sum : suc (w.made to) ≡ length (made h q ++ stamp ∷ []) = omega (arith, l, n) in
          sum ∙ ap (λ (b : Bool). length (made h q ++ in_front (if_so b stamp) [])) (sym t)
      by (no n) = other (same_ref q to) refl
        where
          other : (b : Bool) → same_ref q to ≡ b → w.made q ≡ length (made h q ++ in_front (if_so (same_ref q to) stamp) [])
          other true e = absurd (n (same_ref_is q to e))
          other false e = k q ∙ ap (λ (l : List Stamp). length l) (sym (append-nil (made h q))) ∙ ap (λ (b : Bool). length (made h q ++ in_front (if_so b stamp) [])) (sym e)

pub commands_count : (h : List JournalEntry) (w : Around) (s t : State) (c : Command) (g : Granted) (x : Effects) → Counts w.made h → Does s c g x t → Counts (made_by w c).made (h ++ command_entries h w.vat c true (Answered (Ok g) x))
commands_count h w s t c g x k d = by (call_or_not c)
  where
    by : (IsNoCall c ⊎ ((y : CallCommand) × (c ≡ command.Call y))) → Counts (made_by w c).made (h ++ command_entries h w.vat c true (Answered (Ok g) x))
    by (inl i) =
        none_counts (made_by w c).made h (command_entries h w.vat c true (Answered (Ok g) x)) (both (granted_entries h w.vat c g) (effect_entries w.vat x) (granted_none h w.vat c g i) (effects_make_none w.vat x))
        (λ r. ap (λ (f : Ref → ℕ). f r) (no_call_made w c i) ∙ k r)
    by (inr y) =
        subst (λ (b : Command). Counts (made_by w b).made (h ++ command_entries h w.vat b true (Answered (Ok g) x))) (sym y.1)
        (let a = does_call s y.0 g x t (subst (λ (b : Command). Does s b g x t) y.1 d) in
        subst (λ (b : Granted). Counts (made_by w (command.Call y.0)).made (h ++ command_entries h w.vat (command.Call y.0) true (Answered (Ok b) x))) (sym a.2) (one_counts h w y.0 (record { 0 = s.next_call }) x k))

pub messages_count : (h : List JournalEntry) (v : Vat) (f : Ref → ℕ) (x : Effects) → Counts f h → Counts f (h ++ deliver_entries v (Handled x))
messages_count h v f x k = none_counts f h (deliver_entries v (Handled x)) (deliver_none v (Handled x)) k
