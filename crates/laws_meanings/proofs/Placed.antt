-- Sums over places of the calls with one stamp: lists, tables, and what a call writes of itself.
use Rattle.std.proofs.Common.{◌≡◌, inl, inr, ℕ, ◌+◌, ◌≤◌, ◌<◌, Bool, true, false, ◌&&◌, nat_eq, Option, None, Some, List, [], ◌∷◌, ◌++◌, map, refl, ap, ◌∙◌, arith}
use Rattle.finite_maps.specs.Tally.{tally}
use Rattle.finite_maps.proofs.Tallies.{tally-new}
use Rattle.rpc_msg.specs.Payloads.{Contents as Payload}
use Rattle.rpc_msg.specs.declared.ids.Vat.{Vat}
use Rattle.rpc_msg.specs.declared.ids.Stamp.{Stamp}
use Rattle.rpc_msg.specs.declared.message.Message.{Message}
use Rattle.rpc_journal.specs.declared.report.Delivery.{Delivery}
use Rattle.rpc_journal.specs.declared.report.Ended.{Ended}
use Rattle.rpc_journal.specs.declared.entry.JournalEntry.{JournalEntry}
use Rattle.rpc_journal.specs.declared.entry.JournalEntry.TheVariants as entry
use Rattle.rpc_journal.specs.History.{same_vat, same_stamp, caller, stamp_of, in_front, if_so, or_rest, made, DeliveredAt, delivery_one, first_that}
use Rattle.rpc_machine.specs.declared.node.Node.{Node}
use Rattle.rpc_machine.specs.declared.calls.WaitingCall.{WaitingCall}
use Rattle.rpc_machine.specs.declared.calls.HeldCall.{HeldCall}
use Rattle.rpc_machine.specs.declared.calls.Promise.TheVariants as promise
use Rattle.rpc_machine.specs.declared.calls.Caller.{Caller}
use Rattle.rpc_machine.specs.declared.calls.Value.{Value}
use Rattle.rpc_machine.specs.declared.calls.Value.TheVariants as value
use Rattle.rpc_machine.specs.declared.command.Effects.{Effects}
use Rattle.rpc_machine.specs.State.{State}
use Rattle.rpc_machine.specs.Settling.{PutsIn, Untangles, Fits}
use Rattle.rpc_machine.specs.Journal.{went_down, effect_entries}
use Rattle.rpc_machine.specs.Claims.{IsNumbered}
use Rattle.laws_acts.specs.Moments.{each_to, held_to}
use Rattle.laws_acts.specs.SmallActs.{release_messages}
use Rattle.laws_meanings.specs.OnePlace.{counted, is_call, in_calls, in_held, at_promise, on_way, deliveries_of}
use Rattle.laws_meanings.specs.NoneLost.{in_yet, in_deliveries}

-- ---- One entry of a table

module _ (s : Stamp) where
  -- ---- Lists

  pub one_more : (cs : List WaitingCall) (c : WaitingCall) → in_calls s (cs ++ c ∷ []) ≡ in_calls s cs + is_call s c
  one_more [] c = omega arith
  one_more (x ∷ xs) c = let a = one_more xs c in omega arith

  pub one_held : (xs : List HeldCall) (h : HeldCall) → in_held s (xs ++ h ∷ []) ≡ in_held s xs + is_call s h.call
  one_held [] h = omega arith
  one_held (x ∷ xs) h = let a = one_held xs h in omega arith

  pub way-append : (xs ys : List Message) → on_way s (xs ++ ys) ≡ on_way s xs + on_way s ys
  way-append [] ys = omega arith
  way-append (x ∷ xs) ys = let a = way-append xs ys in omega arith

  pub entries-append : (xs ys : List JournalEntry) → deliveries_of s (xs ++ ys) ≡ deliveries_of s xs + deliveries_of s ys
  entries-append [] ys = omega arith
  entries-append (x ∷ xs) ys = let a = entries-append xs ys in omega arith

  pub deliveries-append : (xs ys : List Delivery) → in_deliveries s (xs ++ ys) ≡ in_deliveries s xs + in_deliveries s ys
  deliveries-append [] ys = omega arith
  deliveries-append (x ∷ xs) ys = let a = deliveries-append xs ys in omega arith

  pub all_to : (n : Node) (cs : List WaitingCall) → in_yet s (each_to n cs) ≡ in_calls s cs
  all_to n [] = refl
  all_to n (c ∷ cs) = let a = all_to n cs in omega arith

  pub all_held : (k : ℕ) (xs : List HeldCall) → in_yet s (held_to k xs) ≡ in_held s xs
  all_held k [] = refl
  all_held k (x ∷ xs) = let a = all_held k xs in omega arith

  pub no_releases : (xs : List (ℕ × ℕ)) → on_way s (release_messages xs) ≡ 0
  no_releases [] = refl
  no_releases (x ∷ xs) = let a = no_releases xs in omega arith

  -- ---- The promises of a value that fits hold no calls

  module _ (o : ℕ) (who : Caller) (w : List HeldCall) where
    put_promises : (payload : Payload) (t : State) (i : ℕ) (n : Node) (rest out : List Node) (new : State) → PutsIn t o who w payload i n rest out new → tally (at_promise s) new.promises ≡ tally (at_promise s) t.promises
    put_promises payload t i n rest out new (inl h) = rw h.2 refl
    put_promises payload t i n rest out new (inr h) = let g = h.1 in let a = tally-new (at_promise s) t.promises g.0 (promise.Open []) g.1 in rw g.3 (omega arith)

    untangled : (payload : Payload) (t : State) (i : ℕ) (ns out : List Node) (new : State) → Untangles t o who w payload i ns out new → tally (at_promise s) new.promises ≡ tally (at_promise s) t.promises
    untangled payload t i [] out new h = rw h.1 refl
    untangled payload t i (n ∷ ns) out new h = put_promises payload h.1 i n h.0 out new h.3 ∙ untangled payload t (i + 1) ns h.0 h.1 h.2

    pub fitted : (t : State) (v fit : Value) (new : State) → Fits t o who w v fit new → tally (at_promise s) new.promises ≡ tally (at_promise s) t.promises
    fitted t (value.Exception x) fit new h = rw h.1 refl
    fitted t (value.Results payload ns) fit new h = untangled payload t 0 ns h.0 new h.2

  -- ---- What effects write

  no_sends : (v : Vat) (ms : List Message) → deliveries_of s (map (entry.Sent v) ms) ≡ 0
  no_sends v [] = refl
  no_sends v (m ∷ ms) = let e = no_sends v ms in omega arith

  all_deliveries : (v : Vat) (ds : List Delivery) → deliveries_of s (map (entry.Delivered v) ds) ≡ in_deliveries s ds
  all_deliveries v [] = refl
  all_deliveries v (d ∷ ds) = let e = all_deliveries v ds in omega arith

  no_answers : (v : Vat) (xs : List Ended) → deliveries_of s (map (entry.Ended v) xs) ≡ 0
  no_answers v [] = refl
  no_answers v (x ∷ xs) = let e = no_answers v xs in omega arith

  none_down : (v : Vat) (o : Option ℕ) → deliveries_of s (went_down v o) ≡ 0
  none_down v None = refl
  none_down v (Some n) = refl

  pub of_effects : (v : Vat) (x : Effects) → deliveries_of s (effect_entries v x) ≡ in_deliveries s x.deliveries
  of_effects v x =
      let ms = map (entry.Sent v) x.sends in
      let ds = map (entry.Delivered v) x.deliveries in
      let es = map (entry.Ended v) x.answers in
      let a = entries-append (ms ++ ds ++ es) (went_down v x.down) in
      let b = entries-append (ms ++ ds) es in
      let c = entries-append ms ds in
      let e = none_down v x.down in
      let f = no_sends v x.sends in
      let g = all_deliveries v x.deliveries in
      let i = no_answers v x.answers in
      omega arith

  -- ---- How often a call was made

  abbrev pub made_in : JournalEntry → ℕ
  made_in (entry.Made v m) = counted (same_stamp s (stamp_of v m))
  made_in e = 0

  abbrev pub times_made : List JournalEntry → ℕ
  times_made [] = 0
  times_made (e ∷ es) = made_in e + times_made es

  pub made-append : (xs ys : List JournalEntry) → times_made (xs ++ ys) ≡ times_made xs + times_made ys
  made-append [] ys = omega arith
  made-append (x ∷ xs) ys = let a = made-append xs ys in omega arith

  -- Those from an index on, once at most.
  abbrev OnceBehind : ℕ → ℕ → Type 0
  OnceBehind i n = (n ≤ 1) × (s.index < i → n ≡ 0)

  one_silent : (i n : ℕ) → OnceBehind i n → OnceBehind i (0 + n)
  one_silent i n o = (let a = o.0 in omega arith, λ l. let a = o.1 l in omega arith)

  pub made_once : (h : List JournalEntry) (i : ℕ) → IsNumbered (caller s) i (made h (caller s)) → OnceBehind i (times_made h)
  made_once [] i n = (omega arith, λ l. refl)
  made_once (entry.Made v x ∷ es) i n = by (same_vat s.vat v) (nat_eq s.reference.0 x.reference.0) (nat_eq s.index x.index) refl (λ j. made_once es j) n
    where
      by : (a b c : Bool) → nat_eq s.index x.index ≡ c → ((j : ℕ) → IsNumbered (caller s) j (made es (caller s)) → OnceBehind j (times_made es))
          → IsNumbered (caller s) i (in_front (if_so (a && b) (stamp_of v x)) (made es (caller s))) → OnceBehind i (counted (a && b && c) + times_made es)
      by true true true f r n =
          let k : x.index ≡ i = ap (λ (t : Stamp). t.index) n.0 in
          let j : s.index ≡ x.index = grind arith in
          let rest = r (i + 1) n.1 in
          let z : times_made es ≡ 0 = rest.1 (omega arith) in
          (omega arith, λ l. absurd (omega arith))
      by true true false f r n = let rest = r (i + 1) n.1 in (let a = rest.0 in omega arith, λ l. let a = rest.1 (omega arith) in omega arith)
      by true false c f r n = one_silent i (times_made es) (r i n)
      by false b c f r n = one_silent i (times_made es) (r i n)
  made_once (e ∷ es) i n = one_silent i (times_made es) (made_once es i n)

  -- ---- Where there is none

  pub not_delivered : (h : List JournalEntry) → deliveries_of s h ≡ 0 → first_that (delivery_one s) h ≡ None
  not_delivered [] e = refl
  not_delivered (entry.Delivered v d ∷ es) e = by (same_stamp s d.stamp) (not_delivered es) e
    where
      by : (b : Bool) → (deliveries_of s es ≡ 0 → first_that (delivery_one s) es ≡ None) → counted b + deliveries_of s es ≡ 0 → ◌≡◌ {A = Option DeliveredAt} (or_rest (if_so b (record { vat = v; delivery = d })) (first_that (delivery_one s) es)) None
      by true g e = absurd (omega arith)
      by false g e = g (omega arith)
  not_delivered (x ∷ xs) e = not_delivered xs (omega arith)
