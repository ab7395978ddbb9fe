-- Where none of a reference's calls is pending and none was delivered, each of them is at no place.
use Rattle.std.proofs.Common.{◌≡◌, ◌⊎◌, inl, inr, ℕ, ◌+◌, ◌≤◌, Bool, true, false, ◌&&◌, nat_eq, cond, List, [], ◌∷◌, ◌++◌, refl, sym, ap, ◌∙◌, subst, arith}
use Rattle.std.specs.FinMap as map
use Rattle.finite_maps.specs.Tally.{Map, tally, tally_of}
use Rattle.rpc_msg.specs.declared.ids.Stamp.{Stamp}
use Rattle.rpc_msg.specs.declared.message.Message.{Message}
use Rattle.rpc_msg.specs.declared.message.Message.TheVariants as message
use Rattle.rpc_msg.specs.declared.message.PlainMessage.TheVariants as plain
use Rattle.rpc_journal.specs.declared.entry.JournalEntry.{JournalEntry}
use Rattle.rpc_journal.specs.declared.entry.JournalEntry.TheVariants as entry
use Rattle.rpc_journal.specs.History.{Ref, same_ref, same_stamp, caller, stamp_of, in_front, if_so, stamps, deliveries, delivered, made}
use Rattle.rpc_journal.specs.Meaning.{History, ObjectAt, Broken}
use Rattle.rpc_machine.specs.declared.calls.HeldCall.{HeldCall}
use Rattle.rpc_machine.specs.declared.calls.WaitingCall.{WaitingCall}
use Rattle.rpc_machine.specs.declared.calls.Promise.{Promise}
use Rattle.rpc_machine.specs.declared.calls.Promise.TheVariants as promise
use Rattle.rpc_machine.specs.State.{State}
use Rattle.rpc_machine.specs.Lists.{from_each, of_map}
use Rattle.rpc_machine.specs.Queries.{stamps_of_calls, stamps_of_held, stamps_at_promise, stamps_at_outcome, stamps_under, is_through}
use Rattle.rpc_machine.specs.Queries as queries
use Rattle.rpc_machine.specs.Pending.{in_messages, open_calls, through, pending}
use Rattle.rpc_machine.specs.Pending as unread
use Rattle.rpc_machine.specs.World.{World}
use Rattle.rpc_machine.specs.Claims.{history}
use Rattle.laws_runs.specs.Meanings.{MeaningsAreOne}
use Rattle.laws_runs.specs.Scenes.{Scene}
use Rattle.laws_runs.proofs.Reading.{same_ref_is}
use Rattle.laws_meanings.specs.OnePlace.{counted, in_calls, in_held, at_promise, at_outcome, at_embargo, waiting, in_message, on_way, deliveries_of, places}
use Rattle.laws_meanings.specs.NodeMeanings.{Itself, OfRef, Leads}
use Rattle.laws_meanings.specs.NoneLost.{IsToBroken, ObjectsLoseNone}
use Rattle.laws_meanings.proofs.Links.{led_to_broken}
use Rattle.laws_meanings.proofs.Placed.{times_made}
use Rattle.laws_meanings.proofs.Somewhere.{there}
use Rattle.laws_meanings.proofs.Stamped.{same_itself}

module _ (k : Stamp) where
  -- ---- Places as lists of stamps

  abbrev times : List Stamp → ℕ
  times [] = 0
  times (s ∷ ss) = counted (same_stamp k s) + times ss

  times-append : (xs ys : List Stamp) → times (xs ++ ys) ≡ times xs + times ys
  times-append [] ys = omega arith
  times-append (x ∷ xs) ys = let a = times-append xs ys in omega arith

  of_calls : (cs : List WaitingCall) → in_calls k cs ≡ times (stamps_of_calls cs)
  of_calls [] = refl
  of_calls (c ∷ cs) = let a = of_calls cs in omega arith

  of_held : (hs : List HeldCall) → in_held k hs ≡ times (stamps_of_held hs)
  of_held [] = refl
  of_held (h ∷ hs) = let a = of_held hs in omega arith

  of_promise : (p : ℕ) (x : Promise) → at_promise k x ≡ times (stamps_at_promise p x)
  of_promise p (promise.Open calls) = of_calls calls
  of_promise p (promise.Fixed to) = refl

  module _ {X : Type 0} (f : X → ℕ) (g : ℕ → X → List Stamp) (same : (i : ℕ) (x : X) → f x ≡ times (g i x)) where
    of_entries : (es : List (ℕ × X)) → tally_of f es ≡ times (from_each g es)
    of_entries [] = refl
    of_entries (e ∷ es) = let a = of_entries es in let b = same e.0 e.1 in let c = times-append (g e.0 e.1) (from_each g es) in omega arith

    of_table : (m : Map X) → tally f m ≡ times (of_map g m)
    of_table m = of_entries (map.entries m)

  of_state : (s : State) → waiting k s ≡ times (queries.waiting s)
  of_state s =
      let a = of_table (at_promise k) stamps_at_promise of_promise s.promises in
      let b = of_table (at_outcome k) stamps_at_outcome (λ i x. of_held x.waiting) s.outcomes in
      let c = of_table (at_embargo k) stamps_under (λ i x. of_calls x.waiting) s.embargoes in
      let d = times-append (of_map stamps_at_promise s.promises) (of_map stamps_at_outcome s.outcomes) in
      let e = times-append (of_map stamps_at_promise s.promises ++ of_map stamps_at_outcome s.outcomes) (of_map stamps_under s.embargoes) in
      omega arith

  of_message : (m : Message) → in_message k m ≡ times (unread.in_message m)
  of_message (message.Plain (plain.Call c)) = omega arith
  of_message (message.Plain (plain.Abort exception)) = refl
  of_message (message.Plain (plain.Bootstrap q)) = refl
  of_message (message.Plain (plain.Return r)) = refl
  of_message (message.Plain (plain.Finish f)) = refl
  of_message (message.Plain (plain.Resolve r)) = refl
  of_message (message.Plain (plain.Release r)) = refl
  of_message (message.Plain (plain.Disembargo d)) = refl
  of_message (message.Plain (plain.Other n)) = refl
  of_message (message.Unimplemented p) = refl

  of_link : (ms : List Message) → on_way k ms ≡ times (in_messages ms)
  of_link [] = refl
  of_link (m ∷ ms) = let a = of_link ms in let b = of_message m in let c = times-append (unread.in_message m) (in_messages ms) in omega arith

  of_world : (w : World) → waiting k w.a.core + waiting k w.b.core + (on_way k w.a.inbox + on_way k w.b.inbox) ≡ times (open_calls w)
  of_world w =
      let a = of_state w.a.core in
      let b = of_state w.b.core in
      let c = of_link w.a.inbox in
      let d = of_link w.b.inbox in
      let e = times-append (queries.waiting w.a.core) (queries.waiting w.b.core) in
      let f = times-append (queries.waiting w.a.core ++ queries.waiting w.b.core) (in_messages w.a.inbox) in
      let g = times-append (queries.waiting w.a.core ++ queries.waiting w.b.core ++ in_messages w.a.inbox) (in_messages w.b.inbox) in
      omega arith

  -- ---- None of its reference

  -- A stamp of another reference is another one.
  other_stamp : (s : Stamp) → same_ref (caller k) (caller s) ≡ false → same_stamp k s ≡ false
  other_stamp s e = by (same_ref (caller k) (caller s)) (nat_eq k.index s.index) e
    where
      by : (a b : Bool) → a ≡ false → (a && b) ≡ false
      by true b f = cc
      by false b f = refl

  none_through : (ss : List Stamp) → through (caller k) ss ≡ [] → times ss ≡ 0
  none_through [] e = refl
  none_through (s ∷ ss) e = by (is_through (caller k) s) refl (none_through ss) e
    where
      by : (b : Bool) → same_ref (caller k) (caller s) ≡ b → (through (caller k) ss ≡ [] → times ss ≡ 0) → cond b (s ∷ through (caller k) ss) (through (caller k) ss) ≡ [] → counted (same_stamp k s) + times ss ≡ 0
      by true f r g = cc
      by false f r g = let a = r g in let c = ap counted (other_stamp s f) in omega arith

  none_delivered : (h : List JournalEntry) → delivered h (caller k) ≡ [] → deliveries_of k h ≡ 0
  none_delivered [] e = refl
  none_delivered (entry.Delivered v d ∷ es) e = by (same_ref (caller k) (caller d.stamp)) refl (none_delivered es) e
    where
      by : (b : Bool) → same_ref (caller k) (caller d.stamp) ≡ b → (delivered es (caller k) ≡ [] → deliveries_of k es ≡ 0) → stamps (in_front (if_so b (record { vat = v; delivery = d })) (deliveries es (caller k))) ≡ [] → counted (same_stamp k d.stamp) + deliveries_of k es ≡ 0
      by true f r g = cc
      by false f r g = let a = r g in let c = ap counted (other_stamp d.stamp f) in omega arith
  none_delivered (x ∷ xs) e = let a = none_delivered xs e in omega arith

  nowhere : (x : Scene) → pending x.world (caller k) ≡ [] → delivered x.journal (caller k) ≡ [] → places k x ≡ 0
  nowhere x p d =
      let a = of_world x.world in
      let b = none_through (open_calls x.world) p in
      let c = none_delivered x.journal d in
      omega arith

-- ---- What was made

-- A call that was made through a reference is of it, and is counted.
first_made : (h : List JournalEntry) (r : Ref) (s : Stamp) (ss : List Stamp) → made h r ≡ s ∷ ss → (r ≡ caller s) × 1 ≤ times_made s h
first_made [] r s ss e = cc
first_made (entry.Made v m ∷ es) r s ss e = by (same_ref r (caller (stamp_of v m))) refl (first_made es r s ss) e
  where
    by : (b : Bool) → same_ref r (caller (stamp_of v m)) ≡ b → (made es r ≡ s ∷ ss → (r ≡ caller s) × 1 ≤ times_made s es) → in_front (if_so b (stamp_of v m)) (made es r) ≡ s ∷ ss
        → (r ≡ caller s) × 1 ≤ counted (same_stamp s (stamp_of v m)) + times_made s es
    by true f g i =
        let same : s ≡ stamp_of v m = cc in
        (same_ref_is r (caller (stamp_of v m)) f ∙ ap caller (sym same), let a = ap counted (same_itself s) in let c = ap (λ (t : Stamp). counted (same_stamp s t)) same in omega arith)
    by false f g i = let a = g i in let n = a.1 in (a.0, omega arith)
first_made (x ∷ xs) r s ss e = let a = first_made xs r s ss e in let n = a.1 in (a.0, omega arith)

pub objects_lose_none : MeaningsAreOne → ObjectsLoseNone
objects_lose_none one a b x r v o f i p q to stands idle none = by (made x.journal r) refl
  where
    h : History
    h = history a b x.journal

    -- It would be at no place, so its reference would stand for broken.
    bad : (s : Stamp) → r ≡ caller s → 1 ≤ times_made s x.journal → ⊥
    bad s e n = at (there a b s f x i p q)
      where
        at : (times_made s x.journal ≤ places s x) ⊎ IsToBroken h s → ⊥
        at (inl y) = let z = nowhere s x (subst (λ (u : Ref). pending x.world u ≡ []) e idle) (subst (λ (u : Ref). delivered x.journal u ≡ []) e none) in absurd (omega arith)
        at (inr y) = let z : ObjectAt v o ≡ Broken = one h to r (ObjectAt v o) Broken stands (led_to_broken h r (subst (λ (u : Ref). Leads h (Itself Broken) (OfRef u)) (sym e) y)) in cc

    by : (ss : List Stamp) → made x.journal r ≡ ss → made x.journal r ≡ []
    by [] e = e
    by (s ∷ ss) e = let z = first_made x.journal r s ss e in absurd (bad s z.0 z.1)
