-- Where each call that waits, that is to be routed, that is sent or delivered, is as it was made: lists of these, what is
-- put in place, and that it stays so with more entries.
use Rattle.std.proofs.Common.{◌≡◌, inl, inr, ℕ, suc, ◌+◌, List, [], ◌∷◌, ◌++◌, length, Option, None, Some, refl, ap}
use Rattle.std.specs.FinMap as map
use Rattle.finite_maps.specs.Tally.{Map}
use Rattle.finite_maps.proofs.Tested.{at_put, at_cut}
use Rattle.rpc_msg.specs.Payloads.{Contents as Payload}
use Rattle.rpc_msg.specs.declared.ids.Stamp.{Stamp}
use Rattle.rpc_msg.specs.declared.message.Message.{Message}
use Rattle.rpc_msg.specs.declared.message.Message.TheVariants as message
use Rattle.rpc_msg.specs.declared.message.PlainMessage.{PlainMessage}
use Rattle.rpc_msg.specs.declared.message.PlainMessage.TheVariants as plain
use Rattle.rpc_journal.specs.declared.report.Delivery.{Delivery}
use Rattle.rpc_journal.specs.declared.entry.JournalEntry.{JournalEntry}
use Rattle.rpc_journal.specs.History.{made_one}
use Rattle.rpc_machine.specs.declared.node.Node.{Node}
use Rattle.rpc_machine.specs.declared.calls.HeldCall.{HeldCall}
use Rattle.rpc_machine.specs.declared.calls.KeptOutcome.{KeptOutcome}
use Rattle.rpc_machine.specs.declared.calls.Promise.{Promise}
use Rattle.rpc_machine.specs.declared.calls.Promise.TheVariants as promise
use Rattle.rpc_machine.specs.declared.calls.WaitingCall.{WaitingCall}
use Rattle.rpc_machine.specs.declared.calls.Caller.{Caller}
use Rattle.rpc_machine.specs.declared.calls.Value.{Value}
use Rattle.rpc_machine.specs.declared.calls.Value.TheVariants as value
use Rattle.rpc_machine.specs.declared.entries.Embargo.{Embargo}
use Rattle.rpc_machine.specs.State.{State}
use Rattle.rpc_machine.specs.Progress.{new_refs}
use Rattle.rpc_machine.specs.Settling.{Untangles, PutsIn}
use Rattle.rpc_machine.specs.Settling as settling
use Rattle.laws_acts.specs.Moments.{Clearing, Moment, each_to, held_to}
use Rattle.laws_acts.specs.SmallActs.{release_messages}
use Rattle.laws_runs.proofs.Reading.{still_first}
use Rattle.laws_meanings.specs.AsMade.{WasMade, CallMade, CallsMade, HeldMade, PromiseMade, OutcomeMade, EmbargoMade, PlainMade, MessageMade, LinkMade, DeliveryMade}

pub new_refs_length : (k : ℕ) (ns : List Node) → length (new_refs k ns) ≡ length ns
new_refs_length k [] = refl
new_refs_length k (n ∷ ns) = ap suc (new_refs_length (k + 1) ns)

module _ (h : List JournalEntry) where
  abbrev pub PromisesMade : Map Promise → Type 0
  PromisesMade m = (k : ℕ) → PromiseMade h (map.get m k)

  abbrev pub OutcomesMade : Map KeptOutcome → Type 0
  OutcomesMade m = (k : ℕ) → OutcomeMade h (map.get m k)

  abbrev pub EmbargoesMade : Map Embargo → Type 0
  EmbargoesMade m = (k : ℕ) → EmbargoMade h (map.get m k)

  abbrev pub StateMade : State → Type 0
  StateMade s = PromisesMade s.promises × OutcomesMade s.outcomes × EmbargoesMade s.embargoes

  abbrev pub YetMade : List (WaitingCall × Node) → Type 0
  YetMade [] = Unit {0}
  YetMade (x ∷ xs) = CallMade h x.0 × YetMade xs

  abbrev pub ClearingMade : Option Clearing → Type 0
  ClearingMade None = Unit {0}
  ClearingMade (Some x) = HeldMade h x.waiting

  abbrev pub DeliveriesMade : List Delivery → Type 0
  DeliveriesMade [] = Unit {0}
  DeliveriesMade (d ∷ ds) = DeliveryMade h d × DeliveriesMade ds

  -- With what is owed, and what was sent and delivered.
  abbrev pub Fine : Moment → Type 0
  Fine d = StateMade d.state × YetMade d.yet × ClearingMade d.clearing × LinkMade h d.effects.sends × DeliveriesMade d.effects.deliveries

  -- ---- Lists

  pub calls-append : (xs ys : List WaitingCall) → CallsMade h xs → CallsMade h ys → CallsMade h (xs ++ ys)
  calls-append [] ys a b = b
  calls-append (x ∷ xs) ys a b = (a.0, calls-append xs ys a.1 b)

  pub held-append : (xs ys : List HeldCall) → HeldMade h xs → HeldMade h ys → HeldMade h (xs ++ ys)
  held-append [] ys a b = b
  held-append (x ∷ xs) ys a b = (a.0, held-append xs ys a.1 b)

  pub link-append : (xs ys : List Message) → LinkMade h xs → LinkMade h ys → LinkMade h (xs ++ ys)
  link-append [] ys a b = b
  link-append (x ∷ xs) ys a b = (a.0, link-append xs ys a.1 b)

  pub deliveries-append : (xs ys : List Delivery) → DeliveriesMade xs → DeliveriesMade ys → DeliveriesMade (xs ++ ys)
  deliveries-append [] ys a b = b
  deliveries-append (x ∷ xs) ys a b = (a.0, deliveries-append xs ys a.1 b)

  pub one_more : (xs : List Message) (m : Message) → MessageMade h m → LinkMade h xs → LinkMade h (xs ++ m ∷ [])
  one_more xs m f a = link-append xs (m ∷ []) a (f, tt)

  pub all_to : (n : Node) (cs : List WaitingCall) → CallsMade h cs → YetMade (each_to n cs)
  all_to n [] a = tt
  all_to n (c ∷ cs) a = (a.0, all_to n cs a.1)

  pub all_held : (o : ℕ) (xs : List HeldCall) → HeldMade h xs → YetMade (held_to o xs)
  all_held o [] a = tt
  all_held o (x ∷ xs) a = (a.0, all_held o xs a.1)

  pub releases_made : (xs : List (ℕ × ℕ)) → LinkMade h (release_messages xs)
  releases_made [] = tt
  releases_made (x ∷ xs) = (tt, releases_made xs)

  -- ---- What is put in place

  pub puts_promise : (m : Map Promise) (k : ℕ) (x : Promise) → PromiseMade h (Some x) → PromisesMade m → PromisesMade (map.insert m k x)
  puts_promise m k x f a = at_put (λ j o. PromiseMade h o) m k x f (λ j e. a j)

  pub cuts_promise : (m : Map Promise) (k : ℕ) → PromisesMade m → PromisesMade (map.remove m k)
  cuts_promise m k a = at_cut (λ j o. PromiseMade h o) m k tt (λ j e. a j)

  pub puts_outcome : (m : Map KeptOutcome) (k : ℕ) (x : KeptOutcome) → HeldMade h x.waiting → OutcomesMade m → OutcomesMade (map.insert m k x)
  puts_outcome m k x f a = at_put (λ j o. OutcomeMade h o) m k x f (λ j e. a j)

  pub cuts_outcome : (m : Map KeptOutcome) (k : ℕ) → OutcomesMade m → OutcomesMade (map.remove m k)
  cuts_outcome m k a = at_cut (λ j o. OutcomeMade h o) m k tt (λ j e. a j)

  pub puts_embargo : (m : Map Embargo) (k : ℕ) (b : Embargo) → CallsMade h b.waiting → EmbargoesMade m → EmbargoesMade (map.insert m k b)
  puts_embargo m k b f a = at_put (λ j o. EmbargoMade h o) m k b f (λ j e. a j)

  pub cuts_embargo : (m : Map Embargo) (k : ℕ) → EmbargoesMade m → EmbargoesMade (map.remove m k)
  cuts_embargo m k a = at_cut (λ j o. EmbargoMade h o) m k tt (λ j e. a j)

  -- ---- The promises that a value needs are new

  module _ (s : State) (o : ℕ) (who : Caller) (w : List HeldCall) (payload : Payload) where
    put_in : (i : ℕ) (n : Node) (rest out : List Node) (mid new : State) → PromisesMade mid.promises → PutsIn mid o who w payload i n rest out new → PromisesMade new.promises
    put_in i n rest out mid new a (inl k) = rw k.2 a
    put_in i n rest out mid new a (inr k) = let g = k.1 in rw g.3 (puts_promise mid.promises g.0 (promise.Open []) tt a)

    untangled : (i : ℕ) (ns out : List Node) (new : State) → PromisesMade s.promises → Untangles s o who w payload i ns out new → PromisesMade new.promises
    untangled i [] out new f a = rw a.1 f
    untangled i (n ∷ ns) out new f a = put_in i n a.0 out a.1 new (untangled (i + 1) ns a.0 a.1 f a.2) a.3

  pub fitted : (s : State) (o : ℕ) (who : Caller) (w : List HeldCall) (v fit : Value) (new : State) → PromisesMade s.promises → settling.Fits s o who w v fit new → PromisesMade new.promises
  fitted s o who w (value.Exception exception) fit new f a = rw a.1 f
  fitted s o who w (value.Results payload caps) fit new f a = untangled s o who w payload 0 caps a.0 new f a.2

-- ---- More entries

module _ (h es : List JournalEntry) where
  still_made : {s : Stamp} {i m n : ℕ} {p : Payload} → WasMade h s i m p n → WasMade (h ++ es) s i m p n
  still_made {s = s} w = record { call = w.call; was_made = still_first (made_one s) h es w.call w.was_made; interface_is = w.interface_is; method_is = w.method_is; payload_is = w.payload_is; refs = w.refs }

  still_calls : (cs : List WaitingCall) → CallsMade h cs → CallsMade (h ++ es) cs
  still_calls [] a = tt
  still_calls (c ∷ cs) a = (still_made a.0, still_calls cs a.1)

  still_held : (xs : List HeldCall) → HeldMade h xs → HeldMade (h ++ es) xs
  still_held [] a = tt
  still_held (x ∷ xs) a = (still_made a.0, still_held xs a.1)

  still_promise : (o : Option Promise) → PromiseMade h o → PromiseMade (h ++ es) o
  still_promise None a = tt
  still_promise (Some (promise.Open calls)) a = still_calls calls a
  still_promise (Some (promise.Fixed to)) a = tt

  still_outcome : (o : Option KeptOutcome) → OutcomeMade h o → OutcomeMade (h ++ es) o
  still_outcome None a = tt
  still_outcome (Some x) a = still_held x.waiting a

  still_embargo : (o : Option Embargo) → EmbargoMade h o → EmbargoMade (h ++ es) o
  still_embargo None a = tt
  still_embargo (Some b) a = still_calls b.waiting a

  pub still_state : (s : State) → StateMade h s → StateMade (h ++ es) s
  still_state s a = (λ k. still_promise _ (a.0 k), λ k. still_outcome _ (a.1 k), λ k. still_embargo _ (a.2 k))

  still_plain : (p : PlainMessage) → PlainMade h p → PlainMade (h ++ es) p
  still_plain (plain.Call c) a = still_made a
  still_plain (plain.Abort exception) a = tt
  still_plain (plain.Bootstrap q) a = tt
  still_plain (plain.Return r) a = tt
  still_plain (plain.Finish f) a = tt
  still_plain (plain.Resolve r) a = tt
  still_plain (plain.Release r) a = tt
  still_plain (plain.Disembargo d) a = tt
  still_plain (plain.Other n) a = tt

  pub still_message : (m : Message) → MessageMade h m → MessageMade (h ++ es) m
  still_message (message.Plain p) a = still_plain p a
  still_message (message.Unimplemented p) a = tt

  pub still_link : (ms : List Message) → LinkMade h ms → LinkMade (h ++ es) ms
  still_link [] a = tt
  still_link (m ∷ ms) a = (still_message m a.0, still_link ms a.1)

  pub still_delivery : (d : Delivery) → DeliveryMade h d → DeliveryMade (h ++ es) d
  still_delivery d a = still_made a
