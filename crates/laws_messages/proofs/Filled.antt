-- Each call that waits, and each value that is to be told, has as many capabilities as its payload; so each message that
-- is sent has.
use Rattle.std.proofs.Common.{◌≡◌, inl, inr, ℕ, suc, ◌+◌, Bool, true, false, not, nat_eq, length, List, [], ◌∷◌, ◌++◌, Option, None, Some, refl, sym, ap, ◌∙◌, arith}
use Rattle.std.specs.FinMap as map
use Rattle.rpc_msg.specs.Payloads.{Contents as Payload}
use Rattle.finite_maps.specs.Tally.{Map}
use Rattle.finite_maps.proofs.Tested.{at_put, at_cut}
use Rattle.rpc_msg.specs.declared.ids.ObjectId.{ObjectId}
use Rattle.rpc_msg.specs.declared.ids.RefId.{RefId}
use Rattle.rpc_msg.specs.declared.ids.TaskId.{TaskId}
use Rattle.rpc_msg.specs.declared.parts.Descriptor.{Descriptor}
use Rattle.rpc_msg.specs.declared.message.ReturnBody.{ReturnBody}
use Rattle.rpc_msg.specs.declared.message.ReturnBody.TheVariants as body
use Rattle.rpc_msg.specs.declared.message.Message.{Message}
use Rattle.rpc_machine.specs.declared.node.Node.{Node}
use Rattle.rpc_machine.specs.declared.command.Command.TheVariants as command
use Rattle.rpc_machine.specs.declared.command.CallCommand.{CallCommand}
use Rattle.rpc_machine.specs.declared.command.Refusal.TheVariants as refusal
use Rattle.rpc_machine.specs.declared.calls.Caller.{Caller}
use Rattle.rpc_machine.specs.declared.calls.HeldCall.{HeldCall}
use Rattle.rpc_machine.specs.declared.calls.KeptOutcome.{KeptOutcome}
use Rattle.rpc_machine.specs.declared.calls.Promise.{Promise}
use Rattle.rpc_machine.specs.declared.calls.Promise.TheVariants as promise
use Rattle.rpc_machine.specs.declared.calls.Value.{Value}
use Rattle.rpc_machine.specs.declared.calls.Value.TheVariants as value
use Rattle.rpc_machine.specs.declared.calls.WaitingCall.{WaitingCall}
use Rattle.rpc_machine.specs.declared.entries.Embargo.{Embargo}
use Rattle.rpc_machine.specs.declared.entries.Export.{Export}
use Rattle.rpc_machine.specs.State.{State}
use Rattle.rpc_machine.specs.Payloads.{caps_in}
use Rattle.rpc_machine.specs.Places.{nodes}
use Rattle.rpc_machine.specs.Descriptors.{read_all, read_beside}
use Rattle.rpc_machine.specs.Commands.{heads}
use Rattle.rpc_machine.specs.Messages.{bootstrap_value, results_of, value_of_results}
use Rattle.rpc_machine.specs.Refusals.{while_down, wrong_level, unknown_ref, unknown_task, wrong_caps, without_room, refused}
use Rattle.rpc_machine.specs.Lists.{is_empty}
use Rattle.rpc_machine.specs.Settling.{Untangles, PutsIn}
use Rattle.rpc_machine.specs.Settling as settling
use Rattle.laws_acts.specs.Moments.{Saying, Clearing, Moment, each_to, held_to}
use Rattle.laws_acts.specs.GoingOut.{GoOut, Says}
use Rattle.laws_acts.proofs.Checks.{first, rest, not_so}
use Rattle.laws_acts.specs.SmallActs.{release_messages}
use Rattle.laws_messages.specs.PayloadCaps.{BodyFits, Fits, AllFit}

-- ---- One of each

abbrev pub CallFits : WaitingCall → Type 0
CallFits c = caps_in c.request.payload ≡ length c.request.caps

abbrev pub CallsFit : List WaitingCall → Type 0
CallsFit [] = Unit {0}
CallsFit (c ∷ cs) = CallFits c × CallsFit cs

abbrev pub HeldFit : List HeldCall → Type 0
HeldFit [] = Unit {0}
HeldFit (h ∷ hs) = CallFits h.call × HeldFit hs

abbrev pub ValueFits : Value → Type 0
ValueFits (value.Results payload caps) = caps_in payload ≡ length caps
ValueFits (value.Exception exception) = Unit {0}

abbrev pub PromiseFits : Option Promise → Type 0
PromiseFits None = Unit {0}
PromiseFits (Some (promise.Open calls)) = CallsFit calls
PromiseFits (Some (promise.Fixed to)) = Unit {0}

abbrev pub OutcomeFits : Option KeptOutcome → Type 0
OutcomeFits None = Unit {0}
OutcomeFits (Some x) = HeldFit x.waiting

abbrev pub EmbargoFits : Option Embargo → Type 0
EmbargoFits None = Unit {0}
EmbargoFits (Some b) = CallsFit b.waiting

abbrev pub YetFit : List (WaitingCall × Node) → Type 0
YetFit [] = Unit {0}
YetFit (x ∷ xs) = CallFits x.0 × YetFit xs

abbrev pub ValuesFit : {X : Type 0} → List (X × Value) → Type 0
ValuesFit [] = Unit {0}
ValuesFit (x ∷ xs) = ValueFits x.1 × ValuesFit xs

abbrev pub SayingFits : Option Saying → Type 0
SayingFits None = Unit {0}
SayingFits (Some x) = BodyFits x.body

abbrev pub ClearingFits : Option Clearing → Type 0
ClearingFits None = Unit {0}
ClearingFits (Some x) = HeldFit x.waiting

abbrev pub PromisesFit : Map Promise → Type 0
PromisesFit m = (k : ℕ) → PromiseFits (map.get m k)

abbrev pub OutcomesFit : Map KeptOutcome → Type 0
OutcomesFit m = (k : ℕ) → OutcomeFits (map.get m k)

abbrev pub EmbargoesFit : Map Embargo → Type 0
EmbargoesFit m = (k : ℕ) → EmbargoFits (map.get m k)

abbrev pub StateFits : State → Type 0
StateFits s = PromisesFit s.promises × OutcomesFit s.outcomes × EmbargoesFit s.embargoes

-- With what is owed, and what was sent.
abbrev pub Fine : Moment → Type 0
Fine d = StateFits d.state × ValuesFit d.arisen × ValuesFit d.coming × ValuesFit d.telling × SayingFits d.saying × ClearingFits d.clearing × YetFit d.yet × AllFit d.effects.sends

-- ---- Lists

pub calls-append : (xs ys : List WaitingCall) → CallsFit xs → CallsFit ys → CallsFit (xs ++ ys)
calls-append [] ys h k = k
calls-append (x ∷ xs) ys h k = (h.0, calls-append xs ys h.1 k)

pub held-append : (xs ys : List HeldCall) → HeldFit xs → HeldFit ys → HeldFit (xs ++ ys)
held-append [] ys h k = k
held-append (x ∷ xs) ys h k = (h.0, held-append xs ys h.1 k)

pub values-append : {X : Type 0} (xs ys : List (X × Value)) → ValuesFit xs → ValuesFit ys → ValuesFit (xs ++ ys)
values-append [] ys h k = k
values-append (x ∷ xs) ys h k = (h.0, values-append xs ys h.1 k)

pub fit-append : (xs ys : List Message) → AllFit xs → AllFit ys → AllFit (xs ++ ys)
fit-append [] ys h k = k
fit-append (x ∷ xs) ys h k = (h.0, fit-append xs ys h.1 k)

pub one_more : (xs : List Message) (m : Message) → Fits m → AllFit xs → AllFit (xs ++ m ∷ [])
one_more xs m f h = fit-append xs (m ∷ []) h (f, tt)

pub all_to : (n : Node) (cs : List WaitingCall) → CallsFit cs → YetFit (each_to n cs)
all_to n [] h = tt
all_to n (c ∷ cs) h = (h.0, all_to n cs h.1)

pub all_held : (o : ℕ) (hs : List HeldCall) → HeldFit hs → YetFit (held_to o hs)
all_held o [] h = tt
all_held o (x ∷ hs) h = (h.0, all_held o hs h.1)

pub releases_fit : (xs : List (ℕ × ℕ)) → AllFit (release_messages xs)
releases_fit [] = tt
releases_fit (x ∷ xs) = (tt, releases_fit xs)

-- ---- Lengths

pub heads_length : (s : State) (rs : List RefId) → length (heads s rs) ≡ length rs
heads_length s [] = refl
heads_length s (r ∷ rs) = ap suc (heads_length s rs)

pub read_length : (s : State) (ds : List Descriptor) → length (read_all s ds) ≡ length ds
read_length s [] = refl
read_length s (d ∷ ds) = ap suc (read_length s ds)

pub beside_length : (s : State) (ds : List Descriptor) → length (nodes (read_beside s ds)) ≡ length ds
beside_length s [] = refl
beside_length s (d ∷ ds) = ap suc (beside_length s ds)

pub out_length : (s : State) (es : Map Export) (ns : List Node) (ds : List Descriptor) (new : Map Export) → GoOut s es ns ds new → length ns ≡ length ds
out_length s es [] [] new h = refl
out_length s es [] (d ∷ ds) new h = absurd h
out_length s es (n ∷ ns) [] new h = absurd h
out_length s es (n ∷ ns) (d ∷ ds) new h = ap suc (out_length s h.0 ns ds new h.2)

-- ---- What is put in place

pub puts_promise : (m : Map Promise) (k : ℕ) (x : Promise) → PromiseFits (Some x) → PromisesFit m → PromisesFit (map.insert m k x)
puts_promise m k x f h = at_put (λ j o. PromiseFits o) m k x f (λ j e. h j)

pub cuts_promise : (m : Map Promise) (k : ℕ) → PromisesFit m → PromisesFit (map.remove m k)
cuts_promise m k h = at_cut (λ j o. PromiseFits o) m k tt (λ j e. h j)

pub puts_outcome : (m : Map KeptOutcome) (k : ℕ) (x : KeptOutcome) → HeldFit x.waiting → OutcomesFit m → OutcomesFit (map.insert m k x)
puts_outcome m k x f h = at_put (λ j o. OutcomeFits o) m k x f (λ j e. h j)

pub cuts_outcome : (m : Map KeptOutcome) (k : ℕ) → OutcomesFit m → OutcomesFit (map.remove m k)
cuts_outcome m k h = at_cut (λ j o. OutcomeFits o) m k tt (λ j e. h j)

pub puts_embargo : (m : Map Embargo) (k : ℕ) (b : Embargo) → CallsFit b.waiting → EmbargoesFit m → EmbargoesFit (map.insert m k b)
puts_embargo m k b f h = at_put (λ j o. EmbargoFits o) m k b f (λ j e. h j)

pub cuts_embargo : (m : Map Embargo) (k : ℕ) → EmbargoesFit m → EmbargoesFit (map.remove m k)
cuts_embargo m k h = at_cut (λ j o. EmbargoFits o) m k tt (λ j e. h j)

-- ---- Values

-- The value that an outcome takes has as many capabilities; the promises that it needs are new.
module _ (s : State) (o : ℕ) (who : Caller) (w : List HeldCall) (payload : Payload) where
  abbrev Same : List Node → List Node → State → Type 0
  Same ns out new = (length out ≡ length ns) × PromisesFit new.promises

  put_in : (i : ℕ) (n : Node) (ns rest out : List Node) (mid new : State) → Same ns rest mid → PutsIn mid o who w payload i n rest out new → Same (n ∷ ns) out new
  put_in i n ns rest out mid new h (inl k) = rw (k.1, k.2) (ap suc h.0, h.1)
  put_in i n ns rest out mid new h (inr k) = let g = k.1 in rw (g.2, g.3) (ap suc h.0, puts_promise mid.promises g.0 (promise.Open []) tt h.1)

  untangled : (i : ℕ) (ns out : List Node) (new : State) → PromisesFit s.promises → Untangles s o who w payload i ns out new → Same ns out new
  untangled i [] out new f h = rw (h.0, h.1) (refl, f)
  untangled i (n ∷ ns) out new f h = put_in i n ns h.0 out h.1 new (untangled (i + 1) ns h.0 h.1 f h.2) h.3

pub fitted : (s : State) (o : ℕ) (who : Caller) (w : List HeldCall) (v fit : Value) (new : State) → PromisesFit s.promises → ValueFits v → settling.Fits s o who w v fit new → ValueFits fit × PromisesFit new.promises
fitted s o who w (value.Exception exception) fit new f g h = rw (h.0, h.1) (tt, f)
fitted s o who w (value.Results payload caps) fit new f g h =
    let k = untangled s o who w payload 0 caps h.0 new f h.2 in
    rw h.1 (g ∙ sym k.0, k.1)

pub said_back : (s : State) (b : Bool) (v : Value) (y : ReturnBody) (ds : List Descriptor) (es : Map Export) → ValueFits v → Says s b v y ds es → BodyFits y
said_back s true v y ds es f h = rw h.0 tt
said_back s false (value.Exception exception) y ds es f h = rw h.0 tt
said_back s false (value.Results payload caps) y ds es f h = rw h.0 (f ∙ out_length s s.exports caps ds es h.1)

pub results_fit : (s : State) (y : ReturnBody) → BodyFits y → ValueFits (value_of_results (results_of s y))
results_fit s (body.Results payload ds) h = h ∙ sym (beside_length s ds)
results_fit s (body.Exception exception) h = tt
results_fit s body.Canceled h = tt

-- ---- Commands that are not refused

pub same_count : (p : Payload) (rs : List RefId) → wrong_caps p rs ≡ None → caps_in p ≡ length rs
same_count p rs h = let e = not_so (not (nat_eq (caps_in p) (length rs))) refusal.CapCount h in by (caps_in p) (length rs) e
  where
    by : (m n : ℕ) → not (nat_eq m n) ≡ false → m ≡ n
    by m n e = grind (arith, e)

pub call_fits : (s : State) (k : CallCommand) → refused s (command.Call k) ≡ None → caps_in k.payload ≡ length (heads s k.refs)
call_fits s k h =
    let last = without_room s (command.Call k) ∷ [] in
    let three = wrong_caps k.payload k.refs ∷ last in
    let two = unknown_ref s (k.reference ∷ k.refs) ∷ three in
    let one = wrong_level s (not (is_empty k.refs)) ∷ two in
    let found = rest (unknown_ref s (k.reference ∷ k.refs)) three (rest (wrong_level s (not (is_empty k.refs))) two (rest (while_down s (command.Call k)) one h)) in
    same_count k.payload k.refs (first (wrong_caps k.payload k.refs) last found) ∙ sym (heads_length s k.refs)

pub answer_fits : (s : State) (t : TaskId) (payload : Payload) (refs : List RefId) → refused s (command.Answer t payload refs) ≡ None → caps_in payload ≡ length (heads s refs)
answer_fits s t payload refs h =
    let last = without_room s (command.Answer t payload refs) ∷ [] in
    let four = wrong_caps payload refs ∷ last in
    let three = unknown_task s t.0 ∷ four in
    let two = unknown_ref s refs ∷ three in
    let one = wrong_level s (not (is_empty refs)) ∷ two in
    let found = rest (unknown_task s t.0) four (rest (unknown_ref s refs) three (rest (wrong_level s (not (is_empty refs))) two (rest (while_down s (command.Answer t payload refs)) one h))) in
    same_count payload refs (first (wrong_caps payload refs) last found) ∙ sym (heads_length s refs)

pub root_fits : (b : Option ObjectId) → ValueFits (bootstrap_value b)
root_fits None = tt
root_fits (Some o) = refl
