-- The sessions of exports stand in counts: what is on the way to an exporter, in its order, takes its count down to what the
-- importer holds and what is given on the way; and where a message names the export something is left.
use Rattle.std.proofs.Common.{◌≡◌, ◌<◌, ◌≤◌, inl, ℕ, zero, suc, ◌+◌, nat_eq, Bool, true, false, List, [], ◌∷◌, ◌++◌, Option, None, Some, IsSome, refl, sym, ap, subst, ◌∙◌, append_assoc, arith}
use Rattle.std.specs.FinMap as map
use Rattle.std.specs.Ordering.{nat_cmp}
use Rattle.finite_maps.proofs.Tested.{itself}
use Rattle.rpc_msg.specs.declared.ids.Vat.{Vat}
use Rattle.rpc_msg.specs.declared.ids.Vat.TheVariants.{A, B}
use Rattle.rpc_msg.specs.declared.ids.ObjectId.{ObjectId}
use Rattle.rpc_msg.specs.declared.parts.Descriptor.{Descriptor}
use Rattle.rpc_msg.specs.declared.parts.Descriptor.TheVariants as descriptor
use Rattle.rpc_msg.specs.declared.parts.Target.{Target}
use Rattle.rpc_msg.specs.declared.parts.Target.TheVariants.{ImportedCap, PromisedAnswer}
use Rattle.rpc_msg.specs.declared.message.DisembargoContext.{DisembargoContext}
use Rattle.rpc_msg.specs.declared.message.DisembargoContext.TheVariants.{SenderLoopback, ReceiverLoopback}
use Rattle.rpc_msg.specs.declared.message.PlainMessage.{PlainMessage}
use Rattle.rpc_msg.specs.declared.message.PlainMessage.TheVariants as plain
use Rattle.rpc_msg.specs.declared.message.Message.{Message}
use Rattle.rpc_msg.specs.declared.message.Message.TheVariants as message
use Rattle.rpc_msg.specs.Messages.{given, descriptors_of_plain, descriptors_of_body, descriptors_of_resolved}
use Rattle.rpc_machine.specs.declared.command.Command.{Command}
use Rattle.rpc_machine.specs.declared.command.Granted.{Granted}
use Rattle.rpc_machine.specs.declared.command.Effects.{Effects}
use Rattle.rpc_machine.specs.declared.command.Level.{Level}
use Rattle.rpc_machine.specs.declared.command.Level.TheVariants.{One}
use Rattle.rpc_machine.specs.declared.entries.Export.{Export}
use Rattle.rpc_machine.specs.State.{State, start}
use Rattle.rpc_machine.specs.Lists.{how_many}
use Rattle.rpc_machine.specs.Limits.{export_count}
use Rattle.rpc_machine.specs.Laws.{given_out, SendsRaiseCounts}
use Rattle.rpc_machine.specs.Descriptors.{giving}
use Rattle.rpc_machine.specs.Refusals.{refused}
use Rattle.rpc_machine.specs.Faults.{is_foreign, fault_of}
use Rattle.rpc_machine.specs.Progress.{Progress, begin, with_state}
use Rattle.rpc_machine.specs.Steps.{Does, Handles}
use Rattle.rpc_machine.specs.World.{World, core, inbox}
use Rattle.laws_steps.proofs.Swept.{Whole}
use Rattle.laws_steps.proofs.NamedMessages as named
use Rattle.laws_steps.proofs.Reached.{empty_whole}
use Rattle.laws_acts.specs.Acts.{TurnsBy, Consumes, Acts}
use Rattle.laws_acts.specs.Sent.{Noted, messages, all_sent, turned_sent, sent_at_once}
use Rattle.laws_runs.specs.Exports as export
use Rattle.laws_runs.specs.Exports.{Back, Leaves}
use Rattle.laws_runs.specs.Views.{only, IsUseful, IsReady}
use Rattle.laws_runs.specs.Between.{HoldsIn, StillHolds, IsKept}
use Rattle.laws_runs.proofs.ExportsHold.{more}
use Rattle.laws_runs.proofs.Heard as heard
use Rattle.laws_runs.specs.Imports.{count, lets_of, IsCovered}
use Rattle.laws_runs.specs.Entries.{AreCounted}
use Rattle.laws_runs.specs.Agreed.{Agree}
use Rattle.laws_runs.proofs.Got.{took_one}
use Rattle.laws_runs.proofs.Flags.{reads, takes_first}
use Rattle.laws_runs.proofs.AboveZero as above
use Rattle.laws_runs.proofs.Agreeing as agreeing
use Rattle.laws_runs.proofs.Agreeing.{begins, given_behind, commanded, handled}
use Rattle.laws_messages.specs.Mentions.{AllName, NamesTurned, NamesAtOnce, NamingActs}
use Rattle.laws_messages.specs.Views.{named_in, target_in, targets_in, take_of, backs_for}
use Rattle.laws_messages.specs.Found.{FindsTarget, FindsEach, FindsExports}
use Rattle.laws_messages.proofs.Answering.{Sound, leaves, leaves_then, backs-append, target_held, view, none_waits, acts}
use Rattle.laws_messages.proofs.NamingSteps.{does_whole, handles_whole}

-- ---- One vat

from_to : (a b n m : ℕ) (bs : List Back) → a ≡ n → b ≡ m → Leaves a bs b → Leaves n bs m
from_to a b n m bs f g h = subst (λ (j : ℕ). Leaves j bs m) f (subst (λ (j : ℕ). Leaves a bs j) g h)

-- By itself.
by_itself : (s new : State) (last : Progress) (list : Acts last (begin s)) → AllName list → IsReady s → IsCovered s → AreCounted s → new ≡ last.state → last.released ≡ map.empty → (e : ℕ) → Leaves (count e s) (backs_for e (all_sent list)) (count e new)
by_itself s new last list n r i c f g e =
    let a = none_waits e (begin s) refl in
    let b = none_waits e last g in
    let k = ap (count e) f in
    from_to (view e (begin s)) (view e last) (count e s) (count e new) (backs_for e (all_sent list)) (omega (arith, a)) (omega (arith, b, k))
    (acts e last (begin s) list n r i (λ q. inl (map.get-empty nat_cmp q)) (begins s c))

-- Once it took a message.
module _ (s : State) (counts : AreCounted s) (e v : ℕ) (enough : count e s ≤ v) where
  turned : (first : Progress) (c : DisembargoContext) (h : TurnsBy (begin s) c first) → NamesTurned (begin s) first c h → Sound e v (turned_sent (begin s) first c h)
  turned first (SenderLoopback x) h n = (target_held s counts e v enough h.0 n, tt, λ k q. tt)
  turned first (ReceiverLoopback x) h n = tt

  at_once : (first : Progress) (m : PlainMessage) (h : Consumes m (begin s) first) → NamesAtOnce (begin s) first m h → Sound e v (sent_at_once (begin s) first m h)
  at_once first (plain.Abort x) h n = tt
  at_once first (plain.Bootstrap q) h n = tt
  at_once first (plain.Call c) h n = tt
  at_once first (plain.Return r) h n = tt
  at_once first (plain.Finish f) h n = tt
  at_once first (plain.Resolve r) h n = tt
  at_once first (plain.Release r) h n = tt
  at_once first (plain.Disembargo x) h n = turned first x.context h n
  at_once first (plain.Other k) h n = tt

once_taken : (s new : State) (m : PlainMessage) (first last : Progress) (h : Consumes m (begin s) first) (list : Acts last first) → NamesAtOnce (begin s) first m h → AllName list → IsReady s → IsCovered s → AreCounted s → IsUseful m → new ≡ last.state → last.released ≡ map.empty
    → (e : ℕ) → Leaves (count e s + how_many (nat_eq e) (given (descriptors_of_plain m))) (backs_for e (sent_at_once (begin s) first m h ++ all_sent list)) (count e new)
once_taken s new m first last h list o n r i c u f g e =
    let y = heard.consumes m (begin s) first r u h in
    let b = took_one m (begin s) first r i (λ q. map.get-empty nat_cmp q) u h in
    let z = above.consumes (begin s) first m h (begins s c) in
    let now = sent_at_once (begin s) first m h in
    let d : Progress = with_state (begin s) b.mid in
    let k = b.counts e in
    let j = b.paid.balance e in
    let p = none_waits e d refl in
    let q = none_waits e last g in
    let t = ap (count e) f in
    let start = leaves e now (view e d) (view e first) (omega (arith, j)) (at_once s c e (view e d) (omega (arith, k)) first m h o) in
    let rest = acts e last first list n y.did.moves.ready b.paid.covered b.paid.apart z.counted in
    let whole = leaves_then (view e d) (view e first) (view e last) (backs_for e now) (backs_for e (all_sent list)) start rest in
    from_to (view e d) (view e last) _ (count e new) (backs_for e (now ++ all_sent list)) (omega (arith, k, p)) (omega (arith, q, t))
    (subst (λ (bs : List Back). Leaves (view e d) bs (view e last)) (sym (backs-append e now (all_sent list))) whole)

-- ---- Two vats

-- Of the exports of s and the imports of t.
abbrev AreMet : State → List Noted → State → List Noted → Type 0
AreMet s to_s t to_t = (e : ℕ) → Leaves (given_out e s) (backs_for e to_s) (count e t + giving e (messages to_t))

pub record Found (s : State) (to_s : List Noted) (t : State) (to_t : List Noted) : Type 0 where
  pub agree : Agree s to_s t to_t
  pub whole_s : Whole s
  pub whole_t : Whole t
  pub met_s : AreMet s to_s t to_t
  pub met_t : AreMet t to_t s to_s

pub turned_about : (s t : State) (to_s to_t : List Noted) → Found s to_s t to_t → Found t to_t s to_s
turned_about s t to_s to_t k = record { agree = agreeing.turned s t to_s to_t k.agree; whole_s = k.whole_t; whole_t = k.whole_s; met_s = k.met_t; met_t = k.met_s }

none_met : (v u : Vat) (a b : Option ObjectId) → AreMet (start v One a) [] (start u One b) []
none_met v u a b e = agreeing.equal v u a b e

pub starts : (a b : Option ObjectId) → Found (start A One a) [] (start B One b) []
starts a b = record { agree = agreeing.starts a b; whole_s = empty_whole A One a None; whole_t = empty_whole B One b None; met_s = none_met A B a b; met_t = none_met B A b a }

-- What s gives raises its count and what is on the way alike.
gives_more : (s new t : State) (to_s to_t sent : List Noted) (e n : ℕ) → Leaves n (backs_for e to_s) (count e t + giving e (messages to_t)) → given_out e new ≡ n + giving e (messages sent) → Leaves (given_out e new) (backs_for e to_s) (count e t + giving e (messages (to_t ++ sent)))
gives_more s new t to_s to_t sent e n h f =
    let g = giving e (messages sent) in
    let b = given_behind e to_t sent in
    from_to (n + g) ((count e t + giving e (messages to_t)) + g) (given_out e new) (count e t + giving e (messages (to_t ++ sent))) (backs_for e to_s) (sym f) (omega (arith, b)) (more n g (backs_for e to_s) (count e t + giving e (messages to_t)) h)

-- What s lets go of the exports of t is behind all that is on the way there; k is on the way to s.
lets_more : (t new : State) (to_t sent : List Noted) (e had k : ℕ) → Leaves (given_out e t) (backs_for e to_t) (had + k) → Leaves had (backs_for e sent) (count e new) → Leaves (given_out e t) (backs_for e (to_t ++ sent)) (count e new + k)
lets_more t new to_t sent e had k h g =
    subst (λ (bs : List Back). Leaves (given_out e t) bs (count e new + k)) (sym (backs-append e to_t sent))
    (leaves_then (given_out e t) (had + k) (count e new + k) (backs_for e to_t) (backs_for e sent) h (more had k (backs_for e sent) (count e new) g))

-- ---- The oldest message

abbrev OnlyMentions : List Back → Type 0
OnlyMentions [] = Unit {0}
OnlyMentions (export.Mention ∷ ms) = OnlyMentions ms
OnlyMentions (export.Take k ∷ ms) = ⊥

strip : (n m : ℕ) (xs ys : List Back) → OnlyMentions xs → Leaves n (xs ++ ys) m → Leaves n ys m
strip n m [] ys o h = h
strip n m (export.Mention ∷ xs) ys o h = strip n m xs ys o h.1
strip n m (export.Take k ∷ xs) ys o h = absurd o

one_only : (b : Bool) → OnlyMentions (only b export.Mention)
one_only true = tt
one_only false = tt

behind_one : (b : Bool) (xs : List Back) → OnlyMentions xs → OnlyMentions (only b export.Mention ++ xs)
behind_one true xs h = h
behind_one false xs h = h

target_only : (e : ℕ) (t : Target) → OnlyMentions (target_in e t)
target_only e (ImportedCap i) = one_only (nat_eq e i.0)
target_only e (PromisedAnswer q path) = tt

targets_only : (e : ℕ) (m : PlainMessage) → OnlyMentions (targets_in e m)
targets_only e (plain.Abort x) = tt
targets_only e (plain.Bootstrap q) = tt
targets_only e (plain.Call c) = target_only e c.target
targets_only e (plain.Return r) = tt
targets_only e (plain.Finish f) = tt
targets_only e (plain.Resolve r) = tt
targets_only e (plain.Release r) = tt
targets_only e (plain.Disembargo d) = target_only e d.target
targets_only e (plain.Other n) = tt

named_only : (e : ℕ) (ds : List Descriptor) → OnlyMentions (named_in e ds)
named_only e [] = tt
named_only e (descriptor.None ∷ ds) = named_only e ds
named_only e (descriptor.SenderHosted i ∷ ds) = named_only e ds
named_only e (descriptor.SenderPromise i ∷ ds) = named_only e ds
named_only e (descriptor.ReceiverHosted i ∷ ds) = behind_one (nat_eq e i.0) (named_in e ds) (named_only e ds)
named_only e (descriptor.ReceiverAnswer q path ∷ ds) = named_only e ds

untake : (l n m : ℕ) (ms : List Back) → Leaves n (take_of l ++ ms) m → (k : ℕ) × (n ≡ l + k) × Leaves k ms m
untake zero n m ms h = (n, omega arith, h)
untake (suc l) n m ms h = (h.0, h.2, h.3)

-- Once it is taken, the rest stands.
pub rest_stands : (e : ℕ) (x : Noted) (xs : List Noted) (n m : ℕ) → Leaves n (backs_for e (x ∷ xs)) m → (k : ℕ) × (n ≡ lets_of e x.message x.lets + k) × Leaves k (backs_for e xs) m
rest_stands e x xs n m h =
    let l = lets_of e x.message x.lets in
    let b = named_in e (descriptors_of_plain x.message) in
    untake l n m (backs_for e xs) (strip n m b (take_of l ++ backs_for e xs) (named_only e (descriptors_of_plain x.message)) (strip n m (targets_in e x.message) (b ++ (take_of l ++ backs_for e xs)) (targets_only e x.message) h))

-- What it names is there.
has_some : (o : Option Export) → 0 < export_count o → IsSome o
has_some None h = absurd (omega (arith, h))
has_some (Some x) h = refl

module _ (s : State) where
  found : (i : ℕ) (m : ℕ) (ys : List Back) → Leaves (given_out i s) (only (nat_eq i i) export.Mention ++ ys) m → IsSome (map.get s.exports i)
  found i m ys h = has_some (map.get s.exports i) (let k = subst (λ (b : Bool). Leaves (given_out i s) (only b export.Mention ++ ys) m) (itself i) h in k.0)

  finds_target : (t : Target) (rest : ℕ → ℕ) (ys : ℕ → List Back) → ((e : ℕ) → Leaves (given_out e s) (target_in e t ++ ys e) (rest e)) → FindsTarget s t
  finds_target (ImportedCap i) rest ys h = found i.0 (rest i.0) (ys i.0) (h i.0)
  finds_target (PromisedAnswer q path) rest ys h = tt

  finds_each : (ds : List Descriptor) (rest : ℕ → ℕ) (ys : ℕ → List Back) → ((e : ℕ) → Leaves (given_out e s) (named_in e ds ++ ys e) (rest e)) → FindsEach s ds
  finds_each [] rest ys h = tt
  finds_each (descriptor.None ∷ ds) rest ys h = finds_each ds rest ys h
  finds_each (descriptor.SenderHosted i ∷ ds) rest ys h = finds_each ds rest ys h
  finds_each (descriptor.SenderPromise i ∷ ds) rest ys h = finds_each ds rest ys h
  finds_each (descriptor.ReceiverHosted i ∷ ds) rest ys h = (found i.0 (rest i.0) (named_in i.0 ds ++ ys i.0) (apart i.0), finds_each ds rest ys (λ e. strip (given_out e s) (rest e) (only (nat_eq e i.0) export.Mention) (named_in e ds ++ ys e) (one_only (nat_eq e i.0)) (apart e)))
    where
      apart : (e : ℕ) → Leaves (given_out e s) (only (nat_eq e i.0) export.Mention ++ (named_in e ds ++ ys e)) (rest e)
      apart e = subst (λ (bs : List Back). Leaves (given_out e s) bs (rest e)) (append_assoc (only (nat_eq e i.0) export.Mention) (named_in e ds) (ys e)) (h e)
  finds_each (descriptor.ReceiverAnswer q path ∷ ds) rest ys h = finds_each ds rest ys h

  -- By what is on the way behind what it names.
  finds : (m : PlainMessage) (rest : ℕ → ℕ) (ys : ℕ → List Back) → ((e : ℕ) → Leaves (given_out e s) (targets_in e m ++ (named_in e (descriptors_of_plain m) ++ ys e)) (rest e)) → FindsExports s m
  finds (plain.Abort x) rest ys h = tt
  finds (plain.Bootstrap q) rest ys h = tt
  finds (plain.Call c) rest ys h = (
    finds_target c.target rest (λ e. named_in e c.descriptors ++ ys e) h,
    finds_each c.descriptors rest ys (λ e. strip (given_out e s) (rest e) (target_in e c.target) (named_in e c.descriptors ++ ys e) (target_only e c.target) (h e)),
  )
  finds (plain.Return r) rest ys h = finds_each (descriptors_of_body r.body) rest ys h
  finds (plain.Finish f) rest ys h = tt
  finds (plain.Resolve r) rest ys h = finds_each (descriptors_of_resolved r.to) rest ys h
  finds (plain.Release r) rest ys h = tt
  finds (plain.Disembargo d) rest ys h = finds_target d.target rest ys h
  finds (plain.Other n) rest ys h = tt

-- ---- Steps

module _ (rise : SendsRaiseCounts) where
  -- By acts that name what stands: with the notes of what they send.
  pub by_command : (s t new : State) (to_s to_t : List Noted) (c : Command) (g : Granted) (x : Effects) → Found s to_s t to_t → Does s c g x new → (a : NamingActs (begin s) x new) → (x.sends ≡ messages (all_sent a.1)) × Found new to_s t (to_t ++ all_sent a.1)
  by_command s t new to_s to_t c g x k h a =
      let sent = all_sent a.1 in
      let r = commanded rise s t new to_s to_t c g x k.agree h (a.0, a.1, a.3, a.4, a.5) in
      let own = by_itself s new a.0 a.1 a.2 k.agree.stand.ready_s k.agree.covered_s k.agree.counted_s a.4 a.5 in (
        r.0,
        record {
          agree = r.1;
          whole_s = named.does s c g x new k.whole_s h;
          whole_t = k.whole_t;
          met_s = λ e. gives_more s new t to_s to_t sent e (given_out e s) (k.met_s e) (rise.commands e s c g x new h ∙ ap (λ (ms : List Message). given_out e s + giving e ms) r.0);
          met_t = λ e. lets_more t new to_t sent e (count e s) (giving e (messages to_s)) (k.met_t e) (own e);
        },
      )

  pub by_message : (s t new : State) (n : Noted) (to_s to_t : List Noted) (x : Effects) → Found s (n ∷ to_s) t to_t → fault_of s (message.Plain n.message) ≡ None → Handles s (message.Plain n.message) x new → (first : Progress) (f : Consumes n.message (begin s) first) → NamesAtOnce (begin s) first n.message f → (p : NamingActs first x new)
      → (x.sends ≡ messages (sent_at_once (begin s) first n.message f ++ all_sent p.1)) × Found new to_s t (to_t ++ (sent_at_once (begin s) first n.message f ++ all_sent p.1))
  by_message s t new n to_s to_t x k free h first f o p =
      let z = k.agree.stand in
      let sent = sent_at_once (begin s) first n.message f ++ all_sent p.1 in
      let r = handled rise s t new n to_s to_t x k.agree free h first f (p.0, p.1, p.3, p.4, p.5) in
      let own = once_taken s new n.message first p.0 f p.1 o p.2 z.ready_s k.agree.covered_s k.agree.counted_s z.useful_s.0 p.4 p.5 in (
        r.0,
        record {
          agree = r.1;
          whole_s = named.handles s (message.Plain n.message) x new k.whole_s free h;
          whole_t = k.whole_t;
          met_s = λ e.
              let left = rest_stands e n to_s (given_out e s) (count e t + giving e (messages to_t)) (k.met_s e) in
              let y = rise.messages e s n.message x new (ap (λ (l : Level). is_foreign l n.message) z.ready_s.level) free h ∙ ap (λ (ms : List Message). given_out e s + giving e ms) r.0 in
              let w = takes_first s e n.message n.lets to_s (reads s t (n ∷ to_s) to_t z.of_s z.of_t) in
              let g = left.1 in
              gives_more s new t to_s to_t sent e left.0 left.2 (omega (arith, y, w, g));
          met_t = λ e.
              let j = how_many (nat_eq e) (given (descriptors_of_plain n.message)) in
              lets_more t new to_t sent e (count e s + j) (giving e (messages to_s)) (from_to (given_out e t) _ (given_out e t) ((count e s + j) + giving e (messages to_s)) (backs_for e to_t) refl (omega arith) (k.met_t e)) (own e);
        },
      )

  commands : (s t new : State) (to_s to_t : List Noted) (c : Command) (g : Granted) (x : Effects) → Found s to_s t to_t → refused s c ≡ None → Does s c g x new → StillHolds Found new to_s t to_t x
  commands s t new to_s to_t c g x k f h =
      let a = does_whole s c g x new k.whole_s h in
      let r = by_command s t new to_s to_t c g x k h a in
      (all_sent a.1, r.0, r.1)

  receives : (s t new : State) (n : Noted) (to_s to_t : List Noted) (x : Effects) → Found s (n ∷ to_s) t to_t → fault_of s (message.Plain n.message) ≡ None → Handles s (message.Plain n.message) x new → StillHolds Found new to_s t to_t x
  receives s t new n to_s to_t x k f h =
      let a = handles_whole s n.message x new k.whole_s k.agree.stand.ready_s.level f h in
      let p = a.3 in
      let r = by_message s t new n to_s to_t x k f h a.0 a.1 a.2 p in
      (sent_at_once (begin s) a.0 n.message a.1 ++ all_sent p.1, r.0, r.1)

  pub are_kept : IsKept Found
  are_kept = record { turned = turned_about; starts = starts; commands = commands; receives = receives }

-- ---- Worlds

abbrev Finds : State → Message → Type 0
Finds s m = (p : PlainMessage) × (m ≡ message.Plain p) × FindsExports s p

found_by : (s t : State) (to_s to_t : List Noted) (m : Message) (ms : List Message) → Found s to_s t to_t → m ∷ ms ≡ messages to_s → Finds s m
found_by s t [] to_t m ms k e = absurd (let bad : m ∷ ms ≡ [] = e in cc)
found_by s t (n ∷ ns) to_t m ms k e =
    let first : m ≡ message.Plain n.message = cc in
    (n.message, first, finds s n.message (λ i. count i t + giving i (messages to_t)) (λ i. take_of (lets_of i n.message n.lets) ++ backs_for i ns) k.met_s)

pub in_world : (w : World) (v : Vat) (m : Message) (ms : List Message) → HoldsIn Found w → inbox w v ≡ m ∷ ms → Finds (core w v) m
in_world w A m ms k e = found_by w.a.core w.b.core k.to_a k.to_b m ms k.holds (sym e ∙ k.is_a)
in_world w B m ms k e = found_by w.b.core w.a.core k.to_b k.to_a m ms (turned_about w.a.core w.b.core k.to_a k.to_b k.holds) (sym e ∙ k.is_b)
