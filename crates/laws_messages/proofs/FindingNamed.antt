-- Where an answer is named on the way to its vat, it is there when that message is the oldest.
use Rattle.std.proofs.Common.{◌≡◌, ℕ, nat_eq, Bool, true, false, IsSome, List, [], ◌∷◌, ◌++◌, Option, None, Some, refl, sym, ap, subst, ◌∙◌, append-nil, append_assoc}
use Rattle.std.specs.FinMap as map
use Rattle.finite_maps.proofs.Tested.{itself}
use Rattle.rpc_msg.specs.declared.ids.Vat.{Vat}
use Rattle.rpc_msg.specs.declared.ids.Vat.TheVariants.{A, B}
use Rattle.rpc_msg.specs.declared.ids.ObjectId.{ObjectId}
use Rattle.rpc_msg.specs.declared.parts.Descriptor.{Descriptor}
use Rattle.rpc_msg.specs.declared.parts.Descriptor.TheVariants as descriptor
use Rattle.rpc_msg.specs.declared.parts.Target.{Target}
use Rattle.rpc_msg.specs.declared.parts.Target.TheVariants.{ImportedCap, PromisedAnswer}
use Rattle.rpc_msg.specs.declared.message.DisembargoContext.{DisembargoContext}
use Rattle.rpc_msg.specs.declared.message.DisembargoContext.TheVariants.{SenderLoopback, ReceiverLoopback}
use Rattle.rpc_msg.specs.declared.message.PlainMessage.{PlainMessage}
use Rattle.rpc_msg.specs.declared.message.PlainMessage.TheVariants as plain
use Rattle.rpc_msg.specs.declared.message.Message.{Message}
use Rattle.rpc_msg.specs.declared.message.Message.TheVariants as message
use Rattle.rpc_msg.specs.Messages.{descriptors_of_plain}
use Rattle.rpc_machine.specs.declared.command.Command.{Command}
use Rattle.rpc_machine.specs.declared.command.Granted.{Granted}
use Rattle.rpc_machine.specs.declared.command.Effects.{Effects}
use Rattle.rpc_machine.specs.declared.command.Level.TheVariants.{One}
use Rattle.rpc_machine.specs.declared.entries.AnswerEntry.{AnswerEntry}
use Rattle.rpc_machine.specs.State.{State, start}
use Rattle.rpc_machine.specs.Refusals.{refused}
use Rattle.rpc_machine.specs.Faults.{fault_of}
use Rattle.rpc_machine.specs.Progress.{Progress, begin, with_state}
use Rattle.rpc_machine.specs.Steps.{Does, Handles}
use Rattle.rpc_machine.specs.World.{World, core, inbox}
use Rattle.laws_steps.proofs.Swept.{Whole}
use Rattle.laws_steps.proofs.NamedMessages as named
use Rattle.laws_steps.proofs.Reached.{empty_whole}
use Rattle.laws_acts.specs.Acts.{TurnsBy, Consumes}
use Rattle.laws_acts.specs.Sent.{Ids, Noted, messages, all_sent, turned_sent, sent_at_once}
use Rattle.laws_runs.specs.Questions.{Asker, Answerer, Out, Ret, Row, hear_one, tell_one}
use Rattle.laws_runs.specs.Names as mark
use Rattle.laws_runs.specs.Names.{Mark, IsAsking, IsHere}
use Rattle.laws_runs.specs.Views.{only, out_of, ret_of, outs, rets, asker_of, answerer_of, tell, hear, ReturnsAll, IsReady}
use Rattle.laws_runs.specs.Between.{HoldsIn, StillHolds, IsKept}
use Rattle.laws_runs.specs.Worlds.{Stand}
use Rattle.laws_runs.proofs.Rows as rows
use Rattle.laws_runs.proofs.Named as small
use Rattle.laws_runs.proofs.Heard as heard
use Rattle.laws_runs.proofs.Acted.{then}
use Rattle.laws_runs.proofs.Acted as acted
use Rattle.laws_runs.proofs.Standing as standing
use Rattle.laws_messages.specs.Mentions.{NamesTurned, NamesAtOnce}
use Rattle.laws_messages.proofs.NamingSteps.{does_whole, handles_whole}
use Rattle.laws_messages.specs.Named.{target_marks, targets_marks, each_marks, says, marks, FindsTarget, FindsTargets, FindsEach}
use Rattle.laws_messages.proofs.Asking.{Marked, marked_then, marks-append, Sound, marked, target_asked}
use Rattle.laws_messages.proofs.Asking as asking

-- ---- Marks and messages

outs_one : (ms : List (Mark Ids Ids)) (o : Out Ids Ids) → mark.outs (ms ++ mark.Says o ∷ []) ≡ mark.outs ms ++ o ∷ []
outs_one [] o = refl
outs_one (mark.Says m ∷ ms) o = ap (λ (os : List (Out Ids Ids)). m ∷ os) (outs_one ms o)
outs_one (mark.Names ∷ ms) o = outs_one ms o

outs_none : (ms : List (Mark Ids Ids)) → mark.outs (ms ++ mark.Names ∷ []) ≡ mark.outs ms
outs_none [] = refl
outs_none (mark.Says m ∷ ms) = ap (λ (os : List (Out Ids Ids)). m ∷ os) (outs_none ms)
outs_none (mark.Names ∷ ms) = outs_none ms

abbrev OnlyNames : List (Mark Ids Ids) → Type 0
OnlyNames [] = Unit {0}
OnlyNames (mark.Names ∷ ms) = OnlyNames ms
OnlyNames (mark.Says m ∷ ms) = ⊥

outs_behind : (xs ys : List (Mark Ids Ids)) → OnlyNames xs → mark.outs (xs ++ ys) ≡ mark.outs ys
outs_behind [] ys h = refl
outs_behind (mark.Names ∷ xs) ys h = outs_behind xs ys h
outs_behind (mark.Says m ∷ xs) ys h = absurd h

outs_said : (os : List (Out Ids Ids)) (ys : List (Mark Ids Ids)) → mark.outs (says os ++ ys) ≡ os ++ mark.outs ys
outs_said [] ys = refl
outs_said (o ∷ os) ys = ap (λ (ps : List (Out Ids Ids)). o ∷ ps) (outs_said os ys)

one_only : (b : Bool) → OnlyNames (only b mark.Names)
one_only true = tt
one_only false = tt

behind_one : (b : Bool) (xs : List (Mark Ids Ids)) → OnlyNames xs → OnlyNames (only b mark.Names ++ xs)
behind_one true xs h = h
behind_one false xs h = h

target_only : (q : ℕ) (t : Target) → OnlyNames (target_marks q t)
target_only q (ImportedCap e) = tt
target_only q (PromisedAnswer k path) = one_only (nat_eq q k.0)

targets_only : (q : ℕ) (m : PlainMessage) → OnlyNames (targets_marks q m)
targets_only q (plain.Call c) = target_only q c.target
targets_only q (plain.Disembargo d) = target_only q d.target
targets_only q (plain.Abort x) = tt
targets_only q (plain.Bootstrap k) = tt
targets_only q (plain.Return r) = tt
targets_only q (plain.Finish f) = tt
targets_only q (plain.Resolve r) = tt
targets_only q (plain.Release r) = tt
targets_only q (plain.Other n) = tt

each_only : (q : ℕ) (ds : List Descriptor) → OnlyNames (each_marks q ds)
each_only q [] = tt
each_only q (descriptor.None ∷ ds) = each_only q ds
each_only q (descriptor.SenderHosted i ∷ ds) = each_only q ds
each_only q (descriptor.SenderPromise i ∷ ds) = each_only q ds
each_only q (descriptor.ReceiverHosted i ∷ ds) = each_only q ds
each_only q (descriptor.ReceiverAnswer k path ∷ ds) = behind_one (nat_eq q k.0) (each_marks q ds) (each_only q ds)

outs_marks : (q : ℕ) (xs : List Noted) → mark.outs (marks q xs) ≡ outs q xs
outs_marks q [] = refl
outs_marks q (x ∷ xs) =
    outs_behind (targets_marks q x.message) _ (targets_only q x.message)
    ∙ outs_behind (each_marks q (descriptors_of_plain x.message)) _ (each_only q (descriptors_of_plain x.message))
    ∙ outs_said (out_of q x.message x.lets) (marks q xs)
    ∙ ap (λ (ps : List (Out Ids Ids)). out_of q x.message x.lets ++ ps) (outs_marks q xs)

-- ---- What keeps that each name is met

-- What the asker does is behind all that is on the way.
module _ (u : Answerer Ids Ids) (back : List (Ret Ids Ids)) where
  joined : (v w : Asker Ids Ids) (ms ks : List (Mark Ids Ids)) → Row v (mark.outs ms) u back → mark.Met u ms → Marked v ks w → mark.Met u (ms ++ ks)
  joined v w ms [] r m h = subst (λ (xs : List (Mark Ids Ids)). mark.Met u xs) (sym (append-nil ms)) m
  joined v w ms (mark.Says o ∷ ks) r m h =
      subst (λ (xs : List (Mark Ids Ids)). mark.Met u xs) (append_assoc ms (mark.Says o ∷ []) ks)
      (joined h.0 w (ms ++ mark.Says o ∷ []) ks (subst (λ (os : List (Out Ids Ids)). Row h.0 os u back) (sym (outs_one ms o)) (rows.sends v h.0 o (mark.outs ms) u back r h.1)) (small.sends u ms o m) h.2)
  joined v w ms (mark.Names ∷ ks) r m h =
      subst (λ (xs : List (Mark Ids Ids)). mark.Met u xs) (append_assoc ms (mark.Names ∷ []) ks)
      (joined v w (ms ++ mark.Names ∷ []) ks (subst (λ (os : List (Out Ids Ids)). Row v os u back) (sym (outs_none ms)) r) (small.names v ms u back r h.0 m) h.1)

-- What the answerer does by itself.
returned : (v : Asker Ids Ids) (ms : List (Mark Ids Ids)) (u w : Answerer Ids Ids) (rs back : List (Ret Ids Ids)) → Row v (mark.outs ms) u back → mark.Met u ms → ReturnsAll u rs w → mark.Met w ms
returned v ms u w [] back r m h = subst (λ (z : Answerer Ids Ids). mark.Met z ms) h m
returned v ms u w (x ∷ rs) back r m h = returned v ms h.0 w rs (back ++ x ∷ []) (rows.returns v (mark.outs ms) u h.0 x back r h.1) (small.returns v ms u h.0 x back r h.1 m) h.2

-- The answerer takes the oldest message.
strip : (u : Answerer Ids Ids) (xs ys : List (Mark Ids Ids)) → OnlyNames xs → mark.Met u (xs ++ ys) → mark.Met u ys
strip u [] ys o h = h
strip u (mark.Names ∷ xs) ys o h = strip u xs ys o h.1
strip u (mark.Says m ∷ xs) ys o h = absurd o

hears : (u : Answerer Ids Ids) (os : List (Out Ids Ids)) (ys : List (Mark Ids Ids)) → mark.Met u (says os ++ ys) → mark.Met (hear u os) ys
hears u [] ys h = h
hears u (o ∷ os) ys h = hears (hear_one u o) os ys h

rest_met : (q : ℕ) (u : Answerer Ids Ids) (n : Noted) (ns : List Noted) → mark.Met u (marks q (n ∷ ns)) → mark.Met (hear u (out_of q n.message n.lets)) (marks q ns)
rest_met q u n ns h =
    hears u (out_of q n.message n.lets) (marks q ns)
    (strip u (each_marks q (descriptors_of_plain n.message)) _ (each_only q (descriptors_of_plain n.message)) (strip u (targets_marks q n.message) _ (targets_only q n.message) h))

hear_all : (v : Asker Ids Ids) (ms os : List (Out Ids Ids)) (u : Answerer Ids Ids) (back : List (Ret Ids Ids)) → Row v (ms ++ os) u back → Row v os (hear u ms) back
hear_all v [] os u back r = r
hear_all v (m ∷ ms) os u back r = hear_all v ms os (hear_one u m) back (rows.heard v m (ms ++ os) u back r)

tell_all : (v : Asker Ids Ids) (os : List (Out Ids Ids)) (u : Answerer Ids Ids) (ms back : List (Ret Ids Ids)) → Row v os u (ms ++ back) → Row (tell v ms) os u back
tell_all v os u [] back r = r
tell_all v os u (m ∷ ms) back r = tell_all (tell_one v m) os u ms back (rows.told v os u m (ms ++ back) r)

-- ---- One message

module _ (s mid : State) (ready : IsReady s) (q : ℕ) where
  turned : (first : Progress) (c : DisembargoContext) (h : TurnsBy (begin s) c first) → NamesTurned (begin s) first c h → Sound q (IsAsking (asker_of (map.get s.questions q))) (turned_sent (begin s) first c h)
  turned first (SenderLoopback x) h n = (target_asked s ready.usual q h.0 n, tt, tt)
  turned first (ReceiverLoopback x) h n = tt

  at_once : (first : Progress) (m : PlainMessage) (h : Consumes m (begin s) first) → NamesAtOnce (begin s) first m h → ((l : Ids) → asker_of (map.get mid.questions q) ≡ tell (asker_of (map.get s.questions q)) (ret_of q m l)) → Sound q (IsAsking (asker_of (map.get mid.questions q))) (sent_at_once (begin s) first m h)
  at_once first (plain.Abort x) h n g = tt
  at_once first (plain.Bootstrap k) h n g = tt
  at_once first (plain.Call c) h n g = tt
  at_once first (plain.Return r) h n g = tt
  at_once first (plain.Finish f) h n g = tt
  at_once first (plain.Resolve r) h n g = tt
  at_once first (plain.Release r) h n g = tt
  at_once first (plain.Disembargo x) h n g = subst (λ (a : Asker Ids Ids). Sound q (IsAsking a) (turned_sent (begin s) first x.context h)) (sym (g [])) (turned first x.context h n)
  at_once first (plain.Other k) h n g = tt

-- ---- Two vats

abbrev AreMet : State → List Noted → Type 0
AreMet s to_s = (q : ℕ) → mark.Met (answerer_of (map.get s.answers q)) (marks q to_s)

pub record Found (s : State) (to_s : List Noted) (t : State) (to_t : List Noted) : Type 0 where
  pub stand : Stand s to_s t to_t
  pub whole_s : Whole s
  pub whole_t : Whole t
  pub met_s : AreMet s to_s
  pub met_t : AreMet t to_t

turned_about : (s t : State) (to_s to_t : List Noted) → Found s to_s t to_t → Found t to_t s to_s
turned_about s t to_s to_t k = record { stand = standing.turned s t to_s to_t k.stand; whole_s = k.whole_t; whole_t = k.whole_s; met_s = k.met_t; met_t = k.met_s }

starts : (a b : Option ObjectId) → Found (start A One a) [] (start B One b) []
starts a b = record { stand = standing.starts a b; whole_s = empty_whole A One a None; whole_t = empty_whole B One b None; met_s = λ q. tt; met_t = λ q. tt }

as_marks : (v : Asker Ids Ids) (q : ℕ) (to : List Noted) (u : Answerer Ids Ids) (back : List (Ret Ids Ids)) → Row v (outs q to) u back → Row v (mark.outs (marks q to)) u back
as_marks v q to u back r = subst (λ (os : List (Out Ids Ids)). Row v os u back) (sym (outs_marks q to)) r

commands : (s t new : State) (to_s to_t : List Noted) (c : Command) (g : Granted) (x : Effects) → Found s to_s t to_t → refused s c ≡ None → Does s c g x new → StillHolds Found new to_s t to_t x
commands s t new to_s to_t c g x k f h =
    let a = does_whole s c g x new k.whole_s h in
    let sent = all_sent a.1 in
    let last : State = (let p = a.0 in p.state) in
    let d = acted.acts a.0 (begin s) k.stand.ready_s a.1 in (
      sent,
      ap (λ (y : Effects). y.sends) a.3 ∙ d.said,
      record {
        stand = subst (λ (u : State). Stand u to_s t (to_t ++ sent)) (sym a.4) (standing.moved s t last to_s to_t sent k.stand d.moves);
        whole_s = named.does s c g x new k.whole_s h;
        whole_t = k.whole_t;
        met_s = subst (λ (u : State). AreMet u to_s) (sym a.4) (λ q. returned (asker_of (map.get t.questions q)) (marks q to_s) (answerer_of (map.get s.answers q)) (answerer_of (map.get last.answers q)) (rets q sent) (rets q to_t) (as_marks _ q to_s _ (rets q to_t) (k.stand.of_t q)) (k.met_s q) (d.moves.returns q));
        met_t = λ q.
            subst (λ (ms : List (Mark Ids Ids)). mark.Met (answerer_of (map.get t.answers q)) ms) (sym (marks-append q to_t sent))
            (joined (answerer_of (map.get t.answers q)) (rets q to_s) (asker_of (map.get s.questions q)) (asker_of (map.get last.questions q)) (marks q to_t) (marks q sent) (as_marks _ q to_t _ (rets q to_s) (k.stand.of_s q)) (k.met_t q) (asking.acts q a.0 (begin s) a.1 a.2 k.stand.ready_s));
      },
    )

receives : (s t new : State) (n : Noted) (to_s to_t : List Noted) (x : Effects) → Found s (n ∷ to_s) t to_t → fault_of s (message.Plain n.message) ≡ None → Handles s (message.Plain n.message) x new → StillHolds Found new to_s t to_t x
receives s t new n to_s to_t x k f h =
    let z = k.stand in
    let a = handles_whole s n.message x new k.whole_s z.ready_s.level f h in
    let p = a.3 in
    let y = heard.consumes n.message (begin s) a.0 z.ready_s z.useful_s.0 a.1 in
    let now = sent_at_once (begin s) a.0 n.message a.1 in
    let more = all_sent p.1 in
    let sent = now ++ more in
    let mid : State = y.mid in
    let last : State = (let o = p.0 in o.state) in
    let d = then (with_state (begin s) mid) a.0 p.0 now more y.did (acted.acts p.0 a.0 y.did.moves.ready p.1) in (
      sent,
      ap (λ (y : Effects). y.sends) p.3 ∙ d.said,
      record {
        stand = subst (λ (u : State). Stand u to_s t (to_t ++ sent)) (sym p.4) (standing.received s t mid last n to_s to_t sent z y.gets d.moves);
        whole_s = named.handles s (message.Plain n.message) x new k.whole_s f h;
        whole_t = k.whole_t;
        met_s = subst (λ (u : State). AreMet u to_s) (sym p.4) (λ q.
            returned (asker_of (map.get t.questions q)) (marks q to_s) (answerer_of (map.get mid.answers q)) (answerer_of (map.get last.answers q)) (rets q sent) (rets q to_t)
            (as_marks _ q to_s _ (rets q to_t) (subst (λ (u : Answerer Ids Ids). Row (asker_of (map.get t.questions q)) (outs q to_s) u (rets q to_t)) (sym (y.gets.hears q n.lets)) (hear_all (asker_of (map.get t.questions q)) (out_of q n.message n.lets) (outs q to_s) (answerer_of (map.get s.answers q)) (rets q to_t) (z.of_t q))))
            (subst (λ (u : Answerer Ids Ids). mark.Met u (marks q to_s)) (sym (y.gets.hears q n.lets)) (rest_met q (answerer_of (map.get s.answers q)) n to_s (k.met_s q)))
            (d.moves.returns q));
        met_t = λ q.
            subst (λ (ms : List (Mark Ids Ids)). mark.Met (answerer_of (map.get t.answers q)) ms) (sym (marks-append q to_t sent))
            (joined (answerer_of (map.get t.answers q)) (rets q to_s) (asker_of (map.get mid.questions q)) (asker_of (map.get last.questions q)) (marks q to_t) (marks q sent)
            (as_marks _ q to_t _ (rets q to_s) (subst (λ (v : Asker Ids Ids). Row v (outs q to_t) (answerer_of (map.get t.answers q)) (rets q to_s)) (sym (y.gets.tells q n.lets)) (tell_all (asker_of (map.get s.questions q)) (outs q to_t) (answerer_of (map.get t.answers q)) (ret_of q n.message n.lets) (rets q to_s) (z.of_s q))))
            (k.met_t q)
            (subst (λ (ms : List (Mark Ids Ids)). Marked (asker_of (map.get mid.questions q)) ms (asker_of (map.get last.questions q))) (sym (marks-append q now more))
            (marked_then (asker_of (map.get mid.questions q)) (asker_of (map.get (let o = a.0 in o.state).questions q)) (asker_of (map.get last.questions q)) (marks q now) (marks q more)
            (marked q now (asker_of (map.get mid.questions q)) (asker_of (map.get (let o = a.0 in o.state).questions q)) (at_once s mid z.ready_s q a.0 n.message a.1 a.2 (λ l. y.gets.tells q l)) (y.did.moves.asks q))
            (asking.acts q p.0 a.0 p.1 p.2 y.did.moves.ready))));
      },
    )

pub are_kept : IsKept Found
are_kept = record { turned = turned_about; starts = starts; commands = commands; receives = receives }

-- ---- The oldest message

is_there : (o : Option AnswerEntry) → IsHere (answerer_of o) → IsSome o
is_there None h = absurd h
is_there (Some a) h = refl

module _ (s : State) where
  found : (k : ℕ) (ys : List (Mark Ids Ids)) → mark.Met (answerer_of (map.get s.answers k)) (only (nat_eq k k) mark.Names ++ ys) → IsSome (map.get s.answers k)
  found k ys h = is_there (map.get s.answers k) (let g = subst (λ (b : Bool). mark.Met (answerer_of (map.get s.answers k)) (only b mark.Names ++ ys)) (itself k) h in g.0)

  finds_target : (t : Target) (ys : ℕ → List (Mark Ids Ids)) → ((q : ℕ) → mark.Met (answerer_of (map.get s.answers q)) (target_marks q t ++ ys q)) → FindsTarget s t
  finds_target (ImportedCap i) ys h = tt
  finds_target (PromisedAnswer k path) ys h = found k.0 (ys k.0) (h k.0)

  finds_targets : (m : PlainMessage) (ys : ℕ → List (Mark Ids Ids)) → ((q : ℕ) → mark.Met (answerer_of (map.get s.answers q)) (targets_marks q m ++ ys q)) → FindsTargets s m
  finds_targets (plain.Call c) ys h = finds_target c.target ys h
  finds_targets (plain.Disembargo d) ys h = finds_target d.target ys h
  finds_targets (plain.Abort x) ys h = tt
  finds_targets (plain.Bootstrap k) ys h = tt
  finds_targets (plain.Return r) ys h = tt
  finds_targets (plain.Finish f) ys h = tt
  finds_targets (plain.Resolve r) ys h = tt
  finds_targets (plain.Release r) ys h = tt
  finds_targets (plain.Other n) ys h = tt

  finds_each : (ds : List Descriptor) (ys : ℕ → List (Mark Ids Ids)) → ((q : ℕ) → mark.Met (answerer_of (map.get s.answers q)) (each_marks q ds ++ ys q)) → FindsEach s ds
  finds_each [] ys h = tt
  finds_each (descriptor.None ∷ ds) ys h = finds_each ds ys h
  finds_each (descriptor.SenderHosted i ∷ ds) ys h = finds_each ds ys h
  finds_each (descriptor.SenderPromise i ∷ ds) ys h = finds_each ds ys h
  finds_each (descriptor.ReceiverHosted i ∷ ds) ys h = finds_each ds ys h
  finds_each (descriptor.ReceiverAnswer k path ∷ ds) ys h = (found k.0 (each_marks k.0 ds ++ ys k.0) (apart k.0), finds_each ds ys (λ q. strip (answerer_of (map.get s.answers q)) (only (nat_eq q k.0) mark.Names) (each_marks q ds ++ ys q) (one_only (nat_eq q k.0)) (apart q)))
    where
      apart : (q : ℕ) → mark.Met (answerer_of (map.get s.answers q)) (only (nat_eq q k.0) mark.Names ++ (each_marks q ds ++ ys q))
      apart q = subst (λ (ms : List (Mark Ids Ids)). mark.Met (answerer_of (map.get s.answers q)) ms) (append_assoc (only (nat_eq q k.0) mark.Names) (each_marks q ds) (ys q)) (h q)

abbrev Finds : State → Message → Type 0
Finds s m = (p : PlainMessage) × (m ≡ message.Plain p) × FindsTargets s p × FindsEach s (descriptors_of_plain p)

found_by : (s : State) (to_s : List Noted) (m : Message) (ms : List Message) → AreMet s to_s → m ∷ ms ≡ messages to_s → Finds s m
found_by s [] m ms k e = absurd (let bad : m ∷ ms ≡ [] = e in cc)
found_by s (n ∷ ns) m ms k e =
    let first : m ≡ message.Plain n.message = cc in
    let ds = descriptors_of_plain n.message in
    (n.message, first, finds_targets s n.message (λ q. each_marks q ds ++ (says (out_of q n.message n.lets) ++ marks q ns)) k, finds_each s ds (λ q. says (out_of q n.message n.lets) ++ marks q ns) (λ q. strip (answerer_of (map.get s.answers q)) (targets_marks q n.message) _ (targets_only q n.message) (k q)))

pub in_world : (w : World) (v : Vat) (m : Message) (ms : List Message) → HoldsIn Found w → inbox w v ≡ m ∷ ms → Finds (core w v) m
in_world w A m ms k e = found_by w.a.core k.to_a m ms k.holds.met_s (sym e ∙ k.is_a)
in_world w B m ms k e = found_by w.b.core k.to_b m ms k.holds.met_t (sym e ∙ k.is_b)
