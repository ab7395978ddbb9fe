-- What a step of one vat sends, as each session sees it.
use Rattle.std.proofs.Common.{◌≡◌, ◌≤◌, ◌⊎◌, inl, ℕ, ◌+◌, Bool, nat_eq, List, [], ◌∷◌, ◌++◌, None, Some, refl, sym, ap, subst, ◌∙◌, arith}
use Rattle.std.specs.FinMap as map
use Rattle.std.specs.Ordering.{nat_cmp}
use Rattle.rpc_msg.specs.declared.parts.Descriptor.{Descriptor}
use Rattle.rpc_msg.specs.declared.message.DisembargoContext.{DisembargoContext}
use Rattle.rpc_msg.specs.declared.message.DisembargoContext.TheVariants.{SenderLoopback, ReceiverLoopback}
use Rattle.rpc_msg.specs.declared.message.PlainMessage.{PlainMessage}
use Rattle.rpc_msg.specs.declared.message.PlainMessage.TheVariants as plain
use Rattle.rpc_msg.specs.declared.message.Message.{Message}
use Rattle.rpc_msg.specs.declared.message.Message.TheVariants as message
use Rattle.rpc_msg.specs.Messages.{given, descriptors_of_plain}
use Rattle.rpc_machine.specs.declared.command.Command.{Command}
use Rattle.rpc_machine.specs.declared.command.Granted.{Granted}
use Rattle.rpc_machine.specs.declared.command.Effects.{Effects}
use Rattle.rpc_machine.specs.declared.command.Level.{Level}
use Rattle.rpc_machine.specs.declared.entries.Export.{Export}
use Rattle.finite_maps.specs.Tally.{Map}
use Rattle.rpc_machine.specs.State.{State}
use Rattle.rpc_machine.specs.Refusals.{refused}
use Rattle.rpc_machine.specs.Lists.{how_many}
use Rattle.rpc_machine.specs.Laws.{given_out, SendsRaiseCounts}
use Rattle.rpc_machine.specs.Descriptors.{giving}
use Rattle.rpc_machine.specs.UnderWay.{plain_takes}
use Rattle.rpc_machine.specs.Faults.{is_foreign, fault_of}
use Rattle.rpc_machine.specs.Progress.{Progress, begin, with_state}
use Rattle.rpc_machine.specs.Steps.{Does, Handles}
use Rattle.laws_steps.proofs.Swept.{Whole}
use Rattle.laws_steps.proofs.NamedMessages as named
use Rattle.laws_acts.specs.Acts.{TurnsBy, Consumes}
use Rattle.laws_acts.specs.Sent.{Ids, Noted, messages, all_sent, turned_sent, sent_at_once}
use Rattle.laws_nodes.specs.Ones.{one_if}
use Rattle.laws_nodes.specs.Settling.{AllStop}
use Rattle.laws_nodes.specs.Embargoes.{here, out, back, goes_out, comes_back, Loopbacks}
use Rattle.laws_runs.specs.Exports.{Out, Back, Leaves}
use Rattle.laws_runs.specs.Questions.{Asker}
use Rattle.laws_runs.specs.Names.{Mark, IsAsking}
use Rattle.laws_runs.specs.Views.{asker_of, answerer_of, outs, rets, ret_of, tell, SendsAll, ReturnsAll, IsUseful, AreUseful, IsReady, Gets}
use Rattle.laws_runs.specs.Imports.{count, IsCovered}
use Rattle.laws_runs.specs.Entries.{AreCounted}
use Rattle.laws_runs.proofs.Acted as acted
use Rattle.laws_runs.proofs.Heard as heard
use Rattle.laws_runs.proofs.Paid as pays
use Rattle.laws_runs.proofs.Got.{took_one}
use Rattle.laws_runs.proofs.AboveZero as above
use Rattle.laws_runs.proofs.Agreeing.{begins}
use Rattle.laws_messages.specs.Mentions.{NamesTurned, NamesAtOnce}
use Rattle.laws_messages.specs.Named.{marks}
use Rattle.laws_messages.specs.Views.{backs_for, gives_in, resolves_in, outs_for}
use Rattle.laws_messages.specs.ExportViews.{exporter_of, outs_in}
use Rattle.laws_messages.proofs.NamingSteps.{does_whole, handles_whole}
use Rattle.laws_messages.proofs.Answering as exports
use Rattle.laws_messages.proofs.Answering.{view, none_waits, leaves, leaves_then, backs-append, target_held}
use Rattle.laws_messages.proofs.Asking as answers
use Rattle.laws_messages.proofs.Asking.{Marked, marked, marked_then, marks-append, target_asked}
use Rattle.laws_look.proofs.Turning as turnings
use Rattle.laws_look.proofs.Turning.{NoTurns, OneTurn, IsKnown}
use Rattle.laws_look.proofs.Told as hearing
use Rattle.laws_look.proofs.Told.{Told, told_of, KeepTold, IsTold, Waited, resolved_of, Says}
use Rattle.laws_look.proofs.Resolving as tellings
use Rattle.laws_look.proofs.Resolving.{Sends}
use Rattle.laws_look.proofs.Owed.{MayCome, owe_all, AllCome, step_so}

-- What a vat is by itself.
pub record Alone (s : State) : Type 0 where
  pub ready : IsReady s
  pub covered : IsCovered s
  pub counted : AreCounted s
  pub whole : Whole s
  pub stops : AllStop s

-- From the state mid on, where it has so many of each import, it sends these.
pub record Moved (mid : State) (had : ℕ → ℕ) (sent : List Noted) (new : State) : Type 0 where
  pub useful : AreUseful sent
  pub alone : Alone new
  pub asks : (q : ℕ) → SendsAll (asker_of (map.get mid.questions q)) (outs q sent) (asker_of (map.get new.questions q))
  pub names : (q : ℕ) → Marked (asker_of (map.get mid.questions q)) (marks q sent) (asker_of (map.get new.questions q))
  pub returns : (q : ℕ) → ReturnsAll (answerer_of (map.get mid.answers q)) (rets q sent) (answerer_of (map.get new.answers q))
  pub backs : (e : ℕ) → Leaves (had e) (backs_for e sent) (count e new)

-- A Resolve is sent only where it may come.
abbrev pub Resolvable : State → List Noted → State → Type 0
Resolvable s sent new = (e : ℕ) (b : Bool) → MayCome b (exporter_of s (map.get s.exports e)) → AllCome b (outs_for e sent) × MayCome (owe_all b (outs_for e sent)) (exporter_of new (map.get new.exports e))

-- Of a command.
pub record Commanded (s : State) (x : Effects) (new : State) : Type 0 where
  pub sent : List Noted
  pub said : x.sends ≡ messages sent
  pub moved : Moved s (λ e. count e s) sent new
  pub gives : (e : ℕ) → given_out e new ≡ given_out e s + giving e (messages sent)
  pub begins : (e : ℕ) → here (map.get new.embargoes e) ≡ here (map.get s.embargoes e) + out e (messages sent)
  pub turns : (e : ℕ) → back e (messages sent) ≡ 0
  pub owes : Resolvable s sent new
  pub turned : OneTurn (IsKnown s) (messages sent)
  pub told : KeepTold s new
  pub led : (e : ℕ) (z : Descriptor) → resolved_of (map.get new.imports e) ≡ Some z → resolved_of (map.get s.imports e) ≡ Some z

-- Of a message.
pub record Received (s : State) (m : PlainMessage) (x : Effects) (new : State) : Type 0 where
  pub sent : List Noted
  pub said : x.sends ≡ messages sent
  pub mid : State
  pub gets : Gets s m mid
  pub moved : Moved mid (λ e. count e s + how_many (nat_eq e) (given (descriptors_of_plain m))) sent new
  pub gives : (e : ℕ) → given_out e new + plain_takes s e m ≡ given_out e s + giving e (messages sent)
  pub ends : (e : ℕ) → here (map.get new.embargoes e) + one_if (comes_back e (message.Plain m)) ≡ here (map.get s.embargoes e)
  pub begins : (e : ℕ) → out e (messages sent) ≡ 0
  pub turns : (e : ℕ) → back e (messages sent) ≡ one_if (goes_out e (message.Plain m))
  pub owes : Resolvable s sent new
  pub turned : NoTurns (messages sent)
  pub told : (q : ℕ) (z : Told) → told_of (map.get new.questions q) ≡ Some z → (told_of (map.get s.questions q) ≡ Some z) ⊎ (IsTold m q z × Waited (map.get s.questions q))
  pub led : (e : ℕ) (z : Descriptor) → resolved_of (map.get new.imports e) ≡ Some z → (resolved_of (map.get s.imports e) ≡ Some z) ⊎ Says m e z

-- ---- What is sent at once

-- of exports
module _ (s : State) (counts : AreCounted s) (e v : ℕ) (enough : count e s ≤ v) where
  turned_back : (first : Progress) (c : DisembargoContext) (h : TurnsBy (begin s) c first) → NamesTurned (begin s) first c h → exports.Sound e v (turned_sent (begin s) first c h)
  turned_back first (SenderLoopback x) h n = (target_held s counts e v enough h.0 n, tt, λ k q. tt)
  turned_back first (ReceiverLoopback x) h n = tt

  backs_at_once : (first : Progress) (m : PlainMessage) (h : Consumes m (begin s) first) → NamesAtOnce (begin s) first m h → exports.Sound e v (sent_at_once (begin s) first m h)
  backs_at_once first (plain.Abort x) h n = tt
  backs_at_once first (plain.Bootstrap q) h n = tt
  backs_at_once first (plain.Call c) h n = tt
  backs_at_once first (plain.Return r) h n = tt
  backs_at_once first (plain.Finish f) h n = tt
  backs_at_once first (plain.Resolve r) h n = tt
  backs_at_once first (plain.Release r) h n = tt
  backs_at_once first (plain.Disembargo x) h n = turned_back first x.context h n
  backs_at_once first (plain.Other k) h n = tt

-- of answers
module _ (s mid : State) (ready : IsReady s) (q : ℕ) where
  turned_names : (first : Progress) (c : DisembargoContext) (h : TurnsBy (begin s) c first) → NamesTurned (begin s) first c h → answers.Sound q (IsAsking (asker_of (map.get s.questions q))) (turned_sent (begin s) first c h)
  turned_names first (SenderLoopback x) h n = (target_asked s ready.usual q h.0 n, tt, tt)
  turned_names first (ReceiverLoopback x) h n = tt

  names_at_once : (first : Progress) (m : PlainMessage) (h : Consumes m (begin s) first) → NamesAtOnce (begin s) first m h → ((l : Ids) → asker_of (map.get mid.questions q) ≡ tell (asker_of (map.get s.questions q)) (ret_of q m l)) → answers.Sound q (IsAsking (asker_of (map.get mid.questions q))) (sent_at_once (begin s) first m h)
  names_at_once first (plain.Abort x) h n g = tt
  names_at_once first (plain.Bootstrap k) h n g = tt
  names_at_once first (plain.Call c) h n g = tt
  names_at_once first (plain.Return r) h n g = tt
  names_at_once first (plain.Finish f) h n g = tt
  names_at_once first (plain.Resolve r) h n g = tt
  names_at_once first (plain.Release r) h n g = tt
  names_at_once first (plain.Disembargo x) h n g = subst (λ (a : Asker Ids Ids). answers.Sound q (IsAsking a) (turned_sent (begin s) first x.context h)) (sym (g [])) (turned_names first x.context h n)
  names_at_once first (plain.Other k) h n g = tt

-- ---- Steps

sent_is : (e : ℕ) (ns : List Noted) → outs_in e (messages ns) ≡ outs_for e ns
sent_is e [] = refl
sent_is e (n ∷ ns) = ap (λ (l : List Out). resolves_in e n.message ++ (gives_in e (descriptors_of_plain n.message) ++ l)) (sent_is e ns)

resolvable : (s : State) (es : Map Export) (x : Effects) (sent : List Noted) (new : State) → x.sends ≡ messages sent → Sends s es x new → Resolvable s sent new
resolvable s es x sent new said k e b h =
    subst (λ (l : List Out). AllCome b l × MayCome (owe_all b l) (exporter_of new (map.get new.exports e))) (ap (outs_in e) said ∙ sent_is e sent) (step_so s es x new k e b h)

from_to : (a b n m : ℕ) (bs : List Back) → a ≡ n → b ≡ m → Leaves a bs b → Leaves n bs m
from_to a b n m bs f g h = subst (λ (j : ℕ). Leaves j bs m) f (subst (λ (j : ℕ). Leaves a bs j) g h)

module _ (rise : SendsRaiseCounts) (loops : Loopbacks) where
  pub commanded : (s : State) (c : Command) (g : Granted) (x : Effects) (new : State) → Alone s → refused s c ≡ None → Does s c g x new → Commanded s x new
  commanded s c g x new k free h =
      let resolves = tellings.commands s c g x new k.stops free h in
      let a = does_whole s c g x new k.whole h in
      let end = a.0 in
      let last : State = end.state in
      let sent = all_sent a.1 in
      let d = acted.acts end (begin s) k.ready a.1 in
      let p = pays.acts end (begin s) k.ready k.covered (λ e. inl (map.get-empty nat_cmp e)) a.1 in
      let z = above.acts end (begin s) a.1 (begins s k.counted) in
      let said : x.sends ≡ messages sent = ap (λ (y : Effects). y.sends) a.3 ∙ d.said in
      let loop = λ (e : ℕ). loops.commands e s c g x new h in
      let moved : Moved s (λ e. count e s) sent last = record {
        useful = d.moves.useful;
        alone = record { ready = d.moves.ready; covered = p.covered; counted = z.counted.state; whole = subst Whole a.4 (named.does s c g x new k.whole h); stops = subst AllStop a.4 resolves.stops };
        asks = d.moves.asks;
        names = λ q. answers.acts q end (begin s) a.1 a.2 k.ready;
        returns = d.moves.returns;
        backs = λ e.
            let y = none_waits e (begin s) refl in
            let w = none_waits e end a.5 in
            from_to (view e (begin s)) (view e end) (count e s) (count e last) (backs_for e sent) (omega (arith, y)) (omega (arith, w))
            (exports.acts e end (begin s) a.1 a.2 k.ready k.covered (λ q. inl (map.get-empty nat_cmp q)) (begins s k.counted));
      } in record {
        sent = sent;
        said = said;
        moved = subst (λ (u : State). Moved s (λ e. count e s) sent u) (sym a.4) moved;
        gives = λ e. rise.commands e s c g x new h ∙ ap (λ (ms : List Message). given_out e s + giving e ms) said;
        begins = λ e. (loop e).0 ∙ ap (λ (ms : List Message). here (map.get s.embargoes e) + out e ms) said;
        turns = λ e. ap (back e) (sym said) ∙ (loop e).1;
        owes = resolvable s s.exports x sent new said resolves;
        turned = subst (OneTurn (IsKnown s)) said (turnings.commands s c g x new h);
        told = subst (KeepTold s) (sym a.4) (hearing.acts end (begin s) a.1);
        led = λ e z i. hearing.keeps end (begin s) a.1 e z (subst (λ (v : State). resolved_of (map.get v.imports e) ≡ Some z) a.4 i);
      }

  pub received : (s : State) (m : PlainMessage) (x : Effects) (new : State) → Alone s → IsUseful m → fault_of s (message.Plain m) ≡ None → Handles s (message.Plain m) x new → Received s m x new
  received s m x new k u free h =
      let a = handles_whole s m x new k.whole k.ready.level free h in
      let resolves = tellings.messages s (message.Plain m) x new k.stops free h in
      let told : Sends s resolves.0 x new = resolves.1 in
      let first = a.0 in
      let r = a.3 in
      let end = r.0 in
      let last : State = end.state in
      let now = sent_at_once (begin s) first m a.1 in
      let rest = all_sent r.1 in
      let sent = now ++ rest in
      let y = heard.consumes m (begin s) first k.ready u a.1 in
      let b = took_one m (begin s) first k.ready k.covered (λ e. map.get-empty nat_cmp e) u a.1 in
      let c = above.consumes (begin s) first m a.1 (begins s k.counted) in
      let d = acted.then (with_state (begin s) y.mid) first end now rest y.did (acted.acts end first y.did.moves.ready r.1) in
      let p = pays.then (with_state (begin s) b.mid) first end now rest b.paid (pays.acts end first y.did.moves.ready b.paid.covered b.paid.apart r.1) in
      let z = above.acts end first r.1 c.counted in
      let said : x.sends ≡ messages sent = ap (λ (e : Effects). e.sends) r.3 ∙ d.said in
      let loop = λ (e : ℕ). loops.messages e s (message.Plain m) x new k.ready.level free h in
      let had : ℕ → ℕ = λ e. count e s + how_many (nat_eq e) (given (descriptors_of_plain m)) in
      let mid : State = y.mid in
      let moved : Moved mid had sent last = record {
        useful = d.moves.useful;
        alone = record { ready = d.moves.ready; covered = p.covered; counted = z.counted.state; whole = subst Whole r.4 (named.handles s (message.Plain m) x new k.whole free h); stops = subst AllStop r.4 told.stops };
        asks = d.moves.asks;
        names = λ q.
            subst (λ (ms : List (Mark Ids Ids)). Marked (asker_of (map.get mid.questions q)) ms (asker_of (map.get last.questions q))) (sym (marks-append q now rest))
            (marked_then (asker_of (map.get mid.questions q)) (asker_of (map.get first.state.questions q)) (asker_of (map.get last.questions q)) (marks q now) (marks q rest)
            (marked q now (asker_of (map.get mid.questions q)) (asker_of (map.get first.state.questions q)) (names_at_once s mid k.ready q first m a.1 a.2 (λ l. y.gets.tells q l)) (y.did.moves.asks q))
            (answers.acts q end first r.1 r.2 y.did.moves.ready));
        returns = d.moves.returns;
        backs = λ e.
            let begun : Progress = with_state (begin s) b.mid in
            let f = b.counts e in
            let j = b.paid.balance e in
            let w = none_waits e begun refl in
            let v = none_waits e end r.5 in
            let start = leaves e now (view e begun) (view e first) (omega (arith, j)) (backs_at_once s k.counted e (view e begun) (omega (arith, f)) first m a.1 a.2) in
            let more = exports.acts e end first r.1 r.2 y.did.moves.ready b.paid.covered b.paid.apart c.counted in
            from_to (view e begun) (view e end) (had e) (count e last) (backs_for e sent) (omega (arith, f, w)) (omega (arith, v))
            (subst (λ (bs : List Back). Leaves (view e begun) bs (view e end)) (sym (backs-append e now rest)) (leaves_then (view e begun) (view e first) (view e end) (backs_for e now) (backs_for e rest) start more));
      } in record {
        sent = sent;
        said = said;
        mid = mid;
        gets = y.gets;
        moved = subst (λ (u : State). Moved mid had sent u) (sym r.4) moved;
        gives = λ e. rise.messages e s m x new (ap (λ (l : Level). is_foreign l m) k.ready.level) free h ∙ ap (λ (ms : List Message). given_out e s + giving e ms) said;
        ends = λ e. (loop e).0;
        begins = λ e. ap (out e) (sym said) ∙ (loop e).1;
        turns = λ e. ap (back e) (sym said) ∙ (loop e).2;
        owes = resolvable s resolves.0 x sent new said told;
        turned = subst NoTurns said (turnings.messages s (message.Plain m) x new free h);
        told = λ q z i. hearing.consumes m (begin s) first k.ready a.1 q z (hearing.acts end first r.1 q z (subst (λ (v : State). told_of (map.get v.questions q) ≡ Some z) r.4 i));
        led = λ e z i. hearing.says e z m (begin s) first k.ready a.1 (hearing.keeps end first r.1 e z (subst (λ (v : State). resolved_of (map.get v.imports e) ≡ Some z) r.4 i));
      }
