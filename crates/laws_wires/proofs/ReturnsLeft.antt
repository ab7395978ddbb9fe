-- Questions whose Returns are on their way are as they were, behind a step.
use Rattle.std.specs.FinMap as map
use Rattle.std.proofs.Common.{◌≡◌, ℕ, Bool, true, false, nat_eq, List, [], ◌∷◌, Option, None, Some, IsSome, refl, sym, subst, ap, ◌∙◌}
use Rattle.finite_maps.specs.Tally.{Map}
use Rattle.finite_maps.proofs.Tested.{at_cut, at_put, equal, get_left, get_other, itself, sides}
use Rattle.rpc_msg.specs.declared.message.DisembargoContext.{DisembargoContext}
use Rattle.rpc_msg.specs.declared.message.DisembargoContext.TheVariants.{SenderLoopback, ReceiverLoopback}
use Rattle.rpc_msg.specs.declared.message.Message.{Message}
use Rattle.rpc_msg.specs.declared.message.Message.TheVariants as message
use Rattle.rpc_msg.specs.declared.message.PlainMessage.{PlainMessage}
use Rattle.rpc_msg.specs.declared.message.PlainMessage.TheVariants as plain
use Rattle.rpc_msg.specs.declared.message.Return.{Return}
use Rattle.rpc_msg.specs.declared.ids.QuestionId.{QuestionId}
use Rattle.rpc_msg.specs.Messages.{descriptors_of_body}
use Rattle.rpc_machine.specs.declared.calls.Caller.{Caller}
use Rattle.rpc_machine.specs.declared.calls.Caller.TheVariants as caller
use Rattle.rpc_machine.specs.declared.calls.Request.{Request}
use Rattle.rpc_machine.specs.declared.calls.Value.{Value}
use Rattle.rpc_msg.specs.declared.parts.Target.{Target}
use Rattle.rpc_machine.specs.declared.entries.AnswerEntry.{AnswerEntry}
use Rattle.rpc_machine.specs.declared.entries.Finishing.{Finishing}
use Rattle.rpc_machine.specs.declared.entries.Finishing.TheVariants as finishing
use Rattle.rpc_machine.specs.declared.entries.Question.{Question}
use Rattle.rpc_machine.specs.declared.entries.Returned.{Returned}
use Rattle.rpc_machine.specs.declared.entries.Role.{Role}
use Rattle.rpc_machine.specs.State.{State}
use Rattle.rpc_machine.specs.Faults.{gave}
use Rattle.rpc_machine.specs.Progress.{Progress, begin, numbers, with_state}
use Rattle.rpc_machine.specs.Routing.{Asks}
use Rattle.rpc_machine.specs.Settling.{Tells, TellsPeer, known}
use Rattle.rpc_machine.specs.Sweeping.{IsNotSent, closed_map, finished_by, got_of}
use Rattle.laws_acts.specs.Acts.{Acts, ComesTo, Consumes, NoMore, StepsAreActs, Then, TurnsBy, came}
use Rattle.laws_acts.specs.FirstActs.{asked}
use Rattle.laws_runs.proofs.EachAct.{OfActs, by_act}
use Rattle.laws_runs.proofs.Paid.{release_state}
use Rattle.laws_runs.proofs.Same.{collects, describes_all, fits, gives, goes, obeys, resolves, says, takes, takes_resolve, tells_call}
use Rattle.laws_messages.specs.Imports.{KeepsImport}
use Rattle.laws_messages.proofs.Keeping as keeping
use Rattle.laws_routes.specs.Named.{EachReturn, ReturnOf}
use Rattle.laws_routes.specs.Received.{IfQuestion, IsMet}
use Rattle.laws_wires.specs.SceneWires.{CommandsBringNone, CommandsLeaveReturns, IsLeft, MessagesLeaveReturns}
use Rattle.laws_wires.proofs.ImportsBrought.{kept_there}

-- ---- One entry

-- A question whose Return did not come stays, until that comes.
abbrev Still : Option Question → Option Question → Type 0
Still None y = Unit {0}
Still (Some x) y = x.returned ≡ None → (z : Question) × (y ≡ Some z) × (z.returned ≡ None) × (z.role ≡ x.role) × (IsNotSent z.finish → IsNotSent x.finish)

still_same : (o : Option Question) → Still o o
still_same None = tt
still_same (Some x) = λ r. (x, refl, r, refl, λ i. i)

still_then : (x y z : Option Question) → Still x y → Still y z → Still x z
still_then None y z h k = tt
still_then (Some x) y z h k = λ r. (
    let a = h r in
    let b = subst (λ (o : Option Question). Still o z) a.1 k a.2 in
    (b.0, b.1, b.2, b.3 ∙ a.3, λ i. a.4 (b.4 i)))

abbrev AllStill : Map Question → Map Question → Type 0
AllStill m n = (q : ℕ) → Still (map.get m q) (map.get n q)

all_same : (m n : Map Question) → n ≡ m → AllStill m n
all_same m n e q = subst (λ (k : Map Question). Still (map.get m q) (map.get k q)) (sym e) (still_same (map.get m q))

put_free : (m : Map Question) (k : ℕ) (y : Question) → map.get m k ≡ None → AllStill m (map.insert m k y)
put_free m k y free = at_put (λ j o. Still (map.get m j) o) m k y (subst (λ (o : Option Question). Still o (Some y)) (sym free) tt) (λ j n. still_same (map.get m j))

close_still : (m : Map Question) (k : ℕ) (x : Question) → map.get m k ≡ Some x → AllStill m (closed_map m k x x.returned)
close_still m k x there = by x.returned refl
  where
    by : (o : Option Returned) → x.returned ≡ o → AllStill m (closed_map m k x o)
    by None e = at_put (λ j o. Still (map.get m j) o) m k (record x { finish = finishing.Sent })
        (subst (λ (o : Option Question). Still o (Some (record x { finish = finishing.Sent }))) (sym there) (λ r. (record x { finish = finishing.Sent }, refl, r, refl, λ i. absurd i))) (λ j n. still_same (map.get m j))
    by (Some said) e = at_cut (λ j o. Still (map.get m j) o) m k
        (subst (λ (o : Option Question). Still o None) (sym there) (λ r. absurd (let bad : Some said ≡ None = sym e ∙ r in cc))) (λ j n. still_same (map.get m j))

-- ---- Acts

abbrev StillAt : Progress → Progress → Type 0
StillAt d new = AllStill d.state.questions new.state.questions

same : (d new : Progress) → new.state.questions ≡ d.state.questions → StillAt d new
same d new e = all_same d.state.questions new.state.questions e

tells_peer : (d new : Progress) (q : QuestionId) (v : Value) (o : Option AnswerEntry) → TellsPeer d q v o new → new.state.questions ≡ d.state.questions
tells_peer d new q v None h = absurd h
tells_peer d new q v (Some a) h =
    let g = h.4 in
    let said = says d.state a.finished v h.0 h.1 h.2 h.3 in
    let left = collects g.0 (with_state d h.2) g.1 in
    let back = gives g.0.state (numbers a.taken) in
    ap (λ (p : Progress). p.state.questions) g.2 ∙ (back.questions ∙ (left.questions ∙ said.tables.questions))

pub tells : (d new : Progress) (who : Caller) (v : Value) → Tells d who v new → new.state.questions ≡ d.state.questions
tells d new (caller.Application c) v h = let k = tells_call d c.0 v (map.get d.state.calls c.0) new h in k.0.ids.tables.questions
tells d new (caller.Peer q) v h = tells_peer d new q v (map.get d.state.answers q.0) h

asks : (d from new : Progress) (k : ℕ) (role : Role) (t : Target) (r : Request) → from.state.questions ≡ d.state.questions → Asks from k role t r new → StillAt d new
asks d from new k role t r e h =
    let g = h.1 in
    let mid : State = g.1 in
    let alike = describes_all from.state r.caps g.0 mid g.2 in
    let is : mid.questions ≡ d.state.questions = alike.tables.questions ∙ e in
    subst (λ (p : Progress). StillAt d p) (sym g.3)
    (subst (λ (m : Map Question). AllStill d.state.questions (map.insert m k (asked role g.0))) (sym is) (put_free d.state.questions k (asked role g.0) (ap (λ (m : Map Question). map.get m k) (sym e) ∙ h.0)))

ends : (d : Progress) (k : ℕ) (x : Question) (f : Finishing) → map.get d.state.questions k ≡ Some x → StillAt d (finished_by d k x f)
ends d k x finishing.Owed there =
    let back = gives d.state (got_of x.returned) in
    subst (λ (m : Map Question). AllStill d.state.questions (closed_map m k x x.returned)) (sym back.questions) (close_still d.state.questions k x there)
ends d k x finishing.Sent there = same d d refl
ends d k x finishing.Waived there = close_still d.state.questions k x there

law : OfActs (λ d new sent. StillAt d new)
law = record {
  quiet = λ d new h r s. same d new h.ids.tables.questions;
  asks = λ d from new k role t r h f s a. asks d from new k role t r h.ids.tables.questions a;
  asks_root = λ d new g h. subst (λ (p : Progress). StillAt d p) (sym h.3) (put_free d.state.questions h.0 _ h.1);
  turns = λ d new x h r s. same d new h.ids.tables.questions;
  settles = λ d new told o x v fit mid there unknown f t h. (
      let alike = fits d.state o x.caller x.waiting v fit mid f in
      same d new (ap (λ (p : Progress). p.state.questions) h ∙ (tells (with_state d (known mid o x.caller x.waiting fit)) told x.caller fit t ∙ alike.ids.tables.questions)));
  resolves = λ d new i x n h. (let k = resolves d i x n new h in same d new k.tables.questions);
  goes = λ d new h. (let k = goes d new h in same d new k.questions);
  ends = λ d new q x there due h. subst (λ (p : Progress). StillAt d p) (sym h) (ends d q x x.finish there);
  releases = λ d new h. same d new (ap (λ (p : Progress). p.state.questions) h ∙ ap (λ (s : State). s.questions) (release_state d (map.entries d.released)));
}

acts_still : (last d : Progress) → Acts last d → StillAt d last
acts_still last d NoMore = same d d refl
acts_still last d (Then {mid = mid} one rest) = λ q. still_then (map.get d.state.questions q) (map.get mid.state.questions q) (map.get last.state.questions q) (by_act law d mid one q) (acts_still last mid rest q)

-- ---- The first act of a message

-- Behind it each question is as it was, but for that of a Return.
abbrev EachOther : Map Question → Map Question → ℕ → Type 0
EachOther m n k = (q : ℕ) → nat_eq q k ≡ false → map.get n q ≡ map.get m q

came_other : (s : State) (r : Return) (x : Question) (f : Finishing) (first : Progress) → ComesTo (begin s) r x f first → EachOther s.questions first.state.questions r.answer.0
came_other s r x f first h q n = by f h
  where
    taken : (came s r x).questions ≡ s.questions
    taken = (let a = takes s (descriptors_of_body r.body) in let b = obeys _ r.release_param_caps (numbers x.given) in b.tables.questions ∙ a.questions)

    at : map.get (came s r x).questions q ≡ map.get s.questions q
    at = ap (λ (m : Map Question). map.get m q) taken

    by : (f : Finishing) → ComesTo (begin s) r x f first → map.get first.state.questions q ≡ map.get s.questions q
    by finishing.Sent h = ap (λ (p : Progress). map.get p.state.questions q) h ∙ get_left s.questions r.answer.0 q n
    by finishing.Owed h = ap (λ (p : Progress). map.get p.state.questions q) h ∙ (get_other (came s r x).questions r.answer.0 _ q n ∙ at)
    by finishing.Waived h = ap (λ (p : Progress). map.get p.state.questions q) h ∙ (get_other (came s r x).questions r.answer.0 _ q n ∙ at)

turned : (s : State) (c : DisembargoContext) (first : Progress) → TurnsBy (begin s) c first → first.state.questions ≡ s.questions
turned s (SenderLoopback y) first h = rw h.1 refl
turned s (ReceiverLoopback y) first h = rw h.2 refl

-- ---- Of each Return

one_in : (P Q : ℕ → Type 0) (m : PlainMessage) → ((q : ℕ) → (ReturnOf (λ k. nat_eq k q ≡ false) m → ⊥) → P q → Q q) → ReturnOf P m → ReturnOf Q m
one_in P Q (plain.Abort exception) f h = tt
one_in P Q (plain.Bootstrap q) f h = tt
one_in P Q (plain.Call c) f h = tt
one_in P Q (plain.Return r) f h = f r.answer.0 (λ e. (let a = itself r.answer.0 in cc)) h
one_in P Q (plain.Finish x) f h = tt
one_in P Q (plain.Resolve r) f h = tt
one_in P Q (plain.Release r) f h = tt
one_in P Q (plain.Disembargo x) f h = tt
one_in P Q (plain.Other n) f h = tt

each_in : (P Q : ℕ → Type 0) (ms : List Message) → ((q : ℕ) → (EachReturn (λ k. nat_eq k q ≡ false) ms → ⊥) → P q → Q q) → EachReturn P ms → EachReturn Q ms
each_in P Q [] f h = tt
each_in P Q (message.Plain m ∷ ms) f h = (one_in P Q m (λ q among. f q (λ e. among e.0)) h.0, each_in P Q ms (λ q among. f q (λ e. among e.1)) h.1)
each_in P Q (message.Unimplemented m ∷ ms) f h = each_in P Q ms f h

not_returned : (q : ℕ) (x : Question) → (IsSome x.returned → ⊥) → x.returned ≡ None
not_returned q x f = by x.returned refl
  where
    by : (o : Option Returned) → x.returned ≡ o → x.returned ≡ None
    by None e = e
    by (Some said) e = absurd (f (subst (λ (o : Option Returned). IsSome o) (sym e) refl))

-- Of a question that is there in s, whose Return did not come; in mid it is as in s.
left_from : (s mid t : State) (q : ℕ) → IsSome (map.get s.questions q) → ((x : Question) → map.get s.questions q ≡ Some x → x.returned ≡ None) → map.get mid.questions q ≡ map.get s.questions q → Still (map.get mid.questions q) (map.get t.questions q) → IsLeft s t q
left_from s mid t q there unsaid alike still = by (map.get s.questions q) refl there
  where
    by : (o : Option Question) → map.get s.questions q ≡ o → IsSome o → IsLeft s t q
    by None e i = cc
    by (Some x) e i =
        let a = subst (λ (o : Option Question). Still o (map.get t.questions q)) (alike ∙ e) still (unsaid x e) in
        (x, a.0, e, a.1, a.3, a.4)

pub commands_leave_returns : StepsAreActs → CommandsLeaveReturns
commands_leave_returns law s other t out back c g effects mid does =
    let a = law.commands s c g effects t does in
    let still : AllStill s.questions t.questions = subst (λ (z : State). AllStill s.questions z.questions) (sym a.3) (acts_still a.0 (begin s) a.1) in
    each_in (λ q. IsSome (map.get s.questions q)) (IsLeft s t) back
    (λ q among there. left_from s s t q there (λ x e. not_returned q x (λ i. (let b = mid.answered q x e i in among b.1))) refl (still q)) mid.returns

pub commands_bring_none : StepsAreActs → CommandsBringNone
commands_bring_none law s t c g effects does e i =
    let a = law.commands s c g effects t does in
    kept_there (map.get s.imports e) (map.get t.imports e) (subst (λ (z : State). KeepsImport (map.get s.imports e) (map.get z.imports e)) (sym a.3) (keeping.acts a.0 (begin s) a.1 e)) i

-- ---- Behind a message

seen_other : (s other : State) (out rest : List Message) (x : PlainMessage) (first : Progress) → IsMet s other out rest x → Consumes x (begin s) first → (q : ℕ) → (EachReturn (λ k. nat_eq k q ≡ false) rest → ⊥) → map.get first.state.questions q ≡ map.get s.questions q
seen_other s other out rest (plain.Abort exception) first met h q among = absurd h
seen_other s other out rest (plain.Bootstrap k) first met h q among = ap (λ (p : Progress). map.get p.state.questions q) h.3
seen_other s other out rest (plain.Call c) first met h q among = (let a = takes s c.descriptors in ap (λ (p : Progress). map.get p.state.questions q) h.3 ∙ ap (λ (m : Map Question). map.get m q) a.questions)
seen_other s other out rest (plain.Return r) first met h q among = by (nat_eq r.answer.0 q) refl
  where
    y : Question
    y = h.0

    once : EachReturn (λ k. nat_eq k r.answer.0 ≡ false) rest
    once = (let at = subst (IfQuestion s other out rest r) h.1 met in at.once)

    by : (b : Bool) → nat_eq r.answer.0 q ≡ b → map.get first.state.questions q ≡ map.get s.questions q
    by true e = absurd (among (subst (λ (j : ℕ). EachReturn (λ k. nat_eq k j ≡ false) rest) (equal r.answer.0 q e) once))
    by false e = came_other s r y y.finish first h.3 q (sides q r.answer.0 ∙ e)
seen_other s other out rest (plain.Finish f) first met h q among =
    (let y : AnswerEntry = h.0 in let b = obeys s f.release_result_caps (gave y.returned) in ap (λ (p : Progress). map.get p.state.questions q) h.3 ∙ ap (λ (m : Map Question). map.get m q) b.tables.questions)
seen_other s other out rest (plain.Resolve r) first met h q among = (let a = takes_resolve s r.promise.0 r.to in ap (λ (p : Progress). map.get p.state.questions q) h ∙ ap (λ (m : Map Question). map.get m q) a.questions)
seen_other s other out rest (plain.Release r) first met h q among = ap (λ (p : Progress). map.get p.state.questions q) h
seen_other s other out rest (plain.Disembargo d) first met h q among = ap (λ (m : Map Question). map.get m q) (turned s d.context first h)
seen_other s other out rest (plain.Other n) first met h q among = ap (λ (p : Progress). map.get p.state.questions q) h

pub messages_leave_returns : StepsAreActs → MessagesLeaveReturns
messages_leave_returns law s other t out rest x effects mid level met fault handles =
    let a = law.messages s x effects t level fault handles in
    let first : Progress = a.0 in
    let more = a.2 in
    let still : AllStill first.state.questions t.questions = subst (λ (z : State). AllStill first.state.questions z.questions) (sym more.3) (acts_still more.0 first more.1) in
    let returns = mid.returns in
    each_in (λ q. IsSome (map.get s.questions q)) (IsLeft s t) rest
    (λ q among there. left_from s first.state t q there (λ y e. not_returned q y (λ i. (let b = mid.answered q y e i in let c = b.1 in among c.1))) (seen_other s other out rest x first met a.1 q among) (still q)) returns.1
