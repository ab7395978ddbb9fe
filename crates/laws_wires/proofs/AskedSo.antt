-- What a step asks is of the call for which it was asked.
use Rattle.std.specs.FinMap as map
use Rattle.std.proofs.Common.{◌≡◌, ◌⊎◌, inl, inr, ℕ, nat_eq, Bool, false, cond, List, [], ◌∷◌, ◌++◌, Option, None, Some, refl, sym, subst, ap, ◌∙◌}
use Rattle.finite_maps.specs.Tally.{Map}
use Rattle.finite_maps.proofs.Tested.{at_cut, at_put, itself, sides}
use Rattle.finite_maps.proofs.Gets.{get-insert_same}
use Rattle.rpc_msg.specs.declared.ids.Vat.{Vat}
use Rattle.rpc_msg.specs.declared.parts.Descriptor.{Descriptor}
use Rattle.rpc_msg.specs.declared.message.PlainMessage.TheVariants as plain
use Rattle.rpc_msg.specs.declared.message.Message.{Message}
use Rattle.rpc_msg.specs.declared.message.Message.TheVariants as message
use Rattle.rpc_journal.specs.Sources.{Asking, OfBootstrap, OfCall, asking}
use Rattle.rpc_journal.specs.Meaning.{History}
use Rattle.rpc_machine.specs.declared.calls.WaitingCall.{WaitingCall}
use Rattle.rpc_machine.specs.declared.command.CallCommand.{CallCommand}
use Rattle.rpc_machine.specs.declared.command.Command.{Command}
use Rattle.rpc_machine.specs.declared.command.Command.TheVariants as command
use Rattle.rpc_machine.specs.declared.command.Granted.{Granted}
use Rattle.rpc_machine.specs.declared.entries.Finishing.{Finishing}
use Rattle.rpc_machine.specs.declared.entries.Finishing.TheVariants as finishing
use Rattle.rpc_machine.specs.declared.entries.Question.{Question}
use Rattle.rpc_machine.specs.declared.entries.Reference.{Reference}
use Rattle.rpc_machine.specs.declared.entries.Returned.{Returned}
use Rattle.rpc_machine.specs.declared.entries.Role.TheVariants as role
use Rattle.rpc_machine.specs.declared.node.Node.{Node}
use Rattle.rpc_machine.specs.Commands.{request}
use Rattle.rpc_machine.specs.State.{State}
use Rattle.rpc_machine.specs.Sweeping.{IsNotSent, closed_map}
use Rattle.laws_acts.specs.FirstActs.{Starts}
use Rattle.laws_acts.specs.FirstActs as first
use Rattle.laws_acts.specs.MessageActs.{Consumes}
use Rattle.laws_acts.specs.MessageActs as taken
use Rattle.laws_acts.specs.Moments.{Moment, beginning}
use Rattle.laws_acts.specs.SmallActs.{Act, Acts, NoMore, Then, release_messages}
use Rattle.laws_acts.specs.SmallActs as act
use Rattle.laws_routes.specs.Premises.{EachOpen}
use Rattle.laws_meanings.specs.CommandMeanings.{OpensNothing, IsWrittenOpen}
use Rattle.laws_meanings.specs.MessageMeanings.{EachActMeans}
use Rattle.laws_meanings.specs.NodeLabels.{Labels, BackMeans, CallAt, MomentMeans, QuestionMeans, RoutedMean}
use Rattle.laws_wires.specs.Wires.{Session, IsSession, past}
use Rattle.laws_wires.specs.SceneOut.{ActsAskSo, AreAskedSo, CommandsAskSo, IsAskedSo, MessagesAskSo}
use Rattle.laws_wires.proofs.Behind.{past_joined, past_off}

-- ---- What is sent behind

pub open-append : (P : ℕ → Type 0) (ms more : List Message) → EachOpen P ms → EachOpen P more → EachOpen P (ms ++ more)
open-append P [] more h k = k
open-append P (m ∷ ms) more h k = (h.0, open-append P ms more h.1 k)

-- Behind what does not ask it the question is of the same.
pub past_behind : (v : Vat) (q : ℕ) (now : ℕ → Session) (ms more : List Message) → EachOpen (λ i. nat_eq i q ≡ false) more → past v now (ms ++ more) q ≡ past v now ms q
past_behind v q now ms more off = ap (λ (f : ℕ → Session). f q) (past_joined v now ms more) ∙ past_off v q (past v now ms) more off

-- Behind what asks it, it is of that.
pub past_call : (v : Vat) (q : ℕ) (now : ℕ → Session) (a : Session) → cond (nat_eq q q) a (now q) ≡ a
past_call v q now a = ap (λ (b : Bool). cond b a (now q)) (itself q)

module _ (v : Vat) (l : Labels) (s : State) where
  behind : (sends more : List Message) (q : ℕ) (o : Option Question) → EachOpen (λ i. nat_eq i q ≡ false) more → IsAskedSo v l s sends q o → IsAskedSo v l s (sends ++ more) q o
  behind sends more q None off i = tt
  behind sends more q (Some x) off (inl a) = inl (open-append (λ i. nat_eq i q ≡ false) sends more a.0 off, a.1)
  behind sends more q (Some x) off (inr f) = inr (λ now. subst (λ (z : Session). IsSession l q z x.role) (sym (past_behind v q now sends more off)) (f now))

  finished : (sends : List Message) (q : ℕ) (x : Question) → IsAskedSo v l s sends q (Some x) → IsAskedSo v l s sends q (Some (record x { finish = finishing.Sent }))
  finished sends q x (inl a) = (let w = a.1 in inl (a.0, (w.0, w.1, w.2, λ n. absurd n)))
  finished sends q x (inr f) = inr f

  closes : (sends : List Message) (m : Map Question) (k : ℕ) (x : Question) (r : Option Returned) → map.get m k ≡ Some x → ((q : ℕ) → IsAskedSo v l s sends q (map.get m q)) → (q : ℕ) → IsAskedSo v l s sends q (map.get (closed_map m k x r) q)
  closes sends m k x None there i =
      at_put (λ q o. IsAskedSo v l s sends q o) m k (record x { finish = finishing.Sent }) (finished sends k x (subst (IsAskedSo v l s sends k) there (i k))) (λ q n. i q)
  closes sends m k x (Some said) there i = at_cut (λ q o. IsAskedSo v l s sends q o) m k tt (λ q n. i q)

  abbrev At : Moment → Type 0
  At d = AreAskedSo v l s d.effects.sends d.state

  same : (d new : Moment) → new.state.questions ≡ d.state.questions → new.effects.sends ≡ d.effects.sends → At d → At new
  same d new e f i q =
      subst (λ (m : Map Question). IsAskedSo v l s new.effects.sends q (map.get m q)) (sym e) (subst (λ (ms : List Message). IsAskedSo v l s ms q (map.get d.state.questions q)) (sym f) (i q))

  -- Messages are sent that ask nothing.
  sends_on : (d new : Moment) (more : List Message) → new.state.questions ≡ d.state.questions → new.effects.sends ≡ d.effects.sends ++ more → ((q : ℕ) → EachOpen (λ i. nat_eq i q ≡ false) more) → At d → At new
  sends_on d new more e f off i q =
      subst (λ (m : Map Question). IsAskedSo v l s new.effects.sends q (map.get m q)) (sym e)
      (subst (λ (ms : List Message). IsAskedSo v l s ms q (map.get d.state.questions q)) (sym f) (behind d.effects.sends more q (map.get d.state.questions q) (off q) (i q)))

  -- A message is sent that asks the question k.
  asks : (sends : List Message) (m : Message) (Q : Map Question) (k : ℕ) (x : Question) → ((q : ℕ) → nat_eq k q ≡ false → EachOpen (λ i. nat_eq i q ≡ false) (m ∷ [])) → ((now : ℕ → Session) → IsSession l k (past v now (m ∷ []) k) x.role)
      → ((q : ℕ) → IsAskedSo v l s sends q (map.get Q q)) → (q : ℕ) → IsAskedSo v l s (sends ++ m ∷ []) q (map.get (map.insert Q k x) q)
  asks sends m Q k x off of i =
      at_put (λ q o. IsAskedSo v l s (sends ++ m ∷ []) q o) Q k x
      (inr (λ now. subst (λ (z : Session). IsSession l k z x.role) (ap (λ (f : ℕ → Session). f k) (sym (past_joined v now sends (m ∷ [])))) (of (past v now sends))))
      (λ q n. behind sends (m ∷ []) q (map.get Q q) (off q (sides k q ∙ n)) (i q))

  none_open : (es : List (ℕ × ℕ)) (q : ℕ) → EachOpen (λ i. nat_eq i q ≡ false) (release_messages es)
  none_open [] q = tt
  none_open (e ∷ es) q = (tt, none_open es q)

  module _ (h : History) where
    relay_of : (c : WaitingCall) (n : Node) (q : ℕ) (now : Session) → CallAt h v l n c → now ≡ Some (v, OfCall c.request.stamp) → IsSession l q now (role.Relay c.outcome)
    relay_of c n q now i e = (let of = i.0 in (c.request.stamp, of.0, v, of.1, e))

    acted : (d new : Moment) → MomentMeans h v l d → At d → Act d new → At new
    acted d new i a (act.Delivers c n rest o e f k) = same d new (ap (λ (b : Moment). b.state.questions) k) (ap (λ (b : Moment). b.effects.sends) k) a
    acted d new i a (act.Waits c n rest p calls e f z k) = same d new (ap (λ (b : Moment). b.state.questions) k) (ap (λ (b : Moment). b.effects.sends) k) a
    acted d new i a (act.Holds c n rest o path x e f z k) = same d new (ap (λ (b : Moment). b.state.questions) k) (ap (λ (b : Moment). b.effects.sends) k) a
    acted d new i a (act.Relays c n rest q t ds es e f z w k) =
        let y : CallAt h v l n c × RoutedMean h v l rest = subst (RoutedMean h v l) e i.1 in
        rw k (asks d.effects.sends (message.Plain (first.asking q t c.request ds)) d.state.questions q (first.asked (role.Relay c.outcome) ds) (λ j off. (off, tt))
        (λ now. relay_of c n q (past v now (message.Plain (first.asking q t c.request ds) ∷ []) q) y.0 (past_call v q now (Some (v, OfCall c.request.stamp)))) a)
    acted d new i a (act.Breaks c n rest reason e f k) = same d new (ap (λ (b : Moment). b.state.questions) k) (ap (λ (b : Moment). b.effects.sends) k) a
    acted d new i a (act.NextArisen o w rest e f k) = same d new (ap (λ (b : Moment). b.state.questions) k) (ap (λ (b : Moment). b.effects.sends) k) a
    acted d new i a (act.Knows o x fit y qs e f z w k) = same d new (ap (λ (b : Moment). b.state.questions) k) (ap (λ (b : Moment). b.effects.sends) k) a
    acted d new i a (act.Reports c w from e f k) = same d new (ap (λ (b : Moment). b.state.questions) k) (ap (λ (b : Moment). b.effects.sends) k) a
    acted d new i a (act.TellsNobody c w e f k) = same d new (ap (λ (b : Moment). b.state.questions) k) (ap (λ (b : Moment). b.effects.sends) k) a
    acted d new i a (act.MakesReturn q w y b ds es e f z says k) = same d new (ap (λ (b : Moment). b.state.questions) k) (ap (λ (b : Moment). b.effects.sends) k) a
    acted d new i a (act.SendsReturn x y e f z k) = sends_on d new _ (ap (λ (b : Moment). b.state.questions) k) (ap (λ (b : Moment). b.effects.sends) k) (λ q. (tt, tt)) a
    acted d new i a (act.Clears x e f k) = same d new (ap (λ (b : Moment). b.state.questions) k) (ap (λ (b : Moment). b.effects.sends) k) a
    acted d new i a (act.Lists x e k) = same d new (ap (λ (b : Moment). b.state.questions) k) (ap (λ (b : Moment). b.effects.sends) k) a
    acted d new i a (act.SendsResolve x rest b es e f w k) = sends_on d new _ (ap (λ (b : Moment). b.state.questions) k) (ap (λ (b : Moment). b.effects.sends) k) (λ q. (tt, tt)) a
    acted d new i a (act.SendsBroken x rest reason e f k) = sends_on d new _ (ap (λ (b : Moment). b.state.questions) k) (ap (λ (b : Moment). b.effects.sends) k) (λ q. (tt, tt)) a
    acted d new i a (act.PromiseGoes p to b e f k) = same d new (ap (λ (b : Moment). b.state.questions) k) (ap (λ (b : Moment). b.effects.sends) k) a
    acted d new i a (act.OutcomeGoes o x w b e f z c n k) = same d new (ap (λ (b : Moment). b.state.questions) k) (ap (λ (b : Moment). b.effects.sends) k) a
    acted d new i a (act.ImportGoes b x w e f k) = same d new (ap (λ (b : Moment). b.state.questions) k) (ap (λ (b : Moment). b.effects.sends) k) a
    acted d new i a (act.Sweeps over e f w k) = same d new (ap (λ (b : Moment). b.state.questions) k) (ap (λ (b : Moment). b.effects.sends) k) a
    acted d new i a (act.SendsFinish q x rest e f z w b k) =
        let more = closes d.effects.sends d.state.questions q x x.returned f a in
        rw k (λ j. behind d.effects.sends _ j (map.get (closed_map d.state.questions q x x.returned) j) (tt, tt) (more j))
    acted d new i a (act.Closes q x rest e f z w b k) = rw k (closes d.effects.sends d.state.questions q x x.returned f a)
    acted d new i a (act.Releases e f z k) = sends_on d new (release_messages (map.entries d.released)) (ap (λ (b : Moment). b.state.questions) k) (ap (λ (b : Moment). b.effects.sends) k) (none_open (map.entries d.released)) a

  -- ---- First acts

  there : (q : ℕ) (o : Option Question) → map.get s.questions q ≡ o → IsAskedSo v l s [] q o
  there q None e = tt
  there q (Some x) e = inl (tt, (x, e, refl, λ n. n))

  all_there : (q : ℕ) → IsAskedSo v l s [] q (map.get s.questions q)
  all_there q = there q (map.get s.questions q) refl

  quiet : (d : Moment) → d.state.questions ≡ s.questions → d.effects.sends ≡ [] → At d
  quiet d e f = same (beginning s) d e f all_there

  says_one : (d : Moment) (m : Message) → d.state.questions ≡ s.questions → d.effects.sends ≡ m ∷ [] → ((q : ℕ) → EachOpen (λ i. nat_eq i q ≡ false) (m ∷ [])) → At d
  says_one d m e f off = sends_on (beginning s) d (m ∷ []) e f off all_there

  -- The question is there with what it said, of the same role.
  returned : (k : ℕ) (x y : Question) → map.get s.questions k ≡ Some x → y.role ≡ x.role → IsNotSent x.finish → (q : ℕ) → IsAskedSo v l s [] q (map.get (map.insert s.questions k y) q)
  returned k x y at r unsent = at_put (λ q o. IsAskedSo v l s [] q o) s.questions k y (inl (tt, (x, at, sym r, λ n. unsent))) (λ q n. all_there q)

unsent : (f : Finishing) → (f ≡ finishing.Owed) ⊎ (f ≡ finishing.Waived) → IsNotSent f
unsent f (inl e) = subst IsNotSent (sym e) tt
unsent f (inr e) = subst IsNotSent (sym e) tt

-- The vat's own question is of what its call asks.
own_asked : (h : History) (v : Vat) (l : Labels) (q c : ℕ) (r : Option Returned) (b : Asking) → asking h.journal v c ≡ Some b → BackMeans h v l q (role.Direct (record { 0 = c })) r → l.question q ≡ Some (v, b)
own_asked h v l q c r b e i =
    let same : i.0 ≡ b = (let f : Some i.0 ≡ Some b = sym i.1 ∙ e in cc) in
    i.2 ∙ ap (λ (a : Asking). Some (v, a)) same

module _ (h : History) (v : Vat) (l : Labels) (s : State) where
  root_opens : (c : Command) → c ≡ command.Bootstrap → OpensNothing c ⊎ IsWrittenOpen h v s c → asking h.journal v s.next_call ≡ Some OfBootstrap
  root_opens c e (inl a) = absurd (subst OpensNothing e a)
  root_opens c e (inr a) = subst (IsWrittenOpen h v s) e a

  call_opens : (c : Command) (k : CallCommand) (x : Reference) → c ≡ command.Call k → map.get s.refs k.reference.0 ≡ Some x → OpensNothing c ⊎ IsWrittenOpen h v s c → asking h.journal v s.next_call ≡ Some (OfCall (request s k x).stamp)
  call_opens c k x e there (inl a) = absurd (subst OpensNothing e a)
  call_opens c k x e there (inr a) = (let w : IsWrittenOpen h v s (command.Call k) = subst (IsWrittenOpen h v s) e a in let of = w.1 x there in of.0)

  -- What is newly asked, by the question's entry.
  newly : (Q : Map Question) (k : ℕ) (ds : List Descriptor) (b : Asking) → asking h.journal v s.next_call ≡ Some b → ((q : ℕ) → QuestionMeans h v l q (map.get (map.insert Q k (first.asked (role.Direct (record { 0 = s.next_call })) ds)) q)) → l.question k ≡ Some (v, b)
  newly Q k ds b e i =
      let x = first.asked (role.Direct (record { 0 = s.next_call })) ds in
      own_asked h v l k s.next_call None b e (subst (QuestionMeans h v l k) (get-insert_same Q k x) (i k))

  started : (c : Command) (g : Granted) (d : Moment) → OpensNothing c ⊎ IsWrittenOpen h v s c → MomentMeans h v l d → Starts (beginning s) c g d → AreAskedSo v l s d.effects.sends d.state
  started c g d z i (first.Hosts o e a u) = quiet v l s d (ap (λ (b : Moment). b.state.questions) u) (ap (λ (b : Moment). b.effects.sends) u)
  started c g d z i (first.Clones r x e f a u) = quiet v l s d (ap (λ (b : Moment). b.state.questions) u) (ap (λ (b : Moment). b.effects.sends) u)
  started c g d z i (first.Drops r x e f a u) = quiet v l s d (ap (λ (b : Moment). b.state.questions) u) (ap (λ (b : Moment). b.effects.sends) u)
  started c g d z i (first.AsksRoot q e f a u) =
      let means : (j : ℕ) → QuestionMeans h v l j (map.get (map.insert s.questions q (first.asked (role.Direct (record { 0 = s.next_call })) [])) j) = subst (λ (b : Moment). (j : ℕ) → QuestionMeans h v l j (map.get b.state.questions j)) u i.0.7 in
      let of = newly s.questions q [] OfBootstrap (root_opens c e z) means in
      rw u (asks v l s [] (message.Plain (plain.Bootstrap (record { 0 = q }))) s.questions q (first.asked (role.Direct (record { 0 = s.next_call })) []) (λ j off. (off, tt)) (λ now. past_call v q now (Some (v, OfBootstrap)) ∙ sym of) (all_there v l s))
  started c g d z i (first.CallsOut k x q t ds es e f j n o r a u) =
      let means : (j : ℕ) → QuestionMeans h v l j (map.get (map.insert s.questions q (first.asked (role.Direct (record { 0 = s.next_call })) ds)) j) = subst (λ (b : Moment). (j : ℕ) → QuestionMeans h v l j (map.get b.state.questions j)) u i.0.7 in
      let of = newly s.questions q ds (OfCall (request s k x).stamp) (call_opens c k x e f z) means in
      rw u (asks v l s [] (message.Plain (first.asking q t (request s k x) ds)) s.questions q (first.asked (role.Direct (record { 0 = s.next_call })) ds) (λ j off. (off, tt)) (λ now. past_call v q now (Some (v, OfCall (request s k x).stamp)) ∙ sym of) (all_there v l s))
  started c g d z i (first.CallsHere k x o e f j n r a u) = quiet v l s d (ap (λ (b : Moment). b.state.questions) u) (ap (λ (b : Moment). b.effects.sends) u)
  started c g d z i (first.CallsLater k x o q b e f j n r a u) = quiet v l s d (ap (λ (b : Moment). b.state.questions) u) (ap (λ (b : Moment). b.effects.sends) u)
  started c g d z i (first.NamesField k path from e f a u) = quiet v l s d (ap (λ (b : Moment). b.state.questions) u) (ap (λ (b : Moment). b.effects.sends) u)
  started c g d z i (first.Promises p e f a u) = quiet v l s d (ap (λ (b : Moment). b.state.questions) u) (ap (λ (b : Moment). b.effects.sends) u)
  started c g d z i (first.Fixes p r x key calls e f j n a u) = quiet v l s d (ap (λ (b : Moment). b.state.questions) u) (ap (λ (b : Moment). b.effects.sends) u)
  started c g d z i (first.Rejects p why key calls e f j a u) = quiet v l s d (ap (λ (b : Moment). b.state.questions) u) (ap (λ (b : Moment). b.effects.sends) u)
  started c g d z i (first.Answers t payload refs o e f a u) = quiet v l s d (ap (λ (b : Moment). b.state.questions) u) (ap (λ (b : Moment). b.effects.sends) u)
  started c g d z i (first.Fails t why o e f a u) = quiet v l s d (ap (λ (b : Moment). b.state.questions) u) (ap (λ (b : Moment). b.effects.sends) u)
  started c g d z i (first.Finishes k from e f a u) = quiet v l s d (ap (λ (b : Moment). b.state.questions) u) (ap (λ (b : Moment). b.effects.sends) u)
  started c g d z i (first.StaysPut r x e f a u) = quiet v l s d (ap (λ (b : Moment). b.state.questions) u) (ap (λ (b : Moment). b.effects.sends) u)
  started c g d z i (first.Breaks r x reason e f j n a u) = quiet v l s d (ap (λ (b : Moment). b.state.questions) u) (ap (λ (b : Moment). b.effects.sends) u)
  started c g d z i (first.Switches r x by n e f j k b o a u) = quiet v l s d (ap (λ (b : Moment). b.state.questions) u) (ap (λ (b : Moment). b.effects.sends) u)
  started c g d z i (first.Turns r x by n t y e f j k b o p q a u) = says_one v l s d _ (ap (λ (b : Moment). b.state.questions) u) (ap (λ (b : Moment). b.effects.sends) u) (λ j. (tt, tt))

pub commands_ask_so : CommandsAskSo
commands_ask_so h v l s c g new z a i = started h v l s c g new z i a

module _ (v : Vat) (l : Labels) (s : State) where
  consumed : (m : Message) (d : Moment) → Consumes (beginning s) m d → AreAskedSo v l s d.effects.sends d.state
  consumed m d (taken.OpensRoot q o e a b u) = quiet v l s d (ap (λ (b : Moment). b.state.questions) u) (ap (λ (b : Moment). b.effects.sends) u)
  consumed m d (taken.OpensCall c o e a b u) = quiet v l s d (ap (λ (b : Moment). b.state.questions) u) (ap (λ (b : Moment). b.effects.sends) u)
  consumed m d (taken.Loses b x e g a c u) = rw u (at_cut (λ q o. IsAskedSo v l s [] q o) s.questions b.question tt (λ q n. all_there v l s q))
  consumed m d (taken.ComesToCall b x c e g a r n u) = rw u (returned v l s b.question x (taken.answered x b.waives b.said) g refl (unsent x.finish r))
  consumed m d (taken.ComesToRelay b x o e g a r n u) = rw u (returned v l s b.question x (taken.answered x b.waives b.said) g refl (unsent x.finish r))
  consumed m d (taken.IsFinished y a e g c u) = quiet v l s d (ap (λ (b : Moment). b.state.questions) u) (ap (λ (b : Moment). b.effects.sends) u)
  consumed m d (taken.IsResolved r e u) = quiet v l s d (ap (λ (b : Moment). b.state.questions) u) (ap (λ (b : Moment). b.effects.sends) u)
  consumed m d (taken.IsReleased r e u) = quiet v l s d (ap (λ (b : Moment). b.state.questions) u) (ap (λ (b : Moment). b.effects.sends) u)
  consumed m d (taken.SendsBack t to x e g u) = says_one v l s d _ (ap (λ (b : Moment). b.state.questions) u) (ap (λ (b : Moment). b.effects.sends) u) (λ j. (tt, tt))
  consumed m d (taken.Lifts t x b e g u) = quiet v l s d (ap (λ (b : Moment). b.state.questions) u) (ap (λ (b : Moment). b.effects.sends) u)
  consumed m d (taken.SendsForeign p e g u) = says_one v l s d _ (ap (λ (b : Moment). b.state.questions) u) (ap (λ (b : Moment). b.effects.sends) u) (λ j. (tt, tt))
  consumed m d (taken.SendsOther n e u) = says_one v l s d _ (ap (λ (b : Moment). b.state.questions) u) (ap (λ (b : Moment). b.effects.sends) u) (λ j. (tt, tt))
  consumed m d (taken.TakesBack r e u) = quiet v l s d (ap (λ (b : Moment). b.state.questions) u) (ap (λ (b : Moment). b.effects.sends) u)
  consumed m d (taken.Ignores r e u) = quiet v l s d (ap (λ (b : Moment). b.state.questions) u) (ap (λ (b : Moment). b.effects.sends) u)

pub messages_ask_so : MessagesAskSo
messages_ask_so v l s m new a = consumed v l s m new a

-- ---- Acts, one after the other

module _ (each : EachActMeans) (h : History) (v : Vat) (s : State) (last : Moment) where
  all_ask : (l : Labels) (d : Moment) → Acts last d → MomentMeans h v l d → AreAskedSo v l s d.effects.sends d.state → AreAskedSo v l s last.effects.sends last.state
  all_ask l d NoMore i a = a
  all_ask l d (Then {mid = mid} one rest) i a =
      let z = each h v l d mid one i in
      all_ask (record l { promise = z.0 }) mid rest z.3 (acted v l s h d mid i a one)

pub acts_ask_so : EachActMeans → ActsAskSo
acts_ask_so each h v l s d last acts i a = all_ask each h v s last l d acts i a
