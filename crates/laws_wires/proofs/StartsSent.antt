-- What the first acts of commands and of messages send.
use Rattle.std.specs.FinMap as map
use Rattle.std.proofs.Common.{◌≡◌, ◌⊎◌, inl, inr, ℕ, zero, suc, ◌+◌, true, List, [], ◌∷◌, Option, None, Some, refl, sym, subst, ap, ◌∙◌}
use Rattle.std.specs.List.{slice_get}
use Rattle.finite_maps.specs.Tally.{Map}
use Rattle.finite_maps.proofs.Gets.{get-insert_same}
use Rattle.finite_maps.proofs.Tested.{at_put}
use Rattle.rpc_msg.specs.declared.ids.CallId.{CallId}
use Rattle.rpc_msg.specs.declared.ids.RefId.{RefId}
use Rattle.rpc_msg.specs.declared.ids.Vat.{Vat}
use Rattle.rpc_msg.specs.declared.message.Message.{Message}
use Rattle.rpc_msg.specs.declared.message.Message.TheVariants as message
use Rattle.rpc_msg.specs.declared.message.PlainMessage.{PlainMessage}
use Rattle.rpc_journal.specs.History.{refs_at}
use Rattle.rpc_journal.specs.Meaning.{History}
use Rattle.rpc_machine.specs.declared.node.Node.{Node}
use Rattle.rpc_machine.specs.declared.node.Node.TheVariants as node
use Rattle.rpc_machine.specs.declared.node.Reason.TheVariants.{BrokenPromise}
use Rattle.rpc_machine.specs.declared.calls.Caller.TheVariants as caller
use Rattle.rpc_machine.specs.declared.calls.Promise.{Promise}
use Rattle.rpc_machine.specs.declared.calls.Promise.TheVariants as promise
use Rattle.rpc_machine.specs.declared.command.CallCommand.{CallCommand}
use Rattle.rpc_machine.specs.declared.command.Command.{Command}
use Rattle.rpc_machine.specs.declared.command.Command.TheVariants as command
use Rattle.rpc_machine.specs.declared.command.Granted.{Granted}
use Rattle.rpc_machine.specs.declared.entries.Export.{Export}
use Rattle.rpc_machine.specs.declared.entries.Reference.{Reference}
use Rattle.rpc_machine.specs.Commands.{head_of, heads, request}
use Rattle.rpc_machine.specs.Faults.{is_foreign}
use Rattle.rpc_machine.specs.Nodes.{settle}
use Rattle.rpc_machine.specs.Progress.{quiet}
use Rattle.rpc_machine.specs.State.{State}
use Rattle.laws_acts.specs.Moments.{Moment, beginning}
use Rattle.laws_acts.specs.FirstActs.{Starts, asking, waiting_call}
use Rattle.laws_acts.specs.FirstActs as first
use Rattle.laws_acts.specs.MessageActs.{Consumes}
use Rattle.laws_acts.specs.MessageActs as taken
use Rattle.laws_routes.specs.Sayings.{IsSilentPlain}
use Rattle.laws_meanings.specs.CommandMeanings.{OpensNothing, IsWritten, IsWrittenOpen}
use Rattle.laws_meanings.specs.NodeMeanings.{Meant, OfRef, IsRefAt}
use Rattle.laws_meanings.specs.NodeLabels.{Labels, Means, CapsMean, RefMeans, PromiseMeans, OutcomeMeans, MomentMeans}
use Rattle.laws_meanings.proofs.Labelled.{settles}
use Rattle.laws_wires.specs.Wires.{Session}
use Rattle.laws_wires.specs.Sent.{IsKept, CallerSo, SaysSo, SentMean}
use Rattle.laws_wires.specs.FirstSent.{AreThere, PromisesThere, CommandsSaySo, MessagesSaySo}
use Rattle.laws_wires.proofs.SentSo.{AllGone, all_go}
use Rattle.laws_wires.proofs.StillSo.{kept_put}
use Rattle.laws_wires.proofs.ActsSent.{aimed}

-- ---- A call of the application

module _ (h : History) (s : State) (l : Labels) (k : CallCommand) (x : Reference) (there : map.get s.refs k.reference.0 ≡ Some x) (sends : List Message)
    (refs : (j : ℕ) → RefMeans h s.vat l (record quiet { sends = sends }) j (map.get (map.insert s.refs k.reference.0 (record x { made = x.made + 1 })) j)) where
  abbrev own_ref : ℕ → Meant
  own_ref r = OfRef (record { vat = s.vat; number = r })

  abbrev now : Reference
  now = record x { made = x.made + 1 }

  head_now : (r : ℕ) (y : Reference) → map.get (map.insert s.refs k.reference.0 now) r ≡ Some y → Means h s.vat l (own_ref r) y.head
  head_now r y e = by (subst (RefMeans h s.vat l (record quiet { sends = sends }) r) e (refs r))
    where
      by : RefMeans h s.vat l (record quiet { sends = sends }) r (Some y) → Means h s.vat l (own_ref r) y.head
      by (z, inl a, m) = subst (λ (w : Meant). Means h s.vat l w y.head) a m
      by (z, inr (inl a), m) = absurd a
      by (z, inr (inr a), m) = absurd a

  head_so : (r : ℕ) (y : Reference) → map.get s.refs r ≡ Some y → Means h s.vat l (own_ref r) y.head
  head_so r y e =
      let z = at_put (λ (j : ℕ) (o : Option Reference). (b : Reference) → map.get s.refs j ≡ Some b → (c : Reference) × (o ≡ Some c) × (c.head ≡ b.head)) s.refs k.reference.0 now
      (λ b f. (now, refl, (let is : Some x ≡ Some b = sym there ∙ f in let i : x ≡ b = cc in ap (λ (a : Reference). a.head) i))) (λ j n b f. (b, f, refl)) r y e in
      subst (Means h s.vat l (own_ref r)) z.2 (head_now r z.0 z.1)

  head_at : (rs : List RefId) (i : ℕ) (n : Node) → ((j : ℕ) (r : RefId) → slice_get rs j ≡ Some r → (y : Reference) × (map.get s.refs r.0 ≡ Some y)) → slice_get (heads s rs) i ≡ Some n
      → (y : Meant) × IsRefAt h (refs_at s.vat rs) i y × Means h s.vat l y n
  head_at [] i n f e = let bad : ◌≡◌ {A = Option Node} None (Some n) = e in cc
  head_at (r ∷ rs) zero n f e =
      let y = f 0 r refl in
      let g : y.0.head ≡ n = (let a : Some (head_of (map.get s.refs r.0)) ≡ Some n = e in let b : head_of (map.get s.refs r.0) ≡ y.0.head = ap head_of y.1 in cc) in
      (own_ref r.0, (record { vat = s.vat; number = r.0 }, refl, refl), subst (Means h s.vat l (own_ref r.0)) g (head_so r.0 y.0 y.1))
  head_at (r ∷ rs) (suc i) n f e = head_at rs i n (λ j. f (suc j)) e

  pub caps_so : IsWrittenOpen h s.vat s (command.Call k) → CapsMean h s.vat l (request s k x).stamp (heads s k.refs)
  caps_so z i n f =
      let y = head_at k.refs i n z.0 f in
      let a = (z.1 x there).1 in
      (y.0, (a.0, a.1, subst (λ (rs : List RefId). IsRefAt h (refs_at s.vat rs) i y.0) (sym a.2) y.1), y.2)

-- ---- Commands

module _ (h : History) (l : Labels) (said : ℕ → Session) (s : State) (callers : (o : ℕ) → CallerSo h s.vat l said o (map.get s.outcomes o)) where
  abbrev Begins : Moment → Type 0
  Begins d = AreThere s.exports d.state.exports × PromisesThere s.promises d.state.promises × SentMean h s.vat l said d

  all_there : (F : Map Export) → F ≡ s.exports → AreThere s.exports F
  all_there F is = subst (AreThere s.exports) (sym is) (λ e x f. (x, f, refl))

  kept_own : (o : ℕ) (c : CallId) (k : ℕ) → CallerSo h s.vat l said k (map.get (map.insert s.outcomes o (record { caller = caller.Application c; value = None; waiting = [] })) k)
  kept_own o c = at_put (λ k r. CallerSo h s.vat l said k r) s.outcomes o (record { caller = caller.Application c; value = None; waiting = [] }) tt (λ k n. callers k)

  fixed : (d : Moment) (key : ℕ) (to : Node) → map.get d.state.promises key ≡ Some (promise.Fixed to) → MomentMeans h s.vat l d → IsKept d.state.promises (node.Promise key) × ((y : Meant) × (l.promise key ≡ Some y))
  fixed d key to e i =
      let y : PromiseMeans h s.vat l key (Some (promise.Fixed to)) = subst (PromiseMeans h s.vat l key) e (i.0.1 key) in
      ((promise.Fixed to, e), (y.0, y.1))

  written : (c : Command) (k : CallCommand) → c ≡ command.Call k → (OpensNothing c × IsWritten h s.vat s c) ⊎ IsWrittenOpen h s.vat s c → IsWrittenOpen h s.vat s (command.Call k)
  written c k e (inl a) = absurd (subst OpensNothing e a.0)
  written c k e (inr a) = subst (IsWrittenOpen h s.vat s) e a

  started : (c : Command) (g : Granted) (d : Moment) → (OpensNothing c × IsWritten h s.vat s c) ⊎ IsWrittenOpen h s.vat s c → MomentMeans h s.vat l d → Starts (beginning s) c g d → Begins d
  started c g d z i (first.Hosts o e a u) = rw u ((λ e x f. (x, f, refl)), (λ j b f. (b, f)), (tt, tt, tt, callers, tt, tt))
  started c g d z i (first.Clones r x e f a u) = rw u ((λ e x f. (x, f, refl)), (λ j b f. (b, f)), (tt, tt, tt, callers, tt, tt))
  started c g d z i (first.Drops r x e f a u) = rw u ((λ e x f. (x, f, refl)), (λ j b f. (b, f)), (tt, tt, tt, callers, tt, tt))
  started c g d z i (first.AsksRoot q e f a u) = rw u ((λ e x f. (x, f, refl)), (λ j b f. (b, f)), (((tt, tt, tt), tt), tt, tt, callers, tt, tt))
  started c g d z i (first.CallsOut k x q t ds es e f j n o r a u) =
      let w = written c k e z in
      let sends = message.Plain (asking q t (request s k x) ds) ∷ [] in
      let refs : (j : ℕ) → RefMeans h s.vat l (record quiet { sends = sends }) j (map.get (map.insert s.refs k.reference.0 (record x { made = x.made + 1 })) j) = subst (λ (b : Moment). (j : ℕ) → RefMeans h s.vat l b.effects j (map.get b.state.refs j)) u i.0.0 in
      let p : (j : ℕ) → PromiseMeans h s.vat l j (map.get s.promises j) = subst (λ (b : Moment). (j : ℕ) → PromiseMeans h s.vat l j (map.get b.state.promises j)) u i.0.1 in
      let b : (j : ℕ) → OutcomeMeans h s.vat l j (map.get s.outcomes j) = subst (λ (b : Moment). (j : ℕ) → OutcomeMeans h s.vat l j (map.get b.state.outcomes j)) u i.0.3 in
      let out : AllGone h s.vat l s p b s.exports (heads s k.refs) ds es = all_go h s.vat l s p b s.exports (heads s k.refs) ds es r in
      let still = out.grown in
      let head = head_so h s l k x f sends refs k.reference.0 x f in
      let caps = caps_so h s l k x f sends refs w in
      let own = own_ref h s l k x f sends refs k.reference.0 in
      let it : SaysSo h s.vat l es s.promises said (asking q t (request s k x) ds) = (
        (
          aimed h s.vat l said s p b es own (settle s x.head) t n (settles h s.vat l s p b own x.head head),
          λ y c g. (let at = out.each y c g in let by = caps y at.0 at.1 in (by.0, by.1, at.2 by.0 by.2)),
        ),
        out.ours,
        tt,
      ) in
      rw u ((λ e y g. still.still e y g), (λ j b f. (b, f)), ((it, tt), tt, tt, callers, tt, tt))
  started c g d z i (first.CallsHere k x o e f j n r a u) = rw u ((λ e x f. (x, f, refl)), (λ j b f. (b, f)), (tt, tt, tt, kept_own o (record { 0 = s.next_call }), tt, tt))
  started c g d z i (first.CallsLater k x o q b e f j n r a u) = rw u ((λ e x f. (x, f, refl)), (λ j b f. (b, f)), (tt, tt, tt, kept_own o (record { 0 = s.next_call }), tt, tt))
  started c g d z i (first.NamesField k path from e f a u) = rw u ((λ e x f. (x, f, refl)), (λ j b f. (b, f)), (tt, tt, tt, callers, tt, tt))
  started c g d z i (first.Promises p e f a u) = rw u ((λ e x f. (x, f, refl)), kept_put s.promises p (promise.Open []), (tt, tt, tt, callers, tt, tt))
  started c g d z i (first.Fixes p r x key calls e f j n a u) =
      let to = fixed d key x.head (ap (λ (b : Moment). map.get b.state.promises key) u ∙ get-insert_same s.promises key (promise.Fixed x.head)) i in
      let P = ap (λ (b : Moment). b.state.promises) u in
      let at : IsKept (map.insert s.promises key (promise.Fixed x.head)) (node.Promise key) = subst (λ (Q : Map Promise). IsKept Q (node.Promise key)) P to.0 in
      rw u ((λ e x f. (x, f, refl)), kept_put s.promises key (promise.Fixed x.head), (tt, tt, tt, callers, (refl, refl, refl, (at, to.1)), tt))
  started c g d z i (first.Rejects p why key calls e f j a u) =
      let to = fixed d key (node.Broken BrokenPromise) (ap (λ (b : Moment). map.get b.state.promises key) u ∙ get-insert_same s.promises key (promise.Fixed (node.Broken BrokenPromise))) i in
      let P = ap (λ (b : Moment). b.state.promises) u in
      let at : IsKept (map.insert s.promises key (promise.Fixed (node.Broken BrokenPromise))) (node.Promise key) = subst (λ (Q : Map Promise). IsKept Q (node.Promise key)) P to.0 in
      rw u ((λ e x f. (x, f, refl)), kept_put s.promises key (promise.Fixed (node.Broken BrokenPromise)), (tt, tt, tt, callers, (refl, refl, refl, (at, to.1)), tt))
  started c g d z i (first.Answers t payload refs o e f a u) = rw u ((λ e x f. (x, f, refl)), (λ j b f. (b, f)), (tt, tt, tt, callers, tt, tt))
  started c g d z i (first.Fails t why o e f a u) = rw u ((λ e x f. (x, f, refl)), (λ j b f. (b, f)), (tt, tt, tt, callers, tt, tt))
  started c g d z i (first.Finishes k from e f a u) = rw u ((λ e x f. (x, f, refl)), (λ j b f. (b, f)), (tt, tt, tt, callers, tt, tt))
  started c g d z i (first.StaysPut r x e f a u) = rw u ((λ e x f. (x, f, refl)), (λ j b f. (b, f)), (tt, tt, tt, callers, tt, tt))
  started c g d z i (first.Breaks r x reason e f j n a u) = rw u ((λ e x f. (x, f, refl)), (λ j b f. (b, f)), (tt, tt, tt, callers, tt, tt))
  started c g d z i (first.Switches r x by n e f j k b o a u) = rw u ((λ e x f. (x, f, refl)), (λ j b f. (b, f)), (tt, tt, tt, callers, tt, tt))
  started c g d z i (first.Turns r x by n t y e f j k b o p q a u) = rw u ((λ e x f. (x, f, refl)), (λ j b f. (b, f)), (((tt, tt, tt), tt), tt, tt, callers, tt, tt))

pub commands_say_so : CommandsSaySo
commands_say_so h l said s c g new z a i callers = started h l said s callers c g new z i a

-- ---- Messages

module _ (h : History) (v : Vat) (l : Labels) (said : ℕ → Session) (s : State) where
  consumed : (m : Message) (d : Moment) → ((p : PlainMessage) → m ≡ message.Plain p → is_foreign s.level p ≡ true → IsSilentPlain p) → ((o : ℕ) → CallerSo h v l said o (map.get d.state.outcomes o)) → Consumes (beginning s) m d → SentMean h v l said d
  consumed m d f k (taken.OpensRoot q o e a b u) = (rw u tt, rw u tt, rw u tt, k, rw u tt, rw u tt)
  consumed m d f k (taken.OpensCall c o e a b u) = (rw u tt, rw u tt, rw u tt, k, rw u tt, rw u tt)
  consumed m d f k (taken.Loses b x e g a c u) = (rw u tt, rw u tt, rw u tt, k, rw u tt, rw u tt)
  consumed m d f k (taken.ComesToCall b x c e g a r n u) = (rw u tt, rw u tt, rw u (tt, tt), k, rw u tt, rw u tt)
  consumed m d f k (taken.ComesToRelay b x o e g a r n u) = (rw u tt, rw u tt, rw u tt, k, rw u tt, rw u tt)
  consumed m d f k (taken.IsFinished y a e g c u) = (rw u tt, rw u tt, rw u tt, k, rw u tt, rw u tt)
  consumed m d f k (taken.IsResolved r e u) = (rw u tt, rw u tt, rw u tt, k, rw u tt, rw u tt)
  consumed m d f k (taken.IsReleased r e u) = (rw u tt, rw u tt, rw u tt, k, rw u tt, rw u tt)
  consumed m d f k (taken.SendsBack t to x e g u) = (rw u ((tt, tt, tt), tt), rw u tt, rw u tt, k, rw u tt, rw u tt)
  consumed m d f k (taken.Lifts t x b e g u) = (rw u tt, rw u tt, rw u tt, k, rw u tt, rw u tt)
  consumed m d f k (taken.SendsForeign p e g u) = (rw u (f p e g, tt), rw u tt, rw u tt, k, rw u tt, rw u tt)
  consumed m d f k (taken.SendsOther n e u) = (rw u (tt, tt), rw u tt, rw u tt, k, rw u tt, rw u tt)
  consumed m d f k (taken.TakesBack r e u) = (rw u tt, rw u tt, rw u tt, k, rw u tt, rw u tt)
  consumed m d f k (taken.Ignores r e u) = (rw u tt, rw u tt, rw u tt, k, rw u tt, rw u tt)

pub messages_say_so : MessagesSaySo
messages_say_so h v l said s m new a f k = consumed h v l said s m new f k a
