-- What each act asks: a free id. While a question is there, what was sent asks it no more.
use Rattle.std.specs.FinMap as map
use Rattle.std.proofs.Common.{◌≡◌, ℕ, nat_eq, false, List, [], ◌∷◌, ◌++◌, Option, None, Some, IsSome, refl, sym, subst, ap, ◌∙◌}
use Rattle.finite_maps.specs.Tally.{Map}
use Rattle.finite_maps.proofs.Tested.{at_cut, at_put, sides}
use Rattle.rpc_msg.specs.declared.ids.Vat.{Vat}
use Rattle.rpc_msg.specs.declared.parts.Target.{Target}
use Rattle.rpc_msg.specs.declared.message.Message.{Message}
use Rattle.rpc_journal.specs.Sources.{Asking, OfBootstrap, OfCall}
use Rattle.rpc_machine.specs.declared.calls.Caller.{Caller}
use Rattle.rpc_machine.specs.declared.calls.Caller.TheVariants as caller
use Rattle.rpc_machine.specs.declared.calls.Request.{Request}
use Rattle.rpc_machine.specs.declared.calls.Value.{Value}
use Rattle.rpc_machine.specs.declared.entries.AnswerEntry.{AnswerEntry}
use Rattle.rpc_machine.specs.declared.entries.Finishing.{Finishing}
use Rattle.rpc_machine.specs.declared.entries.Finishing.TheVariants as finishing
use Rattle.rpc_machine.specs.declared.entries.Question.{Question}
use Rattle.rpc_machine.specs.declared.entries.Returned.{Returned}
use Rattle.rpc_machine.specs.declared.entries.Role.{Role}
use Rattle.rpc_machine.specs.State.{State}
use Rattle.rpc_machine.specs.Progress.{Progress, with_state}
use Rattle.rpc_machine.specs.Routing.{Asks}
use Rattle.rpc_machine.specs.Settling.{Tells, TellsPeer, known}
use Rattle.rpc_machine.specs.Sweeping.{IsNotSent, closed_map, finished_by, got_of}
use Rattle.laws_acts.specs.Acts.{Act}
use Rattle.laws_acts.specs.FirstActs.{asked}
use Rattle.laws_acts.specs.Sent.{Noted, asks_sent, end_sent, messages, peer_sent, releases_sent, sent_by, told_sent}
use Rattle.laws_runs.proofs.EachAct.{OfActs, by_act}
use Rattle.laws_runs.proofs.Paid.{release_state}
use Rattle.laws_runs.proofs.Same.{describes_all, fits, gives, goes, resolves}
use Rattle.laws_routes.specs.Premises.{EachOpen}
use Rattle.laws_wires.specs.Wires.{Session, past}
use Rattle.laws_wires.proofs.AskedSo.{past_behind, past_call}
use Rattle.laws_wires.proofs.Behind.{past_joined}
use Rattle.laws_wires.proofs.ReturnsLeft.{tells}

-- ---- One entry

module _ (v : Vat) where
  -- Between two moments: with what was sent up to the one, and up to the other.
  abbrev pub MovedAt : List Message → List Message → ℕ → Option Question → Option Question → Type 0
  MovedAt sends more q None None = Unit {0}
  MovedAt sends more q None (Some y) = (y.returned ≡ None) × ((a : Vat × Asking) × ((now : ℕ → Session) → past v now more q ≡ Some a))
  MovedAt sends more q (Some x) None = IsSome x.returned
  MovedAt sends more q (Some x) (Some y) = (y.role ≡ x.role) × (y.returned ≡ x.returned) × (IsNotSent y.finish → IsNotSent x.finish) × ((now : ℕ → Session) → past v now more q ≡ past v now sends q)

  abbrev pub Moved : Progress → Progress → Type 0
  Moved d new = (q : ℕ) → MovedAt d.effects.sends new.effects.sends q (map.get d.state.questions q) (map.get new.state.questions q)

  kept : (sends more : List Message) (q : ℕ) (o : Option Question) → EachOpen (λ i. nat_eq i q ≡ false) more → MovedAt sends (sends ++ more) q o o
  kept sends more q None off = tt
  kept sends more q (Some x) off = (refl, refl, λ n. n, λ now. past_behind v q now sends more off)

  stays : (d new : Progress) (more : List Message) → new.state.questions ≡ d.state.questions → new.effects.sends ≡ d.effects.sends ++ more → ((q : ℕ) → EachOpen (λ i. nat_eq i q ≡ false) more) → Moved d new
  stays d new more e f off q =
      subst (λ (ms : List Message). MovedAt d.effects.sends ms q (map.get d.state.questions q) (map.get new.state.questions q)) (sym f)
      (subst (λ (m : Map Question). MovedAt d.effects.sends (d.effects.sends ++ more) q (map.get d.state.questions q) (map.get m q)) (sym e) (kept d.effects.sends more q (map.get d.state.questions q) (off q)))

  opens : (d new : Progress) (m : Message) (k : ℕ) (x : Question) (a : Vat × Asking) → map.get d.state.questions k ≡ None → x.returned ≡ None → new.state.questions ≡ map.insert d.state.questions k x → new.effects.sends ≡ d.effects.sends ++ m ∷ []
      → ((q : ℕ) → nat_eq k q ≡ false → EachOpen (λ i. nat_eq i q ≡ false) (m ∷ [])) → ((now : ℕ → Session) → past v now (m ∷ []) k ≡ Some a) → Moved d new
  opens d new m k x a free unsaid e f off of q =
      let Q = d.state.questions in
      let sends = d.effects.sends in
      subst (λ (ms : List Message). MovedAt sends ms q (map.get Q q) (map.get new.state.questions q)) (sym f)
      (subst (λ (w : Map Question). MovedAt sends (sends ++ m ∷ []) q (map.get Q q) (map.get w q)) (sym e)
      (at_put (λ j o. MovedAt sends (sends ++ m ∷ []) j (map.get Q j) o) Q k x
      (subst (λ (o : Option Question). MovedAt sends (sends ++ m ∷ []) k o (Some x)) (sym free) (unsaid, (a, λ now. ap (λ (g : ℕ → Session). g k) (past_joined v now sends (m ∷ [])) ∙ of (past v now sends))))
      (λ j n. kept sends (m ∷ []) j (map.get Q j) (off j (sides k j ∙ n))) q))

  closes : (sends more : List Message) (Q : Map Question) (k : ℕ) (x : Question) (r : Option Returned) → x.returned ≡ r → map.get Q k ≡ Some x → ((q : ℕ) → EachOpen (λ i. nat_eq i q ≡ false) more) → (q : ℕ) → MovedAt sends (sends ++ more) q (map.get Q q) (map.get (closed_map Q k x r) q)
  closes sends more Q k x None e there off =
      at_put (λ j o. MovedAt sends (sends ++ more) j (map.get Q j) o) Q k (record x { finish = finishing.Sent })
      (subst (λ (o : Option Question). MovedAt sends (sends ++ more) k o (Some (record x { finish = finishing.Sent }))) (sym there) (refl, refl, λ n. absurd n, λ now. past_behind v k now sends more (off k)))
      (λ j n. kept sends more j (map.get Q j) (off j))
  closes sends more Q k x (Some said) e there off =
      at_cut (λ j o. MovedAt sends (sends ++ more) j (map.get Q j) o) Q k
      (subst (λ (o : Option Question). MovedAt sends (sends ++ more) k o None) (sym there) (subst (λ (r : Option Returned). IsSome r) (sym e) refl))
      (λ j n. kept sends more j (map.get Q j) (off j))

  -- ---- Acts

  abbrev Sends : Progress → Progress → List Noted → Type 0
  Sends d new sent = new.effects.sends ≡ d.effects.sends ++ messages sent

  none_in_told : (d new : Progress) (who : Caller) (w : Value) (h : Tells d who w new) (q : ℕ) → EachOpen (λ i. nat_eq i q ≡ false) (messages (told_sent d new who w h))
  none_in_told d new (caller.Application c) w h q = tt
  none_in_told d new (caller.Peer k) w h q = by (map.get d.state.answers k.0) h
    where
      by : (o : Option AnswerEntry) (g : TellsPeer d k w o new) → EachOpen (λ i. nat_eq i q ≡ false) (messages (peer_sent d new k w o g))
      by None g = tt
      by (Some a) g = (tt, tt)

  none_in_releases : (es : List (ℕ × ℕ)) (q : ℕ) → EachOpen (λ i. nat_eq i q ≡ false) (messages (releases_sent es))
  none_in_releases [] q = tt
  none_in_releases (e ∷ es) q = (tt, none_in_releases es q)

  asks : (d from new : Progress) (k : ℕ) (r : Role) (t : Target) (req : Request) → from.state.questions ≡ d.state.questions → (a : Asks from k r t req new) → Sends d new (asks_sent from new k r t req a) → Moved d new
  asks d from new k r t req e h f =
      let g = h.1 in
      let ids = describes_all from.state req.caps g.0 g.1 g.2 in
      let is : new.state.questions ≡ map.insert d.state.questions k (asked r g.0) = ap (λ (p : Progress). p.state.questions) g.3 ∙ ap (λ (m : Map Question). map.insert m k (asked r g.0)) (ids.tables.questions ∙ e) in
      opens d new _ k (asked r g.0) (v, OfCall req.stamp) (ap (λ (m : Map Question). map.get m k) (sym e) ∙ h.0) refl is f (λ q off. (off, tt)) (λ now. past_call v k now (Some (v, OfCall req.stamp)))

  ends : (d new : Progress) (k : ℕ) (x : Question) (f : Finishing) → map.get d.state.questions k ≡ Some x → IsNotSent f → new ≡ finished_by d k x f → Sends d new (end_sent d k x f) → Moved d new
  ends d new k x finishing.Owed there due h e q =
      let sends = d.effects.sends in
      let back = gives d.state (got_of x.returned) in
      let is : new.state.questions ≡ closed_map d.state.questions k x x.returned = ap (λ (p : Progress). p.state.questions) h ∙ ap (λ (m : Map Question). closed_map m k x x.returned) back.questions in
      subst (λ (ms : List Message). MovedAt sends ms q (map.get d.state.questions q) (map.get new.state.questions q)) (sym e)
      (subst (λ (m : Map Question). MovedAt sends (sends ++ messages (end_sent d k x finishing.Owed)) q (map.get d.state.questions q) (map.get m q)) (sym is) (closes sends (messages (end_sent d k x finishing.Owed)) d.state.questions k x x.returned refl there (λ j. (tt, tt)) q))
  ends d new k x finishing.Sent there due h e q = absurd due
  ends d new k x finishing.Waived there due h e q =
      let sends = d.effects.sends in
      let is : new.state.questions ≡ closed_map d.state.questions k x x.returned = ap (λ (p : Progress). p.state.questions) h in
      subst (λ (ms : List Message). MovedAt sends ms q (map.get d.state.questions q) (map.get new.state.questions q)) (sym e)
      (subst (λ (m : Map Question). MovedAt sends (sends ++ []) q (map.get d.state.questions q) (map.get m q)) (sym is) (closes sends [] d.state.questions k x x.returned refl there (λ j. tt) q))

  law : OfActs (λ d new sent. Sends d new sent → Moved d new)
  law = record {
    quiet = λ d new h r s e. stays d new [] h.ids.tables.questions e (λ q. tt);
    asks = λ d from new k r t req h f s a e. asks d from new k r t req h.ids.tables.questions a e;
    asks_root = λ d new g h e. opens d new _ h.0 _ (v, OfBootstrap) h.1 refl (ap (λ (p : Progress). p.state.questions) h.3) e (λ q off. (off, tt)) (λ now. past_call v h.0 now (Some (v, OfBootstrap)));
    turns = λ d new x h r s e. stays d new _ h.ids.tables.questions e (λ q. (tt, tt));
    settles = λ d new told o x w fit mid there unknown f t h e. (
        let alike = fits d.state o x.caller x.waiting w fit mid f in
        stays d new _ (ap (λ (p : Progress). p.state.questions) h ∙ (tells (with_state d (known mid o x.caller x.waiting fit)) told x.caller fit t ∙ alike.ids.tables.questions)) e
        (none_in_told (with_state d (known mid o x.caller x.waiting fit)) told x.caller fit t));
    resolves = λ d new i x n h e. (let k = resolves d i x n new h in stays d new _ k.tables.questions e (λ q. (tt, tt)));
    goes = λ d new h e. (let k = goes d new h in stays d new [] k.questions e (λ q. tt));
    ends = λ d new q x there due h e. ends d new q x x.finish there due h e;
    releases = λ d new h e. stays d new _ (ap (λ (p : Progress). p.state.questions) h ∙ ap (λ (s : State). s.questions) (release_state d (map.entries d.released))) e (none_in_releases (map.entries d.released));
  }

  pub moved : (d new : Progress) (a : Act d new) → new.effects.sends ≡ d.effects.sends ++ messages (sent_by a) → Moved d new
  moved d new a e = by_act law d new a e
