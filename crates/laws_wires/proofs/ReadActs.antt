-- What a step sends is read as it should, act by act.
use Rattle.std.specs.FinMap as map
use Rattle.std.proofs.Common.{◌≡◌, inl, inr, ℕ, true, false, List, Option, None, Some, IsSome, refl, sym, subst, ◌∙◌}
use Rattle.rpc_msg.specs.declared.ids.Vat.{Vat}
use Rattle.rpc_msg.specs.declared.message.Message.{Message}
use Rattle.rpc_journal.specs.Sources.{Asking}
use Rattle.rpc_machine.specs.declared.entries.Question.{Question}
use Rattle.rpc_machine.specs.declared.entries.Returned.{Returned}
use Rattle.rpc_machine.specs.declared.entries.Role.{Role}
use Rattle.rpc_machine.specs.declared.entries.Role.TheVariants as role
use Rattle.rpc_machine.specs.State.{State}
use Rattle.rpc_machine.specs.Progress.{Progress}
use Rattle.laws_acts.specs.Acts.{Act, Acts, NoMore, Then}
use Rattle.laws_acts.specs.Sent.{messages, sent_by}
use Rattle.laws_runs.specs.Views.{IsReady, answerer_of, rets}
use Rattle.laws_runs.proofs.Acted.{act as kept_ready}
use Rattle.laws_messages.specs.Mentions.{AllName, Names}
use Rattle.laws_messages.proofs.Keeping as keeping
use Rattle.laws_routes.specs.Sayings.{Has}
use Rattle.laws_meanings.specs.NodeLabels.{Labels}
use Rattle.laws_wires.specs.Wires.{Session, Reader, IsSession, has_past, past}
use Rattle.laws_wires.specs.SentWires.{AreOfOne}
use Rattle.laws_wires.specs.SentLinks.{AllRead}
use Rattle.laws_wires.specs.SceneOut.{AreAskedSo, IsAskedSo}
use Rattle.laws_wires.proofs.AskedOnce.{MovedAt, moved}
use Rattle.laws_wires.proofs.Behind.{past_off}
use Rattle.laws_wires.proofs.ImportsBrought.{kept_there}
use Rattle.laws_wires.proofs.ReadSo.{Agrees, IfDirect, IsOwing, Reads, all_join, all_sent_read, first_in, first_owed, owing_before}
use Rattle.laws_routes.proofs.ReturnSent.{past_questions}

-- ---- What is newly asked

module _ (v : Vat) where
  -- A question that waits for its Return does so to the end of the acts, and nothing more that is sent asks it.
  abbrev Waits : Progress → Progress → ℕ → Question → Type 0
  Waits d last q y = (z : Question) × (map.get last.state.questions q ≡ Some z) × (z.role ≡ y.role) × ((now : ℕ → Session) → past v now last.effects.sends q ≡ past v now d.effects.sends q)

  behind_one : (d mid last : Progress) (q : ℕ) (y : Question) (o : Option Question) → y.returned ≡ None → map.get mid.state.questions q ≡ o → MovedAt v d.effects.sends mid.effects.sends q (Some y) o
      → ((w : Question) → map.get mid.state.questions q ≡ Some w → w.returned ≡ None → Waits mid last q w) → Waits d last q y
  behind_one d mid last q y None unsaid e k f = absurd (let bad : false ≡ true = subst (λ (w : Option Returned). IsSome w) unsaid k in cc)
  behind_one d mid last q y (Some w) unsaid e k f =
      let g = f w e (k.1 ∙ unsaid) in
      (g.0, g.1, g.2 ∙ k.0, λ now. g.3 now ∙ k.3 now)

  later : (last d : Progress) (list : Acts last d) → IsReady d.state → (q : ℕ) (y : Question) → map.get d.state.questions q ≡ Some y → y.returned ≡ None → Waits d last q y
  later last d NoMore i q y there unsaid = (y, there, refl, λ now. refl)
  later last d (Then {mid = mid} a rest) i q y there unsaid =
      let did = kept_ready d mid i a in
      let at = subst (λ (o : Option Question). MovedAt v d.effects.sends mid.effects.sends q o (map.get mid.state.questions q)) there (moved v d mid a did.said q) in
      behind_one d mid last q y (map.get mid.state.questions q) unsaid refl at (λ w e u. later last mid rest did.moves.ready q w e u)

module _ (v : Vat) (m : Labels) (x : Reader) (said : ℕ → Session) (has : Has) (now : ℕ → Session) where
  -- Of a question that the act asks: one of the vat's own call is of that.
  abbrev NewlySo : Progress → Progress → Type 0
  NewlySo d mid = (q : ℕ) (y : Question) → map.get d.state.questions q ≡ None → map.get mid.state.questions q ≡ Some y → IfDirect y.role (past v now mid.effects.sends q ≡ m.question q)

  own_so : (q : ℕ) (a : Session) (r : Role) → IsSession m q a r → IfDirect r (a ≡ m.question q)
  own_so q a (role.Direct c) k = k
  own_so q a (role.Relay o) k = tt

  newly : (s : State) (last d mid : Progress) → Act d mid → Acts last mid → IsReady d.state → AreAskedSo v m s last.effects.sends last.state → NewlySo d mid
  newly s last d mid a rest i asked q y free there =
      let did = kept_ready d mid i a in
      let at = subst (λ (o : Option Question). MovedAt v d.effects.sends mid.effects.sends q o (Some y)) free (subst (λ (o : Option Question). MovedAt v d.effects.sends mid.effects.sends q (map.get d.state.questions q) o) there (moved v d mid a did.said q)) in
      let g = later v last mid rest did.moves.ready q y there at.0 in
      by g.0 g.2 (subst (λ (o : Option Question). IsAskedSo v m s last.effects.sends q o) g.1 (asked q)) at.1.0 at.1.1 g.3
    where
      by : (z : Question) → z.role ≡ y.role → IsAskedSo v m s last.effects.sends q (Some z) → (b : Vat × Asking) → ((then : ℕ → Session) → past v then mid.effects.sends q ≡ Some b)
          → ((then : ℕ → Session) → past v then last.effects.sends q ≡ past v then mid.effects.sends q) → IfDirect y.role (past v now mid.effects.sends q ≡ m.question q)
      by z r (inl off) b of same = absurd (let bad : None ≡ Some b = sym (past_off v q (λ k. None) last.effects.sends off.0) ∙ (same (λ k. None) ∙ of (λ k. None)) in cc)
      by z r (inr f) b of same = own_so q (past v now mid.effects.sends q) y.role (subst (λ (a : Session). IsSession m q a y.role) (same now) (subst (λ (w : Role). IsSession m q (past v now last.effects.sends q) w) r (f now)))

  -- ---- One act, then all

  pub record Ready (d : Progress) : Type 0 where
    pub imports : (e : ℕ) → IsSome (map.get d.state.imports e) → x.receiver e ≡ m.import e
    pub asked : (q : ℕ) → Agrees (past v now d.effects.sends q) (m.question q) (map.get d.state.questions q)
    pub owed : (q : ℕ) → IsOwing (answerer_of (map.get d.state.answers q)) → has.question q ≡ true → AreOfOne (said q) (x.question q)
    pub read : AllRead v m x said has now d.effects.sends
    pub ready : IsReady d.state

  asked_on : (d mid : Progress) (q : ℕ) (o p : Option Question) → map.get d.state.questions q ≡ o → map.get mid.state.questions q ≡ p → NewlySo d mid → MovedAt v d.effects.sends mid.effects.sends q o p
      → Agrees (past v now d.effects.sends q) (m.question q) o → Agrees (past v now mid.effects.sends q) (m.question q) p
  asked_on d mid q o None e f new k a = tt
  asked_on d mid q None (Some y) e f new k a = λ unsent. new q y e f
  asked_on d mid q (Some w) (Some y) e f new k a = λ unsent.
      subst (λ (r : Role). IfDirect r (past v now mid.effects.sends q ≡ m.question q)) (sym k.0) (subst (λ (b : Session). IfDirect w.role (b ≡ m.question q)) (sym (k.3 now)) (a (k.2 unsent)))

  one : (d mid : Progress) (a : Act d mid) → Names a → NewlySo d mid → Ready d → Ready mid
  one d mid a names new i =
      let did = kept_ready d mid i.ready a in
      let sends = d.effects.sends in
      let owed = first_in (λ q. IsOwing (answerer_of (map.get d.state.answers q))) (λ q. (has_past has sends).question q ≡ true → AreOfOne (said q) (x.question q)) (sent_by a)
      (λ q owing waits. i.owed q owing (subst (λ (f : ℕ → _). f q ≡ true) (past_questions has sends) waits)) (first_owed d.state mid.state (sent_by a) did.moves.returns) in
      let here : Reads v m x said (past v now sends) d.state = record { imports = i.imports; asked = i.asked } in
      let more = all_sent_read v m x said (has_past has sends) (past v now sends) d mid a names here owed in
      record {
        imports = λ e n. i.imports e (kept_there (map.get d.state.imports e) (map.get mid.state.imports e) (keeping.acts mid d (Then a NoMore) e) n);
        asked = λ q. asked_on d mid q (map.get d.state.questions q) (map.get mid.state.questions q) refl refl new (moved v d mid a did.said q) (i.asked q);
        owed = λ q owing. i.owed q (owing_before (answerer_of (map.get d.state.answers q)) (answerer_of (map.get mid.state.answers q)) (rets q (sent_by a)) (did.moves.returns q) owing);
        read = subst (λ (ms : List Message). AllRead v m x said has now ms) (sym did.said) (all_join v m x said has now sends (messages (sent_by a)) i.read more);
        ready = did.moves.ready;
      }

  pub all : (s : State) (last d : Progress) (list : Acts last d) → AllName list → AreAskedSo v m s last.effects.sends last.state → Ready d → Ready last
  all s last d NoMore names asked i = i
  all s last d (Then {mid = mid} a rest) names asked i = all s last mid rest names.1 asked (one d mid a names.0 (newly s last d mid a rest i.ready asked) i)
