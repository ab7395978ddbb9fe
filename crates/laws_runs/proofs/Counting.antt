-- How many calls a reference counts is how many the journal says were made through it.
use Rattle.std.proofs.Common.{◌≡◌, ◌⊎◌, inl, inr, ℕ, ◌+◌, ◌≤◌, ◌<◌, Bool, true, false, cond, ◌&&◌, nat_eq, Option, Some, Ok, List, [], ◌∷◌, ◌++◌, length, length-append, append-nil, refl, sym, ap, subst, ◌∙◌, arith}
use Rattle.std.specs.FinMap as map
use Rattle.std.specs.Ordering.{nat_cmp}
use Rattle.finite_maps.specs.Tally.{Map}
use Rattle.finite_maps.proofs.Tested.{equal, get_put}
use Rattle.rpc_msg.specs.declared.ids.Vat.{Vat}
use Rattle.rpc_msg.specs.declared.ids.Vat.TheVariants.{A, B}
use Rattle.rpc_msg.specs.declared.ids.ObjectId.{ObjectId}
use Rattle.rpc_msg.specs.declared.ids.CallId.{CallId}
use Rattle.rpc_msg.specs.declared.ids.Stamp.{Stamp}
use Rattle.rpc_msg.specs.declared.message.Message.{Message}
use Rattle.rpc_msg.specs.Vats.{other_vat}
use Rattle.rpc_journal.specs.declared.entry.JournalEntry.{JournalEntry}
use Rattle.rpc_journal.specs.History.{Ref, same_vat, in_front, if_so, made}
use Rattle.rpc_machine.specs.declared.command.CallCommand.{CallCommand}
use Rattle.rpc_machine.specs.declared.command.Command.{Command}
use Rattle.rpc_machine.specs.declared.command.Command.TheVariants as command
use Rattle.rpc_machine.specs.declared.command.Granted.{Granted}
use Rattle.rpc_machine.specs.declared.command.Granted.TheVariants as granted
use Rattle.rpc_machine.specs.declared.command.Effects.{Effects}
use Rattle.rpc_machine.specs.declared.command.Level.TheVariants.{One}
use Rattle.rpc_machine.specs.declared.entries.Reference.{Reference}
use Rattle.rpc_machine.specs.State.{State, start}
use Rattle.rpc_machine.specs.Steps.{Does}
use Rattle.rpc_machine.specs.World.{World, core, put_inbox, after, Answered, Handled}
use Rattle.rpc_machine.specs.Journal.{index_in, made_entries, granted_entries, effect_entries, command_entries, deliver_entries, journal}
use Rattle.laws_runs.specs.Scenes.{Scene, IsScene, begins, goes_on, stopped, Steps, Commanded, Received, GivesUp, Stops, LeadsTo, NoMore, Then}
use Rattle.laws_runs.specs.Telling.{telling}
use Rattle.laws_runs.specs.MadeCalls.{NumbersItsCalls, ScenesCount, RunsCount}
use Rattle.laws_runs.proofs.Reading.{made-append, itself, other}
use Rattle.laws_runs.proofs.MakesNone.{MakesNone, both, none_behind, effects_make_none, deliver_none, call_or_not, falls_no_call, granted_none}
use Rattle.laws_runs.proofs.ToldAlike.{same_made}
use Rattle.laws_runs.proofs.AtVats.{not_over, mine}
use Rattle.laws_runs.proofs.Showing.{every_run}
use Rattle.laws_runs.proofs.KeptCounts.{counting, IsNoCall, KeepsCounts, KeptOrNew, same, does, does_call, handles}

abbrev at : Vat → ℕ → Ref
at v r = record { vat = v; number = r }

-- ---- A vat and a journal

pub record Counts (v : Vat) (s : State) (h : List JournalEntry) : Type 0 where
  pub vat : s.vat ≡ v
  pub old : (r : ℕ) (y : Reference) → map.get s.refs r ≡ Some y → r < s.next_ref
  pub counts : (r : ℕ) (y : Reference) → map.get s.refs r ≡ Some y → y.made ≡ length (made h (at v r))
  pub none : (r : ℕ) → s.next_ref ≤ r → made h (at v r) ≡ []

keeps : (v : Vat) (s t : State) (h k : List JournalEntry) → Counts v s h → KeepsCounts s t → ((r : ℕ) → made k (at v r) ≡ made h (at v r)) → Counts v t k
keeps v s t h k c m e = record {
  vat = m.2 ∙ c.vat;
  old = λ r y f. is_old r y (m.1 r y f);
  counts = λ r y f. count r y (m.1 r y f);
  none = λ r f. e r ∙ c.none r (let a = m.0 in omega arith);
}
  where
    is_old : (r : ℕ) (y : Reference) → KeptOrNew s t r y → r < t.next_ref
    is_old r y (inl f) = let a = m.0 in let b = c.old r f.0 f.1 in omega arith
    is_old r y (inr f) = f.1

    count : (r : ℕ) (y : Reference) → KeptOrNew s t r y → y.made ≡ length (made k (at v r))
    count r y (inl f) = f.2 ∙ c.counts r f.0 f.1 ∙ ap (λ (l : List Stamp). length l) (sym (e r))
    count r y (inr f) = f.2 ∙ ap (λ (l : List Stamp). length l) (sym (e r ∙ c.none r f.0))

-- One more call was made through r.
abbrev OneMore : Vat → ℕ → List JournalEntry → List JournalEntry → Type 0
OneMore v r h k = (s : Stamp) × ((q : ℕ) → made k (at v q) ≡ cond (nat_eq q r) (made h (at v q) ++ s ∷ []) (made h (at v q)))

bumps : (v : Vat) (s : State) (h k : List JournalEntry) (r : ℕ) (x : Reference) → Counts v s h → map.get s.refs r ≡ Some x → OneMore v r h k → Counts v (counting s r x) k
bumps v s h k r x c g o = record {
  vat = c.vat;
  old = λ q y f. is_old q y (nat_eq q r) refl (sym (get_put s.refs r (record x { made = x.made + 1 }) q) ∙ f);
  counts = λ q y f. count q y (nat_eq q r) refl (sym (get_put s.refs r (record x { made = x.made + 1 }) q) ∙ f);
  none = λ q f. no_more q f (nat_eq q r) refl;
}
  where
    is_old : (q : ℕ) (y : Reference) (b : Bool) → nat_eq q r ≡ b → cond (nat_eq q r) (Some (record x { made = x.made + 1 })) (map.get s.refs q) ≡ Some y → q < s.next_ref
    is_old q y true e f = let a = c.old r x g in let i = equal q r e in omega arith
    is_old q y false e f = c.old q y (sym (ap (λ b. cond b (Some (record x { made = x.made + 1 })) (map.get s.refs q)) e) ∙ f)

    count : (q : ℕ) (y : Reference) (b : Bool) → nat_eq q r ≡ b → cond (nat_eq q r) (Some (record x { made = x.made + 1 })) (map.get s.refs q) ≡ Some y → y.made ≡ length (made k (at v q))
    count q y true e f =
        let i = equal q r e in
        let z : Reference = record x { made = x.made + 1 } in
        let j : Some z ≡ Some y = sym (ap (λ b. cond b (Some z) (map.get s.refs q)) e) ∙ f in
        let y_is : z ≡ y = cc in
        let n : x.made ≡ length (made h (at v q)) = c.counts q x (ap (λ (p : ℕ). map.get s.refs p) i ∙ g) in
        let l : length (made h (at v q) ++ o.0 ∷ []) ≡ length (made h (at v q)) + 1 = length-append (made h (at v q)) (o.0 ∷ []) in
        ap (λ (p : Reference). p.made) (sym y_is) ∙ ap (λ (p : ℕ). p + 1) n ∙ sym l ∙ ap (λ (m : List Stamp). length m) (sym (o.1 q ∙ ap (λ b. cond b (made h (at v q) ++ o.0 ∷ []) (made h (at v q))) e))
    count q y false e f =
        c.counts q y (sym (ap (λ b. cond b (Some (record x { made = x.made + 1 })) (map.get s.refs q)) e) ∙ f)
        ∙ ap (λ (m : List Stamp). length m) (sym (o.1 q ∙ ap (λ b. cond b (made h (at v q) ++ o.0 ∷ []) (made h (at v q))) e))

    no_more : (q : ℕ) → s.next_ref ≤ q → (b : Bool) → nat_eq q r ≡ b → made k (at v q) ≡ []
    no_more q f true e = let a = c.old r x g in let i = equal q r e in absurd (omega arith)
    no_more q f false e = o.1 q ∙ ap (λ b. cond b (made h (at v q) ++ o.0 ∷ []) (made h (at v q))) e ∙ c.none q f

-- ---- What a call writes

module _ (h : List JournalEntry) (v : Vat) (c : CallCommand) (id : CallId) (told : Effects) where
  abbrev stamp : Stamp
  stamp = record { vat = v; reference = c.reference; index = index_in h v c.reference }

  behind : (q : Ref) → made (h ++ (made_entries h v c (granted.Call id) ++ effect_entries v told)) q ≡ made h q ++ in_front (if_so (same_vat q.vat v && nat_eq q.number c.reference.0) stamp) []
  behind q =
      let es = made_entries h v c (granted.Call id) in
      made-append h (es ++ effect_entries v told) q
      ∙ ap (λ (l : List Stamp). made h q ++ l) (made-append es (effect_entries v told) q ∙ ap (λ (l : List Stamp). made es q ++ l) (effects_make_none v told q) ∙ append-nil (made es q))

  this : (q : ℕ) → made (h ++ (made_entries h v c (granted.Call id) ++ effect_entries v told)) (at v q) ≡ cond (nat_eq q c.reference.0) (made h (at v q) ++ stamp ∷ []) (made h (at v q))
  this q = behind (at v q) ∙ ap (λ (b : Bool). made h (at v q) ++ in_front (if_so (b && nat_eq q c.reference.0) stamp) []) (itself v) ∙ by (nat_eq q c.reference.0)
    where
      by : (b : Bool) → made h (at v q) ++ in_front (if_so (true && b) stamp) [] ≡ cond b (made h (at v q) ++ stamp ∷ []) (made h (at v q))
      by true = refl
      by false = append-nil (made h (at v q))

  that : (q : ℕ) → made (h ++ (made_entries h v c (granted.Call id) ++ effect_entries v told)) (at (other_vat v) q) ≡ made h (at (other_vat v) q)
  that q = behind (at (other_vat v) q) ∙ ap (λ (b : Bool). made h (at (other_vat v) q) ++ in_front (if_so (b && nat_eq q c.reference.0) stamp) []) (other v) ∙ append-nil (made h (at (other_vat v) q))

-- ---- A step

-- Both vats, of which v steps.
abbrev Pair : Vat → World → List JournalEntry → Type 0
Pair v w h = Counts v (core w v) h × Counts (other_vat v) (core w (other_vat v)) h

abbrev Moved : Vat → World → State → List JournalEntry → Type 0
Moved v w t k = Counts v t k × Counts (other_vat v) (core w (other_vat v)) k

no_call : (v : Vat) (w : World) (t : State) (h es : List JournalEntry) → Pair v w h → KeepsCounts (core w v) t → MakesNone es → Moved v w t (h ++ es)
no_call v w t h es p k m = (
  keeps v (core w v) t h (h ++ es) p.0 k (λ r. none_behind h es m (at v r)),
  keeps (other_vat v) (core w (other_vat v)) (core w (other_vat v)) h (h ++ es) p.1 (same (core w (other_vat v))) (λ r. none_behind h es m (at (other_vat v) r)),
)

a_call : (v : Vat) (w : World) (t : State) (h : List JournalEntry) (c : CallCommand) (g : Granted) (told : Effects) → Pair v w h → Does (core w v) (command.Call c) g told t → Moved v w t (h ++ command_entries h v (command.Call c) true (Answered (Ok g) told))
a_call v w t h c g told p d =
    let k = does_call (core w v) c g told t d in
    let id : CallId = record { 0 = (core w v).next_call } in
    let es = made_entries h v c (granted.Call id) ++ effect_entries v told in
    let s = counting (core w v) c.reference.0 k.0 in
    let one : Counts v s (h ++ es) = bumps v (core w v) h (h ++ es) c.reference.0 k.0 p.0 k.1 (stamp h v c id told, this h v c id told) in
    let m : Moved v w t (h ++ es) = (keeps v s t (h ++ es) (h ++ es) one k.3 (λ r. refl), keeps (other_vat v) (core w (other_vat v)) (core w (other_vat v)) h (h ++ es) p.1 (same (core w (other_vat v))) (that h v c id told)) in
    subst (λ (a : Granted). Moved v w t (h ++ command_entries h v (command.Call c) true (Answered (Ok a) told))) (sym k.2) m

commanded : (v : Vat) (w : World) (t : State) (h : List JournalEntry) (c : Command) (g : Granted) (told : Effects) → Pair v w h → Does (core w v) c g told t → Moved v w t (h ++ command_entries h v c true (Answered (Ok g) told))
commanded v w t h c g told p d = by (call_or_not c)
  where
    by : (IsNoCall c ⊎ ((k : CallCommand) × (c ≡ command.Call k))) → Moved v w t (h ++ command_entries h v c true (Answered (Ok g) told))
    by (inl i) = no_call v w t h (command_entries h v c true (Answered (Ok g) told)) p (does (core w v) c g told t i d) (both (granted_entries h v c g) (effect_entries v told) (granted_none h v c g i) (effects_make_none v told))
    by (inr k) = subst (λ (b : Command). Moved v w t (h ++ command_entries h v b true (Answered (Ok g) told))) (sym k.1) (a_call v w t h k.0 g told p (subst (λ (b : Command). Does (core w v) b g told t) k.1 d))

abbrev Both : Scene → Type 0
Both x = Counts A x.world.a.core x.journal × Counts B x.world.b.core x.journal

pair : (v : Vat) (x : Scene) → Both x → Pair v x.world x.journal
pair A x b = (b.0, b.1)
pair B x b = (b.1, b.0)

went_on : (v : Vat) (x : Scene) (told : Effects) (t : State) (es : List JournalEntry) → Moved v x.world t (x.journal ++ es) → Both (goes_on x (after x.world v told t) es)
went_on A x told t es m = (m.0, m.1)
went_on B x told t es m = (m.1, m.0)

took : (v : Vat) (x : Scene) (ms : List Message) (told : Effects) (t : State) (es : List JournalEntry) → Moved v x.world t (x.journal ++ es) → Both (goes_on x (after (put_inbox x.world v ms) v told t) es)
took A x ms told t es m = (m.0, m.1)
took B x ms told t es m = (m.1, m.0)

ended : (v : Vat) (x : Scene) (es : List JournalEntry) → MakesNone es → Both x → Both (stopped x v es)
ended A x es m b = let k = no_call A x.world x.world.a.core x.journal es (pair A x b) (same x.world.a.core) m in (k.0, k.1)
ended B x es m b = let k = no_call B x.world x.world.b.core x.journal es (pair B x b) (same x.world.b.core) m in (k.1, k.0)

stepped : (x new : Scene) → Steps x new → Both x → Both new
stepped x new (Commanded v c g told s over up ref d w e) b = rw e (went_on v x told s _ (commanded v x.world s x.journal c g told (pair v x b) d))
stepped x new (Received v m ms told s over up i f d w e) b =
    rw e (took v x ms told s _ (no_call v x.world s x.journal (deliver_entries v (Handled told)) (pair v x b) (handles (core x.world v) m told s f d) (deliver_none v (Handled told))))
stepped x new (GivesUp v c over ref m e) b = rw e (ended v x _ (granted_none x.journal v c granted.Done (falls_no_call c m)) b)
stepped x new (Stops v over e) b = rw e (ended v x [] (λ r. refl) b)

leads : (last x : Scene) → LeadsTo last x → Both x → Both last
leads last x NoMore b = b
leads last x (Then {mid = mid} s rest) b = leads last mid rest (stepped x mid s b)

starts : (a b : Option ObjectId) → Both (begins a b)
starts a b = (new_vat A a, new_vat B b)
  where
    nothing : {X : Type 0} (r : ℕ) (y : X) → (let m : Map X = map.empty in map.get m r ≡ Some y) → ⊥
    nothing r y e = let f = sym (map.get-empty nat_cmp r) ∙ e in cc

    new_vat : (v : Vat) (o : Option ObjectId) → Counts v (start v One o) []
    new_vat v o = record { vat = refl; old = λ r y e. absurd (nothing r y e); counts = λ r y e. absurd (nothing r y e); none = λ r l. refl }

numbers : (v : Vat) (s : State) (h : List JournalEntry) → Counts v s h → NumbersItsCalls v s h
numbers v s h c = record {
  counts = c.counts;
  stamps = λ k y e. ap (λ (u : Vat). record { vat = u; reference = k.reference; index = y.made }) c.vat ∙ ap (λ (i : ℕ). record { vat = v; reference = k.reference; index = i }) (c.counts k.reference.0 y e);
}

of_scene : (a b : Option ObjectId) (x : Scene) → IsScene a b x → (v : Vat) → Counts v (core x.world v) x.journal
of_scene a b x k v = (pair v x (leads x (begins a b) k (starts a b))).0

pub scenes_count : ScenesCount
scenes_count a b x k v = numbers v (core x.world v) x.journal (of_scene a b x k v)

-- The same core, and a journal that tells the same.
told_so : (v : Vat) (s t : State) (h k : List JournalEntry) → s ≡ t → telling h ≡ telling k → Counts v t k → Counts v s h
told_so v s t h k e f c = subst (λ (u : State). Counts v u h) (sym e) (keeps v t t k h c (same t) (λ r. same_made h k f (at v r)))

pub runs_count : RunsCount
runs_count a b xs w k v up =
    let s = every_run a b xs w k in
    let over = not_over v s.0 (journal xs) w s.2 up in
    let m = mine v s.0 (journal xs) w s.2 over in
    numbers v (core w v) (journal xs) (told_so v (core w v) (core s.0.world v) (journal xs) s.0.journal m.1 s.2.history (of_scene a b s.0 s.1 v))
