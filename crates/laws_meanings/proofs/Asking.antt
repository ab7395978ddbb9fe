-- Each act keeps that outcomes of own calls are of calls, that questions asked for own calls were asked, that what ends was
-- asked, and that what a Bootstrap's caller is told is what its Return said; so it is in each scene.
use Rattle.std.proofs.Common.{◌≡◌, ◌⊎◌, inl, inr, ℕ, ◌+◌, ◌≤◌, Bool, true, false, ◌&&◌, nat_eq, Option, None, Some, List, [], ◌∷◌, ◌++◌, map, append_assoc, refl, sym, ap, subst, ◌∙◌, arith}
use Rattle.std.specs.Ordering.{nat_cmp}
use Rattle.std.specs.FinMap as map
use Rattle.finite_maps.proofs.Tested.{itself}
use Rattle.rpc_msg.specs.declared.ids.Vat.{Vat}
use Rattle.rpc_msg.specs.declared.ids.Vat.TheVariants.{A, B}
use Rattle.rpc_msg.specs.declared.ids.CallId.{CallId}
use Rattle.rpc_msg.specs.declared.ids.ObjectId.{ObjectId}
use Rattle.rpc_msg.specs.declared.message.Message.{Message}
use Rattle.rpc_msg.specs.declared.message.Message.TheVariants as message
use Rattle.rpc_msg.specs.declared.message.PlainMessage.{PlainMessage}
use Rattle.rpc_msg.specs.declared.message.PlainMessage.TheVariants as plain
use Rattle.rpc_msg.specs.declared.message.Return.{Return}
use Rattle.rpc_msg.specs.Vats.{other_vat}
use Rattle.rpc_journal.specs.declared.report.Ended.{Ended}
use Rattle.rpc_journal.specs.declared.report.Outcome.{Outcome}
use Rattle.rpc_msg.specs.declared.ids.RefId.{RefId}
use Rattle.rpc_journal.specs.declared.entry.JournalEntry.{JournalEntry}
use Rattle.rpc_journal.specs.declared.entry.JournalEntry.TheVariants as entry
use Rattle.rpc_journal.specs.Sources.{Asking, OfBootstrap, OfCall, asking, asking_one}
use Rattle.rpc_journal.specs.Meaning.{root}
use Rattle.rpc_journal.specs.History.{same_vat, or_rest, if_so}
use Rattle.rpc_machine.specs.declared.calls.Value.{Value}
use Rattle.rpc_machine.specs.declared.command.CallCommand.{CallCommand}
use Rattle.rpc_machine.specs.declared.command.Command.{Command}
use Rattle.rpc_machine.specs.declared.command.Command.TheVariants as command
use Rattle.rpc_machine.specs.declared.command.Granted.{Granted}
use Rattle.rpc_machine.specs.declared.command.Granted.TheVariants as granted
use Rattle.rpc_machine.specs.declared.command.Effects.{Effects}
use Rattle.rpc_machine.specs.declared.command.Level.TheVariants.{One}
use Rattle.rpc_machine.specs.declared.entries.Role.TheVariants as role
use Rattle.rpc_machine.specs.declared.entries.Question.{Question}
use Rattle.rpc_machine.specs.State.{State, start}
use Rattle.rpc_machine.specs.Faults.{fault_of}
use Rattle.rpc_machine.specs.Progress.{new_refs, outcome_of, caps_of}
use Rattle.rpc_machine.specs.Messages.{results_of, value_of_results}
use Rattle.rpc_machine.specs.Steps.{Does, Handles}
use Rattle.rpc_machine.specs.Sweeping.{IsNotSent}
use Rattle.rpc_machine.specs.World.{World, core, inbox, put_inbox, after}
use Rattle.rpc_machine.specs.Journal.{went_down, effect_entries, granted_entries}
use Rattle.rpc_machine.specs.Claims.{Upto, EndsRoot, history}
use Rattle.laws_acts.specs.Moments.{Moment, beginning}
use Rattle.laws_acts.specs.FirstActs.{Starts}
use Rattle.laws_acts.specs.FirstActs as first
use Rattle.laws_acts.specs.MessageActs.{Back, Brings, returning, Consumes}
use Rattle.laws_acts.specs.MessageActs as heard
use Rattle.laws_acts.specs.SmallActs.{Act, IsStill, kept_known}
use Rattle.laws_acts.specs.SmallActs as act
use Rattle.laws_acts.proofs.EachStep.{done, handled, at_end}
use Rattle.laws_runs.specs.Scenes as scenes
use Rattle.laws_runs.specs.Scenes.{Scene, IsScene, begins}
use Rattle.laws_runs.proofs.Reading as reading
use Rattle.laws_meanings.specs.AskedCalls.{IfAsked, EndsWereAsked}
use Rattle.laws_meanings.specs.Bootstraps.{IsCall, WasAsked, OutcomeCalled, RoleAsked, QuestionAsked, NumbersAreAsked, SaysRoot, RootsReturn, IfRoot, RootsAreLeft}
use Rattle.laws_meanings.proofs.Entries.{Claim, EachAfter, each-append, each_always, upto, is_effect, granted_always, nothing_before}
use Rattle.laws_meanings.proofs.Numbers.{no_effects, other_none, OutcomesCalled, QuestionsAsked, ClearingCalled, puts_outcome, cuts_outcome, puts_question, cuts_question, closes_question, AllToldSo, EndSo, AllEndSo, ends-append, told_call, says_ends, called_asked, still_call, still_outcomes, still_questions, still_ends}
use Rattle.laws_meanings.proofs.Asked as asked
use Rattle.laws_meanings.proofs.Asked.{same_next}
use Rattle.laws_meanings.proofs.Walked.{in_each}
use Rattle.laws_meanings.proofs.WhoseFirst.{still_unsent}

module _ (v : Vat) (h : List JournalEntry) (S : Value → Type 0) (E : Outcome → List RefId → Type 0) (ends_so : (x : Value) (k : ℕ) → S x → E (outcome_of x) (new_refs k (caps_of x))) where
  abbrev Fine : Moment → Type 0
  Fine d = OutcomesCalled v h d.state.outcomes × QuestionsAsked v h d.state.questions × ClearingCalled v h d.clearing × AllToldSo v h S E d.telling × AllEndSo v h S E d.effects.answers

  acted : (d new : Moment) → Fine d → Act d new → Fine new
  acted d new i (act.Holds c n rest u path x e f j k) = rw k (puts_outcome v h d.state.outcomes u _ (subst (OutcomeCalled v h) j (i.0 u)) i.0, i.1, i.2, i.3, i.4)
  acted d new i (act.Relays c n rest q t ds es e f j k u) = rw u (i.0, puts_question v h d.state.questions q _ tt i.1, i.2, i.3, i.4)
  acted d new i (act.Knows u w fit x ps e f j k z) =
      let called = subst (OutcomeCalled v h) f (i.0 u) in
      rw z (puts_outcome v h d.state.outcomes u _ called i.0, i.1, called, (told_call v h S E x.caller fit called, tt), i.4)
  acted d new i (act.Reports c w from e f u) = rw u (i.0, i.1, i.2, tt, ends-append v h S E d.effects.answers _ i.4 (by (subst (AllToldSo v h S E) e i.3).0, tt))
    where
      by : WasAsked v h c × (IsCall v h c ⊎ S w) → EndSo v h S E (record { call = record { 0 = c }; outcome = outcome_of w; refs = new_refs d.state.next_ref (caps_of w) })
      by (n, inl a) = (n, inl a)
      by (n, inr a) = (n, inr (ends_so w d.state.next_ref a))
  acted d new i (act.TellsNobody c w e f u) = rw u (i.0, i.1, i.2, tt, i.4)
  acted d new i (act.MakesReturn q w x b ds es e f j k u) = rw u (i.0, i.1, i.2, tt, i.4)
  acted d new i (act.Clears x e f u) =
      let called = subst (λ (m : Moment). ClearingCalled v h m.clearing) e i.2 in
      rw u (puts_outcome v h d.state.outcomes x.outcome _ called i.0, i.1, tt, i.3, i.4)
  acted d new i (act.OutcomeGoes o x w z e f j k l u) = rw u (cuts_outcome v h d.state.outcomes o i.0, i.1, i.2, i.3, i.4)
  acted d new i (act.SendsFinish q x rest e f j k l u) = rw u (i.0, closes_question v h d.state.questions q x x.returned (subst (QuestionAsked v h) f (i.1 q)) i.1, i.2, i.3, i.4)
  acted d new i (act.Closes q x rest e f j k l u) = rw u (i.0, closes_question v h d.state.questions q x x.returned (subst (QuestionAsked v h) f (i.1 q)) i.1, i.2, i.3, i.4)
  acted d new i (act.Delivers c n rest u e f k) = rw k i
  acted d new i (act.Waits c n rest p calls e f j k) = rw k i
  acted d new i (act.Breaks c n rest reason e f u) = rw u i
  acted d new i (act.NextArisen o w rest e f u) = rw u i
  acted d new i (act.SendsReturn x y e f j u) = rw u i
  acted d new i (act.Lists x e u) = rw u i
  acted d new i (act.SendsResolve x rest k es e w f u) = rw u i
  acted d new i (act.SendsBroken x rest reason e f u) = rw u i
  acted d new i (act.PromiseGoes p to w e f u) = rw u i
  acted d new i (act.ImportGoes k x w e f u) = rw u i
  acted d new i (act.Sweeps over e f j u) = rw u i
  acted d new i (act.Releases w e f u) = rw u i

  -- ---- The first act

  abbrev Begins : State → Type 0
  Begins s = OutcomesCalled v h s.outcomes × QuestionsAsked v h s.questions

  -- What a command asks has the next number.
  abbrev AsksNow : State → Command → Granted → Type 0
  AsksNow s c g = ((k : CallCommand) → c ≡ command.Call k → g ≡ first.next_call_of s → IsCall v h s.next_call) × (c ≡ command.Bootstrap → g ≡ first.next_call_of s → WasAsked v h s.next_call)

  started : (s : State) (c : Command) (g : Granted) (new : Moment) → AsksNow s c g → Begins s → Starts (beginning s) c g new → Fine new
  started s c g new n i (first.AsksRoot q e f a u) = rw u (i.0, puts_question v h s.questions q _ (n.1 e a) i.1, tt, tt, tt)
  started s c g new n i (first.CallsOut y x q t ds es e f j l m o a u) = rw u (i.0, puts_question v h s.questions q _ (called_asked v h s.next_call (n.0 y e a)) i.1, tt, tt, tt)
  started s c g new n i (first.CallsHere y x o e f j l m a u) = rw u (puts_outcome v h s.outcomes o _ (n.0 y e a) i.0, i.1, tt, tt, tt)
  started s c g new n i (first.CallsLater y x o z b e f j l m a u) = rw u (puts_outcome v h s.outcomes o _ (n.0 y e a) i.0, i.1, tt, tt, tt)
  started s c g new n i (first.Hosts o e a u) = rw u (i.0, i.1, tt, tt, tt)
  started s c g new n i (first.Clones y x e f a u) = rw u (i.0, i.1, tt, tt, tt)
  started s c g new n i (first.NamesField y path from e f a u) = rw u (i.0, i.1, tt, tt, tt)
  started s c g new n i (first.Promises p e f a u) = rw u (i.0, i.1, tt, tt, tt)
  started s c g new n i (first.Drops y x e f a u) = rw u (i.0, i.1, tt, tt, tt)
  started s c g new n i (first.Fixes p y x key calls e f j l a u) = rw u (i.0, i.1, tt, tt, tt)
  started s c g new n i (first.Rejects p why key calls e f j a u) = rw u (i.0, i.1, tt, tt, tt)
  started s c g new n i (first.Answers t payload refs o e f a u) = rw u (i.0, i.1, tt, tt, tt)
  started s c g new n i (first.Fails t why o e f a u) = rw u (i.0, i.1, tt, tt, tt)
  started s c g new n i (first.Finishes y from e f a u) = rw u (i.0, i.1, tt, tt, tt)
  started s c g new n i (first.StaysPut y x e f a u) = rw u (i.0, i.1, tt, tt, tt)
  started s c g new n i (first.Breaks y x reason e f j l a u) = rw u (i.0, i.1, tt, tt, tt)
  started s c g new n i (first.Switches y x by n0 e f j l m o a u) = rw u (i.0, i.1, tt, tt, tt)
  started s c g new n i (first.Turns y x by n0 t z e f j l m o w q a u) = rw u (i.0, i.1, tt, tt, tt)

  -- What comes back to a Bootstrap says the root.
  abbrev SaysSo : State → Message → Type 0
  SaysSo s m =
      (b : Back) (x : Question) (c : CallId) → Brings s m b → map.get s.questions b.question ≡ Some x → IsNotSent x.finish → x.role ≡ role.Direct c
      → IsCall v h c.0 ⊎ S (value_of_results b.said)

  consumed : (s : State) (m : Message) (new : Moment) → SaysSo s m → Begins s → Consumes (beginning s) m new → Fine new
  consumed s m new n i (heard.OpensRoot q o e f j u) = rw u (puts_outcome v h s.outcomes o _ tt i.0, i.1, tt, tt, tt)
  consumed s m new n i (heard.OpensCall c o e f j u) = rw u (puts_outcome v h s.outcomes o _ tt i.0, i.1, tt, tt, tt)
  consumed s m new n i (heard.Loses b x e f j k u) = rw u (i.0, cuts_question v h s.questions b.question i.1, tt, tt, tt)
  consumed s m new n i (heard.ComesToCall b x c e f j k l u) =
      let was : RoleAsked v h x.role = subst (QuestionAsked v h) f (i.1 b.question) in
      rw u (i.0, puts_question v h s.questions b.question _ was i.1, tt, ((subst (RoleAsked v h) l was, n b x c e f (still_unsent x k) l), tt), tt)
  consumed s m new n i (heard.ComesToRelay b x o e f j k l u) =
      rw u (i.0, puts_question v h s.questions b.question _ (subst (QuestionAsked v h) f (i.1 b.question)) i.1, tt, tt, tt)
  consumed s m new n i (heard.IsFinished x z e f j u) = rw u (i.0, i.1, tt, tt, tt)
  consumed s m new n i (heard.IsResolved x e u) = rw u (i.0, i.1, tt, tt, tt)
  consumed s m new n i (heard.IsReleased x e u) = rw u (i.0, i.1, tt, tt, tt)
  consumed s m new n i (heard.SendsBack t to x e f u) = rw u (i.0, i.1, tt, tt, tt)
  consumed s m new n i (heard.Lifts t x b e f u) = rw u (i.0, i.1, tt, tt, tt)
  consumed s m new n i (heard.SendsForeign p e f u) = rw u (i.0, i.1, tt, tt, tt)
  consumed s m new n i (heard.SendsOther k e u) = rw u (i.0, i.1, tt, tt, tt)
  consumed s m new n i (heard.TakesBack x e u) = rw u (i.0, i.1, tt, tt, tt)
  consumed s m new n i (heard.Ignores x e u) = rw u (i.0, i.1, tt, tt, tt)

  -- ---- Steps

  abbrev Leaves : State → Effects → Type 0
  Leaves t x = Begins t × AllEndSo v h S E x.answers

  pub commands : (s : State) (c : Command) (g : Granted) (x : Effects) (t : State) → AsksNow s c g → Begins s → Does s c g x t → Leaves t x
  commands s c g x t n i d =
      let k = done Fine s c g x t (λ new j. started s c g new n i j) acted d in
      at_end Leaves k.last x t k.ends (let z = k.holds in ((z.0, z.1), z.4))

  pub messages : (s : State) (m : Message) (x : Effects) (t : State) → fault_of s m ≡ None → SaysSo s m → Begins s → Handles s m x t → Leaves t x
  messages s m x t f n i d =
      let k = handled Fine s m x t f (λ new j. consumed s m new n i j) acted d in
      at_end Leaves k.last x t k.ends (let z = k.holds in ((z.0, z.1), z.4))

-- ---- Numbers to come

pub next_is : (v : Vat) (h : List JournalEntry) (n : ℕ) (e : JournalEntry) (a : Asking) → asking h v n ≡ None → asking_one v n e ≡ if_so (same_vat v v && nat_eq n n) a → asking (h ++ e ∷ []) v n ≡ Some a
next_is v h n e a f g = nothing_before (asking_one v n) h (e ∷ []) f ∙ ap (λ (o : Option Asking). or_rest o None) (g ∙ by (same_vat v v) (nat_eq n n) (reading.itself v) (itself n))
  where
    by : (y z : Bool) → y ≡ true → z ≡ true → if_so (y && z) a ≡ Some a
    by y z e f = rw (e, f) refl

abbrev Later : Vat → List JournalEntry → ℕ → Type 0
Later v h n = (c : ℕ) → n ≤ c → asking h v c ≡ None

pub asks_now : (v : Vat) (h : List JournalEntry) (s : State) (c : Command) (g : Granted) → Later v h s.next_call → AsksNow v (h ++ granted_entries h v c g) (λ x. Unit {0}) (λ x y. Unit {0}) (λ x k f. f) s c g
asks_now v h s c g l = (
  λ k e f. subst (λ (d : Command). IsCall v (h ++ granted_entries h v d g) s.next_call) (sym e) (subst (λ (b : Granted). IsCall v (h ++ granted_entries h v (command.Call k) b) s.next_call) (sym f) (_, next_is v h s.next_call _ _ (l s.next_call (omega arith)) refl)),
  λ e f. subst (λ (d : Command). WasAsked v (h ++ granted_entries h v d g) s.next_call) (sym e) (subst (λ (b : Granted). WasAsked v (h ++ granted_entries h v command.Bootstrap b) s.next_call) (sym f) (OfBootstrap, next_is v h s.next_call _ _ (l s.next_call (omega arith)) refl)),
)

past : (v : Vat) (n k : ℕ) (a : Asking) → n + 1 ≤ k → or_rest (if_so (same_vat v v && nat_eq k n) a) None ≡ None
past v n k a l = by (same_vat v v) (nat_eq k n) refl
  where
    by : (y z : Bool) → nat_eq k n ≡ z → or_rest (if_so (y && z) a) None ≡ None
    by true true e = let i : k ≡ n = grind arith in absurd (omega arith)
    by true false e = refl
    by false z e = refl

-- A command's own entries ask for no number to come.
abbrev NoneLater : List JournalEntry → Vat → Command → Granted → ℕ → Type 0
NoneLater h v c g n = (k : ℕ) → n ≤ k → asking (granted_entries h v c g) v k ≡ None

none_later : (h : List JournalEntry) (v : Vat) (s : State) (c : Command) (g : Granted) (new : Moment) → Starts (beginning s) c g new → NoneLater h v c g new.state.next_call
none_later h v s c g new (first.AsksRoot q e f a u) = rw (e, a, u) (λ k l. past v s.next_call k OfBootstrap l)
none_later h v s c g new (first.CallsOut y x q t ds es e f j l m n a u) = rw (e, a, u) (λ k l. past v s.next_call k _ l)
none_later h v s c g new (first.CallsHere y x o e f j l m a u) = rw (e, a, u) (λ k l. past v s.next_call k _ l)
none_later h v s c g new (first.CallsLater y x o z b e f j l m a u) = rw (e, a, u) (λ k l. past v s.next_call k _ l)
none_later h v s c g new (first.Hosts o e a u) = rw (e, a) (λ k l. refl)
none_later h v s c g new (first.Clones y x e f a u) = rw (e, a) (λ k l. refl)
none_later h v s c g new (first.NamesField y path from e f a u) = rw (e, a) (λ k l. refl)
none_later h v s c g new (first.Promises p e f a u) = rw (e, a) (λ k l. refl)
none_later h v s c g new (first.Drops y x e f a u) = rw e (λ k l. refl)
none_later h v s c g new (first.Fixes p y x key calls e f j l a u) = rw e (λ k l. refl)
none_later h v s c g new (first.Rejects p why key calls e f j a u) = rw e (λ k l. refl)
none_later h v s c g new (first.Answers t payload refs o e f a u) = rw e (λ k l. refl)
none_later h v s c g new (first.Fails t why o e f a u) = rw e (λ k l. refl)
none_later h v s c g new (first.Finishes y from e f a u) = rw e (λ k l. refl)
none_later h v s c g new (first.StaysPut y x e f a u) = rw (e, a) (λ k l. refl)
none_later h v s c g new (first.Breaks y x reason e f j l a u) = rw (e, a) (λ k l. refl)
none_later h v s c g new (first.Switches y x by n e f j l m o a u) = rw (e, a) (λ k l. refl)
none_later h v s c g new (first.Turns y x by n t z e f j l m o w q a u) = rw (e, a) (λ k l. refl)

own_later : (h : List JournalEntry) (v : Vat) (s : State) (c : Command) (g : Granted) (x : Effects) (t : State) → Does s c g x t → NoneLater h v c g t.next_call
own_later h v s c g x t d =
    let k = done (λ m. NoneLater h v c g m.state.next_call) s c g x t (λ new j. none_later h v s c g new j) (λ m new i a. subst (NoneLater h v c g) (sym (same_next m.state.next_call m new refl a)) i) d in
    at_end (λ u y. NoneLater h v c g u.next_call) k.last x t k.ends k.holds

-- ---- Scenes

module _ (a b : Option ObjectId) (S : Vat → Value → Type 0) (E : Vat → Outcome → List RefId → Type 0) (ends_so : (v : Vat) (x : Value) (k : ℕ) → S v x → E v (outcome_of x) (new_refs k (caps_of x))) where
  -- An end was asked, and is of a call, or as is asked.
  abbrev IfSo : Claim
  IfSo l (entry.Ended v x) = EndSo v l (S v) (E v) x
  IfSo l e = Unit {0}

  no_end : (l : List JournalEntry) (e : JournalEntry) → is_effect e ≡ false → IfSo l e
  no_end l (entry.Ended v x) f = absurd (let g : true ≡ false = f in cc)
  no_end l e f = tt

  ends_fine : (v : Vat) (h : List JournalEntry) (xs : List Ended) → AllEndSo v h (S v) (E v) xs → EachAfter IfSo h (map (entry.Ended v) xs)
  ends_fine v h [] f = tt
  ends_fine v h (x ∷ xs) f = (f.0, ends_fine v (h ++ entry.Ended v x ∷ []) xs (still_ends v h (entry.Ended v x ∷ []) (S v) (E v) xs f.1))

  none_down : (v : Vat) (h : List JournalEntry) (o : Option ℕ) → EachAfter IfSo h (went_down v o)
  none_down v h None = tt
  none_down v h (Some n) = (tt, tt)

  effects_fine : (v : Vat) (h : List JournalEntry) (x : Effects) → AllEndSo v h (S v) (E v) x.answers → EachAfter IfSo h (effect_entries v x)
  effects_fine v h x f =
      let ms = map (entry.Sent v) x.sends in
      let ds = map (entry.Delivered v) x.deliveries in
      let es = map (entry.Ended v) x.answers in
      each-append IfSo h (ms ++ ds ++ es) (went_down v x.down)
      (each-append IfSo h (ms ++ ds) es
      (each-append IfSo h ms ds (each_always IfSo (entry.Sent v) (λ l y. tt) h x.sends) (each_always IfSo (entry.Delivered v) (λ l y. tt) (h ++ ms) x.deliveries))
      (ends_fine v (h ++ (ms ++ ds)) x.answers (still_ends v h (ms ++ ds) (S v) (E v) x.answers f)))
      (none_down v (h ++ (ms ++ ds ++ es)) x.down)

  abbrev Mine : Vat → List JournalEntry → State → Type 0
  Mine v h s = OutcomesCalled v h s.outcomes × QuestionsAsked v h s.questions × Later v h s.next_call

  abbrev Good : Scene → Type 0
  Good x = Mine A x.journal x.world.a.core × Mine B x.journal x.world.b.core × EachAfter IfSo [] x.journal

  mine : (v : Vat) (x : Scene) → Good x → Mine v x.journal (core x.world v)
  mine A x k = k.0
  mine B x k = k.1

  -- What is written asks for no number that is to come here.
  still_mine : (v : Vat) (h es : List JournalEntry) (s : State) → ((c : ℕ) → s.next_call ≤ c → asking es v c ≡ None) → Mine v h s → Mine v (h ++ es) s
  still_mine v h es s n k = (
    still_outcomes v h es s.outcomes k.0,
    still_questions v h es s.questions k.1,
    λ c l. nothing_before (asking_one v c) h es (k.2 c l) ∙ n c l,
  )

  abbrev Moved : Vat → World → State → List JournalEntry → Type 0
  Moved v w t h = Mine v h t × Mine (other_vat v) h (core w (other_vat v)) × EachAfter IfSo [] h

  went_on : (v : Vat) (x : Scene) (told : Effects) (t : State) (es : List JournalEntry) → Moved v x.world t (x.journal ++ es) → Good (scenes.goes_on x (after x.world v told t) es)
  went_on A x told t es m = (m.0, m.1, m.2)
  went_on B x told t es m = (m.1, m.0, m.2)

  took : (v : Vat) (x : Scene) (ms : List Message) (told : Effects) (t : State) (es : List JournalEntry) → Moved v x.world t (x.journal ++ es) → Good (scenes.goes_on x (after (put_inbox x.world v ms) v told t) es)
  took A x ms told t es m = (m.0, m.1, m.2)
  took B x ms told t es m = (m.1, m.0, m.2)

  others : (v : Vat) (x : Scene) → Good x → Mine (other_vat v) x.journal (core x.world (other_vat v))
  others A x k = k.1
  others B x k = k.0

  -- With its own entries behind, and what its effects write.
  moved : (x : Scene) (v : Vat) (told : Effects) (t : State) (own : List JournalEntry) → Good x → ((c : ℕ) → t.next_call ≤ c → asking x.journal v c ≡ None) → ((c : ℕ) → t.next_call ≤ c → asking own v c ≡ None) → ((c : ℕ) → asking own (other_vat v) c ≡ None) → EachAfter IfSo x.journal own
      → Leaves v (x.journal ++ own) (S v) (E v) (ends_so v) t told → Moved v x.world t (x.journal ++ (own ++ effect_entries v told))
  moved x v told t own k l n o f y =
      let es = effect_entries v told in
      let later : Later v (x.journal ++ own) t.next_call = λ c i. nothing_before (asking_one v c) x.journal own (l c i) ∙ n c i in
      let here = still_mine v (x.journal ++ own) es t (λ c i. no_effects v c v told) (y.0.0, y.0.1, later) in
      let there = still_mine (other_vat v) x.journal (own ++ es) (core x.world (other_vat v)) (λ c i. nothing_before (asking_one (other_vat v) c) own es (o c) ∙ no_effects (other_vat v) c v told) (others v x k) in (
        subst (λ (j : List JournalEntry). Mine v j t) (append_assoc x.journal own es) here,
        there,
        each-append IfSo [] x.journal (own ++ es) k.2 (each-append IfSo x.journal own es f (effects_fine v (x.journal ++ own) told y.1)),
      )

  gave_up : (x : Scene) (v : Vat) (es : List JournalEntry) → ((u : Vat) (c : ℕ) → asking es u c ≡ None) → EachAfter IfSo x.journal es → Good x → Good (scenes.stopped x v es)
  gave_up x A es n f k = (still_mine A x.journal es x.world.a.core (λ c l. n A c) k.0, still_mine B x.journal es x.world.b.core (λ c l. n B c) k.1, each-append IfSo [] x.journal es k.2 f)
  gave_up x B es n f k = (still_mine A x.journal es x.world.a.core (λ c l. n A c) k.0, still_mine B x.journal es x.world.b.core (λ c l. n B c) k.1, each-append IfSo [] x.journal es k.2 f)

  rises : (v : Vat) (s n : ℕ) (h own : List JournalEntry) → (n ≡ s) ⊎ ((n ≡ s + 1) × WasAsked v own s) → Later v h s → (c : ℕ) → n ≤ c → asking h v c ≡ None
  rises v s n h own (inl e) l c i = l c (omega arith)
  rises v s n h own (inr e) l c i = let f = e.0 in l c (omega arith)

  done_none : (h : List JournalEntry) (v : Vat) (d : Command) (u : Vat) (c : ℕ) → asking (granted_entries h v d granted.Done) u c ≡ None
  done_none h v (command.Host o) u c = refl
  done_none h v (command.CloneRef r) u c = refl
  done_none h v (command.DropRef r) u c = refl
  done_none h v command.Bootstrap u c = refl
  done_none h v (command.Call k) u c = refl
  done_none h v (command.Field k path) u c = refl
  done_none h v command.Promise u c = refl
  done_none h v (command.Resolve p r) u c = refl
  done_none h v (command.Reject p why) u c = refl
  done_none h v (command.Answer t payload refs) u c = refl
  done_none h v (command.Fail t why) u c = refl
  done_none h v (command.Finish k) u c = refl
  done_none h v (command.Advance r) u c = refl
  done_none h v (command.Shut n) u c = refl

  abbrev Says : Scene → Vat → Message → Type 0
  Says x v m = SaysSo v x.journal (S v) (E v) (ends_so v) (core x.world v) m

  module _ (returns : (x : Scene) → IsScene a b x → (v : Vat) (m : Message) (ms : List Message) → inbox x.world v ≡ m ∷ ms → Says x v m) where
    later_call : (v : Vat) (h es : List JournalEntry) (c : ℕ) (X : Type 0) → IsCall v h c ⊎ X → IsCall v (h ++ es) c ⊎ X
    later_call v h es c X (inl f) = inl (still_call v h es c f)
    later_call v h es c X (inr f) = inr f

    stepped : (x mid : Scene) → IsScene a b x → scenes.Steps x mid → Good x → Good mid
    stepped x mid i (scenes.Commanded v c g told s o up r d w e) k =
        let own = granted_entries x.journal v c g in
        let t = core x.world v in
        let m = mine v x k in
        let n = rises v t.next_call s.next_call x.journal own (asked.commands x.journal v t c g told s d) m.2 in
        let begun : Begins v (x.journal ++ own) (S v) (E v) (ends_so v) t = (still_outcomes v x.journal own t.outcomes m.0, still_questions v x.journal own t.questions m.1) in
        let y = commands v (x.journal ++ own) (S v) (E v) (ends_so v) t c g told s (asks_now v x.journal t c g m.2) begun d in
        rw e
        (went_on v x told s (own ++ effect_entries v told)
        (moved x v told s own k n (own_later x.journal v t c g told s d) (λ z. other_none (other_vat v) z v (reading.other v) x.journal c g) (granted_always IfSo no_end v x.journal x.journal c g) y))
    stepped x mid i (scenes.Received v p ms told s o up q f d w e) k =
        let own = entry.Got v ∷ [] in
        let t = core x.world v in
        let m = mine v x k in
        let n : s.next_call ≡ t.next_call = asked.messages t p told s f d in
        let begun : Begins v (x.journal ++ own) (S v) (E v) (ends_so v) t = (still_outcomes v x.journal own t.outcomes m.0, still_questions v x.journal own t.questions m.1) in
        let says : SaysSo v (x.journal ++ own) (S v) (E v) (ends_so v) t p = λ y z c f0 f1 f2 f3. later_call v x.journal own c.0 (S v (value_of_results y.said)) (returns x i v p ms q y z c f0 f1 f2 f3) in
        let y = messages v (x.journal ++ own) (S v) (E v) (ends_so v) t p told s f says begun d in
        rw e (took v x ms told s (own ++ effect_entries v told) (moved x v told s own k (λ c l. m.2 c (omega arith)) (λ c l. refl) (λ c. refl) (tt, tt) y))
    stepped x mid i (scenes.GivesUp v c o r f e) k = rw e (gave_up x v (granted_entries x.journal v c granted.Done) (done_none x.journal v c) (granted_always IfSo no_end v x.journal x.journal c granted.Done) k)
    stepped x mid i (scenes.Stops v o e) k = rw e (gave_up x v [] (λ u c. refl) tt k)

    none : (v : Vat) (o : Option ObjectId) → Mine v [] (start v One o)
    none v o = (
      λ k. subst (OutcomeCalled v []) (sym (map.get-empty nat_cmp k)) tt,
      λ q. subst (QuestionAsked v []) (sym (map.get-empty nat_cmp q)) tt,
      λ c l. refl,
    )

    good : (x : Scene) → IsScene a b x → Good x
    good x k = in_each a b Good stepped (none A a, none B b, tt) x k

-- ---- With nothing asked of a Bootstrap

abbrev Any : Vat → Value → Type 0
Any v y = Unit {0}

abbrev AnyEnd : Vat → Outcome → List RefId → Type 0
AnyEnd v y rs = Unit {0}

any_good : (a b : Option ObjectId) (x : Scene) → IsScene a b x → Good a b Any AnyEnd (λ v y n f. f) x
any_good a b x k = good a b Any AnyEnd (λ v y n f. f) (λ y i u p ms e z q c f g w l. inr tt) x k

pub numbers_asked : NumbersAreAsked
numbers_asked a b x k v = let m = mine a b Any AnyEnd (λ u y n f. f) v x (any_good a b x k) in record { outcomes = m.0; questions = m.1; later = m.2 }

as_asked : (a b : Option ObjectId) (h : List JournalEntry) (e : JournalEntry) → IfSo a b Any AnyEnd (λ v y n f. f) h e → IfAsked (history a b h) e
as_asked a b h (entry.Ended v x) i = i.0
as_asked a b h e i = tt

pub ends_asked : EndsWereAsked
ends_asked a b x k before behind e f = as_asked a b before e (upto (IfSo a b Any AnyEnd (λ v y n g. g)) [] x.journal before behind e (any_good a b x k).2 f)

-- ---- Bootstraps

same_root : (a b : Option ObjectId) (h k : List JournalEntry) (v : Vat) → root (history a b h) v ≡ root (history a b k) v
same_root a b h k A = refl
same_root a b h k B = refl

-- The oldest message is none that comes back.
abbrev pub OldestIsPlain : Type 0
OldestIsPlain = (a b : Option ObjectId) (x : Scene) → IsScene a b x → (v : Vat) (m : Message) (ms : List Message) → inbox x.world v ≡ m ∷ ms → (p : PlainMessage) × (m ≡ message.Plain p)

module _ (is_plain : OldestIsPlain) (a b : Option ObjectId) (roots : RootsReturn a b) where
  abbrev Root : Vat → Value → Type 0
  Root v y = SaysRoot (root (history a b []) (other_vat v)) y

  abbrev Ends : Vat → Outcome → List RefId → Type 0
  Ends v y rs = EndsRoot (root (history a b []) (other_vat v)) y rs

  returned : (x : Scene) → IsScene a b x → (v : Vat) (m : Message) (ms : List Message) → inbox x.world v ≡ m ∷ ms → SaysSo v x.journal (Root v) (Ends v) (λ y k f. says_ends _ y k f) (core x.world v) m
  returned x i v m ms e y q c brings get n l = by_asking (subst (RoleAsked v x.journal) l (subst (QuestionAsked v x.journal) get ((numbers_asked a b x i v).questions y.question)))
    where
      s : State
      s = core x.world v

      plain_says : (r : Return) → m ≡ message.Plain (plain.Return r) → y ≡ returning s r → asking x.journal v c.0 ≡ Some OfBootstrap → Root v (value_of_results y.said)
      plain_says r f g o =
          let there : map.get s.questions r.answer.0 ≡ Some q = subst (λ (z : Back). map.get s.questions z.question ≡ Some q) g get in
          let first : inbox x.world v ≡ message.Plain (plain.Return r) ∷ ms = e ∙ ap (λ (z : Message). z ∷ ms) f in
          subst (λ (z : Back). Root v (value_of_results z.said)) (sym g)
          (subst (λ (z : Option ℕ). SaysRoot z (value_of_results (results_of s r.body))) (same_root a b x.journal [] (other_vat v)) (roots x i v r ms q c first there l n o))

      by_brings : Brings s m y → asking x.journal v c.0 ≡ Some OfBootstrap → Root v (value_of_results y.said)
      by_brings (heard.ByReturn r f g) o = plain_says r f g o
      by_brings (heard.ByEchoedRoot p f g) o = let z = is_plain a b x i v m ms e in let w : message.Plain z.0 ≡ message.Unimplemented (plain.Bootstrap p) = sym z.1 ∙ f in absurd (let u = w in cc)
      by_brings (heard.ByEchoedCall p f g) o = let z = is_plain a b x i v m ms e in let w : message.Plain z.0 ≡ message.Unimplemented (plain.Call p) = sym z.1 ∙ f in absurd (let u = w in cc)

      by_asking : WasAsked v x.journal c.0 → IsCall v x.journal c.0 ⊎ Root v (value_of_results y.said)
      by_asking (OfBootstrap, o) = inr (by_brings brings o)
      by_asking (OfCall t, o) = inl (t, o)

  end_so : (h : List JournalEntry) (v : Vat) (x : Ended) → EndSo v h (Root v) (Ends v) x → asking h v x.call.0 ≡ Some OfBootstrap → EndsRoot (root (history a b h) (other_vat v)) x.outcome x.refs
  end_so h v x (was, inl f) g = absurd (let e : Some (OfCall f.0) ≡ Some OfBootstrap = sym f.1 ∙ g in cc)
  end_so h v x (was, inr f) g = subst (λ (z : Option ℕ). EndsRoot z x.outcome x.refs) (same_root a b [] h (other_vat v)) f

  as_root : (h : List JournalEntry) (e : JournalEntry) → IfSo a b Root Ends (λ v y k f. says_ends _ y k f) h e → IfRoot (history a b h) e
  as_root h (entry.Ended v x) f = end_so h v x f
  as_root h e f = tt

  all_roots : (x : Scene) → IsScene a b x → Upto IfRoot (history a b x.journal)
  all_roots x k before behind e f =
      as_root before e (upto (IfSo a b Root Ends (λ v y n g. says_ends _ y n g)) [] x.journal before behind e (good a b Root Ends (λ v y n g. says_ends _ y n g) returned x k).2 f)

pub roots_left : OldestIsPlain → RootsAreLeft
roots_left p a b r x k = all_roots p a b r x k
