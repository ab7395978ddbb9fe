-- What is of a call stays of it with what each vat writes.
use Rattle.std.proofs.Common.{◌≡◌, ◌⊎◌, inl, inr, ℕ, Option, None, Some, List, ◌∷◌, ◌++◌, refl, sym, ap, subst, ◌∙◌}
use Rattle.std.specs.FinMap as map
use Rattle.rpc_msg.specs.declared.ids.Vat.{Vat}
use Rattle.rpc_msg.specs.declared.ids.Stamp.{Stamp}
use Rattle.rpc_msg.specs.declared.message.Message.{Message}
use Rattle.rpc_msg.specs.Vats.{other_vat}
use Rattle.rpc_journal.specs.declared.entry.JournalEntry.{JournalEntry}
use Rattle.rpc_journal.specs.History.{or_rest}
use Rattle.rpc_journal.specs.Sources.{Asking, asking_one}
use Rattle.rpc_machine.specs.declared.calls.Caller.{Caller}
use Rattle.rpc_machine.specs.declared.calls.Caller.TheVariants as caller
use Rattle.rpc_machine.specs.declared.calls.KeptOutcome.{KeptOutcome}
use Rattle.rpc_machine.specs.declared.calls.Value.{Value}
use Rattle.rpc_machine.specs.declared.command.Effects.{Effects}
use Rattle.rpc_machine.specs.State.{State}
use Rattle.rpc_machine.specs.Journal.{effect_entries}
use Rattle.laws_steps.specs.Callers.{IsOpenFor}
use Rattle.laws_runs.proofs.Reading as reading
use Rattle.laws_runs.proofs.Reading.{still_first}
use Rattle.laws_meanings.specs.Identities.{asked_in, asked_last, last_asked, asked_of, DeliveredIn, IfNone, IsOf, PromiseIs, KeptIs, EmbargoIs, TaskIs, QuestionIs, AreAskedLast}
use Rattle.laws_meanings.proofs.Identified.{Soft, Apps, soft_promise, soft_kept, soft_embargo, soft_task, soft_question, last-append}
use Rattle.laws_meanings.proofs.LastAsked.{none_more, of_effects, of_other_effects, asked-append, ahead, behind, in_effects}
use Rattle.laws_meanings.specs.NodeLabels.{IsIn}

-- ---- What a state has, seen with less and with more

abbrev pub Parts : (Caller → Option Asking) → (ℕ → Option Asking) → (ℕ → Stamp → Type 0) → State → Type 0
Parts C L T s =
    ((k : ℕ) → TaskIs C s.outcomes T k (map.get s.tasks k)) × ((q : ℕ) → QuestionIs C s.outcomes (L q) (map.get s.questions q)) × ((p : ℕ) → PromiseIs C s.outcomes (map.get s.promises p))
    × ((o : ℕ) → KeptIs C s.outcomes (map.get s.outcomes o)) × ((e : ℕ) → EmbargoIs C s.outcomes (map.get s.embargoes e))

pub carry : (C D : Caller → Option Asking) (L M : ℕ → Option Asking) (T V : ℕ → Stamp → Type 0) (s : State) → Soft C s.outcomes D s.outcomes → Apps C D → ((q : ℕ) (a : Asking) → L q ≡ Some a → M q ≡ Some a) → ((k : ℕ) (z : Stamp) → T k z → V k z)
    → Parts C L T s → Parts D M V s
carry C D L M T V s f g l t i = (
  λ k. soft_task C s.outcomes D s.outcomes f T V t k (map.get s.tasks k) (i.0 k),
  λ q. soft_question C s.outcomes D s.outcomes f g (L q) (M q) (l q) (map.get s.questions q) (i.1 q),
  λ p. soft_promise C s.outcomes D s.outcomes f (map.get s.promises p) (i.2 p),
  λ o. soft_kept C s.outcomes D s.outcomes f (map.get s.outcomes o) (i.3 o),
  λ e. soft_embargo C s.outcomes D s.outcomes f (map.get s.embargoes e) (i.4 e),
)

-- What each caller asked is still what it asked.
abbrev Still : (Caller → Option Asking) → (Caller → Option Asking) → Type 0
Still C D = (who : Caller) (a : Asking) → C who ≡ Some a → D who ≡ Some a

still_soft : (C D : Caller → Option Asking) (s : State) → Still C D → Soft C s.outcomes D s.outcomes
still_soft C D s f o a = by (map.get s.outcomes o)
  where
    at : (v : Option Value) (who : Caller) → IfNone v (C who ≡ Some a) → IfNone v (D who ≡ Some a)
    at None who i = f who a i
    at (Some w) who i = tt

    by : (x : Option KeptOutcome) → IsOf C a x → IsOf D a x
    by None i = tt
    by (Some x) i = at x.value x.caller i

-- ---- One vat's

abbrev pub Mine : List JournalEntry → Vat → State → Type 0
Mine h v s = Parts (asked_of h v) (last_asked h v) (DeliveredIn h v) s

pub same_last : (h es : List JournalEntry) (v : Vat) (q : ℕ) (a : Asking) → last_asked es v q ≡ None → last_asked h v q ≡ Some a → last_asked (h ++ es) v q ≡ Some a
same_last h es v q a e f = none_more v q h es e ∙ f

-- With entries of which none asks.
pub quiet_still : (h es : List JournalEntry) (v : Vat) → ((u : Vat) (q : ℕ) → last_asked es u q ≡ None) → Still (asked_of h v) (asked_of (h ++ es) v)
quiet_still h es v n (caller.Application c) a i = still_first (asking_one v c.0) h es a i
quiet_still h es v n (caller.Peer q) a i = same_last h es (other_vat v) q.0 a (n (other_vat v) q.0) i

pub quiet_mine : (h es : List JournalEntry) (v : Vat) (s : State) → ((u : Vat) (q : ℕ) → last_asked es u q ≡ None) → Mine h v s → Mine (h ++ es) v s
quiet_mine h es v s n i =
    let f = quiet_still h es v n in
    carry (asked_of h v) (asked_of (h ++ es) v) (last_asked h v) (last_asked (h ++ es) v) (DeliveredIn h v) (DeliveredIn (h ++ es) v) s (still_soft (asked_of h v) (asked_of (h ++ es) v) s f)
    (λ c a e. f (caller.Application c) a e) (λ q a e. same_last h es v q a (n v q) e) (λ k z t. ahead v k z h es t) i

-- The vat's own effects.
effects_still : (h : List JournalEntry) (v : Vat) (x : Effects) → Still (asked_of h v) (asked_of (h ++ effect_entries v x) v)
effects_still h v x (caller.Application c) a i = still_first (asking_one v c.0) h (effect_entries v x) a i
effects_still h v x (caller.Peer q) a i = same_last h (effect_entries v x) (other_vat v) q.0 a (of_other_effects (other_vat v) q.0 v (reading.other v) x) i

pub moved : (h : List JournalEntry) (v : Vat) (t : State) (x : Effects) → Parts (asked_of h v) (λ q. or_rest (asked_last q x.sends) (last_asked h v q)) (λ k z. DeliveredIn h v k z ⊎ IsIn k z x.deliveries) t → Mine (h ++ effect_entries v x) v t
moved h v t x i =
    let es = effect_entries v x in
    let f = effects_still h v x in
    carry (asked_of h v) (asked_of (h ++ es) v) (λ q. or_rest (asked_last q x.sends) (last_asked h v q)) (last_asked (h ++ es) v) (λ k z. DeliveredIn h v k z ⊎ IsIn k z x.deliveries) (DeliveredIn (h ++ es) v) t (still_soft (asked_of h v) (asked_of (h ++ es) v) t f)
    (λ c a e. f (caller.Application c) a e) (λ q a e. asked-append h es v q ∙ ap (λ (o : Option Asking). or_rest o (last_asked h v q)) (of_effects v q x) ∙ e) (λ k z t. by k z t) i
  where
    by : (k : ℕ) (z : Stamp) → DeliveredIn h v k z ⊎ IsIn k z x.deliveries → DeliveredIn (h ++ effect_entries v x) v k z
    by k z (inl d) = ahead v k z h (effect_entries v x) d
    by k z (inr d) = behind v k z h (effect_entries v x) (in_effects v k z x d)

-- ---- The other vat's

-- None of these asks with an id for which an outcome is open.
abbrev pub NoneOpen : State → List Message → Type 0
NoneOpen s ms = (o q : ℕ) → IsOpenFor q (map.get s.outcomes o) → asked_last q ms ≡ None

-- Where v wrote entries by which it asked what it sent.
pub theirs : (h es : List JournalEntry) (v : Vat) (s : State) (ms : List Message) → ((q : ℕ) → last_asked es v q ≡ asked_last q ms) → ((q : ℕ) → last_asked es (other_vat v) q ≡ None) → NoneOpen s ms → other_vat (other_vat v) ≡ v → Mine h (other_vat v) s → Mine (h ++ es) (other_vat v) s
theirs h es v s ms e f n twice i =
    carry (asked_of h u) (asked_of (h ++ es) u) (last_asked h u) (last_asked (h ++ es) u) (DeliveredIn h u) (DeliveredIn (h ++ es) u) s soft
    (λ c a j. still_first (asking_one u c.0) h es a j) (λ q a j. same_last h es u q a (f q) j) (λ k z t. ahead u k z h es t) i
  where
    u : Vat
    u = other_vat v

    soft : Soft (asked_of h u) s.outcomes (asked_of (h ++ es) u) s.outcomes
    soft o a = by (map.get s.outcomes o) (n o)
      where
        peer : (q : ℕ) → asked_last q ms ≡ None → last_asked h (other_vat u) q ≡ Some a → last_asked (h ++ es) (other_vat u) q ≡ Some a
        peer q g j = same_last h es (other_vat u) q a (subst (λ (w : Vat). last_asked es w q ≡ None) (sym twice) (e q ∙ g)) j

        at : (y : Option Value) (who : Caller) → ((q : ℕ) → (y ≡ None) × (who ≡ caller.Peer (record { 0 = q })) → asked_last q ms ≡ None) → IfNone y (asked_of h u who ≡ Some a) → IfNone y (asked_of (h ++ es) u who ≡ Some a)
        at (Some w) who g j = tt
        at None (caller.Application c) g j = still_first (asking_one u c.0) h es a j
        at None (caller.Peer q) g j = peer q.0 (g q.0 (refl, refl)) j

        by : (x : Option KeptOutcome) → ((q : ℕ) → IsOpenFor q x → asked_last q ms ≡ None) → IsOf (asked_of h u) a x → IsOf (asked_of (h ++ es) u) a x
        by None g j = tt
        by (Some x) g j = at x.value x.caller g j

-- ---- Links

-- What v sends is what it asked last.
pub sent_last : (h es : List JournalEntry) (v : Vat) (to ms : List Message) → ((q : ℕ) → last_asked es v q ≡ asked_last q ms) → AreAskedLast h v to → AreAskedLast (h ++ es) v (to ++ ms)
sent_last h es v to ms e i q a f = asked-append h es v q ∙ ap (λ (o : Option Asking). or_rest o (last_asked h v q)) (e q) ∙ by (asked_last q ms) (sym (last-append q to ms) ∙ f)
  where
    by : (o : Option Asking) → or_rest o (asked_last q to) ≡ Some a → or_rest o (last_asked h v q) ≡ Some a
    by None g = i q a g
    by (Some b) g = g

pub still_last : (h es : List JournalEntry) (v : Vat) (to : List Message) → ((q : ℕ) → last_asked es v q ≡ None) → AreAskedLast h v to → AreAskedLast (h ++ es) v to
still_last h es v to e i q a f = same_last h es v q a (e q) (i q a f)

pub rest_last : (h : List JournalEntry) (v : Vat) (m : Message) (ms : List Message) → AreAskedLast h v (m ∷ ms) → AreAskedLast h v ms
rest_last h v m ms i q a f = i q a (ap (λ (o : Option Asking). or_rest o (asked_in q m)) f)
