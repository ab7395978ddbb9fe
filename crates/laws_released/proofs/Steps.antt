-- Each step, and each run.
use Rattle.std.proofs.Common.{◌≡◌, ◌≢◌, ◌⊎◌, inl, inr, ℕ, zero, suc, ◌<◌, Bool, true, false, cond, List, [], ◌∷◌, Option, None, Some, Result, Ok, Err, refl, sym, ap, subst, ◌∙◌, arith}
use Rattle.std.specs.FinMap as map
use Rattle.finite_maps.proofs.Tested.{itself, equal}
use Rattle.rpc_msg.specs.declared.ids.Vat.{Vat}
use Rattle.rpc_msg.specs.declared.ids.ObjectId.{ObjectId}
use Rattle.rpc_msg.specs.declared.ids.ExportId.{ExportId}
use Rattle.rpc_msg.specs.declared.message.PlainMessage.TheVariants as plain
use Rattle.rpc_msg.specs.declared.message.Message.{Message}
use Rattle.rpc_msg.specs.declared.message.Message.TheVariants as message
use Rattle.rpc_machine.specs.rpc_journal.specs.declared.report.Delivery.{Delivery}
use Rattle.rpc_machine.specs.declared.node.Node.{Node}
use Rattle.rpc_machine.specs.declared.node.Node.TheVariants as node
use Rattle.rpc_machine.specs.declared.command.Command.{Command}
use Rattle.rpc_machine.specs.declared.command.Command.TheVariants as command
use Rattle.rpc_machine.specs.declared.command.Granted.{Granted}
use Rattle.rpc_machine.specs.declared.command.Refusal.{Refusal}
use Rattle.rpc_machine.specs.declared.command.Effects.{Effects}
use Rattle.rpc_machine.specs.declared.command.Level.{Level}
use Rattle.rpc_machine.specs.declared.entries.AnswerEntry.{AnswerEntry}
use Rattle.rpc_machine.specs.State.{State, start}
use Rattle.rpc_machine.specs.Lists.{how_many}
use Rattle.rpc_machine.specs.Places.{places, names, named_by_reference, named_by_embargo, named_by_promise, named_by_outcome, named_by_question, named_by_import, named_by_export, named_by_answer, named_by_taken, imports_of}
use Rattle.rpc_machine.specs.Faults.{fault_of}
use Rattle.rpc_machine.specs.Numbers.{want_of_room}
use Rattle.rpc_machine.specs.Down.{IsUnchanged, Falls, ShutsFrom, fallen}
use Rattle.rpc_machine.specs.Steps.{Does, Handles, Obeys, Refuses, LacksMemory, GoesDown, Shuts, IsDone, Receives, WasDown, FaultsBy, LacksRoom, IsHandled}
use Rattle.laws_acts.specs.Moments.{Moment}
use Rattle.laws_acts.specs.SmallActs.{Acts, DoesActs, HandlesActs}
use Rattle.laws_acts.proofs.EachStep.{Ended, done, handled, at_end}
use Rattle.laws_acts.proofs.EachStep as each
use Rattle.laws_steps.specs.Settled.{IsAmong}
use Rattle.laws_steps.specs.NodesThere.{ComesTo}
use Rattle.laws_steps.specs.NodesThere as run
use Rattle.laws_steps.proofs.Among.{none_among, where_named}
use Rattle.laws_steps.proofs.NamedNodes.{AllIn, entry, EachIn, all_none, renamed_places}
use Rattle.laws_steps.proofs.NamedPieces.{all_of_map}
use Rattle.laws_steps.proofs.Reached.{no_entry}
use Rattle.laws_authority.specs.Reach.{IsIn}
use Rattle.laws_authority.specs.Grants.{Opens}
use Rattle.laws_authority.proofs.Once.{no_deliveries}
use Rattle.laws_authority.proofs.Roots.{opens_quietly}
use Rattle.laws_released.specs.Names.{is_object, IsNamed, DeliveriesAreNamed, Hosts, NamesComeByHost, HostedIsNamed, NamedWithin}
use Rattle.laws_released.specs.Released.{ComesUnhosted, ReleasedStays, IsReleased, IsReleasedIn, NoneIsMissed}
use Rattle.laws_released.specs.Released as comes
use Rattle.laws_released.proofs.Held.{In, Names}
use Rattle.laws_released.proofs.Acted.{Holds, DeliveriesIn, acted}
use Rattle.laws_released.proofs.First.{started, consumed}
use Rattle.laws_released.proofs.Hosting.{hosted}

-- ---- What is counted

-- If a list names objects of the set alone, an object that it names is in the set.
found : (A : ObjectId → Type 0) (o : ObjectId) (ns : List Node) → AllIn (In A) ns → 0 < how_many (is_object o) ns → A o
found A o [] a h = absurd (omega (arith, h))
found A o (n ∷ ns) a h = by (found A o ns (λ m i. a m (inr i))) (is_object o n) refl h
  where
    that : (m : Node) → is_object o m ≡ true → In A m → A o
    that (node.Object x) e f = let g : x.0 ≡ o.0 = equal x.0 o.0 e in let k : x ≡ o = ap (λ (i : ℕ). let y : ObjectId = record { 0 = i } in y) g in subst A k f
    that (node.Promise p) e f = absurd (let g : false ≡ true = e in cc)
    that (node.Field q path) e f = absurd (let g : false ≡ true = e in cc)
    that (node.Import i) e f = absurd (let g : false ≡ true = e in cc)
    that (node.Pipe q path) e f = absurd (let g : false ≡ true = e in cc)
    that (node.Broken reason) e f = absurd (let g : false ≡ true = e in cc)

    by : (0 < how_many (is_object o) ns → A o) → (b : Bool) → is_object o n ≡ b → 0 < cond b (suc (how_many (is_object o) ns)) (how_many (is_object o) ns) → A o
    by rest true e g = that n e (a n (inl refl))
    by rest false e g = rest g

counted : (o : ObjectId) (ns : List Node) → IsAmong (node.Object o) ns → 0 < how_many (is_object o) ns
counted o ns h = by (how_many (is_object o) ns) refl
  where
    by : (k : ℕ) → how_many (is_object o) ns ≡ k → 0 < how_many (is_object o) ns
    by zero e = absurd (let f : true ≡ false = sym (itself o.0) ∙ none_among (is_object o) ns e (node.Object o) h in cc)
    by (suc k) e = omega (arith, e)

-- ---- From what places name to the set, and back

module _ (A : ObjectId → Type 0) (s : State) where
  all : ((o : ObjectId) → IsNamed s o → A o) → Names true A s
  all sub = let r = renamed_places (λ n. Unit {0}) (In A) s (λ n i u. at n i) (λ k n i. tt, λ k n i. tt, λ k n i. tt, λ k n i. tt, λ k n i. tt, λ k n i. tt, λ k n i. tt, λ k n i. tt) in (r.0, r.1, r.2, r.3, r.4, r.5, r.6)
    where
      at : (n : Node) → IsAmong n (places s) → In A n
      at (node.Object o) i = sub o (counted o (places s) i)
      at (node.Promise p) i = tt
      at (node.Field q path) i = tt
      at (node.Import e) i = tt
      at (node.Pipe q path) i = tt
      at (node.Broken reason) i = tt

  imports_in : (es : List ExportId) → AllIn (In A) (imports_of es)
  imports_in [] n i = absurd i
  imports_in (e ∷ es) n (inl f) = subst (In A) (sym f) tt
  imports_in (e ∷ es) n (inr i) = imports_in es n i

  answers_in : EachIn (In A) named_by_answer s.answers
  answers_in q = by (map.get s.answers q)
    where
      taken : (ids : List ExportId) (r : Option (List ExportId)) → AllIn (In A) (named_by_taken ids r)
      taken ids None = imports_in ids
      taken ids (Some given) = all_none (In A)

      by : (o : Option AnswerEntry) → AllIn (In A) (entry named_by_answer q o)
      by None = all_none (In A)
      by (Some x) = taken x.taken x.returned

  named_in : Names true A s → AllIn (In A) (places s)
  named_in t n i =
      where_named s n
      (all_of_map (In A) named_by_reference s.refs t.0 n)
      (all_of_map (In A) named_by_embargo s.embargoes t.1 n)
      (all_of_map (In A) named_by_promise s.promises t.2 n)
      (all_of_map (In A) named_by_outcome s.outcomes t.3 n)
      (all_of_map (In A) named_by_question s.questions t.4 n)
      (all_of_map (In A) named_by_import s.imports t.5 n)
      (all_of_map (In A) named_by_export s.exports t.6 n)
      (all_of_map (In A) named_by_answer s.answers answers_in n)
      i

  of_set : Names true A s → (o : ObjectId) → IsNamed s o → A o
  of_set t o h = found A o (places s) (named_in t) h

delivered : (w : Bool) (A : ObjectId → Type 0) (b : Option ObjectId) (ys : List Delivery) (y : Delivery) → DeliveriesIn w A b ys → IsIn y ys → A y.object
delivered w A b [] y a i = absurd i
delivered w A b (z ∷ zs) y a (inl e) = subst (λ (v : Delivery). A v.object) e a.0
delivered w A b (z ∷ zs) y a (inr i) = delivered w A b zs y a.1 i

-- ---- A vat that fell names nothing

empty_names : (v : Vat) (l : Level) (b : Option ObjectId) (down : Option ℕ) → Names true (λ o. ⊥) (record (start v l b) { down = down })
empty_names v l b down =
    let P = In (λ o. ⊥) in (
      λ k. no_entry (λ o. AllIn P (entry named_by_reference k o)) k (all_none P),
      λ k. no_entry (λ o. AllIn P (entry named_by_embargo k o)) k (all_none P),
      λ k. no_entry (λ o. AllIn P (entry named_by_promise k o)) k (all_none P),
      λ k. no_entry (λ o. AllIn P (entry named_by_outcome k o)) k (all_none P),
      λ k. no_entry (λ o. AllIn P (entry named_by_question k o)) k (all_none P),
      λ k. no_entry (λ o. AllIn P (entry named_by_import k o)) k (all_none P),
      λ k. no_entry (λ o. AllIn P (entry named_by_export k o)) k (all_none P),
    )

pub none_named : (v : Vat) (l : Level) (b : Option ObjectId) (down : Option ℕ) (o : ObjectId) → IsNamed (record (start v l b) { down = down }) o → ⊥
none_named v l b down o h = of_set (λ x. ⊥) (record (start v l b) { down = down }) (empty_names v l b down) o h

none_fallen : (s : State) (n : ℕ) (o : ObjectId) → IsNamed (fallen s n) o → ⊥
none_fallen s n o h = none_named s.vat s.level s.bootstrap (Some n) o h

-- ---- Each step that is done

-- What is read off the end of a step: objects of A are named, and deliveries are to objects of B.
pub record Reads (s : State) (x : Effects) (t : State) (A B : ObjectId → Type 0) : Type 0 where
  pub root : t.bootstrap ≡ s.bootstrap
  pub names : (o : ObjectId) → IsNamed t o → A o
  pub deliveries : (y : Delivery) → IsIn y x.deliveries → B y.object

module _ (s : State) (c : Command) where
  abbrev pub After : Result Granted Refusal → ObjectId → Type 0
  After a o = IsNamed s o ⊎ Hosts c a o

  does : (g : Granted) (x : Effects) (t : State) → Does s c g x t → Reads s x t (After (Ok g)) (IsNamed s)
  does g x t h =
      let A = After (Ok g) in
      let wide = done (Holds true A s.bootstrap) s c g x t (started true A s (all A s (λ o i. inl i)) c (λ o e. inr e) g) (acted true A s.bootstrap) h in
      let exact = done (Holds false (IsNamed s) s.bootstrap) s c g x t (started false (IsNamed s) s (all (IsNamed s) s (λ o i. i)) c (λ o e. tt) g) (acted false (IsNamed s) s.bootstrap) h in
      let a = at_end (λ (u : State) (z : Effects). (u.bootstrap ≡ s.bootstrap) × Names true A u) wide.last x t wide.ends (wide.holds.root, wide.holds.names) in
      let b = at_end (λ (u : State) (z : Effects). DeliveriesIn false (IsNamed s) s.bootstrap z.deliveries) exact.last x t exact.ends exact.holds.deliveries in
      record { root = a.0; names = of_set A t a.1; deliveries = λ y i. delivered false (IsNamed s) s.bootstrap x.deliveries y b i }

  same : (A : ObjectId → Type 0) (x : Effects) (t : State) → ((o : ObjectId) → IsNamed s o → A o) → IsUnchanged s x t → Reads s x t A (IsNamed s)
  same A x t f h = rw (h.effects_are, h.new_is) (record { root = refl; names = f; deliveries = λ y i. absurd i })

  fell : (A : ObjectId → Type 0) (n : ℕ) (x : Effects) (t : State) → Falls s n x t → Reads s x t A (IsNamed s)
  fell A n x t h = rw (h.effects_are, h.new_is) (record { root = refl; names = λ o i. absurd (none_fallen s n o i); deliveries = λ y i. absurd i })

  shut : (A : ObjectId → Type 0) (n : ℕ) (d : Option ℕ) (x : Effects) (t : State) → ((o : ObjectId) → IsNamed s o → A o) → ShutsFrom s n d x t → Reads s x t A (IsNamed s)
  shut A n None x t f h = fell A n x t h
  shut A n (Some k) x t f h = same A x t f h

  pub of_command : (a : Result Granted Refusal) (x : Effects) (t : State) → Obeys s c a x t → Reads s x t (After a) (IsNamed s)
  of_command a x t (Refuses r f g u) = same (After a) x t (λ o i. inl i) u
  of_command a x t (LacksMemory f g k u) = same (After a) x t (λ o i. inl i) u
  of_command a x t (GoesDown f g k u) = fell (After a) want_of_room x t u
  of_command a x t (Shuts n f g h) = shut (After a) n s.down x t (λ o i. inl i) h
  of_command a x t (IsDone given f g h w) = subst (λ (z : Result Granted Refusal). Reads s x t (After z) (IsNamed s)) (sym g) (does given x t h)

module _ (s : State) (m : Message) where
  abbrev pub Known : ObjectId → Type 0
  Known o = IsNamed s o ⊎ Opens s m o

  handles : (x : Effects) (t : State) → fault_of s m ≡ None → Handles s m x t → Reads s x t Known (IsNamed s)
  handles x t free h =
      let k = handled (Holds true Known s.bootstrap) s m x t free (consumed true Known s (all Known s (λ o i. inl i)) m (λ o e. inr e)) (acted true Known s.bootstrap) h in
      let a = at_end (λ (u : State) (z : Effects). (u.bootstrap ≡ s.bootstrap) × Names true Known u × DeliveriesIn true Known s.bootstrap z.deliveries) k.last x t k.ends (k.holds.root, k.holds.names, k.holds.deliveries) in
      record { root = a.0; names = of_set Known t a.1; deliveries = λ y i. exactly y i (delivered true Known s.bootstrap x.deliveries y a.2 i) }
    where
      exactly : (y : Delivery) → IsIn y x.deliveries → Known y.object → IsNamed s y.object
      exactly y i (inl n) = n
      exactly y i (inr o) = let e = opens_quietly s m y.object x t o free h in absurd (subst (λ (ys : List Delivery). IsIn y ys) e i)

  pub of_message : (x : Effects) (t : State) → Receives s m x t → Reads s x t Known (IsNamed s)
  of_message x t (WasDown d u) = rw (u.effects_are, u.new_is) (record { root = refl; names = λ o i. inl i; deliveries = λ y i. absurd i })
  of_message x t (FaultsBy n d f g h) = rw (g, h) (record { root = refl; names = λ o i. absurd (none_fallen s n o i); deliveries = λ y i. absurd (subst (λ (ys : List Delivery). IsIn y ys) (no_deliveries m n) i) })
  of_message x t (LacksRoom d f u) = rw (u.effects_are, u.new_is) (record { root = refl; names = λ o i. absurd (none_fallen s want_of_room o i); deliveries = λ y i. absurd i })
  of_message x t (IsHandled d f h w) = handles x t f h

pub to_named : DeliveriesAreNamed
to_named = record {
  commands = λ s c a x t h y i. (of_command s c a x t h).deliveries y i;
  messages = λ s m x t h y i. (of_message s m x t h).deliveries y i;
}

pub by_host : NamesComeByHost
by_host = record {
  commands = λ s c a x t h o i. (of_command s c a x t h).names o i;
  messages = λ s m x t h o i. (of_message s m x t h).names o i;
}

-- ---- Each run

unnamed : (t : State) (o : ObjectId) → (IsNamed t o → ⊥) → names t (is_object o) ≡ 0
unnamed t o f = by (names t (is_object o)) refl
  where
    by : (k : ℕ) → names t (is_object o) ≡ k → names t (is_object o) ≡ 0
    by zero e = e
    by (suc k) e = absurd (f (omega (arith, e)))

not_named : (s : State) (o : ObjectId) → names s (is_object o) ≡ 0 → IsNamed s o → ⊥
not_named s o e h = absurd (omega (arith, e, h))

not_opened : (s : State) (m : Message) (o : ObjectId) → s.bootstrap ≢ Some o → Opens s m o → ⊥
not_opened s (message.Plain (plain.Bootstrap q)) o f e = f e
not_opened s (message.Plain (plain.Abort exception)) o f e = e
not_opened s (message.Plain (plain.Call c)) o f e = e
not_opened s (message.Plain (plain.Return r)) o f e = e
not_opened s (message.Plain (plain.Finish k)) o f e = e
not_opened s (message.Plain (plain.Resolve r)) o f e = e
not_opened s (message.Plain (plain.Release r)) o f e = e
not_opened s (message.Plain (plain.Disembargo d)) o f e = e
not_opened s (message.Plain (plain.Other k)) o f e = e
not_opened s (message.Unimplemented p) o f e = e

module _ (o : ObjectId) where
  goes : (t s : State) → ComesUnhosted o t s → s.bootstrap ≢ Some o → names s (is_object o) ≡ 0 → names t (is_object o) ≡ 0
  goes t s comes.Stays f e = e
  goes t s (comes.Commanded {mid = mid} c a x h away more) f e =
      let r = of_command s c a x mid h in
      goes t mid more (λ g. f (sym r.root ∙ g)) (unnamed mid o (λ i. by (r.names o i)))
    where
      by : IsNamed s o ⊎ Hosts c a o → ⊥
      by (inl i) = not_named s o e i
      by (inr i) = away i
  goes t s (comes.Received {mid = mid} m x h more) f e =
      let r = of_message s m x mid h in
      goes t mid more (λ g. f (sym r.root ∙ g)) (unnamed mid o (λ i. by (r.names o i)))
    where
      by : IsNamed s o ⊎ Opens s m o → ⊥
      by (inl i) = not_named s o e i
      by (inr i) = not_opened s m o f i
  goes t s (comes.Fell n more) f e = goes t (fallen s n) more f (unnamed (fallen s n) o (λ i. none_fallen s n o i))

  never : (t s : State) → ComesUnhosted o t s → s.bootstrap ≢ Some o → names s (is_object o) ≡ 0 → (y : Delivery) → IsNamed t y.object → y.object ≢ o
  never t s k f e y i g = not_named t o (goes t s k f e) (subst (IsNamed t) g i)

pub stays_released : ReleasedStays
stays_released = record {
  unnamed = λ o t s k f e. goes o t s k f e;
  commands = λ o t s k f e c a x u h y i. never o t s k f e y ((of_command t c a x u h).deliveries y i);
  messages = λ o t s k f e m x u h y i. never o t s k f e y ((of_message t m x u h).deliveries y i);
}

-- ---- Inside a step

pub is_hosted : HostedIsNamed
is_hosted s o g x t (Refuses r f k u) = absurd (let e : Ok g ≡ Err r = k in cc)
is_hosted s o g x t (LacksMemory f l k u) = absurd (let e : Ok g ≡ Err _ = k in cc)
is_hosted s o g x t (GoesDown f l k u) = absurd l
is_hosted s o g x t (Shuts n f k h) = absurd cc
is_hosted s o g x t (IsDone given f k h w) = counted o (places t) (hosted s o given x t h)

-- At each moment of a step.
at_moment : (A : ObjectId → Type 0) (b : Option ObjectId) (d first : Moment) → Acts d first → Holds true A b first → (o : ObjectId) → IsNamed d.state o → A o
at_moment A b d first more i o h = let k = each.kept (Holds true A b) (acted true A b) d first more i in of_set A d.state k.names o h

inside_command : (s : State) (c : Command) (g : Granted) (x : Effects) (t : State) (k : DoesActs s c g x t) (d : Moment) → Acts d k.started → (o : ObjectId) → IsNamed d.state o → IsNamed s o ⊎ (c ≡ command.Host o)
inside_command s c g x t k d more o h =
    let A : ObjectId → Type 0 = λ z. IsNamed s z ⊎ (c ≡ command.Host z) in
    at_moment A s.bootstrap d k.started more (started true A s (all A s (λ z i. inl i)) c (λ z e. inr e) g k.started k.starts) o h

inside_message : (s : State) (m : Message) (x : Effects) (t : State) (k : HandlesActs s m x t) (d : Moment) → Acts d k.consumed → (o : ObjectId) → IsNamed d.state o → IsNamed s o ⊎ Opens s m o
inside_message s m x t k d more o h =
    let A : ObjectId → Type 0 = λ z. IsNamed s z ⊎ Opens s m z in
    at_moment A s.bootstrap d k.consumed more (consumed true A s (all A s (λ z i. inl i)) m (λ z e. inr e) k.consumed k.consumes) o h

pub inside : NamedWithin
inside = record { commands = inside_command; messages = inside_message }

-- ---- None is missed

still : (o : ObjectId) (s mid : State) (P : Type 0) → mid.bootstrap ≡ s.bootstrap → s.bootstrap ≢ Some o → IsNamed s o → (mid.bootstrap ≢ Some o → IsNamed mid o → P) → IsReleased s mid o ⊎ P
still o s mid P root f i on = by (names mid (is_object o)) refl
  where
    by : (k : ℕ) → names mid (is_object o) ≡ k → IsReleased s mid o ⊎ P
    by zero e = inl (record { before = i; after = e; other = f })
    by (suc k) e = inr (on (λ g. f (sym root ∙ g)) (omega (arith, e)))

pub none_missed : NoneIsMissed
none_missed o t s run.Stays f i e = absurd (not_named s o e i)
none_missed o t s (run.Commanded {mid = mid} c a x h more) f i e = still o s mid (IsReleasedIn o t mid more) (of_command s c a x mid h).root f i (λ g j. none_missed o t mid more g j e)
none_missed o t s (run.Received {mid = mid} m x h more) f i e = still o s mid (IsReleasedIn o t mid more) (of_message s m x mid h).root f i (λ g j. none_missed o t mid more g j e)
none_missed o t s (run.Fell n more) f i e = tt
