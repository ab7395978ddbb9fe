-- The ids of a vat's answers and imports are among those that the other vat may have, as long as what it hears asks and names within them.
use Rattle.std.specs.FinMap as map
use Rattle.std.specs.Ordering.{nat_cmp}
use Rattle.std.specs.List.{AllByRecursion}
use Rattle.std.proofs.Common.{◌≡◌, ℕ, ◌-◌, ◌≤◌, Bool, true, false, cond, nat_le, List, [], ◌∷◌, Option, None, Some, Result, refl, sym, subst, ap, ◌∙◌}
use Rattle.finite_maps.specs.Tally.{Map}
use Rattle.finite_maps.proofs.Tested.{at_cut, at_put}
use Rattle.rpc_msg.specs.declared.ids.ExportId.{ExportId}
use Rattle.rpc_msg.specs.declared.ids.ObjectId.{ObjectId}
use Rattle.rpc_msg.specs.declared.ids.Vat.{Vat}
use Rattle.rpc_msg.specs.declared.parts.Descriptor.{Descriptor}
use Rattle.rpc_msg.specs.declared.parts.Descriptor.TheVariants as descriptor
use Rattle.rpc_msg.specs.declared.message.Message.{Message}
use Rattle.rpc_msg.specs.declared.message.Message.TheVariants as message
use Rattle.rpc_msg.specs.declared.message.PlainMessage.TheVariants as plain
use Rattle.rpc_msg.specs.declared.message.ResolvedTo.{ResolvedTo}
use Rattle.rpc_msg.specs.declared.message.ResolvedTo.TheVariants as resolved
use Rattle.rpc_machine.specs.declared.command.Command.{Command}
use Rattle.rpc_machine.specs.declared.command.Effects.{Effects}
use Rattle.rpc_machine.specs.declared.command.Granted.{Granted}
use Rattle.rpc_machine.specs.declared.command.Level.{Level}
use Rattle.rpc_machine.specs.declared.command.Level.TheVariants.{One, Zero}
use Rattle.rpc_machine.specs.declared.command.Refusal.{Refusal}
use Rattle.rpc_machine.specs.declared.entries.AnswerEntry.{AnswerEntry}
use Rattle.rpc_machine.specs.declared.entries.Import.{Import}
use Rattle.rpc_machine.specs.declared.entries.Resolution.{Resolution}
use Rattle.rpc_machine.specs.declared.entries.Resolution.TheVariants as resolution
use Rattle.rpc_machine.specs.declared.entries.SenderKind.TheVariants as kind
use Rattle.rpc_machine.specs.Descriptors.{read, received, take_all, take_at, take_each, take_one}
use Rattle.rpc_machine.specs.Down.{ShutsFrom, fallen}
use Rattle.rpc_machine.specs.Flags.{flag_for, give_back, give_each, give_if, give_one}
use Rattle.rpc_machine.specs.Limits.{table_limit}
use Rattle.rpc_machine.specs.Lists.{updated}
use Rattle.rpc_machine.specs.Messages.{finished_map, resolve_import, set_resolution, take_resolve}
use Rattle.rpc_machine.specs.Progress.{numbers}
use Rattle.rpc_machine.specs.Settling.{returned_map}
use Rattle.rpc_machine.specs.State.{State, start}
use Rattle.rpc_machine.specs.Numbers.{want_of_room}
use Rattle.rpc_machine.specs.Steps.{Obeys, Receives}
use Rattle.rpc_machine.specs.Steps.Obeys.{Refuses, LacksMemory, GoesDown, Shuts, IsDone}
use Rattle.rpc_machine.specs.Steps.Receives.{WasDown, FaultsBy, LacksRoom, IsHandled}
use Rattle.rpc_outgoing.specs.Outflows.{AsksWithin, IsNamedWithin, NamesWithin}
use Rattle.laws_acts.specs.Moments.{Moment, beginning}
use Rattle.laws_acts.specs.FirstActs.{Starts}
use Rattle.laws_acts.specs.FirstActs as first
use Rattle.laws_acts.specs.MessageActs.{Back, Brings, ByReturn, ByEchoedRoot, ByEchoedCall, Consumes}
use Rattle.laws_acts.specs.MessageActs as taken
use Rattle.laws_acts.specs.SmallActs.{Act}
use Rattle.laws_acts.specs.SmallActs as act
use Rattle.laws_acts.proofs.EachStep.{done, handled}
use Rattle.laws_wired.specs.Wires.{IsHeard, AsSaid, OfCall, OfResults}
use Rattle.laws_in_bytes.proofs.Counting.{AreBelow, put_below}

abbrev pub HasSmallIds : State → Type 0
HasSmallIds s = AreBelow table_limit s.answers × AreBelow table_limit s.imports

-- ---- maps

empty_below : {X : Type 0} (n : ℕ) (m : Map X) → m ≡ map.empty → AreBelow n m
empty_below n m e k le = ap (λ (o : Map _). map.get o k) e ∙ map.get-empty nat_cmp k

cut_below : {X : Type 0} (n k : ℕ) (m : Map X) → AreBelow n m → AreBelow n (map.remove m k)
cut_below n k m below = at_cut (λ j o. n ≤ j → o ≡ None) m k (λ le. refl) (λ j other le. below j le)

-- An entry that is there is changed.
change_below : {X : Type 0} (n k : ℕ) (x y : X) (m : Map X) → map.get m k ≡ Some y → AreBelow n m → AreBelow n (map.insert m k x)
change_below n k x y m there below = at_put (λ j o. n ≤ j → o ≡ None) m k x (λ le. absurd (let bad : None ≡ Some y = sym (below k le) ∙ there in cc)) (λ j other le. below j le)

module _ (n : ℕ) where
  finished : (m : Map AnswerEntry) (k : ℕ) (a : AnswerEntry) (r : Option (List ExportId)) → map.get m k ≡ Some a → AreBelow n m → AreBelow n (finished_map m k a r)
  finished m k a None there below = change_below n k (record a { finished = true }) a m there below
  finished m k a (Some ids) there below = cut_below n k m below

  returned : (m : Map AnswerEntry) (k : ℕ) (a : AnswerEntry) (b : Bool) (ids : List ℕ) → map.get m k ≡ Some a → AreBelow n m → AreBelow n (returned_map m k a b ids)
  returned m k a true ids there below = cut_below n k m below
  returned m k a false ids there below = change_below n k _ a m there below

  gave_one : (m : Map Import) (e : ℕ) (o : Option Import) → map.get m e ≡ o → AreBelow n m → AreBelow n (give_one m e o)
  gave_one m e None there below = below
  gave_one m e (Some x) there below = by (nat_le x.count 1)
    where
      by : (b : Bool) → AreBelow n (cond b (map.remove m e) (map.insert m e (record x { count = x.count - 1 })))
      by true = cut_below n e m below
      by false = change_below n e (record x { count = x.count - 1 }) x m there below

  gave_each : (m : Map Import) (es : List ℕ) → AreBelow n m → AreBelow n (give_each m es)
  gave_each m [] below = below
  gave_each m (e ∷ es) below = gave_each (give_one m e (map.get m e)) es (gave_one m e (map.get m e) refl below)

  gave_if : (s : State) (b : Bool) (ids : List ℕ) → AreBelow n s.imports → AreBelow n (give_if s b ids).imports
  gave_if s false ids below = below
  gave_if s true ids below = gave_each s.imports ids below

  gave_back : (s : State) (ids : List ℕ) → AreBelow n s.imports → AreBelow n (give_back s ids).imports
  gave_back s ids below = gave_if s (flag_for s ids) ids below

  resolve_one : (s : State) (e : ℕ) (said : Resolution) (o : Option Import) → AreBelow n s.imports → AreBelow n (resolve_import s e said o).imports
  resolve_one s e said None below = below
  resolve_one s e said (Some x) below = by (map.get s.imports e) refl
    where
      by : (p : Option Import) → map.get s.imports e ≡ p → AreBelow n (updated s.imports e (set_resolution said) p)
      by None there = below
      by (Some y) there = change_below n e (set_resolution said y) y s.imports there below

-- ---- what is taken

took_one : (s : State) (d : Descriptor) → IsNamedWithin d → AreBelow table_limit s.imports → AreBelow table_limit (take_one s d).imports
took_one s descriptor.None h below = below
took_one s (descriptor.SenderHosted e) h below = put_below table_limit e.0 (received kind.Hosted (map.get s.imports e.0)) s.imports h below
took_one s (descriptor.SenderPromise e) h below = put_below table_limit e.0 (received kind.Promise (map.get s.imports e.0)) s.imports h below
took_one s (descriptor.ReceiverHosted e) h below = below
took_one s (descriptor.ReceiverAnswer q path) h below = below

took_each : (s : State) (ds : List Descriptor) → AllByRecursion IsNamedWithin ds → AreBelow table_limit s.imports → AreBelow table_limit (take_each s ds).imports
took_each s [] h below = below
took_each s (d ∷ ds) h below = took_each (take_one s d) ds h.1 (took_one s d h.0 below)

took : (l : Level) (s : State) (ds : List Descriptor) → AllByRecursion IsNamedWithin ds → AreBelow table_limit s.imports → AreBelow table_limit (take_at l s ds).imports
took Zero s ds h below = below
took One s ds h below = took_each s ds h below

took_all : (s : State) (ds : List Descriptor) → AllByRecursion IsNamedWithin ds → AreBelow table_limit s.imports → AreBelow table_limit (take_all s ds).imports
took_all s ds h below = took s.level s ds h below

resolves : (s : State) (e : ℕ) (to : ResolvedTo) → NamesWithin (message.Plain (plain.Resolve (record { promise = record { 0 = e }; to = to }))) → AreBelow table_limit s.imports → AreBelow table_limit (take_resolve s e to).imports
resolves s e (resolved.Cap d) h below = resolve_one table_limit (take_all s (d ∷ [])) e (resolution.To d (read s d)) (map.get s.imports e) (took_all s (d ∷ []) h below)
resolves s e (resolved.Exception x) h below = resolve_one table_limit s e (resolution.Exception x) (map.get s.imports e) below

-- ---- acts

acted : (d new : Moment) → HasSmallIds d.state → Act d new → HasSmallIds new.state
acted d new i (act.Delivers c n rest u e f h) = rw h i
acted d new i (act.Waits c n rest p calls e f j h) = rw h i
acted d new i (act.Holds c n rest u path x e f j h) = rw h i
acted d new i (act.Relays c n rest q t ds es e f j k h) = rw h i
acted d new i (act.Breaks c n rest reason e f h) = rw h i
acted d new i (act.NextArisen u v rest e f h) = rw h i
acted d new i (act.Knows u v fit x ps e f j k h) = rw h i
acted d new i (act.Reports c v from e f h) = rw h i
acted d new i (act.TellsNobody c v e f h) = rw h i
acted d new i (act.MakesReturn q v x b ds es e f j k h) = rw h i
acted d new i (act.SendsReturn x a e f j h) = rw h (returned table_limit d.state.answers x.answer.0 a a.finished _ f i.0, gave_back table_limit d.state (numbers a.taken) i.1)
acted d new i (act.Clears x e f h) = rw h i
acted d new i (act.Lists x e h) = rw h i
acted d new i (act.SendsResolve x rest k es e w f h) = rw h i
acted d new i (act.SendsBroken x rest reason e f h) = rw h i
acted d new i (act.PromiseGoes p to w e f h) = rw h i
acted d new i (act.OutcomeGoes u x v w e f j k l h) = rw h i
acted d new i (act.ImportGoes k x w e f h) = rw h (i.0, cut_below table_limit k d.state.imports i.1)
acted d new i (act.Sweeps over e f j h) = rw h i
acted d new i (act.SendsFinish q x rest e f j k l h) = rw h (i.0, gave_back table_limit d.state _ i.1)
acted d new i (act.Closes q x rest e f j k l h) = rw h i
acted d new i (act.Releases w e f h) = rw h i

started : (s : State) (c : Command) (g : Granted) (new : Moment) → Starts (beginning s) c g new → HasSmallIds s → HasSmallIds new.state
started s c g new (first.Hosts o e a h) i = rw h i
started s c g new (first.Clones r x e f a h) i = rw h i
started s c g new (first.Drops r x e f a h) i = rw h i
started s c g new (first.AsksRoot q e f a h) i = rw h i
started s c g new (first.CallsOut k x q t ds es e f j l m n a h) i = rw h i
started s c g new (first.CallsHere k x o e f j l m a h) i = rw h i
started s c g new (first.CallsLater k x o y b e f j l m a h) i = rw h i
started s c g new (first.NamesField k path from e f a h) i = rw h i
started s c g new (first.Promises p e f a h) i = rw h i
started s c g new (first.Fixes p r x key calls e f j k a h) i = rw h i
started s c g new (first.Rejects p why key calls e f j a h) i = rw h i
started s c g new (first.Answers t payload refs o e f a h) i = rw h i
started s c g new (first.Fails t why o e f a h) i = rw h i
started s c g new (first.Finishes k from e f a h) i = rw h i
started s c g new (first.StaysPut r x e f a h) i = rw h i
started s c g new (first.Breaks r x reason e f j k a h) i = rw h i
started s c g new (first.Switches r x by n e f j k l m a h) i = rw h i
started s c g new (first.Turns r x by n t k e f j l m o w u a h) i = rw h i

brought_names : (s : State) (m : Message) (b : Back) → Brings s m b → NamesWithin m → AllByRecursion IsNamedWithin b.descriptors
brought_names s m b (ByReturn r e is) h = subst (λ (y : Back). AllByRecursion IsNamedWithin y.descriptors) (sym is) (subst NamesWithin e h)
brought_names s m b (ByEchoedRoot q e is) h = subst (λ (y : Back). AllByRecursion IsNamedWithin y.descriptors) (sym is) tt
brought_names s m b (ByEchoedCall c e is) h = subst (λ (y : Back). AllByRecursion IsNamedWithin y.descriptors) (sym is) tt

consumed : (s : State) (m : Message) (new : Moment) → AsksWithin m → NamesWithin m → Consumes (beginning s) m new → HasSmallIds s → HasSmallIds new.state
consumed s m new asks names (taken.OpensRoot q o e f j h) i = rw h (put_below table_limit q.0 _ s.answers (subst AsksWithin e asks) i.0, i.1)
consumed s m new asks names (taken.OpensCall c o e f j h) i = rw h (put_below table_limit c.question.0 _ s.answers (subst AsksWithin e asks) i.0, took_all s c.descriptors (subst NamesWithin e names) i.1)
consumed s m new asks names (taken.Loses b x e f j k h) i = rw h (i.0, took_all s b.descriptors (brought_names s m b e names) i.1)
consumed s m new asks names (taken.ComesToCall b x c e f j k l h) i = rw h (i.0, took_all s b.descriptors (brought_names s m b e names) i.1)
consumed s m new asks names (taken.ComesToRelay b x u e f j k l h) i = rw h (i.0, took_all s b.descriptors (brought_names s m b e names) i.1)
consumed s m new asks names (taken.IsFinished x y e f j h) i = rw h (finished table_limit s.answers x.question.0 y y.returned f i.0, i.1)
consumed s m new asks names (taken.IsResolved r e h) i = rw h (i.0, resolves s r.promise.0 r.to (subst NamesWithin e names) i.1)
consumed s m new asks names (taken.IsReleased r e h) i = rw h i
consumed s m new asks names (taken.SendsBack t to x e f h) i = rw h i
consumed s m new asks names (taken.Lifts t x b e f h) i = rw h i
consumed s m new asks names (taken.SendsForeign p e f h) i = rw h i
consumed s m new asks names (taken.SendsOther n e h) i = rw h i
consumed s m new asks names (taken.TakesBack r e h) i = rw h i
consumed s m new asks names (taken.Ignores r e h) i = rw h i

-- ---- steps

pub fallen_small : (s : State) (n : ℕ) → HasSmallIds (fallen s n)
fallen_small s n = (empty_below table_limit (fallen s n).answers refl, empty_below table_limit (fallen s n).imports refl)

pub start_small : (v : Vat) (l : Level) (root : Option ObjectId) → HasSmallIds (start v l root)
start_small v l root = (empty_below table_limit (start v l root).answers refl, empty_below table_limit (start v l root).imports refl)

pub shut_keeps : (s : State) (n : ℕ) (o : Option ℕ) (x : Effects) (t : State) → ShutsFrom s n o x t → HasSmallIds s → HasSmallIds t
shut_keeps s n None x t h i = subst HasSmallIds (sym h.new_is) (fallen_small s n)
shut_keeps s n (Some k) x t h i = subst HasSmallIds (sym h.new_is) i

pub command_keeps : (s : State) (c : Command) (answer : Result Granted Refusal) (x : Effects) (t : State) → Obeys s c answer x t → HasSmallIds s → HasSmallIds t
command_keeps s c answer x t (Refuses r f g u) i = subst HasSmallIds (sym u.new_is) i
command_keeps s c answer x t (LacksMemory f g k u) i = subst HasSmallIds (sym u.new_is) i
command_keeps s c answer x t (GoesDown f g k u) i = subst HasSmallIds (sym u.new_is) (fallen_small s want_of_room)
command_keeps s c answer x t (Shuts n f g h) i = shut_keeps s n s.down x t h i
command_keeps s c answer x t (IsDone given f g h w) i =
    let k = done (λ d. HasSmallIds d.state) s c given x t (λ new j. started s c given new j i) (λ d new j b. acted d new j b) h in
    subst HasSmallIds (sym k.ends.state) k.holds

pub message_keeps : (s : State) (m : Message) (x : Effects) (t : State) → AsksWithin m → NamesWithin m → Receives s m x t → HasSmallIds s → HasSmallIds t
message_keeps s m x t asks names (WasDown d u) i = subst HasSmallIds (sym u.new_is) i
message_keeps s m x t asks names (FaultsBy n d f g h) i = subst HasSmallIds (sym h) (fallen_small s n)
message_keeps s m x t asks names (LacksRoom d f u) i = subst HasSmallIds (sym u.new_is) (fallen_small s want_of_room)
message_keeps s m x t asks names (IsHandled d f h w) i =
    let k = handled (λ e. HasSmallIds e.state) s m x t f (λ new j. consumed s m new asks names j i) (λ a new j b. acted a new j b) h in
    subst HasSmallIds (sym k.ends.state) k.holds

-- ---- what is heard asks and names what was said

abbrev pub IsFew : Message → Type 0
IsFew m = AsksWithin m × NamesWithin m

pub heard_few : (m x : Message) → IsHeard m x → IsFew m → IsFew x
heard_few m x (AsSaid is) few = subst IsFew (sym is) few
heard_few m x (OfCall c stamp p of said_is heard_is) few = subst IsFew (sym heard_is) (subst IsFew said_is few)
heard_few m x (OfResults a flag ds q p of said_is heard_is) few = subst IsFew (sym heard_is) (subst IsFew said_is few)
