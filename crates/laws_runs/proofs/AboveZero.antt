-- Each act and each message keeps counts above 0.
use Rattle.std.proofs.Common.{◌≡◌, ℕ, ◌+◌, ◌-◌, ◌<◌, nat_le, T, ◌&&◌, Bool, true, false, cond, List, [], ◌∷◌, ◌++◌, Option, None, Some, refl, sym, ap, subst, arith}
use Rattle.std.specs.FinMap as map
use Rattle.std.specs.FinMap.Entries as entries
use Rattle.std.specs.Ordering.{nat_cmp}
use Rattle.rpc_msg.specs.declared.ids.QuestionId.{QuestionId}
use Rattle.rpc_msg.specs.declared.parts.Descriptor.{Descriptor}
use Rattle.rpc_msg.specs.declared.parts.Descriptor.TheVariants as descriptor
use Rattle.rpc_msg.specs.declared.parts.Target.{Target}
use Rattle.rpc_msg.specs.declared.exception.Exception.{Exception}
use Rattle.rpc_msg.specs.declared.message.Return.{Return}
use Rattle.rpc_msg.specs.declared.message.ReturnBody.{ReturnBody}
use Rattle.rpc_msg.specs.declared.message.ResolvedTo.{ResolvedTo}
use Rattle.rpc_msg.specs.declared.message.ResolvedTo.TheVariants as resolved
use Rattle.rpc_msg.specs.declared.message.DisembargoContext.{DisembargoContext}
use Rattle.rpc_msg.specs.declared.message.DisembargoContext.TheVariants.{SenderLoopback, ReceiverLoopback}
use Rattle.rpc_msg.specs.declared.message.PlainMessage.{PlainMessage}
use Rattle.rpc_msg.specs.declared.message.PlainMessage.TheVariants as plain
use Rattle.rpc_msg.specs.Messages.{descriptors_of_body}
use Rattle.finite_maps.specs.Tally.{Map}
use Rattle.finite_maps.proofs.Tested.{at_put, at_cut}
use Rattle.finite_maps.proofs.Sorted.{behind, first_entry}
use Rattle.rpc_machine.specs.declared.node.Node.{Node}
use Rattle.rpc_machine.specs.declared.node.Node.TheVariants as node
use Rattle.rpc_machine.specs.declared.calls.Request.{Request}
use Rattle.rpc_machine.specs.declared.calls.HeldCall.{HeldCall}
use Rattle.rpc_machine.specs.declared.calls.OwnCall.{OwnCall}
use Rattle.rpc_machine.specs.declared.calls.Value.{Value}
use Rattle.rpc_machine.specs.declared.calls.Value.TheVariants as value
use Rattle.rpc_machine.specs.declared.calls.Caller.{Caller}
use Rattle.rpc_machine.specs.declared.calls.Caller.TheVariants as caller
use Rattle.rpc_machine.specs.declared.command.Level.{Level}
use Rattle.rpc_machine.specs.declared.command.Level.TheVariants.{Zero, One}
use Rattle.rpc_machine.specs.declared.entries.Role.{Role}
use Rattle.rpc_machine.specs.declared.entries.Finishing.{Finishing}
use Rattle.rpc_machine.specs.declared.entries.Finishing.TheVariants as finishing
use Rattle.rpc_machine.specs.declared.entries.Question.{Question}
use Rattle.rpc_machine.specs.declared.entries.AnswerEntry.{AnswerEntry}
use Rattle.rpc_machine.specs.declared.entries.Import.{Import}
use Rattle.rpc_machine.specs.declared.entries.Export.{Export}
use Rattle.rpc_machine.specs.declared.entries.Resolution.{Resolution}
use Rattle.rpc_machine.specs.declared.entries.SenderKind.{SenderKind}
use Rattle.rpc_machine.specs.declared.entries.SenderKind.TheVariants as kind
use Rattle.rpc_machine.specs.State.{State}
use Rattle.rpc_machine.specs.Lists.{updated}
use Rattle.rpc_machine.specs.Nodes.{settle}
use Rattle.rpc_machine.specs.Progress.{Progress, with_state, with_refs, caps_of, numbers}
use Rattle.rpc_machine.specs.Descriptors.{ExportedAs, Described, DescribesAll, received, take_one, take_each, take_at, take_all}
use Rattle.rpc_machine.specs.Flags.{flag_for, give_one, give_each, give_if, lowered, lower_by, lower_each, obey}
use Rattle.rpc_machine.specs.Faults.{gave}
use Rattle.rpc_machine.specs.Routing.{Asks}
use Rattle.rpc_machine.specs.Collecting.{Goes, PromiseGoes, OutcomeGoes, ImportGoes, Collects, Tight, Loose, release}
use Rattle.rpc_machine.specs.Settling.{known, Fits, SaysBack, TellsCall, TellsPeer, Tells, ResolvesBy}
use Rattle.rpc_machine.specs.Sweeping.{got_of, finished_by, releases}
use Rattle.rpc_machine.specs.Messages.{resolve_import, set_resolution, take_resolve}
use Rattle.laws_acts.specs.Acts.{came, ComesTo, TurnsBy, Consumes, Acts, NoMore, Then}
use Rattle.laws_acts.specs.Sent.{Noted, asks_sent, end_sent, peer_sent, told_sent, releases_sent, sent_by, all_sent, turned_sent, sent_at_once}
use Rattle.laws_runs.proofs.Same.{SameCounts, fits, refs_same}
use Rattle.laws_runs.proofs.EachAct.{OfActs, by_act}
use Rattle.laws_runs.proofs.Paid.{release_state}
use Rattle.laws_runs.specs.Entries.{ImportCounts, ExportCounts, IsAbove, AreCounted, IsCounted, AllLetGo, Counts}

-- ---- Maps

put : {X : Type 0} (P : Option X → Type 0) (m : Map X) (k : ℕ) (x : X) → P (Some x) → ((q : ℕ) → P (map.get m q)) → (q : ℕ) → P (map.get (map.insert m k x) q)
put P m k x y h = at_put (λ q o. P o) m k x y (λ q f. h q)

cut : {X : Type 0} (P : Option X → Type 0) (m : Map X) (k : ℕ) → P None → ((q : ℕ) → P (map.get m q)) → (q : ℕ) → P (map.get (map.remove m k) q)
cut P m k y h = at_cut (λ q o. P o) m k y (λ q f. h q)

abbrev AllImports : Map Import → Type 0
AllImports m = (q : ℕ) → ImportCounts (map.get m q)

abbrev AllExports : Map Export → Type 0
AllExports m = (q : ℕ) → ExportCounts (map.get m q)

-- ---- What is given, and given back

exported : (s : State) (n : Node) (e : ℕ) (o : Option Export) (new : State) → ExportedAs s n e o new → AreCounted s → AreCounted new
exported s n e None new h i = rw h.1 (record { imports = i.imports; exports = put ExportCounts s.exports e (record { node = n; count = 1 }) (omega arith) i.exports })
exported s n e (Some x) new h i = rw h.1 (record { imports = i.imports; exports = put ExportCounts s.exports e (record { node = n; count = x.count + 1 }) (omega arith) i.exports })

described : (s : State) (n : Node) (d : Descriptor) (new : State) → Described s n d new → AreCounted s → AreCounted new
described s (node.Object o) d new h i = exported s (node.Object o) h.0 (map.get s.exports h.0) new h.2 i
described s (node.Promise p) d new h i = exported s (node.Promise p) h.0 (map.get s.exports h.0) new h.2 i
described s (node.Field o path) d new h i = exported s (node.Field o path) h.0 (map.get s.exports h.0) new h.2 i
described s (node.Import e) d new h i = rw h.1 i
described s (node.Pipe q path) d new h i = rw h.1 i
described s (node.Broken reason) d new h i = rw h.1 i

describes_all : (s : State) (ns : List Node) (ds : List Descriptor) (new : State) → DescribesAll s ns ds new → AreCounted s → AreCounted new
describes_all s [] [] new h i = rw h i
describes_all s [] (d ∷ ds) new h i = absurd h
describes_all s (n ∷ ns) [] new h i = absurd h
describes_all s (n ∷ ns) (d ∷ ds) new h i = describes_all h.0 ns ds new h.2 (described s (settle s n) d h.0 h.1 i)

says : (s : State) (b : Bool) (v : Value) (said : ReturnBody) (ds : List Descriptor) (new : State) → SaysBack s b v said ds new → AreCounted s → AreCounted new
says s true v said ds new h i = rw h.2 i
says s false (value.Exception x) said ds new h i = rw h.2 i
says s false (value.Results payload caps) said ds new h i = describes_all s caps ds new h.1 i

given_one : (m : Map Import) (k : ℕ) (o : Option Import) → AllImports m → AllImports (give_one m k o)
given_one m k None h = h
given_one m k (Some x) h = by (nat_le x.count 1) refl
  where
    by : (b : Bool) → nat_le x.count 1 ≡ b → AllImports (cond b (map.remove m k) (map.insert m k (record x { count = x.count - 1 })))
    by true f = cut ImportCounts m k tt h
    by false f = put ImportCounts m k (record x { count = x.count - 1 }) (grind (arith, f)) h

given_each : (m : Map Import) (ids : List ℕ) → AllImports m → AllImports (give_each m ids)
given_each m [] h = h
given_each m (k ∷ ids) h = given_each (give_one m k (map.get m k)) ids (given_one m k (map.get m k) h)

gives : (s : State) (b : Bool) (ids : List ℕ) → AreCounted s → AreCounted (give_if s b ids)
gives s true ids i = record { imports = given_each s.imports ids i.imports; exports = i.exports }
gives s false ids i = i

lowers : (m : Map Export) (k n : ℕ) (o : Option Export) → AllExports m → AllExports (lowered m k n o)
lowers m k n None h = h
lowers m k n (Some x) h = by (nat_le x.count n) refl
  where
    by : (b : Bool) → nat_le x.count n ≡ b → AllExports (cond b (map.remove m k) (map.insert m k (record x { count = x.count - n })))
    by true f = cut ExportCounts m k tt h
    by false f = put ExportCounts m k (record x { count = x.count - n }) (grind (arith, f)) h

lowers_each : (m : Map Export) (ids : List ℕ) → AllExports m → AllExports (lower_each m ids)
lowers_each m [] h = h
lowers_each m (k ∷ ids) h = lowers_each (lower_by m k 1) ids (lowers m k 1 (map.get m k) h)

obeys : (s : State) (b : Bool) (ids : List ℕ) → AreCounted s → AreCounted (obey s b ids)
obeys s true ids i = record { imports = i.imports; exports = lowers_each s.exports ids i.exports }
obeys s false ids i = i

-- ---- What comes

comes_one : (k : SenderKind) (o : Option Import) → ImportCounts (Some (received k o))
comes_one k None = omega arith
comes_one k (Some x) = omega arith

takes_one : (s : State) (d : Descriptor) → AreCounted s → AreCounted (take_one s d)
takes_one s descriptor.None i = i
takes_one s (descriptor.SenderHosted e) i = record { imports = put ImportCounts s.imports e.0 (received kind.Hosted (map.get s.imports e.0)) (comes_one kind.Hosted (map.get s.imports e.0)) i.imports; exports = i.exports }
takes_one s (descriptor.SenderPromise e) i = record { imports = put ImportCounts s.imports e.0 (received kind.Promise (map.get s.imports e.0)) (comes_one kind.Promise (map.get s.imports e.0)) i.imports; exports = i.exports }
takes_one s (descriptor.ReceiverHosted e) i = i
takes_one s (descriptor.ReceiverAnswer q path) i = i

takes_each : (s : State) (ds : List Descriptor) → AreCounted s → AreCounted (take_each s ds)
takes_each s [] i = i
takes_each s (d ∷ ds) i = takes_each (take_one s d) ds (takes_one s d i)

takes_at : (l : Level) (s : State) (ds : List Descriptor) → AreCounted s → AreCounted (take_at l s ds)
takes_at Zero s ds i = i
takes_at One s ds i = takes_each s ds i

takes : (s : State) (ds : List Descriptor) → AreCounted s → AreCounted (take_all s ds)
takes s ds i = takes_at s.level s ds i

resolution : (s : State) (e : ℕ) (k : Resolution) (o : Option Import) → AreCounted s → AreCounted (resolve_import s e k o)
resolution s e k None i = i
resolution s e k (Some x) i = record { imports = by (map.get s.imports e) (i.imports e); exports = i.exports }
  where
    by : (o : Option Import) → ImportCounts o → AllImports (updated s.imports e (set_resolution k) o)
    by None g = i.imports
    by (Some y) g = put ImportCounts s.imports e (set_resolution k y) g i.imports

takes_resolve : (s : State) (e : ℕ) (to : ResolvedTo) → AreCounted s → AreCounted (take_resolve s e to)
takes_resolve s e (resolved.Exception x) i = resolution s e _ (map.get s.imports e) i
takes_resolve s e (resolved.Cap d) i = resolution (take_all s (d ∷ [])) e _ (map.get s.imports e) (takes s (d ∷ []) i)

-- ---- What stays

pub record SameEntries (s t : State) : Type 0 where
  pub imports : t.imports ≡ s.imports
  pub exports : t.exports ≡ s.exports

same : (s : State) → SameEntries s s
same s = record { imports = refl; exports = refl }

still : (s t : State) → SameEntries s t → AreCounted s → AreCounted t
still s t h i = record {
  imports = subst (λ (m : Map Import). AllImports m) (sym h.imports) i.imports;
  exports = subst (λ (m : Map Export). AllExports m) (sym h.exports) i.exports;
}

of_same : (s t : State) → SameCounts s t → SameEntries s t
of_same s t h = record { imports = h.ids.imports; exports = h.exports }

-- ---- Acts

quiet : (d new : Progress) → SameEntries d.state new.state → new.released ≡ d.released → IsCounted d → Counts [] new
quiet d new h r i = record { counted = record { state = still d.state new.state h i.state; released = subst (λ (m : Map ℕ). (e : ℕ) → IsAbove (map.get m e)) (sym r) i.released }; lets_go = tt }

goes : (d new : Progress) → Goes d new → IsCounted d → IsCounted new
goes d new (PromiseGoes p l h) i = rw h (let g = i.state in record { state = record { imports = g.imports; exports = g.exports }; released = i.released })
goes d new (OutcomeGoes o l h) i = rw h (let g = i.state in record { state = record { imports = g.imports; exports = g.exports }; released = i.released })
goes d new (ImportGoes k l h) i = rw h (let g = i.state in record { state = record { imports = cut ImportCounts d.state.imports k tt g.imports; exports = g.exports }; released = by (map.get d.state.imports k) (g.imports k) })
  where
    by : (o : Option Import) → ImportCounts o → (e : ℕ) → IsAbove (map.get (release d.released k o) e)
    by None g = i.released
    by (Some x) g = put IsAbove d.released k x.count g i.released

collects : (new d : Progress) → Collects new d → IsCounted d → IsCounted new
collects new d (Tight h) i = i
collects new d (Loose {mid = mid} g rest) i = collects new mid rest (goes d mid g i)

asks : (e new : Progress) (k : ℕ) (role : Role) (t : Target) (r : Request) → (h : Asks e k role t r new) → IsCounted e → Counts (asks_sent e new k role t r h) new
asks e new k role t r h i =
    let g = h.1 in
    let c = describes_all e.state r.caps g.0 g.1 g.2 i.state in
    record { counted = rw g.3 (record { state = record { imports = c.imports; exports = c.exports }; released = i.released }); lets_go = (tt, tt) }

resolves : (d new : Progress) (e : ℕ) (x : Option Exception) (n : Node) → ResolvesBy d e x n new → IsCounted d → IsCounted new
resolves d new e x (node.Object o) h i = rw h.3 (record { state = described d.state (settle d.state _) h.0 h.1 h.2 i.state; released = i.released })
resolves d new e x (node.Promise p) h i = rw h.3 (record { state = described d.state (settle d.state _) h.0 h.1 h.2 i.state; released = i.released })
resolves d new e x (node.Field o path) h i = rw h.3 (record { state = described d.state (settle d.state _) h.0 h.1 h.2 i.state; released = i.released })
resolves d new e x (node.Import k) h i = rw h.3 (record { state = described d.state (settle d.state _) h.0 h.1 h.2 i.state; released = i.released })
resolves d new e x (node.Pipe q path) h i = rw h.3 (record { state = described d.state (settle d.state _) h.0 h.1 h.2 i.state; released = i.released })
resolves d new e x (node.Broken reason) h i = rw h (record { state = i.state; released = i.released })

tells_call : (d new : Progress) (c : ℕ) (v : Value) (o : Option OwnCall) → TellsCall d c v o new → IsCounted d → IsCounted new
tells_call d new c v None h i = rw h i
tells_call d new c v (Some from) h i = rw h (record { state = still d.state (with_refs d.state (caps_of v)) (of_same d.state _ (refs_same d.state (caps_of v))) i.state; released = i.released })

tells_peer : (d new : Progress) (q : QuestionId) (v : Value) (o : Option AnswerEntry) → (h : TellsPeer d q v o new) → IsCounted d → Counts (peer_sent d new q v o h) new
tells_peer d new q v None h i = absurd h
tells_peer d new q v (Some a) h i =
    let said = says d.state a.finished v h.0 h.1 h.2 h.3 i.state in
    let g = h.4 in
    let c = collects g.0 (with_state d h.2) g.1 (record { state = said; released = i.released }) in
    let k = gives g.0.state (flag_for g.0.state (numbers a.taken)) (numbers a.taken) c.state in
    record { counted = rw g.2 (record { state = record { imports = k.imports; exports = k.exports }; released = c.released }); lets_go = (tt, tt) }

tells : (d new : Progress) (who : Caller) (v : Value) → (h : Tells d who v new) → IsCounted d → Counts (told_sent d new who v h) new
tells d new (caller.Application c) v h i = record { counted = tells_call d new c.0 v (map.get d.state.calls c.0) h i; lets_go = tt }
tells d new (caller.Peer q) v h i = tells_peer d new q v (map.get d.state.answers q.0) h i

ends : (d : Progress) (k : ℕ) (x : Question) (f : Finishing) → IsCounted d → Counts (end_sent d k x f) (finished_by d k x f)
ends d k x finishing.Owed i = let g = gives d.state (flag_for d.state (got_of x.returned)) (got_of x.returned) i.state in record { counted = record { state = record { imports = g.imports; exports = g.exports }; released = i.released }; lets_go = (tt, tt) }
ends d k x finishing.Sent i = record { counted = i; lets_go = tt }
ends d k x finishing.Waived i = let g = i.state in record { counted = record { state = record { imports = g.imports; exports = g.exports }; released = i.released }; lets_go = tt }

all_above : (xs : List (ℕ × ℕ)) → T (entries.is_sorted nat_cmp xs) → ((k : ℕ) → IsAbove (entries.find nat_cmp k xs)) → AllLetGo (releases_sent xs)
all_above [] s h = tt
all_above (x ∷ xs) s h = by (all_above xs) (entries.below_all nat_cmp x.0 xs) refl s
  where
    by : (T (entries.is_sorted nat_cmp xs) → ((k : ℕ) → IsAbove (entries.find nat_cmp k xs)) → AllLetGo (releases_sent xs)) → (b : Bool) → entries.below_all nat_cmp x.0 xs ≡ b → T (b && entries.is_sorted nat_cmp xs) → (0 < x.1) × AllLetGo (releases_sent xs)
    by rest false c s = absurd s
    by rest true c s = (subst IsAbove (first_entry x xs) (h x.0), rest s (λ k. later k (entries.find nat_cmp k xs) refl))
      where
        later : (k : ℕ) (o : Option ℕ) → entries.find nat_cmp k xs ≡ o → IsAbove (entries.find nat_cmp k xs)
        later k None f = subst IsAbove (sym f) tt
        later k (Some n) f = subst IsAbove (ap (λ b. cond b (Some x.1) (entries.find nat_cmp k xs)) (behind x.0 xs k n (subst (λ (b : Bool). T b) (sym c) tt) f)) (h k)

released : (d new : Progress) → new ≡ releases d → IsCounted d → Counts (releases_sent (map.entries d.released)) new
released d new h i = record {
  counted = rw h (record { state = subst AreCounted (sym (release_state d (map.entries d.released))) i.state; released = λ e. subst IsAbove (sym (map.get-empty nat_cmp e)) tt });
  lets_go = all_above (map.entries d.released) (map.entries_sorted d.released) (λ k. subst IsAbove (map.get-entries d.released k) (i.released k));
}

settles : (d new told : Progress) (o : ℕ) (who : Caller) (w : List HeldCall) (v fit : Value) (mid : State) → Fits d.state o who w v fit mid → (t : Tells (with_state d (known mid o who w fit)) who fit told) → new ≡ with_state told (known told.state o who [] fit) → IsCounted d → Counts (told_sent _ told who fit t) new
settles d new told o who w v fit mid f t e i =
    let c = still d.state mid (of_same d.state mid (fits d.state o who w v fit mid f)) i.state in
    let k = tells (with_state d (known mid o who w fit)) told who fit t (record { state = record { imports = c.imports; exports = c.exports }; released = i.released }) in
    let g = k.counted in
    let y = g.state in
    record { counted = rw e (record { state = record { imports = y.imports; exports = y.exports }; released = g.released }); lets_go = k.lets_go }

of_acts : OfActs (λ d new sent. IsCounted d → Counts sent new)
of_acts = record {
  quiet = λ d new h r e i. quiet d new (of_same d.state new.state h) r i;
  asks = λ d e new k role t r h p f a i. let c = quiet d e (of_same d.state e.state h) p i in asks e new k role t r a c.counted;
  asks_root = λ d new g h i. let c = i.state in record { counted = rw h.3 (record { state = record { imports = c.imports; exports = c.exports }; released = i.released }); lets_go = (tt, tt) };
  turns = λ d new x h p f i. let c = quiet d new (of_same d.state new.state h) p i in record { counted = c.counted; lets_go = (tt, tt) };
  settles = λ d new told o x v fit mid there unknown f t e i. settles d new told o x.caller x.waiting v fit mid f t e i;
  resolves = λ d new e x n h i. record { counted = resolves d new e x n h i; lets_go = (tt, tt) };
  goes = λ d new h i. record { counted = goes d new h i; lets_go = tt };
  ends = λ d new q x there due h i. rw h (ends d q x x.finish i);
  releases = λ d new h i. released d new h i;
}

pub all_let : (xs ys : List Noted) → AllLetGo xs → AllLetGo ys → AllLetGo (xs ++ ys)
all_let [] ys h k = k
all_let (x ∷ xs) ys h k = (h.0, all_let xs ys h.1 k)

pub acts : (last d : Progress) (list : Acts last d) → IsCounted d → Counts (all_sent list) last
acts last d NoMore i = record { counted = i; lets_go = tt }
acts last d (Then {mid = mid} one rest) i = let k = by_act of_acts d mid one i in let r = acts last mid rest k.counted in record { counted = r.counted; lets_go = all_let (sent_by one) (all_sent rest) k.lets_go r.lets_go }

-- ---- Messages

comes : (d new : Progress) (r : Return) (x : Question) (f : Finishing) → ComesTo d r x f new → IsCounted d → IsCounted new
comes d new r x f h i = by f h
  where
    c : AreCounted (came d.state r x)
    c = obeys (take_all d.state (descriptors_of_body r.body)) r.release_param_caps (numbers x.given) (takes d.state (descriptors_of_body r.body) i.state)

    by : (f : Finishing) → ComesTo d r x f new → IsCounted new
    by finishing.Sent h = rw h (record { state = record { imports = c.imports; exports = c.exports }; released = i.released })
    by finishing.Owed h = rw h (record { state = record { imports = c.imports; exports = c.exports }; released = i.released })
    by finishing.Waived h = rw h (record { state = record { imports = c.imports; exports = c.exports }; released = i.released })

turned : (d new : Progress) (c : DisembargoContext) (h : TurnsBy d c new) → IsCounted d → Counts (turned_sent d new c h) new
turned d new (SenderLoopback x) h i = record { counted = rw h.1 (record { state = i.state; released = i.released }); lets_go = (tt, tt) }
turned d new (ReceiverLoopback x) h i = let g = i.state in record { counted = rw h.2 (record { state = record { imports = g.imports; exports = g.exports }; released = i.released }); lets_go = tt }

pub consumes : (d first : Progress) (m : PlainMessage) (h : Consumes m d first) → IsCounted d → Counts (sent_at_once d first m h) first
consumes d first (plain.Abort x) h i = absurd h
consumes d first (plain.Bootstrap q) h i = let g = i.state in record { counted = rw h.3 (record { state = record { imports = g.imports; exports = g.exports }; released = i.released }); lets_go = tt }
consumes d first (plain.Call c) h i = let g = takes d.state c.descriptors i.state in record { counted = rw h.3 (record { state = record { imports = g.imports; exports = g.exports }; released = i.released }); lets_go = tt }
consumes d first (plain.Return r) h i = let x = h.0 in record { counted = comes d first r x x.finish h.3 i; lets_go = tt }
consumes d first (plain.Finish f) h i = let a = h.0 in let g = obeys d.state f.release_result_caps (gave a.returned) i.state in record { counted = rw h.3 (record { state = record { imports = g.imports; exports = g.exports }; released = i.released }); lets_go = tt }
consumes d first (plain.Resolve r) h i = record { counted = rw h (record { state = takes_resolve d.state r.promise.0 r.to i.state; released = i.released }); lets_go = tt }
consumes d first (plain.Release r) h i = let g = i.state in record { counted = rw h (record { state = record { imports = g.imports; exports = lowers d.state.exports r.export.0 r.count (map.get d.state.exports r.export.0) g.exports }; released = i.released }); lets_go = tt }
consumes d first (plain.Disembargo x) h i = turned d first x.context h i
consumes d first (plain.Other n) h i = record { counted = rw h (record { state = i.state; released = i.released }); lets_go = tt }
