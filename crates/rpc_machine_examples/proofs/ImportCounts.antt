-- At the end of a step what goes of an import is released, but for what a flag gives back.
use Rattle.std.proofs.Common.{◌≡◌, ℕ, ◌+◌, Bool, true, false, cond, nat_eq, List, [], ◌∷◌, ◌++◌, Option, None, Some, refl, sym, ap, subst, ◌∙◌, arith}
use Rattle.std.specs.declared.cmp.Ordering.{Ordering}
use Rattle.std.specs.declared.cmp.Ordering.TheVariants.{Less, Equal, Greater}
use Rattle.std.specs.Ordering.{nat_cmp, is_eq}
use Rattle.std.specs.Cmp.{nat_cmp_total}
use Rattle.std.specs.FinMap as map
use Rattle.std.specs.FinMap.Entries.{find, put, by_order}
use Rattle.finite_maps.specs.Tally.{Map}
use Rattle.rpc_msg.specs.declared.ids.ExportId.{ExportId}
use Rattle.rpc_msg.specs.declared.parts.Descriptor.{Descriptor}
use Rattle.rpc_msg.specs.declared.parts.Descriptor.TheVariants as descriptor
use Rattle.rpc_msg.specs.declared.message.Finish.{Finish}
use Rattle.rpc_msg.specs.declared.message.Release.{Release}
use Rattle.rpc_msg.specs.declared.message.Resolve.{Resolve}
use Rattle.rpc_msg.specs.declared.message.ResolvedTo.TheVariants as resolved
use Rattle.rpc_msg.specs.declared.message.PlainMessage.{PlainMessage}
use Rattle.rpc_msg.specs.declared.message.PlainMessage.TheVariants as plain
use Rattle.rpc_msg.specs.declared.message.Message.{Message}
use Rattle.rpc_msg.specs.declared.message.Message.TheVariants as message
use Rattle.rpc_msg.specs.Messages.{given}
use Rattle.rpc_machine.specs.declared.command.Level.{Level}
use Rattle.rpc_machine.specs.declared.command.Level.TheVariants.{Zero, One}
use Rattle.rpc_machine.specs.declared.command.Effects.{Effects}
use Rattle.rpc_machine.specs.declared.entries.SenderKind.{SenderKind}
use Rattle.rpc_machine.specs.declared.entries.Import.{Import}
use Rattle.rpc_machine.specs.declared.entries.Question.{Question}
use Rattle.rpc_machine.specs.declared.entries.Resolution.{Resolution}
use Rattle.rpc_machine.specs.declared.entries.Finishing.{Finishing}
use Rattle.rpc_machine.specs.declared.entries.Finishing.TheVariants as finishing
use Rattle.rpc_machine.specs.State.{State}
use Rattle.rpc_machine.specs.Lists.{how_many, updated}
use Rattle.rpc_machine.specs.Limits.{import_count}
use Rattle.rpc_machine.specs.Progress.{Progress, begin, with_state, send, export_id}
use Rattle.rpc_machine.specs.Descriptors.{received, import_one, take_one, take_at, take_all}
use Rattle.rpc_machine.specs.Flags.{give_if, flag_for}
use Rattle.rpc_machine.specs.Collecting.{IsLooseImport, release, Goes, PromiseGoes, OutcomeGoes, ImportGoes, Collects, Tight, Loose}
use Rattle.rpc_machine.specs.Sweeping.{got_of, finished_by, FinishesEach, release_each, Sweeps}
use Rattle.rpc_machine.specs.Messages.{set_resolution, resolve_import, take_resolve, TakesUnless}
use Rattle.rpc_machine.specs.Faults.{is_foreign}
use Rattle.rpc_machine.specs.Steps.{Handles}
use Rattle.rpc_machine_examples.specs.CountedResolves.{released_for, NoTrueFlag}
use Rattle.rpc_machine_examples.proofs.GivenMaps.{entries_empty}
use Rattle.rpc_machine_examples.proofs.Keeping.{IsThere}
use Rattle.rpc_machine_examples.proofs.EndOfStep.{Swept, collected, finishes_each, none_arose}
use Rattle.finite_maps.proofs.Tested.{equal, get_put, get_cut}

-- ---- Sums of what is released

released-append : (e : ℕ) (ms ns : List Message) → released_for e (ms ++ ns) ≡ released_for e ms + released_for e ns
released-append e [] ns = omega arith
released-append e (message.Plain (plain.Release r) ∷ ms) ns = let k = released-append e ms ns in omega arith
released-append e (message.Plain (plain.Finish f) ∷ ms) ns = released-append e ms ns
released-append e (message.Plain (plain.Abort x) ∷ ms) ns = released-append e ms ns
released-append e (message.Plain (plain.Bootstrap k) ∷ ms) ns = released-append e ms ns
released-append e (message.Plain (plain.Call c) ∷ ms) ns = released-append e ms ns
released-append e (message.Plain (plain.Return r) ∷ ms) ns = released-append e ms ns
released-append e (message.Plain (plain.Resolve r) ∷ ms) ns = released-append e ms ns
released-append e (message.Plain (plain.Disembargo x) ∷ ms) ns = released-append e ms ns
released-append e (message.Plain (plain.Other n) ∷ ms) ns = released-append e ms ns
released-append e (message.Unimplemented m ∷ ms) ns = released-append e ms ns

-- The flags of the messages before, and of those behind.
unflagged : (ms ns : List Message) → NoTrueFlag (ms ++ ns) → NoTrueFlag ms × NoTrueFlag ns
unflagged [] ns h = (tt, h)
unflagged (message.Plain (plain.Finish f) ∷ ms) ns h = let k = unflagged ms ns h.1 in ((h.0, k.0), k.1)
unflagged (message.Plain (plain.Release r) ∷ ms) ns h = unflagged ms ns h
unflagged (message.Plain (plain.Abort x) ∷ ms) ns h = unflagged ms ns h
unflagged (message.Plain (plain.Bootstrap k) ∷ ms) ns h = unflagged ms ns h
unflagged (message.Plain (plain.Call c) ∷ ms) ns h = unflagged ms ns h
unflagged (message.Plain (plain.Return r) ∷ ms) ns h = unflagged ms ns h
unflagged (message.Plain (plain.Resolve r) ∷ ms) ns h = unflagged ms ns h
unflagged (message.Plain (plain.Disembargo x) ∷ ms) ns h = unflagged ms ns h
unflagged (message.Plain (plain.Other n) ∷ ms) ns h = unflagged ms ns h
unflagged (message.Unimplemented m ∷ ms) ns h = unflagged ms ns h

abbrev noted : ℕ → List (ℕ × ℕ) → ℕ
noted e [] = 0
noted e (x ∷ xs) = cond (nat_eq e x.0) x.1 0 + noted e xs

-- A new entry adds what it notes.
module _ (e : ℕ) where
  put_front : (k v : ℕ) (x : ℕ × ℕ) (xs : List (ℕ × ℕ)) (o : Ordering) → cond (is_eq o) (Some x.1) (find nat_cmp k xs) ≡ None
      → noted e (put nat_cmp k v xs) ≡ cond (nat_eq e k) v 0 + noted e xs
      → noted e (by_order o ((k, v) ∷ x ∷ xs) ((x.0, v) ∷ xs) (x ∷ put nat_cmp k v xs)) ≡ cond (nat_eq e k) v 0 + (cond (nat_eq e x.0) x.1 0 + noted e xs)
  put_front k v x xs Less free ih = refl
  put_front k v x xs Equal free ih = absurd (let h : ◌≡◌ {A = Option ℕ} (Some x.1) None = free in cc)
  put_front k v x xs Greater free ih = omega (arith, ih)

  behind : (k : ℕ) (x : ℕ × ℕ) (xs : List (ℕ × ℕ)) (o : Ordering) → cond (is_eq o) (Some x.1) (find nat_cmp k xs) ≡ None → find nat_cmp k xs ≡ None
  behind k x xs Less free = free
  behind k x xs Equal free = absurd (let h : ◌≡◌ {A = Option ℕ} (Some x.1) None = free in cc)
  behind k x xs Greater free = free

  noted-put : (k v : ℕ) (xs : List (ℕ × ℕ)) → find nat_cmp k xs ≡ None → noted e (put nat_cmp k v xs) ≡ cond (nat_eq e k) v 0 + noted e xs
  noted-put k v [] free = refl
  noted-put k v (x ∷ xs) free = put_front k v x xs (nat_cmp k x.0) free (noted-put k v xs (behind k x xs (nat_cmp k x.0) free))

  noted-new : (m : Map ℕ) (k v : ℕ) → map.get m k ≡ None → noted e (map.entries (map.insert m k v)) ≡ cond (nat_eq e k) v 0 + noted e (map.entries m)
  noted-new m k v free = ap (noted e) (map.entries-insert nat_cmp_total m k v) ∙ noted-put k v (map.entries m) (sym (map.get-entries m k) ∙ free)

  -- ---- The end of a step

  -- What is held of the import, is to be released, and was released.
  abbrev total : Progress → ℕ
  total d = import_count (map.get d.state.imports e) + noted e (map.entries d.released) + released_for e d.effects.sends

  -- No import that is there is to be released.
  abbrev Apart : Progress → Type 0
  Apart d = (k : ℕ) → IsThere (map.get d.state.imports k) → map.get d.released k ≡ None

  abbrev Conserves : Progress → Progress → Type 0
  Conserves d new = (total new ≡ total d) × Apart new

  import_goes : (d : Progress) (k : ℕ) (o : Option Import) → map.get d.state.imports k ≡ o → IsLooseImport d.state k o → Apart d → (new : Progress) → new ≡ record d { state = record (d.state) { imports = map.remove d.state.imports k }; released = release d.released k o } → Conserves d new
  import_goes d k None f h a new g = absurd h
  import_goes d k (Some x) f h a new g = (ap total g ∙ sum (nat_eq e k) refl, subst (λ (p : Progress). Apart p) (sym g) apart)
    where
      free : map.get d.released k ≡ None
      free = a k (subst (λ (o : Option Import). IsThere o) (sym f) tt)

      left : map.get (map.remove d.state.imports k) e ≡ cond (nat_eq e k) None (map.get d.state.imports e)
      left = get_cut d.state.imports k e

      more : noted e (map.entries (map.insert d.released k x.count)) ≡ cond (nat_eq e k) x.count 0 + noted e (map.entries d.released)
      more = noted-new d.released k x.count free

      sum : (b : Bool) → nat_eq e k ≡ b → import_count (map.get (map.remove d.state.imports k) e) + noted e (map.entries (map.insert d.released k x.count)) + released_for e d.effects.sends ≡ import_count (map.get d.state.imports e) + noted e (map.entries d.released) + released_for e d.effects.sends
      sum true t =
          let i : import_count (map.get (map.remove d.state.imports k) e) ≡ 0 = ap import_count left ∙ ap (λ b. import_count (cond b None (map.get d.state.imports e))) t in
          let j : import_count (map.get d.state.imports e) ≡ x.count = ap (λ n. import_count (map.get d.state.imports n)) (equal e k t) ∙ ap import_count f in
          let l : noted e (map.entries (map.insert d.released k x.count)) ≡ x.count + noted e (map.entries d.released) = more ∙ ap (λ b. cond b x.count 0 + noted e (map.entries d.released)) t in
          omega arith
      sum false t =
          let i : import_count (map.get (map.remove d.state.imports k) e) ≡ import_count (map.get d.state.imports e) = ap import_count left ∙ ap (λ b. import_count (cond b None (map.get d.state.imports e))) t in
          let l : noted e (map.entries (map.insert d.released k x.count)) ≡ 0 + noted e (map.entries d.released) = more ∙ ap (λ b. cond b x.count 0 + noted e (map.entries d.released)) t in
          omega arith

      apart : (j : ℕ) → IsThere (map.get (map.remove d.state.imports k) j) → map.get (map.insert d.released k x.count) j ≡ None
      apart j t = get_put d.released k x.count j ∙ by (nat_eq j k) (subst (λ (o : Option Import). IsThere o) (get_cut d.state.imports k j) t)
        where
          by : (b : Bool) → IsThere (cond b None (map.get d.state.imports j)) → cond b (Some x.count) (map.get d.released j) ≡ None
          by true h = absurd h
          by false h = a j h

  goes : (d new : Progress) → Apart d → Goes d new → Conserves d new
  goes d new a (PromiseGoes p h f) = (ap total f, subst (λ (x : Progress). Apart x) (sym f) a)
  goes d new a (OutcomeGoes o h f) = (ap total f, subst (λ (x : Progress). Apart x) (sym f) a)
  goes d new a (ImportGoes i h f) = import_goes d i (map.get d.state.imports i) refl h a new f

  collects : (new d : Progress) → Apart d → Collects new d → Conserves d new
  collects new d a (Tight h) = (refl, a)
  collects new d a (Loose {mid = mid} g rest) =
      let k = goes d mid a g in
      let l = collects new mid k.1 rest in
      (l.0 ∙ k.0, l.1)

  -- Without a true flag nothing is given back.
  finished : (d : Progress) (q : ℕ) (x : Question) (f : Finishing) → Apart d → NoTrueFlag (finished_by d q x f).effects.sends → Conserves d (finished_by d q x f)
  finished d q x finishing.Owed a h =
      let ids = got_of x.returned in
      let b = flag_for d.state ids in
      let said : Finish = record { question = record { 0 = q }; release_result_caps = b } in
      let k = unflagged d.effects.sends (message.Plain (plain.Finish said) ∷ []) h in
      let u = k.1 in
      by b u.0
    where
      by : (b : Bool) → b ≡ false → (import_count (map.get (give_if d.state b (got_of x.returned)).imports e) + noted e (map.entries d.released) + released_for e (d.effects.sends ++ message.Plain (plain.Finish (record { question = record { 0 = q }; release_result_caps = b })) ∷ []) ≡ import_count (map.get d.state.imports e) + noted e (map.entries d.released) + released_for e d.effects.sends) × ((k : ℕ) → IsThere (map.get (give_if d.state b (got_of x.returned)).imports k) → map.get d.released k ≡ None)
      by true g = cc
      by false g = (let r = released-append e d.effects.sends (message.Plain (plain.Finish (record { question = record { 0 = q }; release_result_caps = false })) ∷ []) in omega arith, a)
  finished d q x finishing.Sent a h = (refl, a)
  finished d q x finishing.Waived a h = (refl, a)

  each : (d : Progress) (xs : List (ℕ × Question)) (new : Progress) → Apart d → NoTrueFlag new.effects.sends → FinishesEach d xs new → Conserves d new
  each d [] new a u h = (ap total h, subst (λ (x : Progress). Apart x) (sym h) a)
  each d (x ∷ xs) new a u h =
      let next = finished_by h.0 x.0 x.1 x.1.finish in
      let s : Swept next new = finishes_each next xs new h.2 in
      let r = s.3 in
      let v = unflagged next.effects.sends r.0 (subst (λ (ms : List Message). NoTrueFlag ms) r.2 u) in
      let k = collects h.0 d a h.1 in
      let l = finished h.0 x.0 x.1 x.1.finish k.1 v.0 in
      let n = each next xs new l.1 u h.2 in
      (n.0 ∙ l.0 ∙ k.0, n.1)

  -- One Release each.
  releases : (d : Progress) (xs : List (ℕ × ℕ)) → released_for e (release_each d xs).effects.sends ≡ released_for e d.effects.sends + noted e xs
  releases d [] = omega arith
  releases d (x ∷ xs) =
      let said : Release = record { export = export_id x.0; count = x.1 } in
      let k = releases (send d (plain.Release said)) xs in
      let l = released-append e d.effects.sends (message.Plain (plain.Release said) ∷ []) in
      omega arith

  same_imports : (d : Progress) (xs : List (ℕ × ℕ)) → (release_each d xs).state.imports ≡ d.state.imports
  same_imports d [] = refl
  same_imports d (x ∷ xs) = same_imports (send d (plain.Release (record { export = export_id x.0; count = x.1 }))) xs

  same_flags : (d : Progress) (xs : List (ℕ × ℕ)) → NoTrueFlag (release_each d xs).effects.sends → NoTrueFlag d.effects.sends
  same_flags d [] h = h
  same_flags d (x ∷ xs) h =
      let said : Release = record { export = export_id x.0; count = x.1 } in
      let k = unflagged d.effects.sends (message.Plain (plain.Release said) ∷ []) (same_flags (send d (plain.Release said)) xs h) in
      k.0

  pub conserved : (d new : Progress) → d.released ≡ map.empty → NoTrueFlag new.effects.sends → Sweeps d new → import_count (map.get new.state.imports e) + released_for e new.effects.sends ≡ import_count (map.get d.state.imports e) + released_for e d.effects.sends
  conserved d new none u h =
      let g = h.2 in
      let k = g.2 in
      let tight = k.0 in
      let xs = map.entries tight.released in
      let f : new.effects.sends ≡ (release_each tight xs).effects.sends = ap (λ (p : Progress). p.effects.sends) k.2 in
      let i : new.state.imports ≡ tight.state.imports = ap (λ (p : Progress). p.state.imports) k.2 ∙ same_imports tight xs in
      let v : NoTrueFlag tight.effects.sends = same_flags tight xs (subst (λ (ms : List Message). NoTrueFlag ms) f u) in
      let s : Swept g.0 tight = collected tight g.0 k.1 in
      let r = s.3 in
      let w = unflagged g.0.effects.sends r.0 (subst (λ (ms : List Message). NoTrueFlag ms) r.2 v) in
      let a : Apart d = λ j t. ap (λ (m : Map ℕ). map.get m j) none ∙ map.get-empty nat_cmp j in
      let one = each d _ g.0 a w.0 g.1 in
      let two = collects tight g.0 one.1 k.1 in
      let z : noted e (map.entries d.released) ≡ 0 = ap (λ (m : Map ℕ). noted e (map.entries m)) none ∙ ap (noted e) entries_empty in
      let l : released_for e new.effects.sends ≡ released_for e tight.effects.sends + noted e xs = ap (released_for e) f ∙ releases tight xs in
      let n : import_count (map.get new.state.imports e) ≡ import_count (map.get tight.state.imports e) = ap (λ (m : Map Import). import_count (map.get m e)) i in
      let o : import_count (map.get tight.state.imports e) + noted e xs + released_for e tight.effects.sends ≡ total g.0 = two.0 in
      let p : total g.0 ≡ import_count (map.get d.state.imports e) + noted e (map.entries d.released) + released_for e d.effects.sends = one.0 in
      omega arith

-- ---- A received Resolve

module _ (e : ℕ) where
  set : (m : Map Import) (k : ℕ) (x : Import) → import_count (map.get (map.insert m k x) e) ≡ cond (nat_eq e k) x.count (import_count (map.get m e))
  set m k x = ap import_count (get_put m k x e) ∙ by (nat_eq e k)
    where
      by : (b : Bool) → import_count (cond b (Some x) (map.get m e)) ≡ cond b x.count (import_count (map.get m e))
      by true = refl
      by false = refl

  counts_one : (s : State) (sort : SenderKind) (k : ℕ) → import_count (map.get (import_one s sort k).imports e) ≡ import_count (map.get s.imports e) + cond (nat_eq e k) 1 0
  counts_one s sort k = set s.imports k (received sort (map.get s.imports k)) ∙ by (nat_eq e k) refl
    where
      one_more : (o : Option Import) → (received sort o).count ≡ import_count o + 1
      one_more None = refl
      one_more (Some x) = refl

      by : (b : Bool) → nat_eq e k ≡ b → cond b (received sort (map.get s.imports k)).count (import_count (map.get s.imports e)) ≡ import_count (map.get s.imports e) + cond b 1 0
      by true t = one_more (map.get s.imports k) ∙ ap (λ j. import_count (map.get s.imports j) + 1) (sym (equal e k t))
      by false t = omega arith

  takes_one : (s : State) (d : Descriptor) → import_count (map.get (take_one s d).imports e) ≡ import_count (map.get s.imports e) + how_many (nat_eq e) (given (d ∷ []))
  takes_one s descriptor.None = omega arith
  takes_one s (descriptor.SenderHosted k) = counts_one s _ k.0
  takes_one s (descriptor.SenderPromise k) = counts_one s _ k.0
  takes_one s (descriptor.ReceiverHosted k) = omega arith
  takes_one s (descriptor.ReceiverAnswer q path) = omega arith

  -- The resolution that is noted changes no count.
  resolution : (s : State) (k : ℕ) (said : Resolution) (o : Option Import) → import_count (map.get (resolve_import s k said o).imports e) ≡ import_count (map.get s.imports e)
  resolution s k said None = refl
  resolution s k said (Some y) = by (map.get s.imports k) refl
    where
      by : (o : Option Import) → map.get s.imports k ≡ o → import_count (map.get (updated s.imports k (set_resolution said) o) e) ≡ import_count (map.get s.imports e)
      by None f = refl
      by (Some x) f = set s.imports k (set_resolution said x) ∙ at (nat_eq e k) refl
        where
          at : (b : Bool) → nat_eq e k ≡ b → cond b x.count (import_count (map.get s.imports e)) ≡ import_count (map.get s.imports e)
          at true t = sym (ap (λ j. import_count (map.get s.imports j)) (equal e k t) ∙ ap import_count f)
          at false t = refl

  taken : (s : State) (k : ℕ) (d : Descriptor) → s.level ≡ One → import_count (map.get (take_resolve s k (resolved.Cap d)).imports e) ≡ import_count (map.get s.imports e) + how_many (nat_eq e) (given (d ∷ []))
  taken s k d l =
      resolution (take_all s (d ∷ [])) k _ (map.get s.imports k)
      ∙ ap (λ (v : Level). import_count (map.get (take_at v s (d ∷ [])).imports e)) l
      ∙ takes_one s d

  understood : (l : Level) (m : PlainMessage) → l ≡ One → is_foreign l m ≡ false
  understood One m h = refl
  understood Zero m h = cc

  pub resolves : (s : State) (promise : ExportId) (d : Descriptor) (x : Effects) (new : State) → s.level ≡ One → Handles s (message.Plain (plain.Resolve (record { promise = promise; to = resolved.Cap d }))) x new → NoTrueFlag x.sends → import_count (map.get new.imports e) + released_for e x.sends ≡ import_count (map.get s.imports e) + how_many (nat_eq e) (given (d ∷ []))
  resolves s promise d x new l h u =
      let said : Resolve = record { promise = promise; to = resolved.Cap d } in
      let f : h.taken ≡ with_state (begin s) (take_resolve s promise.0 (resolved.Cap d)) = subst (λ (b : Bool). TakesUnless b (begin s) (plain.Resolve said) h.taken) (understood s.level (plain.Resolve said) l) h.takes in
      let ends = h.ends in
      let g : ends.drained ≡ h.taken = none_arose ends.drained h.taken ends.drains (ap (λ (p : Progress). p.arisen) f) in
      let i : ends.drained ≡ with_state (begin s) (take_resolve s promise.0 (resolved.Cap d)) = g ∙ f in
      let k = conserved e ends.drained ends.swept (ap (λ (p : Progress). p.released) i) (subst (λ (y : Effects). NoTrueFlag y.sends) ends.effects_are u) ends.sweeps in
      let a : import_count (map.get new.imports e) ≡ import_count (map.get ends.swept.state.imports e) = ap (λ (t : State). import_count (map.get t.imports e)) ends.new_is in
      let b : released_for e x.sends ≡ released_for e ends.swept.effects.sends = ap (λ (y : Effects). released_for e y.sends) ends.effects_are in
      let c : import_count (map.get ends.drained.state.imports e) ≡ import_count (map.get (take_resolve s promise.0 (resolved.Cap d)).imports e) = ap (λ (p : Progress). import_count (map.get p.state.imports e)) i in
      let m : released_for e ends.drained.effects.sends ≡ 0 = ap (λ (p : Progress). released_for e p.effects.sends) i in
      let n = taken s promise.0 d l in
      omega arith
