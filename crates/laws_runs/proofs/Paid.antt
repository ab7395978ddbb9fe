-- What acts and messages do to the counts of imports.
use Rattle.std.proofs.Common.{◌≡◌, ◌⊎◌, inl, inr, ℕ, suc, ◌+◌, ◌-◌, ◌≤◌, nat_le, T, ◌&&◌, Bool, true, false, cond, nat_eq, List, [], ◌∷◌, ◌++◌, Option, None, Some, refl, sym, ap, subst, ◌∙◌, arith}
use Rattle.std.specs.FinMap as map
use Rattle.std.specs.FinMap.Entries as entries
use Rattle.std.specs.Ordering.{nat_cmp, eq_by_cmp}
use Rattle.rpc_msg.specs.declared.ids.QuestionId.{QuestionId}
use Rattle.rpc_msg.specs.declared.ids.ExportId.{ExportId}
use Rattle.rpc_msg.specs.declared.parts.Target.{Target}
use Rattle.rpc_msg.specs.declared.exception.Exception.{Exception}
use Rattle.rpc_msg.specs.declared.message.PlainMessage.{PlainMessage}
use Rattle.rpc_msg.specs.declared.message.PlainMessage.TheVariants as plain
use Rattle.rpc_msg.specs.Messages.{given}
use Rattle.finite_maps.specs.Tally.{Map, tally, worth}
use Rattle.finite_maps.proofs.Tallies.{tally-new, tally-split, tally-insert, tally-same, tally-none, tally-within}
use Rattle.finite_maps.proofs.Tested.{ties, equal, get_put, get_cut, get_left, at_changed}
use Rattle.finite_maps.proofs.Gets.{get-insert_same, get-remove_same}
use Rattle.finite_maps.proofs.Sorted.{behind}
use Rattle.rpc_machine.specs.declared.node.Node.{Node}
use Rattle.rpc_machine.specs.declared.calls.Request.{Request}
use Rattle.rpc_machine.specs.declared.calls.Value.{Value}
use Rattle.rpc_machine.specs.declared.calls.Caller.{Caller}
use Rattle.rpc_machine.specs.declared.calls.Caller.TheVariants as caller
use Rattle.rpc_machine.specs.declared.calls.KeptOutcome.{KeptOutcome}
use Rattle.rpc_machine.specs.declared.command.Granted.{Granted}
use Rattle.rpc_machine.specs.declared.entries.Role.{Role}
use Rattle.rpc_machine.specs.declared.entries.Finishing.{Finishing}
use Rattle.rpc_machine.specs.declared.entries.Finishing.TheVariants as finishing
use Rattle.rpc_machine.specs.declared.entries.Returned.{Returned}
use Rattle.rpc_machine.specs.declared.entries.Question.{Question}
use Rattle.rpc_machine.specs.declared.entries.AnswerEntry.{AnswerEntry}
use Rattle.rpc_machine.specs.State.{State}
use Rattle.rpc_machine.specs.Nodes.{is_import}
use Rattle.rpc_machine.specs.Progress.{Progress, with_state, send, export_id, export_ids, numbers}
use Rattle.rpc_machine.specs.Flags.{flag_for, give_back, give_if, give_one, give_each}
use Rattle.rpc_machine.specs.Commands.{AsksBootstrap}
use Rattle.rpc_machine.specs.declared.entries.Role.TheVariants as role
use Rattle.rpc_machine.specs.declared.calls.OwnCall.TheVariants as own
use Rattle.rpc_machine.specs.Routing.{Asks}
use Rattle.rpc_machine.specs.Collecting.{Goes, PromiseGoes, OutcomeGoes, ImportGoes, Collects, Tight, Loose, IsLooseImport, release, without_import}
use Rattle.rpc_machine.specs.Settling.{known, Fits, TellsPeer, Returns, Tells, returned_map, returned, ResolvesBy}
use Rattle.rpc_machine.specs.Sweeping.{closed_map, closed, got_of, finished_by, release_each, releases}
use Rattle.rpc_machine.specs.Limits.{import_count}
use Rattle.rpc_machine.specs.Lists.{how_many}
use Rattle.rpc_machine.specs.UnderWay.{if_true}
use Rattle.rpc_machine.specs.Places.{named_by_question, named_by_returned, named_by_answer, named_by_taken, places, names}
use Rattle.rpc_machine.specs.declared.entries.Import.{Import}
use Rattle.laws_steps.specs.Callers.{IsOpenFor, AnswersWith}
use Rattle.laws_steps.proofs.Among.{none_among, none_counted, in_questions, in_answers, named}
use Rattle.laws_steps.proofs.GivenBack.{of_taken, given_elsewhere}
use Rattle.laws_acts.specs.Acts.{Acts, NoMore, Then}
use Rattle.laws_acts.specs.Sent.{Ids, Noted, note, call_of, asks_sent, root_sent, resolved_to, resolve_sent, end_sent, return_sent, peer_sent, told_sent, releases_sent, sent_by, all_sent}
use Rattle.laws_runs.specs.Views.{IsReady}
use Rattle.laws_runs.proofs.Acted.{act as acts_ready, fresh, closed_one, closed_get}
use Rattle.laws_runs.proofs.Same as same
use Rattle.laws_runs.proofs.Same.{SameIds, gives}
use Rattle.laws_runs.proofs.EachAct.{OfActs, by_act}
use Rattle.laws_runs.specs.Imports.{count, lets_of, letting, got, kept_by, kept, reserved, Brought, IsCovered, pending, AreApart, Paid}

-- ---- What no place names is not reserved

none_reserved : (s : State) (e : ℕ) → IsCovered s → names s (is_import e) ≡ 0 → reserved e s ≡ 0
none_reserved s e c h =
    let one : tally (got e) s.questions ≡ 0 = tally-none (got e) s.questions asked in
    let two : tally (kept e) s.answers ≡ 0 = tally-none (kept e) s.answers taken in
    omega arith
  where
    asked : (k : ℕ) (x : Question) → map.get s.questions k ≡ Some x → got e x ≡ 0
    asked k x g =
        let none : how_many (is_import e) (named_by_returned x.returned) ≡ 0 = none_counted (is_import e) (named_by_returned x.returned) (λ (n : Node) i. none_among (is_import e) (places s) h n (in_questions s n (named named_by_question k x n s.questions g i))) in
        let few = subst (λ (o : Option Question). Brought o) g (c.brought k) in
        omega (arith, few e, none)

    taken : (k : ℕ) (a : AnswerEntry) → map.get s.answers k ≡ Some a → kept e a ≡ 0
    taken k a g = by a.returned (none_counted (is_import e) (named_by_taken a.taken a.returned) (λ (n : Node) i. none_among (is_import e) (places s) h n (in_answers s n (named named_by_answer k a n s.answers g i))))
      where
        by : (o : Option (List ExportId)) → how_many (is_import e) (named_by_taken a.taken o) ≡ 0 → how_many (nat_eq e) (kept_by a.taken o) ≡ 0
        by (Some ids) i = refl
        by None i = sym (of_taken e a.taken) ∙ i

-- ---- What a flag gives back

given_count : (e : ℕ) (ids : List ℕ) (m : Map Import) → how_many (nat_eq e) ids ≤ import_count (map.get m e) → import_count (map.get (give_each m ids) e) + how_many (nat_eq e) ids ≡ import_count (map.get m e)
given_count e [] m h = omega arith
given_count e (i ∷ ids) m h = by (given_count e ids) (nat_eq e i) refl h
  where
    by : ((m : Map Import) → how_many (nat_eq e) ids ≤ import_count (map.get m e) → import_count (map.get (give_each m ids) e) + how_many (nat_eq e) ids ≡ import_count (map.get m e)) → (b : Bool) → nat_eq e i ≡ b → cond b (suc (how_many (nat_eq e) ids)) (how_many (nat_eq e) ids) ≤ import_count (map.get m e) → import_count (map.get (give_each m (i ∷ ids)) e) + cond b (suc (how_many (nat_eq e) ids)) (how_many (nat_eq e) ids) ≡ import_count (map.get m e)
    by rest false f h =
        let same = given_elsewhere m e i (map.get m i) f in
        rest (give_one m i (map.get m i)) (subst (λ (o : Option Import). how_many (nat_eq e) ids ≤ import_count o) (sym same) h) ∙ ap import_count same
    by rest true f h = there (map.get m e) refl h
      where
        j : e ≡ i
        j = equal e i f

        there : (o : Option Import) → map.get m e ≡ o → suc (how_many (nat_eq e) ids) ≤ import_count o → import_count (map.get (give_each m (i ∷ ids)) e) + suc (how_many (nat_eq e) ids) ≡ import_count (map.get m e)
        there None g h = absurd (omega (arith, h))
        there (Some x) g h =
            subst (λ (o : Option Import). import_count (map.get (give_each (give_one m i o) ids) e) + suc (how_many (nat_eq e) ids) ≡ import_count (map.get m e)) (sym (ap (map.get m) (sym j) ∙ g)) (at (nat_le x.count 1) refl)
          where
            at : (c : Bool) → nat_le x.count 1 ≡ c → import_count (map.get (give_each (cond c (map.remove m i) (map.insert m i (record x { count = x.count - 1 }))) ids) e) + suc (how_many (nat_eq e) ids) ≡ import_count (map.get m e)
            at true u =
                let gone : map.get (map.remove m i) e ≡ None = ap (λ (n : ℕ). map.get (map.remove m i) n) j ∙ get-remove_same m i in
                let low : x.count ≤ 1 = grind (arith, u) in
                let k = rest (map.remove m i) (subst (λ (o : Option Import). how_many (nat_eq e) ids ≤ import_count o) (sym gone) (omega (arith, h, low))) in
                let z : import_count (map.get (map.remove m i) e) ≡ 0 = ap import_count gone in
                let w : import_count (map.get m e) ≡ x.count = ap import_count g in
                omega (arith, k, z, w, h, low)
            at false u =
                let y : Import = record x { count = x.count - 1 } in
                let here : map.get (map.insert m i y) e ≡ Some y = ap (λ (n : ℕ). map.get (map.insert m i y) n) j ∙ get-insert_same m i y in
                let k = rest (map.insert m i y) (subst (λ (o : Option Import). how_many (nat_eq e) ids ≤ import_count o) (sym here) (omega (arith, h))) in
                let z : import_count (map.get (map.insert m i y) e) ≡ x.count - 1 = ap import_count here in
                let w : import_count (map.get m e) ≡ x.count = ap import_count g in
                omega (arith, k, z, w, h)

-- An import that isn't there stays away.
given_none : (e : ℕ) (ids : List ℕ) (m : Map Import) → map.get m e ≡ None → map.get (give_each m ids) e ≡ None
given_none e [] m h = h
given_none e (i ∷ ids) m h = by (given_none e ids) (nat_eq e i) refl
  where
    by : ((m : Map Import) → map.get m e ≡ None → map.get (give_each m ids) e ≡ None) → (b : Bool) → nat_eq e i ≡ b → map.get (give_each m (i ∷ ids)) e ≡ None
    by rest false f = rest (give_one m i (map.get m i)) (given_elsewhere m e i (map.get m i) f ∙ h)
    by rest true f = subst (λ (o : Option Import). map.get (give_each (give_one m i o) ids) e ≡ None) (sym (ap (map.get m) (sym (equal e i f)) ∙ h)) (rest m h)

-- ---- One after the other

pub letting-append : (e : ℕ) (xs ys : List Noted) → letting e (xs ++ ys) ≡ letting e xs + letting e ys
letting-append e [] ys = omega arith
letting-append e (x ∷ xs) ys = let r = letting-append e xs ys in omega arith

pub then : (d mid new : Progress) (xs ys : List Noted) → Paid d xs mid → Paid mid ys new → Paid d (xs ++ ys) new
then d mid new xs ys h k = record {
  covered = k.covered;
  apart = k.apart;
  balance = λ e. let a = h.balance e in let b = k.balance e in let c = letting-append e xs ys in omega (arith, a, b, c);
}

-- What changes neither questions, answers nor imports.
pub record Untouched (s t : State) : Type 0 where
  pub questions : t.questions ≡ s.questions
  pub answers : t.answers ≡ s.answers
  pub imports : t.imports ≡ s.imports

pub untouched : (s : State) → Untouched s s
untouched s = record { questions = refl; answers = refl; imports = refl }

pub untouched_ids : (s t : State) → SameIds s t → Untouched s t
untouched_ids s t h = record { questions = h.tables.questions; answers = h.tables.answers; imports = h.imports }

pub then_untouched : (s t u : State) → Untouched s t → Untouched t u → Untouched s u
then_untouched s t u h k = record { questions = k.questions ∙ h.questions; answers = k.answers ∙ h.answers; imports = k.imports ∙ h.imports }

pub covered_still : (s t : State) → Untouched s t → IsCovered s → IsCovered t
covered_still s t h i = record {
  cover = λ e. subst (λ (m : Map Import). reserved e t ≤ import_count (map.get m e)) (sym h.imports)
      (subst (λ (m : Map Question). tally (got e) m + tally (kept e) t.answers ≤ count e s) (sym h.questions)
      (subst (λ (m : Map AnswerEntry). tally (got e) s.questions + tally (kept e) m ≤ count e s) (sym h.answers) (i.cover e)));
  brought = λ q. subst (λ (m : Map Question). Brought (map.get m q)) (sym h.questions) (i.brought q);
}

apart_still : (d new : Progress) → new.released ≡ d.released → new.state.imports ≡ d.state.imports → AreApart d → AreApart new
apart_still d new r h i e = subst (λ (m : Map ℕ). (map.get m e ≡ None) ⊎ (map.get new.state.imports e ≡ None)) (sym r) (subst (λ (m : Map Import). (map.get d.released e ≡ None) ⊎ (map.get m e ≡ None)) (sym h) (i e))

pub quiet : (d new : Progress) → IsCovered d.state → AreApart d → Untouched d.state new.state → new.released ≡ d.released → Paid d [] new
quiet d new i a h r = record {
  covered = covered_still d.state new.state h i;
  apart = apart_still d new r h.imports a;
  balance = λ e.
      let x : count e new.state ≡ count e d.state = ap (λ (m : Map Import). import_count (map.get m e)) h.imports in
      let y : pending e new ≡ pending e d = ap (λ (m : Map ℕ). worth (λ n. n) (map.get m e)) r in
      omega (arith, x, y);
}

pub other : (d new : Progress) (m : PlainMessage) → ((e : ℕ) → lets_of e m [] ≡ 0) → IsCovered d.state → AreApart d → Untouched d.state new.state → new.released ≡ d.released → Paid d (note m [] ∷ []) new
other d new m b i a h r = record {
  covered = covered_still d.state new.state h i;
  apart = apart_still d new r h.imports a;
  balance = λ e.
      let x : count e new.state ≡ count e d.state = ap (λ (m : Map Import). import_count (map.get m e)) h.imports in
      let y : pending e new ≡ pending e d = ap (λ (m : Map ℕ). worth (λ n. n) (map.get m e)) r in
      omega (arith, x, y, b e);
}

-- ---- What goes

goes : (d new : Progress) → IsCovered d.state → AreApart d → Goes d new → Paid d [] new
goes d new i a (PromiseGoes p l h) = rw h (quiet d _ i a (record { questions = refl; answers = refl; imports = refl }) refl)
goes d new i a (OutcomeGoes o l h) = rw h (quiet d _ i a (record { questions = refl; answers = refl; imports = refl }) refl)
goes d new i a (ImportGoes k l h) = subst (λ (p : Progress). Paid d [] p) (sym h) (by (map.get d.state.imports k) refl l)
  where
    by : (o : Option Import) → map.get d.state.imports k ≡ o → IsLooseImport d.state k o → Paid d [] (without_import d k)
    by None g l = absurd l
    by (Some x) g l = record {
      covered = record { cover = λ e. covers e (nat_eq e k) refl; brought = i.brought };
      apart = λ e. parts e (nat_eq e k) refl;
      balance = λ e. balances e (nat_eq e k) refl;
    }
      where
        left : (e : ℕ) → import_count (map.get (map.remove d.state.imports k) e) ≡ import_count (cond (nat_eq e k) None (map.get d.state.imports e))
        left e = ap import_count (get_cut d.state.imports k e)

        covers : (e : ℕ) (b : Bool) → nat_eq e k ≡ b → reserved e d.state ≤ import_count (map.get (map.remove d.state.imports k) e)
        covers e true f = let z : reserved e d.state ≡ 0 = ap (λ (j : ℕ). reserved j d.state) (equal e k f) ∙ none_reserved d.state k i l in omega (arith, z)
        covers e false f = subst (λ (n : ℕ). reserved e d.state ≤ n) (sym (left e ∙ ap (λ b. import_count (cond b None (map.get d.state.imports e))) f)) (i.cover e)

        release_is : (e : ℕ) → map.get (without_import d k).released e ≡ cond (nat_eq e k) (Some x.count) (map.get d.released e)
        release_is e = ap (λ (o : Option Import). map.get (release d.released k o) e) g ∙ get_put d.released k x.count e

        parts : (e : ℕ) (b : Bool) → nat_eq e k ≡ b → (map.get (without_import d k).released e ≡ None) ⊎ (map.get (map.remove d.state.imports k) e ≡ None)
        parts e true f = inr (get_cut d.state.imports k e ∙ ap (λ b. cond b None (map.get d.state.imports e)) f)
        parts e false f = parted (a e)
          where
            parted : (map.get d.released e ≡ None) ⊎ (map.get d.state.imports e ≡ None) → (map.get (without_import d k).released e ≡ None) ⊎ (map.get (map.remove d.state.imports k) e ≡ None)
            parted (inl n) = inl (release_is e ∙ ap (λ b. cond b (Some x.count) (map.get d.released e)) f ∙ n)
            parted (inr n) = inr (get_left d.state.imports k e f ∙ n)

        fresh : (map.get d.released k ≡ None) ⊎ (map.get d.state.imports k ≡ None) → map.get d.released k ≡ None
        fresh (inl n) = n
        fresh (inr n) = absurd (let bad : Some x ≡ None = sym g ∙ n in cc)

        balances : (e : ℕ) (b : Bool) → nat_eq e k ≡ b → import_count (map.get (map.remove d.state.imports k) e) + (worth (λ n. n) (map.get (without_import d k).released e) + 0) ≡ count e d.state + pending e d
        balances e true f =
            let j : e ≡ k = equal e k f in
            let one : import_count (map.get (map.remove d.state.imports k) e) ≡ 0 = left e ∙ ap (λ b. import_count (cond b None (map.get d.state.imports e))) f in
            let two : worth (λ n. n) (map.get (without_import d k).released e) ≡ x.count = ap (worth (λ n. n)) (release_is e ∙ ap (λ b. cond b (Some x.count) (map.get d.released e)) f) in
            let three : count e d.state ≡ x.count = ap (λ (n : ℕ). import_count (map.get d.state.imports n)) j ∙ ap import_count g in
            let four : pending e d ≡ 0 = ap (λ (n : ℕ). worth (λ n. n) (map.get d.released n)) j ∙ ap (worth (λ n. n)) (fresh (a k)) in
            omega (arith, one, two, three, four)
        balances e false f =
            let one : import_count (map.get (map.remove d.state.imports k) e) ≡ count e d.state = left e ∙ ap (λ b. import_count (cond b None (map.get d.state.imports e))) f in
            let two : worth (λ n. n) (map.get (without_import d k).released e) ≡ pending e d = ap (worth (λ n. n)) (release_is e ∙ ap (λ b. cond b (Some x.count) (map.get d.released e)) f) in
            omega (arith, one, two)

pub collects : (new d : Progress) → IsCovered d.state → AreApart d → Collects new d → Paid d [] new
collects new d i a (Tight h) = quiet d d i a (untouched d.state) refl
collects new d i a (Loose {mid = mid} g rest) = let k = goes d mid i a g in then d mid new [] [] k (collects new mid k.covered k.apart rest)

-- ---- Asking

asked : (d new : Progress) (k : ℕ) (role : Role) (ids : List ℕ) (m : PlainMessage) (u : State) → map.get d.state.questions k ≡ None → ((e : ℕ) → lets_of e m [] ≡ 0) → IsCovered d.state → AreApart d → Untouched d.state u → new.state ≡ record u { questions = map.insert u.questions k (fresh role ids) } → new.released ≡ d.released → Paid d (note m [] ∷ []) new
asked d new k role ids m u free b i a h t r = record {
  covered = subst IsCovered (sym t) (record {
    cover = λ e. let g = c.cover e in let n = tally-new (got e) u.questions k (fresh role ids) (ap (λ (w : Map Question). map.get w k) h.questions ∙ free) in omega (arith, g, n);
    brought = at_changed (λ o. Brought o) u.questions k (Some (fresh role ids)) (map.insert u.questions k (fresh role ids)) (get_put u.questions k (fresh role ids)) (λ e. omega arith) c.brought;
  });
  apart = apart_still d new r (ap (λ (s : State). s.imports) t ∙ h.imports) a;
  balance = λ e.
      let x : count e new.state ≡ count e d.state = ap (λ (s : State). count e s) t ∙ ap (λ (m : Map Import). import_count (map.get m e)) h.imports in
      let y : pending e new ≡ pending e d = ap (λ (m : Map ℕ). worth (λ n. n) (map.get m e)) r in
      omega (arith, x, y, b e);
}
  where
    c : IsCovered u
    c = covered_still d.state u h i

asks : (d e : Progress) (k : ℕ) (role : Role) (t : Target) (r : Request) (new : Progress) → IsCovered d.state → AreApart d → Untouched d.state e.state → e.released ≡ d.released → (h : Asks e k role t r new) → Paid d (asks_sent e new k role t r h) new
asks d e k role t r new i a h p w =
    let g = w.1 in
    let m = call_of k t r g.0 in
    asked d new k role (given g.0) m g.1 (ap (λ (m : Map Question). map.get m k) (sym h.questions) ∙ w.0) (λ e. refl) i a
    (then_untouched d.state e.state g.1 h (untouched_ids e.state g.1 (same.describes_all e.state r.caps g.0 g.1 g.2)))
    (ap (λ (p : Progress). p.state) g.3)
    (ap (λ (p : Progress). p.released) g.3 ∙ p)

asks_root : (d : Progress) (g : Granted) (new : Progress) → IsCovered d.state → AreApart d → (h : AsksBootstrap d g new) → Paid d (root_sent d new g h) new
asks_root d g new i a h =
    let m = plain.Bootstrap (record { 0 = h.0 }) in
    let u : State = record (d.state) { calls = map.insert d.state.calls d.state.next_call (own.Direct (record { 0 = h.0 })); next_call = d.state.next_call + 1 } in
    asked d new h.0 (role.Direct (record { 0 = d.state.next_call })) [] m u h.1 (λ e. refl) i a
    (record { questions = refl; answers = refl; imports = refl })
    (ap (λ (p : Progress). p.state) h.3)
    (ap (λ (p : Progress). p.released) h.3)

-- ---- Giving back

few : (e : ℕ) (b : Bool) (ids : List ℕ) → how_many (nat_eq e) (if_true b ids) ≤ how_many (nat_eq e) ids
few e true ids = omega arith
few e false ids = omega arith

given_if : (s : State) (b : Bool) (ids : List ℕ) (e : ℕ) → how_many (nat_eq e) ids ≤ count e s → count e (give_if s b ids) + how_many (nat_eq e) (if_true b ids) ≡ count e s
given_if s true ids e h = given_count e ids s.imports h
given_if s false ids e h = omega arith

gave_none : (s : State) (b : Bool) (ids : List ℕ) (e : ℕ) → map.get s.imports e ≡ None → map.get (give_if s b ids).imports e ≡ None
gave_none s true ids e h = given_none e ids s.imports h
gave_none s false ids e h = h

apart_given : (d : Progress) (b : Bool) (ids : List ℕ) → AreApart d → (e : ℕ) → (map.get d.released e ≡ None) ⊎ (map.get (give_if d.state b ids).imports e ≡ None)
apart_given d b ids a e = by (a e)
  where
    by : (map.get d.released e ≡ None) ⊎ (map.get d.state.imports e ≡ None) → (map.get d.released e ≡ None) ⊎ (map.get (give_if d.state b ids).imports e ≡ None)
    by (inl h) = inl h
    by (inr h) = inr (gave_none d.state b ids e h)

-- ---- Finishing

closed_tally : (e : ℕ) (m : Map Question) (k : ℕ) (x : Question) (o : Option Returned) → map.get m k ≡ Some x → x.returned ≡ o → tally (got e) (closed_map m k x o) + got e x ≡ tally (got e) m
closed_tally e m k x None h f =
    let a = tally-same (got e) m k x (record x { finish = finishing.Sent }) h refl in
    let z : got e x ≡ 0 = ap (λ (o : Option Returned). how_many (nat_eq e) (got_of o)) f in
    omega (arith, a, z)
closed_tally e m k x (Some said) h f = let a = tally-split (got e) m k x h in omega (arith, a)

closed_brought : (x : Question) (o : Option Returned) → Brought (Some x) → Brought (closed_one x o)
closed_brought x None h = h
closed_brought x (Some said) h = tt

ends_owed : (d : Progress) (k : ℕ) (x : Question) → IsCovered d.state → AreApart d → map.get d.state.questions k ≡ Some x → Paid d (end_sent d k x finishing.Owed) (finished_by d k x finishing.Owed)
ends_owed d k x i a there = record {
  covered = record {
    cover = λ e. let g = i.cover e in let t = tallies e in let n = counts e in let w = few e (flag_for d.state (got_of x.returned)) (got_of x.returned) in
        let z : tally (kept e) (give_back d.state (got_of x.returned)).answers ≡ tally (kept e) d.state.answers = ap (λ (m : Map AnswerEntry). tally (kept e) m) (gives d.state (got_of x.returned)).answers in
        omega (arith, g, t, n, w, z);
    brought = at_changed (λ o. Brought o) d.state.questions k (closed_one x x.returned) (closed d_given k x).questions (λ q. ap (λ (m : Map Question). map.get (closed_map m k x x.returned) q) same ∙ closed_get d.state.questions k x x.returned q) (closed_brought x x.returned (subst (λ (o : Option Question). Brought o) there (i.brought k))) i.brought;
  };
  apart = apart_given d (flag_for d.state (got_of x.returned)) (got_of x.returned) a;
  balance = λ e. let n = counts e in omega (arith, n);
}
  where
    d_given : State
    d_given = give_back d.state (got_of x.returned)

    same : (give_back d.state (got_of x.returned)).questions ≡ d.state.questions
    same = (gives d.state (got_of x.returned)).questions

    tallies : (e : ℕ) → tally (got e) (closed (give_back d.state (got_of x.returned)) k x).questions + got e x ≡ tally (got e) d.state.questions
    tallies e = ap (λ (m : Map Question). tally (got e) (closed_map m k x x.returned) + got e x) same ∙ closed_tally e d.state.questions k x x.returned there refl

    counts : (e : ℕ) → count e (give_back d.state (got_of x.returned)) + how_many (nat_eq e) (if_true (flag_for d.state (got_of x.returned)) (got_of x.returned)) ≡ count e d.state
    counts e = given_if d.state (flag_for d.state (got_of x.returned)) (got_of x.returned) e (let g = i.cover e in let w = tally-within (got e) d.state.questions k x there in omega (arith, g, w))

ends_waived : (d : Progress) (k : ℕ) (x : Question) → IsCovered d.state → AreApart d → map.get d.state.questions k ≡ Some x → Paid d [] (with_state d (closed d.state k x))
ends_waived d k x i a there = record {
  covered = record {
    cover = λ e. let g = i.cover e in let t = closed_tally e d.state.questions k x x.returned there refl in omega (arith, g, t);
    brought = at_changed (λ o. Brought o) d.state.questions k (closed_one x x.returned) (closed d.state k x).questions (closed_get d.state.questions k x x.returned) (closed_brought x x.returned (subst (λ (o : Option Question). Brought o) there (i.brought k))) i.brought;
  };
  apart = a;
  balance = λ e. omega arith;
}

ends : (d new : Progress) (k : ℕ) (x : Question) → IsCovered d.state → AreApart d → map.get d.state.questions k ≡ Some x → new ≡ finished_by d k x x.finish → Paid d (end_sent d k x x.finish) new
ends d new k x i a there h = subst (λ (p : Progress). Paid d (end_sent d k x x.finish) p) (sym h) (by x.finish)
  where
    by : (f : Finishing) → Paid d (end_sent d k x f) (finished_by d k x f)
    by finishing.Owed = ends_owed d k x i a there
    by finishing.Sent = quiet d d i a (untouched d.state) refl
    by finishing.Waived = ends_waived d k x i a there

-- ---- Returning

returned_tally : (e : ℕ) (m : Map AnswerEntry) (k : ℕ) (a : AnswerEntry) (b : Bool) (ids : List ℕ) → map.get m k ≡ Some a → a.returned ≡ None → tally (kept e) (returned_map m k a b ids) + how_many (nat_eq e) (numbers a.taken) ≡ tally (kept e) m
returned_tally e m k a b ids h f = by b
  where
    all : how_many (nat_eq e) (numbers a.taken) + tally (kept e) (map.remove m k) ≡ tally (kept e) m
    all = let g = tally-split (kept e) m k a h in let z : kept e a ≡ how_many (nat_eq e) (numbers a.taken) = ap (λ (o : Option (List ExportId)). how_many (nat_eq e) (kept_by a.taken o)) f in omega (arith, g, z)

    by : (b : Bool) → tally (kept e) (returned_map m k a b ids) + how_many (nat_eq e) (numbers a.taken) ≡ tally (kept e) m
    by true = omega (arith, all)
    by false = let g = tally-insert (kept e) m k (record a { returned = Some (export_ids ids) }) in omega (arith, all, g)

module _ (d new told : Progress) (o : ℕ) (x : KeptOutcome) (v fit : Value) (mid : State) (ready : IsReady d.state) (i : IsCovered d.state) (a : AreApart d) (there : map.get d.state.outcomes o ≡ Some x) (unknown : x.value ≡ None) (f : Fits d.state o x.caller x.waiting v fit mid) (e : new ≡ with_state told (known told.state o x.caller [] fit)) where
  abbrev before : Progress
  before = with_state d (known mid o x.caller x.waiting fit)

  to_before : Untouched d.state before.state
  to_before = untouched_ids d.state before.state (same.then_counts d.state mid before.state (same.fits d.state o x.caller x.waiting v fit mid f) (same.known_same mid o x.caller x.waiting fit)).ids

  quietly : Untouched before.state told.state → told.released ≡ d.released → Paid d [] new
  quietly h r =
      let t = known told.state o x.caller [] fit in
      subst (λ (p : Progress). Paid d [] p) (sym e) (quiet d (with_state told t) i a (then_untouched d.state told.state t (then_untouched d.state before.state told.state to_before h) (record { questions = refl; answers = refl; imports = refl })) r)

  module _ (q : QuestionId) (y : AnswerEntry) (is : map.get d.state.answers q.0 ≡ Some y) (its : (y.outcome ≡ o) × (y.returned ≡ None)) (r : Returns before q y fit told) where
    abbrev ids : Ids
    ids = numbers y.taken

    abbrev then_on : Progress
    then_on = let g = r.4 in g.0

    abbrev flag : Bool
    flag = flag_for then_on.state ids

    to_said : Untouched d.state r.2
    to_said = then_untouched d.state before.state r.2 to_before (untouched_ids before.state r.2 (same.says before.state y.finished fit r.0 r.1 r.2 r.3))

    first : Paid d [] then_on
    first =
        let g = r.4 in
        let one = quiet d (with_state before r.2) i a to_said refl in
        then d (with_state before r.2) then_on [] [] one (collects then_on (with_state before r.2) one.covered one.apart g.1)

    is_still : map.get then_on.state.answers q.0 ≡ Some y
    is_still = let g = r.4 in let c = same.collects then_on (with_state before r.2) g.1 in ap (λ (m : Map AnswerEntry). map.get m q.0) (c.answers ∙ to_said.answers) ∙ is

    abbrev last_state : State
    last_state = known (returned (give_back then_on.state ids) q.0 y (given r.1)) o x.caller [] fit

    abbrev return_of : PlainMessage
    return_of = plain.Return (record { answer = q; release_param_caps = flag; body = r.0 })

    told_is : told ≡ send (with_state then_on (returned (give_back then_on.state ids) q.0 y (given r.1))) return_of
    told_is = let g = r.4 in g.2

    new_is : new ≡ with_state (send then_on return_of) last_state
    new_is = e ∙ ap (λ (p : Progress). with_state p (known p.state o x.caller [] fit)) told_is

    reserves : (k : ℕ) → reserved k last_state + how_many (nat_eq k) ids ≡ reserved k then_on.state
    reserves k =
        let one = returned_tally k then_on.state.answers q.0 y y.finished (given r.1) is_still its.1 in
        let two : tally (kept k) last_state.answers ≡ tally (kept k) (returned_map then_on.state.answers q.0 y y.finished (given r.1)) = ap (λ (m : Map AnswerEntry). tally (kept k) (returned_map m q.0 y y.finished (given r.1))) (gives then_on.state ids).answers in
        let three : tally (got k) last_state.questions ≡ tally (got k) then_on.state.questions = ap (λ (m : Map Question). tally (got k) m) (gives then_on.state ids).questions in
        omega (arith, one, two, three)

    enough : (k : ℕ) → how_many (nat_eq k) ids ≤ count k then_on.state
    enough k = let g = reserves k in let c = first.covered in let h = c.cover k in omega (arith, g, h)

    counts : (k : ℕ) → count k last_state + how_many (nat_eq k) (if_true flag ids) ≡ count k then_on.state
    counts k = given_if then_on.state flag ids k (enough k)

    second : Paid then_on (return_sent before told q y fit r) (with_state (send then_on return_of) last_state)
    second = let c = first.covered in record {
      covered = record {
        cover = λ k. let g = c.cover k in let h = reserves k in let n = counts k in let w = few k flag ids in omega (arith, g, h, n, w);
        brought = λ k. subst (λ (m : Map Question). Brought (map.get m k)) (sym (gives then_on.state ids).questions) (c.brought k);
      };
      apart = apart_given then_on flag ids first.apart;
      balance = λ k. let n = counts k in omega (arith, n);
    }

    by_return : Paid d (return_sent before told q y fit r) new
    by_return = subst (λ (p : Progress). Paid d (return_sent before told q y fit r) p) (sym new_is) (then d then_on (with_state (send then_on return_of) last_state) [] (return_sent before told q y fit r) first second)

  peers : (q : QuestionId) (y : Option AnswerEntry) → x.caller ≡ caller.Peer q → map.get d.state.answers q.0 ≡ y → (h : TellsPeer before q fit y told) → Paid d (peer_sent before told q fit y h) new
  peers q None c g h = absurd h
  peers q (Some y) c g h = by_return q y g (subst (λ (y : Option AnswerEntry). AnswersWith o y) g (ready.opens o q.0 (subst (λ (y : Option KeptOutcome). IsOpenFor q.0 y) (sym there) (unknown, c)))) h

  settles : (who : Caller) → x.caller ≡ who → (h : Tells before who fit told) → Paid d (told_sent before told who fit h) new
  settles (caller.Application c) w h = let g = same.tells_call before c.0 fit (map.get before.state.calls c.0) told h in quietly (untouched_ids before.state told.state g.0.ids) g.1
  settles (caller.Peer q) w h = peers q (map.get before.state.answers q.0) w (ap (λ (m : Map AnswerEntry). map.get m q.0) (sym to_before.answers)) h

-- ---- Releasing

pub release_state : (d : Progress) (xs : List (ℕ × ℕ)) → (release_each d xs).state ≡ d.state
release_state d [] = refl
release_state d (x ∷ xs) = release_state (send d (plain.Release (record { export = export_id x.0; count = x.1 }))) xs

-- The messages let go what was to be released.
release_sum : (e : ℕ) (xs : List (ℕ × ℕ)) → T (entries.is_sorted nat_cmp xs) → letting e (releases_sent xs) ≡ worth (λ n. n) (entries.find nat_cmp e xs)
release_sum e [] s = refl
release_sum e (x ∷ xs) s = by (release_sum e xs) (entries.below_all nat_cmp x.0 xs) refl s (nat_eq e x.0) refl
  where
    by : (T (entries.is_sorted nat_cmp xs) → letting e (releases_sent xs) ≡ worth (λ n. n) (entries.find nat_cmp e xs)) → (b : Bool) → entries.below_all nat_cmp x.0 xs ≡ b → T (b && entries.is_sorted nat_cmp xs) → (c : Bool) → nat_eq e x.0 ≡ c → cond c x.1 0 + letting e (releases_sent xs) ≡ worth (λ n. n) (cond (eq_by_cmp nat_cmp e x.0) (Some x.1) (entries.find nat_cmp e xs))
    by rest false b s c f = absurd s
    by rest true b s false f =
        let k = rest s in
        let g : eq_by_cmp nat_cmp e x.0 ≡ false = ties e x.0 ∙ f in
        let w : worth (λ n. n) (cond (eq_by_cmp nat_cmp e x.0) (Some x.1) (entries.find nat_cmp e xs)) ≡ worth (λ n. n) (entries.find nat_cmp e xs) = ap (λ c. worth (λ n. n) (cond c (Some x.1) (entries.find nat_cmp e xs))) g in
        omega (arith, k, w)
    by rest true b s true f =
        let k = rest s in
        let g : eq_by_cmp nat_cmp e x.0 ≡ true = ties e x.0 ∙ f in
        let none : entries.find nat_cmp e xs ≡ None = absent (entries.find nat_cmp e xs) refl in
        let z : letting e (releases_sent xs) ≡ 0 = k ∙ ap (worth (λ n. n)) none in
        let w : worth (λ n. n) (cond (eq_by_cmp nat_cmp e x.0) (Some x.1) (entries.find nat_cmp e xs)) ≡ x.1 = ap (λ c. worth (λ n. n) (cond c (Some x.1) (entries.find nat_cmp e xs))) g in
        omega (arith, z, w)
      where
        absent : (o : Option ℕ) → entries.find nat_cmp e xs ≡ o → entries.find nat_cmp e xs ≡ None
        absent None h = h
        absent (Some n) h = absurd (let g : eq_by_cmp nat_cmp e x.0 ≡ false = behind x.0 xs e n (subst (λ (b : Bool). T b) (sym b) tt) h in let t : eq_by_cmp nat_cmp e x.0 ≡ true = ties e x.0 ∙ f in cc)

released : (d new : Progress) → IsCovered d.state → new ≡ releases d → Paid d (releases_sent (map.entries d.released)) new
released d new i h = subst (λ (p : Progress). Paid d (releases_sent (map.entries d.released)) p) (sym h) (record {
  covered = subst IsCovered (sym same) i;
  apart = λ e. inl (map.get-empty nat_cmp e);
  balance = λ e.
      let one : pending e (releases d) ≡ 0 = ap (worth (λ n. n)) (map.get-empty nat_cmp e) in
      let two : letting e (releases_sent (map.entries d.released)) ≡ pending e d = release_sum e (map.entries d.released) (map.entries_sorted d.released) ∙ ap (worth (λ n. n)) (sym (map.get-entries d.released e)) in
      let three : count e (releases d).state ≡ count e d.state = ap (count e) same in
      omega (arith, one, two, three);
})
  where
    same : (releases d).state ≡ d.state
    same = release_state d (map.entries d.released)

-- ---- All acts

resolves_one : (d : Progress) (e : ℕ) (x : Option Exception) (n : Node) (new : Progress) → IsCovered d.state → AreApart d → (h : ResolvesBy d e x n new) → Paid d (resolve_sent d new e x n h) new
resolves_one d e x n new i a h = other d new (plain.Resolve (record { promise = export_id e; to = resolved_to d new e x n h })) (λ e. refl) i a (untouched_ids d.state new.state (same.resolves d e x n new h)) (same.resolve_said d e x n new h).1

of_acts : OfActs (λ d new sent. IsReady d.state → IsCovered d.state → AreApart d → Paid d sent new)
of_acts = record {
  quiet = λ d new h r e ready i a. quiet d new i a (untouched_ids d.state new.state h.ids) r;
  asks = λ d e new k role t r h p f w ready i a. asks d e k role t r new i a (untouched_ids d.state e.state h.ids) p w;
  asks_root = λ d new g h ready i a. asks_root d g new i a h;
  turns = λ d new x h p f ready i a. other d new (plain.Disembargo x) (λ e. refl) i a (untouched_ids d.state new.state h.ids) p;
  settles = λ d new told o x v fit mid there unknown f t e ready i a. settles d new told o x v fit mid ready i a there unknown f e x.caller refl t;
  resolves = λ d new e x n h ready i a. resolves_one d e x n new i a h;
  goes = λ d new h ready i a. goes d new i a h;
  ends = λ d new q x there due h ready i a. ends d new q x i a there h;
  releases = λ d new h ready i a. released d new i h;
}

pub acts : (end d : Progress) → IsReady d.state → IsCovered d.state → AreApart d → (list : Acts end d) → Paid d (all_sent list) end
acts end d r i a NoMore = quiet d d i a (untouched d.state) refl
acts end d r i a (Then {mid = mid} one rest) = let k = acts_ready d mid r one in let h = by_act of_acts d mid one r i a in then d mid end (sent_by one) (all_sent rest) h (acts end mid k.moves.ready h.covered h.apart rest)
