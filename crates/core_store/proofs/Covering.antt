-- What would go but for its names stays noted.
use Rattle.std.proofs.Common.{◌≡◌, ℕ, suc, ◌-◌, ◌<◌, Bool, true, false, cond, nat_eq, nat_le, List, [], ◌∷◌, ◌++◌, Option, None, Some, refl, sym, ap, subst, ◌∙◌, arith}
use Rattle.std.specs.List.{Contains}
use Rattle.std.specs.FinMap as map
use Rattle.std.proofs.lemmas.List.Elements.{Contains-append_left, Contains-push}
use Rattle.finite_maps.specs.Tally.{Map}
use Rattle.finite_maps.proofs.Tested.{get_put, get_cut, equal}
use Rattle.rpc_machine.specs.declared.node.Node.{Node}
use Rattle.rpc_machine.specs.declared.node.Node.TheVariants as node
use Rattle.rpc_machine.specs.declared.calls.Caller.{Caller}
use Rattle.rpc_machine.specs.declared.calls.Caller.TheVariants as caller
use Rattle.rpc_machine.specs.declared.calls.Value.{Value}
use Rattle.rpc_machine.specs.declared.calls.KeptOutcome.{KeptOutcome}
use Rattle.rpc_machine.specs.declared.calls.OwnCall.{OwnCall}
use Rattle.rpc_machine.specs.declared.entries.AnswerEntry.{AnswerEntry}
use Rattle.rpc_machine.specs.declared.entries.Export.{Export}
use Rattle.rpc_machine.specs.declared.entries.Embargo.{Embargo}
use Rattle.rpc_machine.specs.declared.entries.Question.{Question}
use Rattle.rpc_machine.specs.declared.entries.Reference.{Reference}
use Rattle.rpc_machine.specs.declared.entries.Role.{Role}
use Rattle.rpc_machine.specs.declared.entries.Role.TheVariants as role
use Rattle.rpc_machine.specs.State.{State}
use Rattle.rpc_machine.specs.Collecting.{CallerIsDone, AnswerIsOther}
use Rattle.core_refcounts.specs.Names.{Counted, Names, count_of, times, raised, lowered, lowered_by, noted_by, named, unnamed, named_all, unnamed_all, all_with_rooms}
use Rattle.core_refcounts.proofs.Counting.{raises}
use Rattle.core_store.specs.Holding.{IsTold, IsToldTo, IsNoted, IsNotedFor, IsNotedAs, IsCovered}

-- ---- Other counts

noted_for : (s : State) (c d : Counted) (q : ℕ) (x : Question) → (IsNoted c q → IsNoted d q) → (Contains c.noted q → Contains d.noted q) → (r : Role) → IsNotedFor s c q x r → IsNotedFor s d q x r
noted_for s c d q x noted there (role.Relay o) h = λ e. there (h e)
noted_for s c d q x noted there (role.Direct call) h = λ e. noted (h e)

noted_as : (s : State) (c d : Counted) (q : ℕ) → (IsNoted c q → IsNoted d q) → (Contains c.noted q → Contains d.noted q) → (o : Option Question) → IsNotedAs s c q o → IsNotedAs s d q o
noted_as s c d q noted there None h = tt
noted_as s c d q noted there (Some x) h = λ e. noted_for s c d q x noted there x.role (h e)

-- Rooms count nothing.
pub covered_over : (s : State) (c d : Names) → IsCovered s c → IsCovered s (all_with_rooms c d)
covered_over s c d h = record {
  promises = h.promises;
  outcomes = h.outcomes;
  imports = h.imports;
  questions = λ q. noted_as s c.questions (all_with_rooms c d).questions q (λ n. n) (λ n. n) (map.get s.questions q) (h.questions q);
}

not_more : (b : Bool) (n : ℕ) → cond b (suc n) n ≡ 0 → n ≡ 0
not_more true n e = absurd (omega (arith, e))
not_more false n e = e

noted_raised : (c : Counted) (k j : ℕ) → IsNoted c j → IsNoted (raised c k) j
noted_raised c k j h e = h (not_more (nat_eq k j) (times c.counts j) (sym (raises c.counts k (times c.counts) (λ j. refl) j) ∙ e))

noted_gone : (noted : List ℕ) (m : Map ℕ) (k j : ℕ) (b : Bool) → nat_eq j k ≡ b → (times m j ≡ 0 → Contains noted j) → count_of (cond b None (map.get m j)) ≡ 0 → Contains (noted ++ k ∷ []) j
noted_gone noted m k j true same h e = subst (Contains (noted ++ k ∷ [])) (sym (equal j k same)) (Contains-push noted k)
noted_gone noted m k j false other h e = Contains-append_left noted (k ∷ []) j (h e)

still_counted : (m : Map ℕ) (j n : ℕ) (b : Bool) → 0 < n → count_of (cond b (Some n) (map.get m j)) ≡ 0 → times m j ≡ 0
still_counted m j n true some e = absurd (omega (arith, some, e))
still_counted m j n false some e = e

noted_less : (c : Counted) (k j n : ℕ) (b : Bool) → nat_le n 1 ≡ b → IsNoted c j → times (cond b (map.remove c.counts k) (map.insert c.counts k (n - 1))) j ≡ 0 → Contains (c.noted ++ cond b (k ∷ []) []) j
noted_less c k j n true last h e =
    noted_gone c.noted c.counts k j (nat_eq j k) refl h (ap count_of (sym (get_cut c.counts k j)) ∙ e)
noted_less c k j n false more h e =
    let two : 1 < n = grind (arith, more) in
    Contains-append_left c.noted [] j (h (still_counted c.counts j (n - 1) (nat_eq j k) (omega (arith, two)) (ap count_of (sym (get_put c.counts k (n - 1) j)) ∙ e)))

noted_lowered : (c : Counted) (k j : ℕ) → IsNoted c j → IsNoted (lowered c k) j
noted_lowered c k j h = by (map.get c.counts k)
  where
    by : (o : Option ℕ) → times (lowered_by c.counts k o) j ≡ 0 → Contains (c.noted ++ noted_by k o) j
    by None e = Contains-append_left c.noted [] j (h e)
    by (Some n) e = noted_less c k j n (nat_le n 1) refl h e

still_noted : (c : Counted) (k j : ℕ) → Contains c.noted j → Contains (lowered c k).noted j
still_noted c k j h = Contains-append_left c.noted (noted_by k (map.get c.counts k)) j h

-- One more place names the node, and one less.
covered_named : (s : State) (c : Names) (n : Node) → IsCovered s c → IsCovered s (named c n)
covered_named s c (node.Object o) h = record { promises = h.promises; outcomes = h.outcomes; imports = h.imports; questions = h.questions }
covered_named s c (node.Promise p) h = record { promises = λ k e. noted_raised c.promises p k (h.promises k e); outcomes = h.outcomes; imports = h.imports; questions = h.questions }
covered_named s c (node.Field o path) h = record { promises = h.promises; outcomes = λ k e. noted_raised c.outcomes o k (h.outcomes k e); imports = h.imports; questions = h.questions }
covered_named s c (node.Import i) h = record { promises = h.promises; outcomes = h.outcomes; imports = λ k e. noted_raised c.imports i.0 k (h.imports k e); questions = h.questions }
covered_named s c (node.Pipe q path) h = record {
  promises = h.promises;
  outcomes = h.outcomes;
  imports = h.imports;
  questions = λ k. noted_as s c.questions (raised c.questions q.0) k (noted_raised c.questions q.0 k) (λ n. n) (map.get s.questions k) (h.questions k);
}
covered_named s c (node.Broken reason) h = h

covered_unnamed : (s : State) (c : Names) (n : Node) → IsCovered s c → IsCovered s (unnamed c n)
covered_unnamed s c (node.Object o) h = record { promises = h.promises; outcomes = h.outcomes; imports = h.imports; questions = h.questions }
covered_unnamed s c (node.Promise p) h = record { promises = λ k e. noted_lowered c.promises p k (h.promises k e); outcomes = h.outcomes; imports = h.imports; questions = h.questions }
covered_unnamed s c (node.Field o path) h = record { promises = h.promises; outcomes = λ k e. noted_lowered c.outcomes o k (h.outcomes k e); imports = h.imports; questions = h.questions }
covered_unnamed s c (node.Import i) h = record { promises = h.promises; outcomes = h.outcomes; imports = λ k e. noted_lowered c.imports i.0 k (h.imports k e); questions = h.questions }
covered_unnamed s c (node.Pipe q path) h = record {
  promises = h.promises;
  outcomes = h.outcomes;
  imports = h.imports;
  questions = λ k. noted_as s c.questions (lowered c.questions q.0) k (noted_lowered c.questions q.0 k) (still_noted c.questions q.0 k) (map.get s.questions k) (h.questions k);
}
covered_unnamed s c (node.Broken reason) h = h

covered_named_all : (s : State) (c : Names) (ns : List Node) → IsCovered s c → IsCovered s (named_all c ns)
covered_named_all s c [] h = h
covered_named_all s c (n ∷ ns) h = covered_named_all s (named c n) ns (covered_named s c n h)

covered_unnamed_all : (s : State) (c : Names) (ns : List Node) → IsCovered s c → IsCovered s (unnamed_all c ns)
covered_unnamed_all s c [] h = h
covered_unnamed_all s c (n ∷ ns) h = covered_unnamed_all s (unnamed c n) ns (covered_unnamed s c n h)

-- Places that come are named, and those that go are not any more.
pub covered_renamed : (s : State) (c : Names) (come gone : List Node) → IsCovered s c → IsCovered s (unnamed_all (named_all c come) gone)
covered_renamed s c come gone h = covered_unnamed_all s (named_all c come) gone (covered_named_all s c come h)

-- ---- Another state

-- The calls and the answers are the same.
module _ (s t : State) (calls : t.calls ≡ s.calls) (answers : t.answers ≡ s.answers) where
  done_back : (o : ℕ) (who : Caller) → CallerIsDone t o who → CallerIsDone s o who
  done_back o (caller.Application call) h = subst (λ (m : Map OwnCall). map.get m call.0 ≡ None) calls h
  done_back o (caller.Peer q) h = subst (λ (m : Map AnswerEntry). AnswerIsOther o (map.get m q.0)) answers h

  told_to_back : (o : ℕ) (x : KeptOutcome) (v : Option Value) → IsToldTo t o x v → IsToldTo s o x v
  told_to_back o x None h = h
  told_to_back o x (Some v) h = (h.0, done_back o x.caller h.1)

  pub told_back : (o : ℕ) (x : Option KeptOutcome) → IsTold t o x → IsTold s o x
  told_back o None h = h
  told_back o (Some x) h = told_to_back o x x.value h

  for_then : (c : Counted) (q : ℕ) (x : Question) (r : Role) → IsNotedFor s c q x r → IsNotedFor t c q x r
  for_then c q x (role.Relay o) h = h
  for_then c q x (role.Direct call) h = λ e. h (subst (λ (m : Map OwnCall). map.get m call.0 ≡ None) calls e)

  pub as_then : (c : Counted) (q : ℕ) (x : Option Question) → IsNotedAs s c q x → IsNotedAs t c q x
  as_then c q None h = tt
  as_then c q (Some x) h = λ e. for_then c q x x.role (h e)

-- Of all that a vat holds, what is noted depends on the other six tables alone.
pub covered_beside : (s : State) (exports : Map Export) (refs : Map Reference) (tasks unsettled : Map ℕ) (embargoes : Map Embargo) (next_ref next_call next_task next_promise : ℕ) (down : Option ℕ) (c : Names) → IsCovered s c
    → IsCovered (record s { exports = exports; refs = refs; tasks = tasks; unsettled = unsettled; embargoes = embargoes; next_ref = next_ref; next_call = next_call; next_task = next_task; next_promise = next_promise; down = down }) c
covered_beside s exports refs tasks unsettled embargoes next_ref next_call next_task next_promise down c h =
    let t : State = record s { exports = exports; refs = refs; tasks = tasks; unsettled = unsettled; embargoes = embargoes; next_ref = next_ref; next_call = next_call; next_task = next_task; next_promise = next_promise; down = down } in
    record {
      promises = h.promises;
      outcomes = λ o told. h.outcomes o (told_back s t refl refl o (map.get s.outcomes o) told);
      imports = h.imports;
      questions = λ q. as_then s t refl refl c.questions q (map.get s.questions q) (h.questions q);
    }
