-- How what is seen of all that waits changes with the entries and the pool.
use Rattle.std.proofs.Common.{◌≡◌, ◌≢◌, ℕ, ◌+◌, ◌-◌, ◌≤◌, ◌<◌, Bool, true, false, zero, suc, List, [], ◌∷◌, ◌++◌, length, Option, None, Some, IsSome, unwrap_or, refl, sym, ap, subst, ◌∙◌, arith}
use Rattle.std.specs.FinMap as map
use Rattle.finite_maps.specs.Tally.{Map, map_values, tally, option_changed}
use Rattle.finite_maps.proofs.Gets.{get-insert_same, get-remove_same}
use Rattle.finite_maps.proofs.Tallies.{tally-empty}
use Rattle.finite_maps.proofs.Values.{map_values-empty, map_values-remove, get-map_values}
use Rattle.std.specs.Ordering.{nat_cmp}
use Rattle.rpc_msg.specs.Op.{Op}
use Rattle.rpc_msg.specs.declared.ids.RefId.{RefId}
use Rattle.rpc_machine.specs.declared.node.Node.{Node}
use Rattle.rpc_machine.specs.declared.calls.WaitingCall.{WaitingCall}
use Rattle.rpc_machine.specs.declared.calls.HeldCall.{HeldCall}
use Rattle.rpc_machine.specs.declared.calls.Value.{Value}
use Rattle.rpc_machine.specs.declared.calls.Caller.{Caller}
use Rattle.rpc_machine.specs.declared.calls.Promise.{Promise}
use Rattle.rpc_machine.specs.declared.calls.Promise.TheVariants as promise
use Rattle.rpc_machine.specs.declared.calls.KeptOutcome.{KeptOutcome}
use Rattle.rpc_machine.specs.declared.entries.Embargo.{Embargo}
use Rattle.rpc_machine.specs.Nodes.{promise_link, value_of}
use Rattle.vat_tables.specs.declared.held_pool.ListKey.{ListKey}
use Rattle.vat_tables.specs.Pool.{PopsFirst}
use Rattle.core_waits.specs.declared.entries.PromiseEntry.{PromiseEntry}
use Rattle.core_waits.specs.declared.entries.OutcomeEntry.{OutcomeEntry}
use Rattle.core_waits.specs.declared.entries.EmbargoEntry.{EmbargoEntry}
use Rattle.core_waits.specs.Waiting.{Waiting, Lists, calls_of, calls_at, seen_by, waiting_of, promise_list, promise_at, promise_with, outcome_list, outcome_with, embargo_list, embargo_with}
use Rattle.core_waits.specs.Changes.{HeldForPromise, HeldForField, HeldUnder, IsOpen, Fixes, Knows, TakesHeld, TakesNext, Lifts, outcome_parts, embargo_parts}
use Rattle.core_waits.specs.Links.{to_of, value_in}
use Rattle.core_waits.specs.Owned.{Owner, InPromise, InOutcome, InEmbargo, Taken, key_of, list_in, list_at, HasCalls, IsOwned, IsListed, IsPlace}
use Rattle.core_waits.proofs.Owning.{none_some, promise_set, promise_gone, outcome_set, outcome_gone, embargo_set, embargo_gone, place_owned, lists_stay, owned_put, some_calls, tally_put, owned_fewer, owned_same, owned_taken, moves_with, KeyAfter, popped, pop_stays}
use Rattle.core_waits.proofs.Seeing.{calls_kept, calls_put, calls_of_put, seen_here, each_kept, one_set}

module _ (ps : Map PromiseEntry) (os : Map OutcomeEntry) (es : Map EmbargoEntry) (taken : Option ListKey) (lists : Lists) where
  -- ---- Promise

  -- The list that the entry names is in the pool.
  pub listed_promise : (k : ℕ) (e : PromiseEntry) → IsOwned (list_at ps os es taken) lists → map.get ps k ≡ Some e → IsListed lists e.list
  listed_promise k e h there = by e.list refl
    where
      by : (o : Option ListKey) → e.list ≡ o → IsListed lists o
      by None is = tt
      by (Some l) is = h.there (InPromise k) l.0 (ap (list_in promise_list) there ∙ ap key_of is)

  -- A call is put there.
  module _ (k : ℕ) (e : PromiseEntry) (key : ListKey) (held : HeldCall) (more : Lists) (h : IsOwned (list_at ps os es taken) lists) (there : map.get ps k ≡ Some e) (place : IsPlace lists e.list key.0) (is : more ≡ map.insert lists key.0 (calls_at lists e.list ++ held ∷ [])) where
    mine_promise : (v : Owner) → list_at ps os es taken v ≡ Some key.0 → v ≡ InPromise k
    mine_promise = place_owned (list_at ps os es taken) lists (InPromise k) e.list key.0 h (ap (list_in promise_list) there) place

    pub owned_promise : IsOwned (list_at (map.insert ps k (record e { list = Some key })) os es taken) more
    owned_promise = subst (λ (m : Lists). IsOwned (list_at (map.insert ps k (record e { list = Some key })) os es taken) m) (sym is)
        (owned_put (list_at ps os es taken) (list_at (map.insert ps k (record e { list = Some key })) os es taken) lists (InPromise k) key.0 (calls_at lists e.list ++ held ∷ []) h (promise_set ps os es taken k (record e { list = Some key }))
        (ap (list_in promise_list) (get-insert_same ps k (record e { list = Some key }))) mine_promise (some_calls (calls_at lists e.list) held))

    stay_promise : (v : Owner) (j : ℕ) → v ≢ InPromise k → list_at ps os es taken v ≡ Some j → map.get (map.insert lists key.0 (calls_at lists e.list ++ held ∷ [])) j ≡ map.get lists j
    stay_promise = lists_stay (list_at ps os es taken) lists (InPromise k) key.0 (calls_at lists e.list ++ held ∷ []) mine_promise

    number_promise : (q : ℕ) → InPromise q ≡ InPromise k → q ≡ k
    number_promise q e = cc

    put_promise : (room : ℕ) → waiting_of (map.insert ps k (record e { list = Some key })) os es taken (map.insert lists key.0 (calls_at lists e.list ++ held ∷ [])) (room - 1)
        ≡ record (waiting_of ps os es taken lists room) { promises = map.insert (waiting_of ps os es taken lists room).promises k (promise_with e (calls_at lists e.list ++ held ∷ [])); held = tally length lists + 1; room = room - 1 }
    put_promise room = λ i. record {
      promises = (one_set promise_list promise_with lists (map.insert lists key.0 (calls_at lists e.list ++ held ∷ [])) ps k (record e { list = Some key }) (λ q l far a. stay_promise (InPromise q) l (λ same. far (number_promise q same)) a)
          ∙ ap (λ (hs : List HeldCall). map.insert (map_values (seen_by promise_list promise_with lists) ps) k (promise_with e hs)) (calls_put lists key (calls_at lists e.list ++ held ∷ []))) i;
      outcomes = each_kept outcome_list outcome_with lists (map.insert lists key.0 (calls_at lists e.list ++ held ∷ [])) os (λ q l a. stay_promise (InOutcome q) l (λ same. cc) a) i;
      embargoes = each_kept embargo_list embargo_with lists (map.insert lists key.0 (calls_at lists e.list ++ held ∷ [])) es (λ q l a. stay_promise (InEmbargo q) l (λ same. cc) a) i;
      taken = calls_kept lists (map.insert lists key.0 (calls_at lists e.list ++ held ∷ [])) taken (λ l a. stay_promise Taken l (λ same. cc) a) i;
      held = tally_put lists e.list key.0 held place i;
      room = room - 1;
    }

    pub put_at_promise : (room : ℕ) → waiting_of (map.insert ps k (record e { list = Some key })) os es taken more (room - 1)
        ≡ record (waiting_of ps os es taken lists room) { promises = map.insert (waiting_of ps os es taken lists room).promises k (promise_with e (calls_at lists e.list ++ held ∷ [])); held = tally length lists + 1; room = room - 1 }
    put_at_promise room = ap (λ (m : Lists). waiting_of (map.insert ps k (record e { list = Some key })) os es taken m (room - 1)) is ∙ put_promise room

  -- An entry without a list is put there.
  module _ (k : ℕ) (e : PromiseEntry) (h : IsOwned (list_at ps os es taken) lists) where
    pub owned_new_promise : e.list ≡ None → IsOwned (list_at (map.insert ps k e) os es taken) lists
    owned_new_promise none = owned_fewer (list_at ps os es taken) (list_at (map.insert ps k e) os es taken) lists (InPromise k) h (promise_set ps os es taken k e) (ap (list_in promise_list) (get-insert_same ps k e) ∙ ap key_of none)

    pub owned_same_promise : (old : PromiseEntry) → map.get ps k ≡ Some old → e.list ≡ old.list → IsOwned (list_at (map.insert ps k e) os es taken) lists
    owned_same_promise old there same = owned_same (list_at ps os es taken) (list_at (map.insert ps k e) os es taken) lists (InPromise k) h (promise_set ps os es taken k e) (ap (list_in promise_list) (get-insert_same ps k e) ∙ ap key_of same ∙ sym (ap (list_in promise_list) there))

    -- Its list is taken out with it.
    pub owned_out_promise : (list : Option ListKey) (old : PromiseEntry) → taken ≡ None → map.get ps k ≡ Some old → old.list ≡ list → e.list ≡ None → IsOwned (list_at (map.insert ps k e) os es list) lists
    owned_out_promise list old none there is gone =
        owned_taken (list_at ps os es taken) (list_at (map.insert ps k e) os es list) lists (InPromise k) h
        (moves_with ps (map.insert ps k e) os os es es taken list (InPromise k) (promise_set ps os es taken k e))
        (ap key_of none) (sym (ap (list_in promise_list) there ∙ ap key_of is)) (ap (list_in promise_list) (get-insert_same ps k e) ∙ ap key_of gone)

  module _ (k : ℕ) (h : IsOwned (list_at ps os es taken) lists) where
    pub owned_gone_promise : IsOwned (list_at (map.remove ps k) os es taken) lists
    owned_gone_promise = owned_fewer (list_at ps os es taken) (list_at (map.remove ps k) os es taken) lists (InPromise k) h (promise_gone ps os es taken k) (ap (list_in promise_list) (get-remove_same ps k))

    pub owned_lifted_promise : (list : Option ListKey) (old : PromiseEntry) → taken ≡ None → map.get ps k ≡ Some old → old.list ≡ list → IsOwned (list_at (map.remove ps k) os es list) lists
    owned_lifted_promise list old none there is =
        owned_taken (list_at ps os es taken) (list_at (map.remove ps k) os es list) lists (InPromise k) h
        (moves_with ps (map.remove ps k) os os es es taken list (InPromise k) (promise_gone ps os es taken k))
        (ap key_of none) (sym (ap (list_in promise_list) there ∙ ap key_of is)) (ap (list_in promise_list) (get-remove_same ps k))

  -- ---- KeptOutcome

  -- The list that the entry names is in the pool.
  pub listed_outcome : (k : ℕ) (e : OutcomeEntry) → IsOwned (list_at ps os es taken) lists → map.get os k ≡ Some e → IsListed lists e.list
  listed_outcome k e h there = by e.list refl
    where
      by : (o : Option ListKey) → e.list ≡ o → IsListed lists o
      by None is = tt
      by (Some l) is = h.there (InOutcome k) l.0 (ap (list_in outcome_list) there ∙ ap key_of is)

  -- A call is put there.
  module _ (k : ℕ) (e : OutcomeEntry) (key : ListKey) (held : HeldCall) (more : Lists) (h : IsOwned (list_at ps os es taken) lists) (there : map.get os k ≡ Some e) (place : IsPlace lists e.list key.0) (is : more ≡ map.insert lists key.0 (calls_at lists e.list ++ held ∷ [])) where
    mine_outcome : (v : Owner) → list_at ps os es taken v ≡ Some key.0 → v ≡ InOutcome k
    mine_outcome = place_owned (list_at ps os es taken) lists (InOutcome k) e.list key.0 h (ap (list_in outcome_list) there) place

    pub owned_outcome : IsOwned (list_at ps (map.insert os k (record e { list = Some key })) es taken) more
    owned_outcome = subst (λ (m : Lists). IsOwned (list_at ps (map.insert os k (record e { list = Some key })) es taken) m) (sym is)
        (owned_put (list_at ps os es taken) (list_at ps (map.insert os k (record e { list = Some key })) es taken) lists (InOutcome k) key.0 (calls_at lists e.list ++ held ∷ []) h (outcome_set ps os es taken k (record e { list = Some key }))
        (ap (list_in outcome_list) (get-insert_same os k (record e { list = Some key }))) mine_outcome (some_calls (calls_at lists e.list) held))

    stay_outcome : (v : Owner) (j : ℕ) → v ≢ InOutcome k → list_at ps os es taken v ≡ Some j → map.get (map.insert lists key.0 (calls_at lists e.list ++ held ∷ [])) j ≡ map.get lists j
    stay_outcome = lists_stay (list_at ps os es taken) lists (InOutcome k) key.0 (calls_at lists e.list ++ held ∷ []) mine_outcome

    number_outcome : (q : ℕ) → InOutcome q ≡ InOutcome k → q ≡ k
    number_outcome q e = cc

    put_outcome : (room : ℕ) → waiting_of ps (map.insert os k (record e { list = Some key })) es taken (map.insert lists key.0 (calls_at lists e.list ++ held ∷ [])) (room - 1)
        ≡ record (waiting_of ps os es taken lists room) { outcomes = map.insert (waiting_of ps os es taken lists room).outcomes k (outcome_with e (calls_at lists e.list ++ held ∷ [])); held = tally length lists + 1; room = room - 1 }
    put_outcome room = λ i. record {
      promises = each_kept promise_list promise_with lists (map.insert lists key.0 (calls_at lists e.list ++ held ∷ [])) ps (λ q l a. stay_outcome (InPromise q) l (λ same. cc) a) i;
      outcomes = (one_set outcome_list outcome_with lists (map.insert lists key.0 (calls_at lists e.list ++ held ∷ [])) os k (record e { list = Some key }) (λ q l far a. stay_outcome (InOutcome q) l (λ same. far (number_outcome q same)) a)
          ∙ ap (λ (hs : List HeldCall). map.insert (map_values (seen_by outcome_list outcome_with lists) os) k (outcome_with e hs)) (calls_put lists key (calls_at lists e.list ++ held ∷ []))) i;
      embargoes = each_kept embargo_list embargo_with lists (map.insert lists key.0 (calls_at lists e.list ++ held ∷ [])) es (λ q l a. stay_outcome (InEmbargo q) l (λ same. cc) a) i;
      taken = calls_kept lists (map.insert lists key.0 (calls_at lists e.list ++ held ∷ [])) taken (λ l a. stay_outcome Taken l (λ same. cc) a) i;
      held = tally_put lists e.list key.0 held place i;
      room = room - 1;
    }

    pub put_at_outcome : (room : ℕ) → waiting_of ps (map.insert os k (record e { list = Some key })) es taken more (room - 1)
        ≡ record (waiting_of ps os es taken lists room) { outcomes = map.insert (waiting_of ps os es taken lists room).outcomes k (outcome_with e (calls_at lists e.list ++ held ∷ [])); held = tally length lists + 1; room = room - 1 }
    put_at_outcome room = ap (λ (m : Lists). waiting_of ps (map.insert os k (record e { list = Some key })) es taken m (room - 1)) is ∙ put_outcome room

  -- An entry without a list is put there.
  module _ (k : ℕ) (e : OutcomeEntry) (h : IsOwned (list_at ps os es taken) lists) where
    pub owned_new_outcome : e.list ≡ None → IsOwned (list_at ps (map.insert os k e) es taken) lists
    owned_new_outcome none = owned_fewer (list_at ps os es taken) (list_at ps (map.insert os k e) es taken) lists (InOutcome k) h (outcome_set ps os es taken k e) (ap (list_in outcome_list) (get-insert_same os k e) ∙ ap key_of none)

    pub owned_same_outcome : (old : OutcomeEntry) → map.get os k ≡ Some old → e.list ≡ old.list → IsOwned (list_at ps (map.insert os k e) es taken) lists
    owned_same_outcome old there same = owned_same (list_at ps os es taken) (list_at ps (map.insert os k e) es taken) lists (InOutcome k) h (outcome_set ps os es taken k e) (ap (list_in outcome_list) (get-insert_same os k e) ∙ ap key_of same ∙ sym (ap (list_in outcome_list) there))

    -- Its list is taken out with it.
    pub owned_out_outcome : (list : Option ListKey) (old : OutcomeEntry) → taken ≡ None → map.get os k ≡ Some old → old.list ≡ list → e.list ≡ None → IsOwned (list_at ps (map.insert os k e) es list) lists
    owned_out_outcome list old none there is gone =
        owned_taken (list_at ps os es taken) (list_at ps (map.insert os k e) es list) lists (InOutcome k) h
        (moves_with ps ps os (map.insert os k e) es es taken list (InOutcome k) (outcome_set ps os es taken k e))
        (ap key_of none) (sym (ap (list_in outcome_list) there ∙ ap key_of is)) (ap (list_in outcome_list) (get-insert_same os k e) ∙ ap key_of gone)

  module _ (k : ℕ) (h : IsOwned (list_at ps os es taken) lists) where
    pub owned_gone_outcome : IsOwned (list_at ps (map.remove os k) es taken) lists
    owned_gone_outcome = owned_fewer (list_at ps os es taken) (list_at ps (map.remove os k) es taken) lists (InOutcome k) h (outcome_gone ps os es taken k) (ap (list_in outcome_list) (get-remove_same os k))

    pub owned_lifted_outcome : (list : Option ListKey) (old : OutcomeEntry) → taken ≡ None → map.get os k ≡ Some old → old.list ≡ list → IsOwned (list_at ps (map.remove os k) es list) lists
    owned_lifted_outcome list old none there is =
        owned_taken (list_at ps os es taken) (list_at ps (map.remove os k) es list) lists (InOutcome k) h
        (moves_with ps ps os (map.remove os k) es es taken list (InOutcome k) (outcome_gone ps os es taken k))
        (ap key_of none) (sym (ap (list_in outcome_list) there ∙ ap key_of is)) (ap (list_in outcome_list) (get-remove_same os k))

  -- ---- Embargo

  -- The list that the entry names is in the pool.
  pub listed_embargo : (k : ℕ) (e : EmbargoEntry) → IsOwned (list_at ps os es taken) lists → map.get es k ≡ Some e → IsListed lists e.list
  listed_embargo k e h there = by e.list refl
    where
      by : (o : Option ListKey) → e.list ≡ o → IsListed lists o
      by None is = tt
      by (Some l) is = h.there (InEmbargo k) l.0 (ap (list_in embargo_list) there ∙ ap key_of is)

  -- A call is put there.
  module _ (k : ℕ) (e : EmbargoEntry) (key : ListKey) (held : HeldCall) (more : Lists) (h : IsOwned (list_at ps os es taken) lists) (there : map.get es k ≡ Some e) (place : IsPlace lists e.list key.0) (is : more ≡ map.insert lists key.0 (calls_at lists e.list ++ held ∷ [])) where
    mine_embargo : (v : Owner) → list_at ps os es taken v ≡ Some key.0 → v ≡ InEmbargo k
    mine_embargo = place_owned (list_at ps os es taken) lists (InEmbargo k) e.list key.0 h (ap (list_in embargo_list) there) place

    pub owned_embargo : IsOwned (list_at ps os (map.insert es k (record e { list = Some key })) taken) more
    owned_embargo = subst (λ (m : Lists). IsOwned (list_at ps os (map.insert es k (record e { list = Some key })) taken) m) (sym is)
        (owned_put (list_at ps os es taken) (list_at ps os (map.insert es k (record e { list = Some key })) taken) lists (InEmbargo k) key.0 (calls_at lists e.list ++ held ∷ []) h (embargo_set ps os es taken k (record e { list = Some key }))
        (ap (list_in embargo_list) (get-insert_same es k (record e { list = Some key }))) mine_embargo (some_calls (calls_at lists e.list) held))

    stay_embargo : (v : Owner) (j : ℕ) → v ≢ InEmbargo k → list_at ps os es taken v ≡ Some j → map.get (map.insert lists key.0 (calls_at lists e.list ++ held ∷ [])) j ≡ map.get lists j
    stay_embargo = lists_stay (list_at ps os es taken) lists (InEmbargo k) key.0 (calls_at lists e.list ++ held ∷ []) mine_embargo

    number_embargo : (q : ℕ) → InEmbargo q ≡ InEmbargo k → q ≡ k
    number_embargo q e = cc

    put_embargo : (room : ℕ) → waiting_of ps os (map.insert es k (record e { list = Some key })) taken (map.insert lists key.0 (calls_at lists e.list ++ held ∷ [])) (room - 1)
        ≡ record (waiting_of ps os es taken lists room) { embargoes = map.insert (waiting_of ps os es taken lists room).embargoes k (embargo_with e (calls_at lists e.list ++ held ∷ [])); held = tally length lists + 1; room = room - 1 }
    put_embargo room = λ i. record {
      promises = each_kept promise_list promise_with lists (map.insert lists key.0 (calls_at lists e.list ++ held ∷ [])) ps (λ q l a. stay_embargo (InPromise q) l (λ same. cc) a) i;
      outcomes = each_kept outcome_list outcome_with lists (map.insert lists key.0 (calls_at lists e.list ++ held ∷ [])) os (λ q l a. stay_embargo (InOutcome q) l (λ same. cc) a) i;
      embargoes = (one_set embargo_list embargo_with lists (map.insert lists key.0 (calls_at lists e.list ++ held ∷ [])) es k (record e { list = Some key }) (λ q l far a. stay_embargo (InEmbargo q) l (λ same. far (number_embargo q same)) a)
          ∙ ap (λ (hs : List HeldCall). map.insert (map_values (seen_by embargo_list embargo_with lists) es) k (embargo_with e hs)) (calls_put lists key (calls_at lists e.list ++ held ∷ []))) i;
      taken = calls_kept lists (map.insert lists key.0 (calls_at lists e.list ++ held ∷ [])) taken (λ l a. stay_embargo Taken l (λ same. cc) a) i;
      held = tally_put lists e.list key.0 held place i;
      room = room - 1;
    }

    pub put_at_embargo : (room : ℕ) → waiting_of ps os (map.insert es k (record e { list = Some key })) taken more (room - 1)
        ≡ record (waiting_of ps os es taken lists room) { embargoes = map.insert (waiting_of ps os es taken lists room).embargoes k (embargo_with e (calls_at lists e.list ++ held ∷ [])); held = tally length lists + 1; room = room - 1 }
    put_at_embargo room = ap (λ (m : Lists). waiting_of ps os (map.insert es k (record e { list = Some key })) taken m (room - 1)) is ∙ put_embargo room

  -- An entry without a list is put there.
  module _ (k : ℕ) (e : EmbargoEntry) (h : IsOwned (list_at ps os es taken) lists) where
    pub owned_new_embargo : e.list ≡ None → IsOwned (list_at ps os (map.insert es k e) taken) lists
    owned_new_embargo none = owned_fewer (list_at ps os es taken) (list_at ps os (map.insert es k e) taken) lists (InEmbargo k) h (embargo_set ps os es taken k e) (ap (list_in embargo_list) (get-insert_same es k e) ∙ ap key_of none)

    pub owned_same_embargo : (old : EmbargoEntry) → map.get es k ≡ Some old → e.list ≡ old.list → IsOwned (list_at ps os (map.insert es k e) taken) lists
    owned_same_embargo old there same = owned_same (list_at ps os es taken) (list_at ps os (map.insert es k e) taken) lists (InEmbargo k) h (embargo_set ps os es taken k e) (ap (list_in embargo_list) (get-insert_same es k e) ∙ ap key_of same ∙ sym (ap (list_in embargo_list) there))

    -- Its list is taken out with it.
    pub owned_out_embargo : (list : Option ListKey) (old : EmbargoEntry) → taken ≡ None → map.get es k ≡ Some old → old.list ≡ list → e.list ≡ None → IsOwned (list_at ps os (map.insert es k e) list) lists
    owned_out_embargo list old none there is gone =
        owned_taken (list_at ps os es taken) (list_at ps os (map.insert es k e) list) lists (InEmbargo k) h
        (moves_with ps ps os os es (map.insert es k e) taken list (InEmbargo k) (embargo_set ps os es taken k e))
        (ap key_of none) (sym (ap (list_in embargo_list) there ∙ ap key_of is)) (ap (list_in embargo_list) (get-insert_same es k e) ∙ ap key_of gone)

  module _ (k : ℕ) (h : IsOwned (list_at ps os es taken) lists) where
    pub owned_gone_embargo : IsOwned (list_at ps os (map.remove es k) taken) lists
    owned_gone_embargo = owned_fewer (list_at ps os es taken) (list_at ps os (map.remove es k) taken) lists (InEmbargo k) h (embargo_gone ps os es taken k) (ap (list_in embargo_list) (get-remove_same es k))

    pub owned_lifted_embargo : (list : Option ListKey) (old : EmbargoEntry) → taken ≡ None → map.get es k ≡ Some old → old.list ≡ list → IsOwned (list_at ps os (map.remove es k) list) lists
    owned_lifted_embargo list old none there is =
        owned_taken (list_at ps os es taken) (list_at ps os (map.remove es k) list) lists (InEmbargo k) h
        (moves_with ps ps os os es (map.remove es k) taken list (InEmbargo k) (embargo_gone ps os es taken k))
        (ap key_of none) (sym (ap (list_in embargo_list) there ∙ ap key_of is)) (ap (list_in embargo_list) (get-remove_same es k))

-- ---- What is said of the calls

pub held_for_promise : (old new : Waiting) (k : ℕ) (calls : List HeldCall) (held : HeldCall) (to : Option Node) → to ≡ None → map.get old.promises k ≡ Some (promise_at to calls)
    → new ≡ record old { promises = map.insert old.promises k (promise_at to (calls ++ held ∷ [])); held = old.held + 1; room = old.room - 1 } → HeldForPromise old k held.call (map.get old.promises k) new
held_for_promise old new k calls held to none there is =
    subst (λ (o : Option Promise). HeldForPromise old k held.call o new) (sym (there ∙ ap (λ (t : Option Node). Some (promise_at t calls)) none))
    (is ∙ ap (λ (t : Option Node). record old { promises = map.insert old.promises k (promise_at t (calls ++ held ∷ [])); held = old.held + 1; room = old.room - 1 }) none
    ∙ ap (λ (cs : List WaitingCall). record old { promises = map.insert old.promises k (promise.Open cs); held = old.held + 1; room = old.room - 1 }) (calls_of_put calls (held)))

pub held_for_field : (old new : Waiting) (k : ℕ) (path : List Op) (call : WaitingCall) (x : KeptOutcome) → map.get old.outcomes k ≡ Some x
    → new ≡ record old { outcomes = map.insert old.outcomes k (record x { waiting = x.waiting ++ record { path = path; call = call } ∷ [] }); held = old.held + 1; room = old.room - 1 } → HeldForField old k path call (map.get old.outcomes k) new
held_for_field old new k path call x there is = subst (λ (o : Option KeptOutcome). HeldForField old k path call o new) (sym there) is

pub held_under : (old new : Waiting) (k : ℕ) (reference : RefId) (to : Node) (calls : List HeldCall) (held : HeldCall) → map.get old.embargoes k ≡ Some (record { reference = reference; node = to; waiting = calls_of calls })
    → new ≡ record old { embargoes = map.insert old.embargoes k (record { reference = reference; node = to; waiting = calls_of (calls ++ held ∷ []) }); held = old.held + 1; room = old.room - 1 } → HeldUnder old k held.call (map.get old.embargoes k) new
held_under old new k reference to calls held there is =
    subst (λ (o : Option Embargo). HeldUnder old k held.call o new) (sym there)
    (is ∙ ap (λ (cs : List WaitingCall). record old { embargoes = map.insert old.embargoes k (record { reference = reference; node = to; waiting = cs }); held = old.held + 1; room = old.room - 1 }) (calls_of_put calls (held)))

-- An open promise, or none.
pub not_open : (lists : Lists) (ps : Map PromiseEntry) (k : ℕ) → map.get ps k ≡ None → ¬ (IsOpen (map.get (map_values (seen_by promise_list promise_with lists) ps) k))
not_open lists ps k free = λ o. subst (λ (p : Option Promise). IsOpen p) (get-map_values (seen_by promise_list promise_with lists) ps k ∙ ap (option_changed (seen_by promise_list promise_with lists)) free) o

pub not_fixed : (lists : Lists) (ps : Map PromiseEntry) (k : ℕ) (e : PromiseEntry) (to : Node) → map.get ps k ≡ Some e → e.to ≡ Some to → ¬ (IsOpen (map.get (map_values (seen_by promise_list promise_with lists) ps) k))
not_fixed lists ps k e to there fixed = λ o. subst (λ (p : Option Promise). IsOpen p) (seen_here promise_list promise_with lists ps k e there ∙ ap (λ (t : Option Node). Some (promise_at t (calls_at lists e.list))) fixed) o

-- What is taken out is some call at least.
pub none_taken : (ps : Map PromiseEntry) (os : Map OutcomeEntry) (es : Map EmbargoEntry) (taken : Option ListKey) (lists : Lists) (l : ListKey) → IsOwned (list_at ps os es taken) lists → taken ≡ Some l → ¬ (calls_at lists taken ≡ [])
none_taken ps os es taken lists l h is none = by (map.get lists l.0) (h.there Taken l.0 (ap key_of is)) (sym (ap (calls_at lists) is) ∙ none)
  where
    by : (o : Option (List HeldCall)) → HasCalls o → ¬ (unwrap_or o [] ≡ [])
    by None h e = h
    by (Some []) h e = h
    by (Some (x ∷ xs)) h e = cc

-- The entry is fixed, and its calls are taken out.
pub fixes : (old new : Waiting) (k : ℕ) (to : Node) (calls : List HeldCall) (before : Option Node) → before ≡ None → map.get old.promises k ≡ Some (promise_at before calls)
    → new ≡ record old { promises = map.insert old.promises k (promise.Fixed to); taken = calls } → Fixes old k to (map.get old.promises k) new
fixes old new k to calls before none there is =
    subst (λ (o : Option Promise). Fixes old k to o new) (sym (there ∙ ap (λ (t : Option Node). Some (promise_at t calls)) none)) (calls, refl, is)

-- ---- As the functions say it

module _ (ps : Map PromiseEntry) (os : Map OutcomeEntry) (es : Map EmbargoEntry) (taken : Option ListKey) (lists more : Lists) (key : ListKey) (held : HeldCall) (h : IsOwned (list_at ps os es taken) lists) where
  module _ (k : ℕ) (f e : PromiseEntry) (found : Some f ≡ map.get ps k) (there : Some e ≡ map.get ps k) (place : IsPlace lists f.list key.0) (is : more ≡ map.insert lists key.0 (calls_at lists f.list ++ held ∷ [])) where
    same_promise : f ≡ e
    same_promise = ap (λ (o : Option PromiseEntry). unwrap_or o e) (found ∙ sym there)

    pub put_owned_promise : IsOwned (list_at (map.insert ps k (record e { list = Some key })) os es taken) more
    put_owned_promise = owned_promise ps os es taken lists k e key held more h (sym there) (subst (λ (x : PromiseEntry). IsPlace lists x.list key.0) same_promise place) (is ∙ ap (λ (x : PromiseEntry). map.insert lists key.0 (calls_at lists x.list ++ held ∷ [])) same_promise)

    pub put_seen_promise : (room r : ℕ) → r ≡ room - 1 → waiting_of (map.insert ps k (record e { list = Some key })) os es taken more r
        ≡ record (waiting_of ps os es taken lists room) { promises = map.insert (waiting_of ps os es taken lists room).promises k (promise_with e (calls_at lists e.list ++ held ∷ [])); held = tally length lists + 1; room = room - 1 }
    put_seen_promise room r less = ap (λ (n : ℕ). waiting_of (map.insert ps k (record e { list = Some key })) os es taken more n) less ∙ put_at_promise ps os es taken lists k e key held more h (sym there) (subst (λ (x : PromiseEntry). IsPlace lists x.list key.0) same_promise place) (is ∙ ap (λ (x : PromiseEntry). map.insert lists key.0 (calls_at lists x.list ++ held ∷ [])) same_promise) room

  module _ (k : ℕ) (f e : OutcomeEntry) (found : Some f ≡ map.get os k) (there : Some e ≡ map.get os k) (place : IsPlace lists f.list key.0) (is : more ≡ map.insert lists key.0 (calls_at lists f.list ++ held ∷ [])) where
    same_outcome : f ≡ e
    same_outcome = ap (λ (o : Option OutcomeEntry). unwrap_or o e) (found ∙ sym there)

    pub put_owned_outcome : IsOwned (list_at ps (map.insert os k (record e { list = Some key })) es taken) more
    put_owned_outcome = owned_outcome ps os es taken lists k e key held more h (sym there) (subst (λ (x : OutcomeEntry). IsPlace lists x.list key.0) same_outcome place) (is ∙ ap (λ (x : OutcomeEntry). map.insert lists key.0 (calls_at lists x.list ++ held ∷ [])) same_outcome)

    pub put_seen_outcome : (room r : ℕ) → r ≡ room - 1 → waiting_of ps (map.insert os k (record e { list = Some key })) es taken more r
        ≡ record (waiting_of ps os es taken lists room) { outcomes = map.insert (waiting_of ps os es taken lists room).outcomes k (outcome_with e (calls_at lists e.list ++ held ∷ [])); held = tally length lists + 1; room = room - 1 }
    put_seen_outcome room r less = ap (λ (n : ℕ). waiting_of ps (map.insert os k (record e { list = Some key })) es taken more n) less ∙ put_at_outcome ps os es taken lists k e key held more h (sym there) (subst (λ (x : OutcomeEntry). IsPlace lists x.list key.0) same_outcome place) (is ∙ ap (λ (x : OutcomeEntry). map.insert lists key.0 (calls_at lists x.list ++ held ∷ [])) same_outcome) room

  module _ (k : ℕ) (f e : EmbargoEntry) (found : Some f ≡ map.get es k) (there : Some e ≡ map.get es k) (place : IsPlace lists f.list key.0) (is : more ≡ map.insert lists key.0 (calls_at lists f.list ++ held ∷ [])) where
    same_embargo : f ≡ e
    same_embargo = ap (λ (o : Option EmbargoEntry). unwrap_or o e) (found ∙ sym there)

    pub put_owned_embargo : IsOwned (list_at ps os (map.insert es k (record e { list = Some key })) taken) more
    put_owned_embargo = owned_embargo ps os es taken lists k e key held more h (sym there) (subst (λ (x : EmbargoEntry). IsPlace lists x.list key.0) same_embargo place) (is ∙ ap (λ (x : EmbargoEntry). map.insert lists key.0 (calls_at lists x.list ++ held ∷ [])) same_embargo)

    pub put_seen_embargo : (room r : ℕ) → r ≡ room - 1 → waiting_of ps os (map.insert es k (record e { list = Some key })) taken more r
        ≡ record (waiting_of ps os es taken lists room) { embargoes = map.insert (waiting_of ps os es taken lists room).embargoes k (embargo_with e (calls_at lists e.list ++ held ∷ [])); held = tally length lists + 1; room = room - 1 }
    put_seen_embargo room r less = ap (λ (n : ℕ). waiting_of ps os (map.insert es k (record e { list = Some key })) taken more n) less ∙ put_at_embargo ps os es taken lists k e key held more h (sym there) (subst (λ (x : EmbargoEntry). IsPlace lists x.list key.0) same_embargo place) (is ∙ ap (λ (x : EmbargoEntry). map.insert lists key.0 (calls_at lists x.list ++ held ∷ [])) same_embargo) room

module _ {E V : Type 0} (list_of : E → Option ListKey) (with_calls : E → List HeldCall → V) where
  pub not_there : (lists : Lists) (m : Map E) (k : ℕ) → map.get m k ≡ None → ¬ (IsSome (map.get (map_values (seen_by list_of with_calls lists) m) k))
  not_there lists m k free some = by (map.get (map_values (seen_by list_of with_calls lists) m) k) (get-map_values (seen_by list_of with_calls lists) m k ∙ ap (option_changed (seen_by list_of with_calls lists)) free) some
    where
      by : (o : Option V) → o ≡ None → ¬ (IsSome o)
      by None e i = let f : ◌≡◌ {A = Bool} false true = i in cc
      by (Some x) e i = cc

  -- A new entry, under a free key.
  pub new_free : (lists : Lists) (m : Map E) (k : ℕ) → map.get m k ≡ None → map.get (map_values (seen_by list_of with_calls lists) m) k ≡ None
  new_free lists m k free = get-map_values (seen_by list_of with_calls lists) m k ∙ ap (option_changed (seen_by list_of with_calls lists)) free

-- Lists that are the same in number and place.
pub owned_again : (at : Owner → Option ℕ) (lists more : Lists) → more ≡ lists → IsOwned at lists → IsOwned at more
owned_again at lists more e h = subst (λ (m : Lists). IsOwned at m) (sym e) h

-- Nothing, where no entry is.
pub owned_none : (ps : Map PromiseEntry) (os : Map OutcomeEntry) (es : Map EmbargoEntry) (lists : Lists) → ps ≡ map.empty → os ≡ map.empty → es ≡ map.empty → IsOwned (list_at ps os es None) lists
owned_none ps os es lists p o e = record {
  owned = λ v u l a b. absurd (none_some l (sym (none v) ∙ a));
  there = λ v l a. absurd (none_some l (sym (none v) ∙ a));
}
  where
    none : (v : Owner) → list_at ps os es None v ≡ None
    none (InPromise k) = ap (list_in promise_list) (ap (λ (m : Map PromiseEntry). map.get m k) p ∙ map.get-empty nat_cmp k)
    none (InOutcome k) = ap (list_in outcome_list) (ap (λ (m : Map OutcomeEntry). map.get m k) o ∙ map.get-empty nat_cmp k)
    none (InEmbargo k) = ap (list_in embargo_list) (ap (λ (m : Map EmbargoEntry). map.get m k) e ∙ map.get-empty nat_cmp k)
    none Taken = refl

pub seen_none : (ps : Map PromiseEntry) (os : Map OutcomeEntry) (es : Map EmbargoEntry) (lists : Lists) → ps ≡ map.empty → os ≡ map.empty → es ≡ map.empty → lists ≡ map.empty
    → waiting_of ps os es None lists 0 ≡ record { promises = map.empty; outcomes = map.empty; embargoes = map.empty; taken = []; held = 0; room = 0 }
seen_none ps os es lists p o e l = λ i. record {
  promises = (ap (map_values (seen_by promise_list promise_with lists)) p ∙ map_values-empty (seen_by promise_list promise_with lists)) i;
  outcomes = (ap (map_values (seen_by outcome_list outcome_with lists)) o ∙ map_values-empty (seen_by outcome_list outcome_with lists)) i;
  embargoes = (ap (map_values (seen_by embargo_list embargo_with lists)) e ∙ map_values-empty (seen_by embargo_list embargo_with lists)) i;
  taken = [];
  held = (ap (tally length) l ∙ tally-empty length) i;
  room = 0;
}

-- The first of the calls that were taken out went.
pub takes_next : (ps : Map PromiseEntry) (os : Map OutcomeEntry) (es : Map EmbargoEntry) (taken next : Option ListKey) (l : ListKey) (lists more : Lists) (call : HeldCall) (goes_on b : Bool) (room : ℕ)
    → taken ≡ Some l → goes_on ≡ b → next ≡ KeyAfter l b → PopsFirst lists l.0 (map.get lists l.0) (Some (call, goes_on)) more → IsOwned (list_at ps os es taken) lists
    → TakesNext (waiting_of ps os es taken lists room) (Some call) (waiting_of ps os es next more room)
takes_next ps os es taken next l lists more call goes_on b room is e f p h =
    let q = popped lists more l.0 call goes_on (map.get lists l.0) refl p in
    let at_taken : list_at ps os es taken Taken ≡ Some l.0 = ap key_of is in
    let stay = pop_stays (list_at ps os es taken) lists more l.0 call goes_on h at_taken q in (
      ap (calls_at lists) is ∙ q.first ∙ by b (e) ∙ ap (λ (o : Option ListKey). call ∷ calls_at more o) (sym f),
      q.less,
      λ i. record {
        promises = each_kept promise_list promise_with lists more ps (λ k j a. stay (InPromise k) j (λ same. cc) a) i;
        outcomes = each_kept outcome_list outcome_with lists more os (λ k j a. stay (InOutcome k) j (λ same. cc) a) i;
        embargoes = each_kept embargo_list embargo_with lists more es (λ k j a. stay (InEmbargo k) j (λ same. cc) a) i;
        taken = calls_at more next;
        held = tally length more;
        room = room;
      },
    )
  where
    by : (b : Bool) → goes_on ≡ b → call ∷ unwrap_or (map.get more l.0) [] ≡ call ∷ calls_at more (KeyAfter l b)
    by true e = refl
    by false e = ap (λ (o : Option (List HeldCall)). call ∷ unwrap_or o []) ((popped lists more l.0 call goes_on (map.get lists l.0) refl p).ends e)

-- ---- Entries come, change and go, and no list does

pub no_room : (n m : ℕ) → (0 < n → ◌≡◌ {A = Bool} false true) → n ≤ m
no_room zero m h = omega arith
no_room (suc n) m h = absurd (let e : ◌≡◌ {A = Bool} false true = h (omega arith) in cc)

pub pops_some : (lists more : Lists) (l : ℕ) (o : Option (List HeldCall)) → HasCalls o → ¬ (PopsFirst lists l o None more)
pops_some lists more l None h p = h
pops_some lists more l (Some []) h p = h
pops_some lists more l (Some (x ∷ [])) h p = let e : ◌≡◌ {A = Option (HeldCall × Bool)} None (Some (x, false)) = p.0 in cc
pops_some lists more l (Some (x ∷ y ∷ rest)) h p = let e : ◌≡◌ {A = Option (HeldCall × Bool)} None (Some (x, true)) = p.0 in cc

module _ (ps : Map PromiseEntry) (os : Map OutcomeEntry) (es : Map EmbargoEntry) (taken : Option ListKey) (lists : Lists) (room : ℕ) where
  pub seen_set_promise : (list : Option ListKey) (k : ℕ) (e : PromiseEntry) → waiting_of (map.insert ps k e) os es list lists room ≡ record (waiting_of ps os es taken lists room) { promises = map.insert (waiting_of ps os es taken lists room).promises k (promise_with e (calls_at lists e.list)); taken = calls_at lists list }
  seen_set_promise list k e = λ i. record {
    promises = one_set promise_list promise_with lists lists ps k e (λ q l far a. refl) i;
    outcomes = (waiting_of ps os es taken lists room).outcomes;
    embargoes = (waiting_of ps os es taken lists room).embargoes;
    taken = calls_at lists list;
    held = tally length lists;
    room = room;
  }

  pub seen_new_promise : (r : ℕ) → r ≡ room - 1 → (new : Map PromiseEntry) (k : ℕ) (e : PromiseEntry) → new ≡ map.insert ps k e → waiting_of new os es taken lists r ≡ record (waiting_of ps os es taken lists room) { promises = map.insert (waiting_of ps os es taken lists room).promises k (promise_with e (calls_at lists e.list)); room = room - 1 }
  seen_new_promise r less new k e is = ap (λ (m : Map PromiseEntry). waiting_of m os es taken lists r) is ∙ λ i. record {
    promises = one_set promise_list promise_with lists lists ps k e (λ q l far a. refl) i;
    outcomes = (waiting_of ps os es taken lists room).outcomes;
    embargoes = (waiting_of ps os es taken lists room).embargoes;
    taken = (waiting_of ps os es taken lists room).taken;
    held = tally length lists;
    room = less i;
  }

  pub seen_gone_promise : (list : Option ListKey) (k : ℕ) → waiting_of (map.remove ps k) os es list lists room ≡ record (waiting_of ps os es taken lists room) { promises = map.remove (waiting_of ps os es taken lists room).promises k; taken = calls_at lists list }
  seen_gone_promise list k = λ i. record {
    promises = map_values-remove (seen_by promise_list promise_with lists) ps k i;
    outcomes = (waiting_of ps os es taken lists room).outcomes;
    embargoes = (waiting_of ps os es taken lists room).embargoes;
    taken = calls_at lists list;
    held = tally length lists;
    room = room;
  }

  pub seen_set_outcome : (list : Option ListKey) (k : ℕ) (e : OutcomeEntry) → waiting_of ps (map.insert os k e) es list lists room ≡ record (waiting_of ps os es taken lists room) { outcomes = map.insert (waiting_of ps os es taken lists room).outcomes k (outcome_with e (calls_at lists e.list)); taken = calls_at lists list }
  seen_set_outcome list k e = λ i. record {
    outcomes = one_set outcome_list outcome_with lists lists os k e (λ q l far a. refl) i;
    promises = (waiting_of ps os es taken lists room).promises;
    embargoes = (waiting_of ps os es taken lists room).embargoes;
    taken = calls_at lists list;
    held = tally length lists;
    room = room;
  }

  pub seen_new_outcome : (r : ℕ) → r ≡ room - 1 → (new : Map OutcomeEntry) (k : ℕ) (e : OutcomeEntry) → new ≡ map.insert os k e → waiting_of ps new es taken lists r ≡ record (waiting_of ps os es taken lists room) { outcomes = map.insert (waiting_of ps os es taken lists room).outcomes k (outcome_with e (calls_at lists e.list)); room = room - 1 }
  seen_new_outcome r less new k e is = ap (λ (m : Map OutcomeEntry). waiting_of ps m es taken lists r) is ∙ λ i. record {
    outcomes = one_set outcome_list outcome_with lists lists os k e (λ q l far a. refl) i;
    promises = (waiting_of ps os es taken lists room).promises;
    embargoes = (waiting_of ps os es taken lists room).embargoes;
    taken = (waiting_of ps os es taken lists room).taken;
    held = tally length lists;
    room = less i;
  }

  pub seen_gone_outcome : (list : Option ListKey) (k : ℕ) → waiting_of ps (map.remove os k) es list lists room ≡ record (waiting_of ps os es taken lists room) { outcomes = map.remove (waiting_of ps os es taken lists room).outcomes k; taken = calls_at lists list }
  seen_gone_outcome list k = λ i. record {
    outcomes = map_values-remove (seen_by outcome_list outcome_with lists) os k i;
    promises = (waiting_of ps os es taken lists room).promises;
    embargoes = (waiting_of ps os es taken lists room).embargoes;
    taken = calls_at lists list;
    held = tally length lists;
    room = room;
  }

  pub seen_set_embargo : (list : Option ListKey) (k : ℕ) (e : EmbargoEntry) → waiting_of ps os (map.insert es k e) list lists room ≡ record (waiting_of ps os es taken lists room) { embargoes = map.insert (waiting_of ps os es taken lists room).embargoes k (embargo_with e (calls_at lists e.list)); taken = calls_at lists list }
  seen_set_embargo list k e = λ i. record {
    embargoes = one_set embargo_list embargo_with lists lists es k e (λ q l far a. refl) i;
    promises = (waiting_of ps os es taken lists room).promises;
    outcomes = (waiting_of ps os es taken lists room).outcomes;
    taken = calls_at lists list;
    held = tally length lists;
    room = room;
  }

  pub seen_new_embargo : (r : ℕ) → r ≡ room - 1 → (new : Map EmbargoEntry) (k : ℕ) (e : EmbargoEntry) → new ≡ map.insert es k e → waiting_of ps os new taken lists r ≡ record (waiting_of ps os es taken lists room) { embargoes = map.insert (waiting_of ps os es taken lists room).embargoes k (embargo_with e (calls_at lists e.list)); room = room - 1 }
  seen_new_embargo r less new k e is = ap (λ (m : Map EmbargoEntry). waiting_of ps os m taken lists r) is ∙ λ i. record {
    embargoes = one_set embargo_list embargo_with lists lists es k e (λ q l far a. refl) i;
    promises = (waiting_of ps os es taken lists room).promises;
    outcomes = (waiting_of ps os es taken lists room).outcomes;
    taken = (waiting_of ps os es taken lists room).taken;
    held = tally length lists;
    room = less i;
  }

  pub seen_gone_embargo : (list : Option ListKey) (k : ℕ) → waiting_of ps os (map.remove es k) list lists room ≡ record (waiting_of ps os es taken lists room) { embargoes = map.remove (waiting_of ps os es taken lists room).embargoes k; taken = calls_at lists list }
  seen_gone_embargo list k = λ i. record {
    embargoes = map_values-remove (seen_by embargo_list embargo_with lists) es k i;
    promises = (waiting_of ps os es taken lists room).promises;
    outcomes = (waiting_of ps os es taken lists room).outcomes;
    taken = calls_at lists list;
    held = tally length lists;
    room = room;
  }

pub knows : (old new : Waiting) (k : ℕ) (value : Value) (x : KeptOutcome) → map.get old.outcomes k ≡ Some x → new ≡ record old { outcomes = map.insert old.outcomes k (record x { value = Some value }) } → Knows old k value (map.get old.outcomes k) new
knows old new k value x there is = subst (λ (o : Option KeptOutcome). Knows old k value o new) (sym there) is

pub takes_held : (old new : Waiting) (k : ℕ) (x : KeptOutcome) → map.get old.outcomes k ≡ Some x → new ≡ record old { outcomes = map.insert old.outcomes k (record x { waiting = [] }); taken = x.waiting } → TakesHeld old k (map.get old.outcomes k) new
takes_held old new k x there is = subst (λ (o : Option KeptOutcome). TakesHeld old k o new) (sym there) is

pub lifts : (old new : Waiting) (k : ℕ) (reference : RefId) (to : Node) (calls : List HeldCall) → map.get old.embargoes k ≡ Some (record { reference = reference; node = to; waiting = calls_of calls })
    → new ≡ record old { embargoes = map.remove old.embargoes k; taken = calls } → Lifts old k reference to (map.get old.embargoes k) new
lifts old new k reference to calls there is = subst (λ (o : Option Embargo). Lifts old k reference to o new) (sym there) (refl, refl, (calls, refl, is))

pub owned_over : (ps ps2 : Map PromiseEntry) (os os2 : Map OutcomeEntry) (es es2 : Map EmbargoEntry) (taken : Option ListKey) (lists lists2 : Lists) → ps2 ≡ ps → os2 ≡ os → es2 ≡ es → lists2 ≡ lists → IsOwned (list_at ps os es taken) lists → IsOwned (list_at ps2 os2 es2 taken) lists2
owned_over ps ps2 os os2 es es2 taken lists lists2 p o e l h = subst (λ (m : Lists). IsOwned (list_at ps2 os2 es2 taken) m) (sym l) (subst (λ (m : Map PromiseEntry). IsOwned (list_at m os2 es2 taken) lists) (sym p) (subst (λ (m : Map OutcomeEntry). IsOwned (list_at ps m es2 taken) lists) (sym o) (subst (λ (m : Map EmbargoEntry). IsOwned (list_at ps os m taken) lists) (sym e) h)))

-- Where a promise leads, and what an outcome and an embargo are, as their entries say it.
pub link_seen : (lists : Lists) (ps : Map PromiseEntry) (k : ℕ) → promise_link (map.get (map_values (seen_by promise_list promise_with lists) ps) k) ≡ to_of (map.get ps k)
link_seen lists ps k = ap promise_link (get-map_values (seen_by promise_list promise_with lists) ps k) ∙ by (map.get ps k)
  where
    by_to : (t : Option Node) (calls : List HeldCall) → promise_link (Some (promise_at t calls)) ≡ t
    by_to None calls = refl
    by_to (Some to) calls = refl

    by : (o : Option PromiseEntry) → promise_link (option_changed (seen_by promise_list promise_with lists) o) ≡ to_of o
    by None = refl
    by (Some e) = by_to e.to (calls_at lists e.list)

abbrev pub outcome_in : Option OutcomeEntry → Option (Caller × Option Value)
outcome_in None = None
outcome_in (Some e) = Some (e.caller, e.value)

abbrev pub embargo_in : Option EmbargoEntry → Option (RefId × Node)
embargo_in None = None
embargo_in (Some e) = Some (e.reference, e.node)

pub value_seen : (lists : Lists) (os : Map OutcomeEntry) (k : ℕ) → value_of (map.get (map_values (seen_by outcome_list outcome_with lists) os) k) ≡ value_in (map.get os k)
value_seen lists os k = ap value_of (get-map_values (seen_by outcome_list outcome_with lists) os k) ∙ by (map.get os k)
  where
    by : (o : Option OutcomeEntry) → value_of (option_changed (seen_by outcome_list outcome_with lists) o) ≡ value_in o
    by None = refl
    by (Some e) = refl

pub outcome_seen : (lists : Lists) (os : Map OutcomeEntry) (k : ℕ) → outcome_parts (map.get (map_values (seen_by outcome_list outcome_with lists) os) k) ≡ outcome_in (map.get os k)
outcome_seen lists os k = ap outcome_parts (get-map_values (seen_by outcome_list outcome_with lists) os k) ∙ by (map.get os k)
  where
    by : (o : Option OutcomeEntry) → outcome_parts (option_changed (seen_by outcome_list outcome_with lists) o) ≡ outcome_in o
    by None = refl
    by (Some e) = refl

pub embargo_seen : (lists : Lists) (es : Map EmbargoEntry) (k : ℕ) → embargo_parts (map.get (map_values (seen_by embargo_list embargo_with lists) es) k) ≡ embargo_in (map.get es k)
embargo_seen lists es k = ap embargo_parts (get-map_values (seen_by embargo_list embargo_with lists) es k) ∙ by (map.get es k)
  where
    by : (o : Option EmbargoEntry) → embargo_parts (option_changed (seen_by embargo_list embargo_with lists) o) ≡ embargo_in o
    by None = refl
    by (Some e) = refl
