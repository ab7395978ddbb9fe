-- What holds stays so where promises open, are waited for, settle and go.
use Rattle.std.proofs.Common.{◌≡◌, ℕ, ◌+◌, ◌-◌, ◌<◌, cond, suc, List, [], ◌∷◌, ◌++◌, Option, None, Some, length, refl, sym, ap, subst, ◌∙◌, arith, length-append}
use Rattle.std.specs.FinMap as map
use Rattle.finite_maps.proofs.Gets.{each_inserted, each_removed}
use Rattle.finite_maps.proofs.Lens.{len_new, len_same, len_gone}
use Rattle.finite_maps.proofs.Tallies.{tally-new, tally-split}
use Rattle.rpc_machine.specs.declared.node.Node.{Node}
use Rattle.rpc_machine.specs.declared.node.Node.TheVariants as node
use Rattle.rpc_machine.specs.declared.calls.WaitingCall.{WaitingCall}
use Rattle.rpc_machine.specs.declared.calls.HeldCall.{HeldCall}
use Rattle.rpc_machine.specs.declared.calls.Promise.{Promise}
use Rattle.rpc_machine.specs.declared.calls.Promise.TheVariants as promise
use Rattle.rpc_machine.specs.State.{State}
use Rattle.rpc_machine.specs.Nodes.{promise_link, is_promise}
use Rattle.rpc_machine.specs.Places.{named_by_held, named_by_calls}
use Rattle.rpc_machine.specs.Progress.{Progress, begin, with_state}
use Rattle.rpc_machine.specs.Routing.{WaitsForPromise}
use Rattle.rpc_machine.specs.Limits.{held_for_promise, held_limit}
use Rattle.laws_acts.specs.Alike.{Alike, places_beside}
use Rattle.laws_acts.proofs.Likeness.{alike_beside}
use Rattle.laws_acts.proofs.Promises.{promise_opens, promise_holds, promise_goes}
use Rattle.laws_acts.proofs.Taken.{taken_stay}
use Rattle.core_refcounts.specs.Names.{Names, Counts, times, named, unnamed, named_all}
use Rattle.core_refcounts.proofs.Counting.{counts_alike}
use Rattle.core_refcounts.proofs.Listing.{counts_more_all}
use Rattle.finite_maps.proofs.Tested.{itself}
use Rattle.rpc_machine.specs.Lists.{how_many}
use Rattle.core_waits.specs.Waiting.{Waiting}
use Rattle.core_waits.specs.Changes as waits
use Rattle.core_store.proofs.Covering.{covered_renamed}
use Rattle.core_store.proofs.Keeping.{renamed}
use Rattle.core_store.specs.declared.store.Store.{Store}
use Rattle.core_store.specs.Holding.{state_of, all_named, IsFixed, IsNoted, IsCovered, IsSound}
use Rattle.core_store_waits.proofs.Beside.{tally_put, fit_renamed, noted_at_last}
use Rattle.core_store_waits.proofs.Keeping.{after, kept_waits, covered_waits}
use Rattle.core_store_waits.proofs.Linked.{as_many, same_named}

-- ---- A promise opens

pub sound_opened : (x : Store) (k : ℕ) (w : Waiting) (c : Names) → IsSound x → 0 < x.slack → map.get x.waits.promises k ≡ None
    → w ≡ record (x.waits) { promises = map.insert x.waits.promises k (promise.Open []); room = x.waits.room - 1 } → c ≡ named x.names (node.Promise k)
    → IsSound (record x { waits = w; names = c; links = x.links + 1; added = x.added + 1; slack = x.slack - 1 })
sound_opened x k w c h some free is names =
    let s : State = state_of x in
    let v : Waiting = record (x.waits) { promises = map.insert x.waits.promises k (promise.Open []); room = x.waits.room - 1 } in
    let come : List Node = node.Promise k ∷ [] in
    let covered : IsCovered s (renamed x.names come []) = covered_renamed s x.names come [] h.covered in
    let a = tally-new held_for_promise s.promises k (promise.Open []) free in
    let b = h.holds.counted in
    let d = len_new s.promises k (promise.Open []) free in
    let e = h.far in
    let f = h.bounded.added in
    let g = h.bounded.links in
    let i = h.room.waits in
    kept_waits x v w (named x.names (node.Promise k)) c (x.slack - 1) (x.added + 1) (x.links + 1) is names h
    (record {
      names = fit_renamed x (places_beside v.taken (after x v)) come [] (x.slack - 1) (x.added + 1) h (alike_beside x.waits.taken come [] s (after x v) (promise_opens s k free)) (omega (arith, some)) (omega arith);
      covered = covered_waits s v.promises v.outcomes v.embargoes (renamed x.names come []) covered
          (each_inserted (λ p o. IsFixed o → IsNoted (renamed x.names come []).promises p) s.promises k (promise.Open []) (λ no. absurd no) (λ p apart. covered.promises p)) covered.outcomes;
      embargoes = h.within.embargoes;
      counted = omega (arith, a, b);
      within = h.holds.within;
      links = omega (arith, d, e);
      few = omega (arith, g);
      bound = omega (arith, f, some);
      fewer = omega arith;
      room = omega (arith, i);
    })

-- ---- A call waits for one

module _ (x : Store) (k : ℕ) (call : WaitingCall) where
  held_by : (o : Option Promise) (w : Waiting) (c : Names) (count : ℕ) → count ≡ length call.request.caps → map.get x.waits.promises k ≡ o → IsSound x → length call.request.caps < x.slack → x.waits.held < held_limit → waits.HeldForPromise x.waits k call o w
      → c ≡ named_all x.names call.request.caps
      → IsSound (record x { waits = w; names = c; added = x.added + count; slack = x.slack - (count + 1) })
  held_by None w c count many there h some few is names = absurd is
  held_by (Some (promise.Fixed to)) w c count many there h some few is names = absurd is
  held_by (Some (promise.Open calls)) w c count many there h some few is names =
      let s : State = state_of x in
      let caps : List Node = call.request.caps in
      let entry : Promise = promise.Open (calls ++ call ∷ []) in
      let v : Waiting = record (x.waits) { promises = map.insert x.waits.promises k entry; held = x.waits.held + 1; room = x.waits.room - 1 } in
      let covered : IsCovered s (renamed x.names caps []) = covered_renamed s x.names caps [] h.covered in
      let a = tally_put held_for_promise s.promises k (promise.Open calls) entry there in
      let b = h.holds.counted in
      let d = len_same s.promises k (promise.Open calls) entry there in
      let e = h.far in
      let f = h.bounded.added in
      let g = h.bounded.links in
      let i = h.room.waits in
      let j = length-append calls (call ∷ []) in
      kept_waits x v w (named_all x.names caps) c (x.slack - (count + 1)) (x.added + count) x.links is names h
      (record {
        names = fit_renamed x (places_beside v.taken (after x v)) caps [] (x.slack - (count + 1)) (x.added + count) h
            (alike_beside x.waits.taken caps [] s (after x v) (promise_holds s k calls call there)) (omega (arith, some, many)) (omega (arith, many));
        covered = covered_waits s v.promises v.outcomes v.embargoes (renamed x.names caps []) covered
            (each_inserted (λ p o. IsFixed o → IsNoted (renamed x.names caps []).promises p) s.promises k entry (λ no. absurd no) (λ p apart. covered.promises p)) covered.outcomes;
        embargoes = h.within.embargoes;
        counted = omega (arith, a, b, j);
        within = omega (arith, few);
        links = omega (arith, d, e);
        few = omega (arith, g);
        bound = omega (arith, f, some, many);
        fewer = omega arith;
        room = omega (arith, i);
      })

  pub sound_held : (w : Waiting) (c : Names) (count : ℕ) → count ≡ length call.request.caps → IsSound x → length call.request.caps < x.slack → x.waits.held < held_limit → waits.HeldForPromise x.waits k call (map.get x.waits.promises k) w
      → c ≡ named_all x.names call.request.caps
      → IsSound (record x { waits = w; names = c; added = x.added + count; slack = x.slack - (count + 1) })
  sound_held w c count many h some few is names = held_by (map.get x.waits.promises k) w c count many refl h some few is names

  -- In any step in progress it waits as the machine says.
  pub waits_there : (o : Option Promise) (w : Waiting) (d : Progress) → waits.HeldForPromise x.waits k call o w → WaitsForPromise (with_state d (state_of x)) call k o (with_state d (after x w))
  waits_there None w d is = is
  waits_there (Some (promise.Fixed to)) w d is = is
  waits_there (Some (promise.Open calls)) w d is = ap (λ (w : Waiting). with_state d (after x w)) is

-- ---- One settles

-- An open promise names itself. So it is noted as it settles, if nothing else names it.
promise_noted : (c : Names) (ns ms come : List Node) (p : ℕ) → Counts c ns → Alike (come ++ ns) (node.Promise p ∷ ms) → IsNoted (renamed c come (node.Promise p ∷ [])).promises p
promise_noted c ns ms come p h alike =
    let d : Names = named_all c come in
    let counted : Counts d (node.Promise p ∷ ms) = counts_alike d (come ++ ns) (node.Promise p ∷ ms) alike (counts_more_all c ns come h) in
    let a : times d.promises.counts p ≡ suc (how_many (is_promise p) ms) =
    counted.promises p ∙ ap (λ b. cond b (suc (how_many (is_promise p) ms)) (how_many (is_promise p) ms)) (itself p) in
    noted_at_last d.promises p (omega (arith, a))

module _ (x : Store) (k : ℕ) (to : Node) where
  fixed_by : (o : Option Promise) (w : Waiting) (c : Names) → map.get x.waits.promises k ≡ o → IsSound x → 0 < x.slack → x.waits.taken ≡ [] → waits.Fixes x.waits k to o w
      → c ≡ unnamed (named x.names to) (node.Promise k)
      → IsSound (record x { waits = w; names = c; added = x.added + 1; slack = x.slack - 1 })
  fixed_by None w c there h some none is names = absurd is
  fixed_by (Some (promise.Fixed before)) w c there h some none is names = absurd is
  fixed_by (Some (promise.Open calls)) w c there h some none is names =
      let s : State = state_of x in
      let held : List HeldCall = is.0 in
      let come : List Node = to ∷ [] in
      let gone : List Node = node.Promise k ∷ [] in
      let v : Waiting = record (x.waits) { promises = map.insert x.waits.promises k (promise.Fixed to); taken = held } in
      let same : named_by_held held ≡ named_by_calls calls = same_named held ∙ ap named_by_calls is.1 in
      let alike : Alike (come ++ all_named x) (gone ++ places_beside held (after x v)) =
      subst (λ (hs : List HeldCall). Alike (come ++ places_beside hs s) (gone ++ places_beside held (after x v))) (sym none) (taken_stay.fixed s k to calls held there same) in
      let covered : IsCovered s (renamed x.names come gone) = covered_renamed s x.names come gone h.covered in
      let a = tally_put held_for_promise s.promises k (promise.Open calls) (promise.Fixed to) there in
      let b = h.holds.counted in
      let d = len_same s.promises k (promise.Open calls) (promise.Fixed to) there in
      let e = h.far in
      let f = h.bounded.added in
      let g = h.bounded.links in
      let i = h.room.waits in
      let j : length held ≡ length calls = sym (as_many held) ∙ ap (λ (cs : List WaitingCall). length cs) is.1 in
      let l : length x.waits.taken ≡ 0 = ap (λ (hs : List HeldCall). length hs) none in
      kept_waits x v w (unnamed (named x.names to) (node.Promise k)) c (x.slack - 1) (x.added + 1) x.links is.2 names h
      (record {
        names = fit_renamed x (places_beside held (after x v)) come gone (x.slack - 1) (x.added + 1) h alike (omega (arith, some)) (omega arith);
        covered = covered_waits s v.promises v.outcomes v.embargoes (renamed x.names come gone) covered
            (each_inserted (λ p o. IsFixed o → IsNoted (renamed x.names come gone).promises p) s.promises k (promise.Fixed to)
            (λ _. promise_noted x.names (all_named x) (places_beside held (after x v)) come k h.counted alike) (λ p apart. covered.promises p)) covered.outcomes;
        embargoes = h.within.embargoes;
        counted = omega (arith, a, b, j, l);
        within = h.holds.within;
        links = omega (arith, d, e);
        few = omega (arith, g);
        bound = omega (arith, f, some);
        fewer = omega arith;
        room = omega (arith, i);
      })

  pub sound_fixed : (w : Waiting) (c : Names) → IsSound x → 0 < x.slack → x.waits.taken ≡ [] → waits.Fixes x.waits k to (map.get x.waits.promises k) w
      → c ≡ unnamed (named x.names to) (node.Promise k)
      → IsSound (record x { waits = w; names = c; added = x.added + 1; slack = x.slack - 1 })
  sound_fixed w c h some none is names = fixed_by (map.get x.waits.promises k) w c refl h some none is names

-- ---- One goes

fixed_there : (o : Option Promise) (to : Node) → Some to ≡ promise_link o → o ≡ Some (promise.Fixed to)
fixed_there None to is = absurd (let e : ◌≡◌ {A = Option Node} (Some to) None = is in cc)
fixed_there (Some (promise.Fixed before)) to is = let e : before ≡ to = cc in ap (λ (n : Node). Some (promise.Fixed n)) e
fixed_there (Some (promise.Open calls)) to is = absurd (let e : ◌≡◌ {A = Option Node} (Some to) None = is in cc)

pub sound_gone : (x : Store) (k : ℕ) (to : Node) (w : Waiting) (c : Names) → IsSound x → Some to ≡ promise_link (map.get x.waits.promises k)
    → w ≡ record (x.waits) { promises = map.remove x.waits.promises k } → c ≡ unnamed x.names to
    → IsSound (record x { waits = w; names = c; links = x.links - 1 })
sound_gone x k to w c h link is names =
    let s : State = state_of x in
    let there : map.get s.promises k ≡ Some (promise.Fixed to) = fixed_there (map.get s.promises k) to link in
    let v : Waiting = record (x.waits) { promises = map.remove x.waits.promises k } in
    let gone : List Node = to ∷ [] in
    let covered : IsCovered s (renamed x.names [] gone) = covered_renamed s x.names [] gone h.covered in
    let a = tally-split held_for_promise s.promises k (promise.Fixed to) there in
    let b = h.holds.counted in
    let d = len_gone s.promises k (promise.Fixed to) there in
    let e = h.far in
    let g = h.bounded.links in
    kept_waits x v w (unnamed x.names to) c x.slack x.added (x.links - 1) is names h
    (record {
      names = fit_renamed x (places_beside v.taken (after x v)) [] gone x.slack x.added h (alike_beside x.waits.taken [] gone s (after x v) (promise_goes (begin s) k to there)) (omega arith) (omega arith);
      covered = covered_waits s v.promises v.outcomes v.embargoes (renamed x.names [] gone) covered
          (each_removed (λ p o. IsFixed o → IsNoted (renamed x.names [] gone).promises p) s.promises k (λ no. absurd no) (λ p apart. covered.promises p)) covered.outcomes;
      embargoes = h.within.embargoes;
      counted = omega (arith, a, b);
      within = h.holds.within;
      links = omega (arith, d, e);
      few = omega (arith, g);
      bound = h.bounded.added;
      fewer = omega arith;
      room = h.room.waits;
    })
