-- What holds stays so where outcomes are opened, are waited for, become known and go.
use Rattle.std.proofs.Common.{◌≡◌, ℕ, ◌+◌, ◌-◌, ◌≤◌, ◌<◌, List, [], ◌∷◌, ◌++◌, Option, None, Some, length, refl, sym, ap, subst, ◌∙◌, arith, length-append}
use Rattle.std.specs.FinMap as map
use Rattle.finite_maps.specs.Tally.{Map}
use Rattle.finite_maps.proofs.Gets.{each_inserted, each_removed, remove_absent}
use Rattle.finite_maps.proofs.Tallies.{tally-new, tally-split}
use Rattle.rpc_msg.specs.Op.{Op}
use Rattle.rpc_machine.specs.declared.node.Node.{Node}
use Rattle.rpc_machine.specs.declared.calls.WaitingCall.{WaitingCall}
use Rattle.rpc_machine.specs.declared.calls.HeldCall.{HeldCall}
use Rattle.rpc_machine.specs.declared.calls.Caller.{Caller}
use Rattle.rpc_machine.specs.declared.calls.Value.{Value}
use Rattle.rpc_machine.specs.declared.calls.KeptOutcome.{KeptOutcome}
use Rattle.rpc_machine.specs.State.{State}
use Rattle.rpc_machine.specs.Lists.{how_many}
use Rattle.rpc_machine.specs.Nodes.{links_of, value_of}
use Rattle.rpc_machine.specs.Places.{places, named_by_held, named_by_value, named_by_outcome}
use Rattle.rpc_machine.specs.Progress.{Progress, begin, with_state, caps_of}
use Rattle.rpc_machine.specs.Routing.{WaitsForField}
use Rattle.rpc_machine.specs.Limits.{held_for_outcome, held_limit}
use Rattle.laws_acts.specs.Alike.{Alike, places_beside}
use Rattle.laws_acts.proofs.Parts.{how_many_append}
use Rattle.laws_acts.proofs.Tables.{tables}
use Rattle.laws_acts.proofs.Likeness.{alike_beside, changes_by}
use Rattle.laws_acts.proofs.Promises.{outcome_comes, outcome_known, outcome_holds, outcome_goes}
use Rattle.core_refcounts.specs.Names.{Names, named_all, unnamed_all}
use Rattle.core_waits.specs.Waiting.{Waiting}
use Rattle.core_waits.specs.Changes as waits
use Rattle.core_store.proofs.Covering.{covered_renamed}
use Rattle.core_store.proofs.Keeping.{renamed}
use Rattle.core_store.specs.declared.store.Store.{Store}
use Rattle.core_store.specs.Holding.{state_of, all_named, IsTold, IsToldTo, IsNoted, IsCovered, IsSound}
use Rattle.core_store_waits.specs.Changes.{IsUnknown}
use Rattle.core_store_waits.specs.Noting.{noted_unnamed}
use Rattle.core_store_waits.proofs.Beside.{tally_put, fit_renamed, fit_noted, covered_noted, note_here}
use Rattle.core_store_waits.proofs.Keeping.{after, kept_waits, covered_waits}
use Rattle.core_store_waits.proofs.Linked.{links_new, links_put, links_gone, links_named, links_of_caps}

-- ---- An outcome opens

abbrev pub unknown : Caller → KeptOutcome
unknown who = record { caller = who; value = None; waiting = [] }

pub sound_new : (x : Store) (k : ℕ) (who : Caller) (w : Waiting) → IsSound x → 0 < x.slack → map.get x.waits.outcomes k ≡ None
    → w ≡ record (x.waits) { outcomes = map.insert x.waits.outcomes k (unknown who); room = x.waits.room - 1 }
    → IsSound (record x { waits = w; slack = x.slack - 1 })
sound_new x k who w h some free is =
    let s : State = state_of x in
    let v : Waiting = record (x.waits) { outcomes = map.insert x.waits.outcomes k (unknown who); room = x.waits.room - 1 } in
    let a = tally-new held_for_outcome s.outcomes k (unknown who) free in
    let b = h.holds.counted in
    let d = links_new s.outcomes k (unknown who) free in
    let e = h.far in
    let f = h.bounded.added in
    let i = h.room.waits in
    kept_waits x v w x.names x.names (x.slack - 1) x.added x.links is refl h
    (record {
      names = fit_renamed x (places_beside v.taken (after x v)) [] [] (x.slack - 1) x.added h (alike_beside x.waits.taken [] [] s (after x v) (outcome_comes s k who free)) (omega arith) (omega arith);
      covered = covered_waits s v.promises v.outcomes v.embargoes x.names h.covered h.covered.promises
          (each_inserted (λ o y. IsTold s o y → IsNoted x.names.outcomes o) s.outcomes k (unknown who) (λ no. absurd no) (λ o apart. h.covered.outcomes o));
      embargoes = h.within.embargoes;
      counted = omega (arith, a, b);
      within = h.holds.within;
      links = omega (arith, d, e);
      few = h.bounded.links;
      bound = omega (arith, f, some);
      fewer = omega arith;
      room = omega (arith, i);
    })

-- ---- A call waits for a field of one

-- Something still waits for it.
not_told : (s : State) (o : ℕ) (y : KeptOutcome) (v : Option Value) → 0 < length y.waiting → ¬ (IsToldTo s o y v)
not_told s o y None some h = h
not_told s o y (Some v) some h = let a : length y.waiting ≡ 0 = ap (λ (hs : List HeldCall). length hs) h.0 in absurd (omega (arith, a, some))

module _ (x : Store) (k : ℕ) (path : List Op) (call : WaitingCall) where
  held_by : (o : Option KeptOutcome) (w : Waiting) (c : Names) (count : ℕ) → count ≡ length call.request.caps → map.get x.waits.outcomes k ≡ o → IsSound x → length call.request.caps < x.slack → x.waits.held < held_limit
      → waits.HeldForField x.waits k path call o w → c ≡ named_all x.names call.request.caps
      → IsSound (record x { waits = w; names = c; added = x.added + count; slack = x.slack - (count + 1) })
  held_by None w c count many there h some few is names = absurd is
  held_by (Some y) w c count many there h some few is names =
      let s : State = state_of x in
      let caps : List Node = call.request.caps in
      let held : HeldCall = record { path = path; call = call } in
      let entry : KeptOutcome = record y { waiting = y.waiting ++ held ∷ [] } in
      let v : Waiting = record (x.waits) { outcomes = map.insert x.waits.outcomes k entry; held = x.waits.held + 1; room = x.waits.room - 1 } in
      let covered : IsCovered s (renamed x.names caps []) = covered_renamed s x.names caps [] h.covered in
      let j = length-append y.waiting (held ∷ []) in
      let a = tally_put held_for_outcome s.outcomes k y entry there in
      let b = h.holds.counted in
      let d = links_put s.outcomes k y entry there in
      let e = h.far in
      let f = h.bounded.added in
      let g = h.bounded.links in
      let i = h.room.waits in
      kept_waits x v w (named_all x.names caps) c (x.slack - (count + 1)) (x.added + count) x.links is names h
      (record {
        names = fit_renamed x (places_beside v.taken (after x v)) caps [] (x.slack - (count + 1)) (x.added + count) h
            (alike_beside x.waits.taken caps [] s (after x v) (outcome_holds s k y held there)) (omega (arith, some, many)) (omega (arith, many));
        covered = covered_waits s v.promises v.outcomes v.embargoes (renamed x.names caps []) covered covered.promises
            (each_inserted (λ o z. IsTold s o z → IsNoted (renamed x.names caps []).outcomes o) s.outcomes k entry
            (λ told. absurd (not_told s k entry y.value (omega (arith, j)) told)) (λ o apart. covered.outcomes o));
        embargoes = h.within.embargoes;
        counted = omega (arith, a, b, j);
        within = omega (arith, few);
        links = omega (arith, d, e);
        few = omega (arith, g);
        bound = omega (arith, f, some, many);
        fewer = omega arith;
        room = omega (arith, i);
      })

  pub sound_held : (w : Waiting) (c : Names) (count : ℕ) → count ≡ length call.request.caps → IsSound x → length call.request.caps < x.slack → x.waits.held < held_limit
      → waits.HeldForField x.waits k path call (map.get x.waits.outcomes k) w → c ≡ named_all x.names call.request.caps
      → IsSound (record x { waits = w; names = c; added = x.added + count; slack = x.slack - (count + 1) })
  sound_held w c count many h some few is names = held_by (map.get x.waits.outcomes k) w c count many refl h some few is names

  -- In any step in progress it waits as the machine says.
  pub waits_there : (o : Option KeptOutcome) (w : Waiting) (d : Progress) → waits.HeldForField x.waits k path call o w → WaitsForField (with_state d (state_of x)) call k path o (with_state d (after x w))
  waits_there None w d is = is
  waits_there (Some y) w d is = ap (λ (w : Waiting). with_state d (after x w)) is

-- ---- One becomes known

pub is_unknown : (o : Option KeptOutcome) (who : Caller) → Some who ≡ waits.caller_of o → None ≡ value_of o → IsUnknown o
is_unknown None who there none = absurd (let e : ◌≡◌ {A = Option Caller} (Some who) None = there in cc)
is_unknown (Some y) who there none = sym none

module _ (x : Store) (k : ℕ) (v : Value) where
  known_by : (o : Option KeptOutcome) (w : Waiting) (c : Names) (count : ℕ) → count ≡ length (caps_of v) → map.get x.waits.outcomes k ≡ o → IsUnknown o → IsSound x → length (caps_of v) < x.slack
      → waits.Knows x.waits k v o w → c ≡ noted_unnamed (named_all x.names (caps_of v)) k
      → IsSound (record x { waits = w; names = c; links = x.links + count; added = x.added + count; slack = x.slack - (count + 1) })
  known_by None w c count many there new h some is names = absurd is
  known_by (Some y) w c count many there new h some is names =
      let s : State = state_of x in
      let caps : List Node = caps_of v in
      let entry : KeptOutcome = record y { value = Some v } in
      let u : Waiting = record (x.waits) { outcomes = map.insert x.waits.outcomes k entry } in
      let d : Names = renamed x.names caps [] in
      let covered : IsCovered s (noted_unnamed d k) = covered_noted s d k (covered_renamed s x.names caps [] h.covered) in
      let a = tally_put held_for_outcome s.outcomes k y entry there in
      let b = h.holds.counted in
      let l = links_put s.outcomes k y entry there in
      let m : links_of y.value ≡ 0 = ap links_of new in
      let n = links_of_caps v in
      let e = h.far in
      let f = h.bounded.added in
      let g = h.bounded.links in
      let i = h.room.waits in
      kept_waits x u w (noted_unnamed d k) c (x.slack - (count + 1)) (x.added + count) (x.links + count) is names h
      (record {
        names = fit_noted d k (places_beside u.taken (after x u)) (x.slack - (count + 1)) (x.added + count)
            (fit_renamed x (places_beside u.taken (after x u)) caps [] (x.slack - (count + 1) + 1) (x.added + count) h
            (alike_beside x.waits.taken caps [] s (after x u) (outcome_known s k y v there new)) (omega (arith, some, many)) (omega (arith, many)));
        covered = covered_waits s u.promises u.outcomes u.embargoes (noted_unnamed d k) covered covered.promises
            (each_inserted (λ o z. IsTold s o z → IsNoted (noted_unnamed d k).outcomes o) s.outcomes k entry (λ _. note_here d k) (λ o apart. covered.outcomes o));
        embargoes = h.within.embargoes;
        counted = omega (arith, a, b);
        within = h.holds.within;
        links = omega (arith, l, m, n, e, many);
        few = omega (arith, g);
        bound = omega (arith, f, some, many);
        fewer = omega arith;
        room = omega (arith, i);
      })

  pub sound_known : (w : Waiting) (c : Names) (count : ℕ) → count ≡ length (caps_of v) → IsUnknown (map.get x.waits.outcomes k) → IsSound x → length (caps_of v) < x.slack
      → waits.Knows x.waits k v (map.get x.waits.outcomes k) w → c ≡ noted_unnamed (named_all x.names (caps_of v)) k
      → IsSound (record x { waits = w; names = c; links = x.links + count; added = x.added + count; slack = x.slack - (count + 1) })
  sound_known w c count many new h some is names = known_by (map.get x.waits.outcomes k) w c count many refl new h some is names

-- ---- The calls that wait for one are taken out

outcome_taken : (s : State) (o : ℕ) (y : KeptOutcome) → map.get s.outcomes o ≡ Some y → Alike (places s) (named_by_held y.waiting ++ places (record s { outcomes = map.insert s.outcomes o (record y { waiting = [] }) }))
outcome_taken s o y there =
    changes_by tables.outcomes s o y (record y { waiting = [] }) [] (named_by_held y.waiting) there (λ test.
    let a = how_many_append test (named_by_value y.value) (named_by_held y.waiting) in
    let b = how_many_append test (named_by_value y.value) [] in
    let c = how_many_append test (named_by_held y.waiting) (named_by_value y.value ++ []) in
    omega (arith, a, b, c))

module _ (x : Store) (k : ℕ) where
  taken_by : (o : Option KeptOutcome) (w : Waiting) (c : Names) → map.get x.waits.outcomes k ≡ o → IsSound x → 0 < x.slack → x.waits.taken ≡ [] → waits.TakesHeld x.waits k o w → c ≡ noted_unnamed x.names k
      → IsSound (record x { waits = w; names = c; slack = x.slack - 1 })
  taken_by None w c there h some none is names = absurd is
  taken_by (Some y) w c there h some none is names =
      let s : State = state_of x in
      let entry : KeptOutcome = record y { waiting = [] } in
      let u : Waiting = record (x.waits) { outcomes = map.insert x.waits.outcomes k entry; taken = y.waiting } in
      let d : Names = noted_unnamed x.names k in
      let alike : Alike (all_named x) (places_beside u.taken (after x u)) =
      subst (λ (hs : List HeldCall). Alike (places_beside hs s) (places_beside u.taken (after x u))) (sym none) (outcome_taken s k y there) in
      let covered : IsCovered s d = covered_noted s x.names k h.covered in
      let a = tally_put held_for_outcome s.outcomes k y entry there in
      let b = h.holds.counted in
      let l = links_put s.outcomes k y entry there in
      let e = h.far in
      let f = h.bounded.added in
      let i = h.room.waits in
      let j : length x.waits.taken ≡ 0 = ap (λ (hs : List HeldCall). length hs) none in
      kept_waits x u w d c (x.slack - 1) x.added x.links is names h
      (record {
        names = fit_noted x.names k (places_beside u.taken (after x u)) (x.slack - 1) x.added
            (fit_renamed x (places_beside u.taken (after x u)) [] [] (x.slack - 1 + 1) x.added h alike (omega (arith, some)) (omega arith));
        covered = covered_waits s u.promises u.outcomes u.embargoes d covered covered.promises
            (each_inserted (λ o z. IsTold s o z → IsNoted d.outcomes o) s.outcomes k entry (λ _. note_here x.names k) (λ o apart. covered.outcomes o));
        embargoes = h.within.embargoes;
        counted = omega (arith, a, b, j);
        within = h.holds.within;
        links = omega (arith, l, e);
        few = h.bounded.links;
        bound = omega (arith, f, some);
        fewer = omega arith;
        room = omega (arith, i);
      })

  pub sound_taken : (w : Waiting) (c : Names) → IsSound x → 0 < x.slack → x.waits.taken ≡ [] → waits.TakesHeld x.waits k (map.get x.waits.outcomes k) w → c ≡ noted_unnamed x.names k
      → IsSound (record x { waits = w; names = c; slack = x.slack - 1 })
  sound_taken w c h some none is names = taken_by (map.get x.waits.outcomes k) w c refl h some none is names

-- ---- One goes

parts_value : (y : KeptOutcome) (who : Caller) (v : Option Value) → ◌≡◌ {A = Option (Caller × Option Value)} (Some (who, v)) (Some (y.caller, y.value)) → v ≡ y.value
parts_value y who v e = let f : ◌≡◌ {A = Caller × Option Value} (who, v) (y.caller, y.value) = cc in ap (λ (p : Caller × Option Value). p.1) f

module _ (x : Store) (k : ℕ) (who : Caller) (value : Option Value) (gone : List Node) (same : gone ≡ named_by_value value) (h : IsSound x) where
  enough_by : (o : Option KeptOutcome) → map.get x.waits.outcomes k ≡ o → Some (who, value) ≡ waits.outcome_parts o → length gone ≤ x.links
  enough_by None there parts = absurd (let e : ◌≡◌ {A = Option (Caller × Option Value)} (Some (who, value)) None = parts in cc)
  enough_by (Some y) there parts =
      let d = links_gone x.waits.outcomes k y there in
      let e = h.far in
      let n = links_named y.value in
      let m : length gone ≡ length (named_by_value y.value) = ap (λ (ns : List Node). length ns) (same ∙ ap named_by_value (parts_value y who value parts)) in
      omega (arith, d, e, n, m)

  -- Its capabilities count for links.
  pub links_enough : Some (who, value) ≡ waits.outcome_parts (map.get x.waits.outcomes k) → length gone ≤ x.links
  links_enough parts = enough_by (map.get x.waits.outcomes k) refl parts

  gone_by : (o : Option KeptOutcome) (w : Waiting) (c : Names) → map.get x.waits.outcomes k ≡ o → Some (who, value) ≡ waits.outcome_parts o → waits.HasNoneWaiting o
      → w ≡ record (x.waits) { outcomes = map.remove x.waits.outcomes k } → c ≡ unnamed_all x.names gone
      → IsSound (record x { waits = w; names = c; links = x.links - length gone })
  gone_by None w c there parts none is names = absurd (let e : ◌≡◌ {A = Option (Caller × Option Value)} (Some (who, value)) None = parts in cc)
  gone_by (Some y) w c there parts none is names =
      let s : State = state_of x in
      let is_gone : gone ≡ named_by_value y.value = same ∙ ap named_by_value (parts_value y who value parts) in
      let m : length gone ≡ length (named_by_value y.value) = ap (λ (ns : List Node). length ns) is_gone in
      let u : Waiting = record (x.waits) { outcomes = map.remove x.waits.outcomes k } in
      let alike : Alike (places s) (gone ++ places (after x u)) = λ test.
      let a = outcome_goes (begin s) k y there test in
      let b = how_many_append test (named_by_outcome k y) (places (after x u)) in
      let c = how_many_append test (named_by_value y.value) (named_by_held y.waiting) in
      let d : how_many test (named_by_held y.waiting) ≡ 0 = ap (λ (hs : List HeldCall). how_many test (named_by_held hs)) none in
      let e = how_many_append test gone (places (after x u)) in
      let f = ap (λ (ns : List Node). how_many test ns) is_gone in
      omega (arith, a, b, c, d, e, f) in
      let covered : IsCovered s (renamed x.names [] gone) = covered_renamed s x.names [] gone h.covered in
      let a = tally-split held_for_outcome s.outcomes k y there in
      let b = h.holds.counted in
      let d = links_gone s.outcomes k y there in
      let e = h.far in
      let g = h.bounded.links in
      let n = links_named y.value in
      let j : length y.waiting ≡ 0 = ap (λ (hs : List HeldCall). length hs) none in
      kept_waits x u w (unnamed_all x.names gone) c x.slack x.added (x.links - length gone) is names h
      (record {
        names = fit_renamed x (places_beside u.taken (after x u)) [] gone x.slack x.added h (alike_beside x.waits.taken [] gone s (after x u) alike) (omega arith) (omega arith);
        covered = covered_waits s u.promises u.outcomes u.embargoes (renamed x.names [] gone) covered covered.promises
            (each_removed (λ o z. IsTold s o z → IsNoted (renamed x.names [] gone).outcomes o) s.outcomes k (λ no. absurd no) (λ o apart. covered.outcomes o));
        embargoes = h.within.embargoes;
        counted = omega (arith, a, b, j);
        within = h.holds.within;
        links = omega (arith, d, e, n, m);
        few = omega (arith, g);
        bound = h.bounded.added;
        fewer = omega arith;
        room = h.room.waits;
      })

  pub sound_gone : (w : Waiting) (c : Names) → Some (who, value) ≡ waits.outcome_parts (map.get x.waits.outcomes k) → waits.HasNoneWaiting (map.get x.waits.outcomes k)
      → w ≡ record (x.waits) { outcomes = map.remove x.waits.outcomes k } → c ≡ unnamed_all x.names gone
      → IsSound (record x { waits = w; names = c; links = x.links - length gone })
  sound_gone w c parts none is names = gone_by (map.get x.waits.outcomes k) w c refl parts none is names

-- There is none.
absent_by : (o : Option KeptOutcome) → None ≡ waits.outcome_parts o → o ≡ None
absent_by None none = refl
absent_by (Some y) none = absurd (let e : ◌≡◌ {A = Option (Caller × Option Value)} None (Some (y.caller, y.value)) = none in cc)

pub sound_absent : (x : Store) (k : ℕ) (w : Waiting) → IsSound x → w ≡ record (x.waits) { outcomes = map.remove x.waits.outcomes k } → None ≡ waits.outcome_parts (map.get x.waits.outcomes k) → IsSound (record x { waits = w })
sound_absent x k w h is none =
    let free : map.get x.waits.outcomes k ≡ None = absent_by (map.get x.waits.outcomes k) none in
    let same : x.waits ≡ w = ap (λ (m : Map KeptOutcome). record (x.waits) { outcomes = m }) (sym (remove_absent x.waits.outcomes k free)) ∙ sym is in
    subst (λ (w : Waiting). IsSound (record x { waits = w })) same h
