-- What holds stays so where embargoes open, are waited for and end, and where calls that were taken out are handed out.
use Rattle.std.proofs.Common.{◌≡◌, ℕ, ◌+◌, ◌-◌, ◌<◌, List, [], ◌∷◌, ◌++◌, Option, None, Some, length, refl, sym, ap, subst, ◌∙◌, arith, length-append}
use Rattle.std.specs.FinMap as map
use Rattle.finite_maps.proofs.Lens.{len_new, len_same, len_fewer}
use Rattle.finite_maps.proofs.Tallies.{tally-new, tally-split}
use Rattle.rpc_msg.specs.declared.ids.RefId.{RefId}
use Rattle.rpc_machine.specs.declared.node.Node.{Node}
use Rattle.rpc_machine.specs.declared.calls.WaitingCall.{WaitingCall}
use Rattle.rpc_machine.specs.declared.calls.HeldCall.{HeldCall}
use Rattle.rpc_machine.specs.declared.entries.Embargo.{Embargo}
use Rattle.rpc_machine.specs.State.{State}
use Rattle.rpc_machine.specs.Commands.{WaitsForEmbargo}
use Rattle.rpc_machine.specs.Progress.{Progress, with_state}
use Rattle.rpc_machine.specs.Lists.{how_many}
use Rattle.rpc_machine.specs.Places.{places, named_by_calls, named_by_held, named_by_embargo}
use Rattle.rpc_machine.specs.Limits.{held_under, held_limit, table_limit}
use Rattle.laws_acts.specs.Alike.{Alike, places_beside}
use Rattle.laws_acts.proofs.Parts.{how_many_append}
use Rattle.laws_acts.proofs.Likeness.{alike_beside}
use Rattle.laws_acts.proofs.References.{embargo_opens, embargo_holds, embargo_goes}
use Rattle.laws_acts.proofs.Taken.{taken_stay}
use Rattle.core_refcounts.specs.Names.{Names, named, unnamed, named_all, unnamed_all}
use Rattle.core_waits.specs.Waiting.{Waiting}
use Rattle.core_waits.specs.Changes as waits
use Rattle.core_store.proofs.Covering.{covered_renamed}
use Rattle.core_store.proofs.Keeping.{renamed}
use Rattle.core_store.specs.declared.store.Store.{Store}
use Rattle.core_store.specs.Holding.{state_of, all_named, IsCovered, IsSound}
use Rattle.core_store_waits.proofs.Beside.{tally_put, fit_renamed}
use Rattle.core_store_waits.proofs.Keeping.{after, kept_waits, covered_waits}
use Rattle.core_store_waits.proofs.Linked.{as_many, same_named}

-- ---- An embargo opens

abbrev pub new_embargo : RefId → Node → Embargo
new_embargo r n = record { reference = r; node = n; waiting = [] }

pub sound_opened : (x : Store) (k : ℕ) (r : RefId) (n : Node) (w : Waiting) (c : Names) → IsSound x → 0 < x.slack → map.len x.waits.embargoes < table_limit → map.get x.waits.embargoes k ≡ None
    → w ≡ record (x.waits) { embargoes = map.insert x.waits.embargoes k (new_embargo r n); room = x.waits.room - 1 } → c ≡ named x.names n
    → IsSound (record x { waits = w; names = c; added = x.added + 1; slack = x.slack - 1 })
sound_opened x k r n w c h some few free is names =
    let s : State = state_of x in
    let v : Waiting = record (x.waits) { embargoes = map.insert x.waits.embargoes k (new_embargo r n); room = x.waits.room - 1 } in
    let come : List Node = n ∷ [] in
    let covered : IsCovered s (renamed x.names come []) = covered_renamed s x.names come [] h.covered in
    let a = tally-new held_under s.embargoes k (new_embargo r n) free in
    let b = h.holds.counted in
    let d = len_new s.embargoes k (new_embargo r n) free in
    let e = h.far in
    let f = h.bounded.added in
    let g = h.bounded.links in
    let i = h.room.waits in
    kept_waits x v w (named x.names n) c (x.slack - 1) (x.added + 1) x.links is names h
    (record {
      names = fit_renamed x (places_beside v.taken (after x v)) come [] (x.slack - 1) (x.added + 1) h (alike_beside x.waits.taken come [] s (after x v) (embargo_opens s k r n free)) (omega (arith, some)) (omega arith);
      covered = covered_waits s v.promises v.outcomes v.embargoes (renamed x.names come []) covered covered.promises covered.outcomes;
      embargoes = omega (arith, d, few);
      counted = omega (arith, a, b);
      within = h.holds.within;
      links = e;
      few = omega (arith, g);
      bound = omega (arith, f, some);
      fewer = omega arith;
      room = omega (arith, i);
    })

-- ---- A call waits under one

module _ (x : Store) (k : ℕ) (call : WaitingCall) where
  held_by : (o : Option Embargo) (w : Waiting) (c : Names) (count : ℕ) → count ≡ length call.request.caps → map.get x.waits.embargoes k ≡ o → IsSound x → length call.request.caps < x.slack → x.waits.held < held_limit
      → waits.HeldUnder x.waits k call o w → c ≡ named_all x.names call.request.caps
      → IsSound (record x { waits = w; names = c; added = x.added + count; slack = x.slack - (count + 1) })
  held_by None w c count many there h some few is names = absurd is
  held_by (Some y) w c count many there h some few is names =
      let s : State = state_of x in
      let caps : List Node = call.request.caps in
      let entry : Embargo = record y { waiting = y.waiting ++ call ∷ [] } in
      let v : Waiting = record (x.waits) { embargoes = map.insert x.waits.embargoes k entry; held = x.waits.held + 1; room = x.waits.room - 1 } in
      let covered : IsCovered s (renamed x.names caps []) = covered_renamed s x.names caps [] h.covered in
      let j = length-append y.waiting (call ∷ []) in
      let a = tally_put held_under s.embargoes k y entry there in
      let b = h.holds.counted in
      let d = len_same s.embargoes k y entry there in
      let e = h.within.embargoes in
      let f = h.bounded.added in
      let g = h.bounded.links in
      let i = h.room.waits in
      kept_waits x v w (named_all x.names caps) c (x.slack - (count + 1)) (x.added + count) x.links is names h
      (record {
        names = fit_renamed x (places_beside v.taken (after x v)) caps [] (x.slack - (count + 1)) (x.added + count) h
            (alike_beside x.waits.taken caps [] s (after x v) (embargo_holds s k y call there)) (omega (arith, some, many)) (omega (arith, many));
        covered = covered_waits s v.promises v.outcomes v.embargoes (renamed x.names caps []) covered covered.promises covered.outcomes;
        embargoes = omega (arith, d, e);
        counted = omega (arith, a, b, j);
        within = omega (arith, few);
        links = h.far;
        few = omega (arith, g);
        bound = omega (arith, f, some, many);
        fewer = omega arith;
        room = omega (arith, i);
      })

  pub sound_held : (w : Waiting) (c : Names) (count : ℕ) → count ≡ length call.request.caps → IsSound x → length call.request.caps < x.slack → x.waits.held < held_limit
      → waits.HeldUnder x.waits k call (map.get x.waits.embargoes k) w → c ≡ named_all x.names call.request.caps
      → IsSound (record x { waits = w; names = c; added = x.added + count; slack = x.slack - (count + 1) })
  sound_held w c count many h some few is names = held_by (map.get x.waits.embargoes k) w c count many refl h some few is names

  -- In any step in progress it waits as the machine says.
  pub waits_there : (o : Option Embargo) (w : Waiting) (d : Progress) → waits.HeldUnder x.waits k call o w → WaitsForEmbargo (with_state d (state_of x)) call k o (with_state d (after x w))
  waits_there None w d is = is
  waits_there (Some y) w d is = ap (λ (w : Waiting). with_state d (after x w)) is

-- ---- One ends

module _ (x : Store) (k : ℕ) (r : RefId) (n : Node) where
  lifted_by : (o : Option Embargo) (w : Waiting) (c : Names) → map.get x.waits.embargoes k ≡ o → IsSound x → x.waits.taken ≡ [] → waits.Lifts x.waits k r n o w → c ≡ unnamed x.names n
      → IsSound (record x { waits = w; names = c })
  lifted_by None w c there h none is names = absurd is
  lifted_by (Some y) w c there h none is names =
      let s : State = state_of x in
      let taken : List HeldCall = is.2.0 in
      let v : Waiting = record (x.waits) { embargoes = map.remove x.waits.embargoes k; taken = taken } in
      let gone : List Node = n ∷ [] in
      let alike : Alike (places s) (gone ++ places_beside taken (after x v)) = λ test.
      let a = embargo_goes s k y there test in
      let b = how_many_append test (named_by_embargo k y) (places (after x v)) in
      let c = how_many_append test (y.node ∷ []) (named_by_calls y.waiting) in
      let d = how_many_append test gone (places_beside taken (after x v)) in
      let e = how_many_append test (named_by_held taken) (places (after x v)) in
      let f = ap (λ (ns : List Node). how_many test ns) (same_named taken ∙ ap named_by_calls is.2.1) in
      let g = ap (λ (m : Node). how_many test (m ∷ [])) is.1 in
      omega (arith, a, b, c, d, e, f, g) in
      let named : Alike (all_named x) (gone ++ places_beside taken (after x v)) =
      subst (λ (hs : List HeldCall). Alike (places_beside hs s) (gone ++ places_beside taken (after x v))) (sym none) alike in
      let covered : IsCovered s (renamed x.names [] gone) = covered_renamed s x.names [] gone h.covered in
      let a = tally-split held_under s.embargoes k y there in
      let b = h.holds.counted in
      let d = len_fewer s.embargoes k in
      let e = h.within.embargoes in
      let j : length taken ≡ length y.waiting = sym (as_many taken) ∙ ap (λ (cs : List WaitingCall). length cs) is.2.1 in
      let l : length x.waits.taken ≡ 0 = ap (λ (hs : List HeldCall). length hs) none in
      kept_waits x v w (unnamed x.names n) c x.slack x.added x.links is.2.2 names h
      (record {
        names = fit_renamed x (places_beside taken (after x v)) [] gone x.slack x.added h named (omega arith) (omega arith);
        covered = covered_waits s v.promises v.outcomes v.embargoes (renamed x.names [] gone) covered covered.promises covered.outcomes;
        embargoes = omega (arith, d, e);
        counted = omega (arith, a, b, j, l);
        within = h.holds.within;
        links = h.far;
        few = h.bounded.links;
        bound = h.bounded.added;
        fewer = omega arith;
        room = h.room.waits;
      })

  pub sound_lifted : (w : Waiting) (c : Names) → IsSound x → x.waits.taken ≡ [] → waits.Lifts x.waits k r n (map.get x.waits.embargoes k) w → c ≡ unnamed x.names n
      → IsSound (record x { waits = w; names = c })
  sound_lifted w c h none is names = lifted_by (map.get x.waits.embargoes k) w c refl h none is names

-- ---- A call that was taken out is handed out

pub sound_next : (x : Store) (call : HeldCall) (w : Waiting) (c : Names) → IsSound x → waits.TakesNext x.waits (Some call) w → c ≡ unnamed_all x.names call.call.request.caps → IsSound (record x { waits = w; names = c })
sound_next x call w c h is names =
    let s : State = state_of x in
    let v : Waiting = record (x.waits) { taken = w.taken; held = w.held } in
    let gone : List Node = call.call.request.caps in
    let alike : Alike (all_named x) (gone ++ places_beside w.taken s) =
    subst (λ (hs : List HeldCall). Alike (places_beside hs s) (gone ++ places_beside w.taken s)) (sym is.0) (taken_stay.next s call w.taken) in
    let a = is.1 in
    let b = h.holds.counted in
    let d : length x.waits.taken ≡ length (call ∷ w.taken) = ap (λ (hs : List HeldCall). length hs) is.0 in
    let e = h.holds.within in
    kept_waits x v w (unnamed_all x.names gone) c x.slack x.added x.links is.2 names h
    (record {
      names = fit_renamed x (places_beside w.taken s) [] gone x.slack x.added h alike (omega arith) (omega arith);
      covered = covered_renamed s x.names [] gone h.covered;
      embargoes = h.within.embargoes;
      counted = omega (arith, a, b, d);
      within = omega (arith, a, e);
      links = h.far;
      few = h.bounded.links;
      bound = h.bounded.added;
      fewer = omega arith;
      room = h.room.waits;
    })
