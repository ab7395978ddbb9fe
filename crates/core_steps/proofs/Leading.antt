-- A reference that was led elsewhere is led back.
use Rattle.std.proofs.Common.{◌≡◌, inl, inr, ℕ, true, false, [], ◌∷◌, Option, None, Some, List, Result, Ok, Err, IsOk, IsSome, IfOk, OnErr, refl, sym, ap, subst, ◌∙◌}
use Rattle.std.specs.FinMap as map
use Rattle.finite_maps.specs.Tally.{Map}
use Rattle.finite_maps.proofs.Gets.{put_back, insert_removed, insert_again, remove_inserted, get-insert_same}
use Rattle.rpc_msg.specs.declared.ids.EmbargoId.{EmbargoId}
use Rattle.rpc_msg.specs.declared.ids.RefId.{RefId}
use Rattle.rpc_msg.specs.declared.Memory.{Memory}
use Rattle.rpc_machine.specs.declared.node.Node.{Node}
use Rattle.rpc_machine.specs.declared.calls.HeldCall.{HeldCall}
use Rattle.rpc_machine.specs.declared.entries.Reference.{Reference}
use Rattle.rpc_machine.specs.declared.entries.Embargo.{Embargo}
use Rattle.rpc_machine.specs.State.{State}
use Rattle.core_waits.specs.Waiting.{calls_of}
use Rattle.core_store.specs.declared.store.Store.{Store}
use Rattle.core_store.specs.Holding.{state_of}
use Rattle.core_store_waits.specs.Changes.{Lifts}
use Rattle.core_steps.specs.Undoing.{WasLed, IsAsBefore, LiftsAt, LiftsFor, LiftsOf}

none_of : (hs : List HeldCall) → calls_of hs ≡ [] → hs ≡ []
none_of [] none = refl
none_of (h ∷ hs) none = absurd (let bad : calls_of (h ∷ hs) ≡ [] = none in cc)

-- The embargo with that id is lifted, if it is there.
pub lifted_at : (x y : Store) (e : ℕ) (o : Option Embargo) (r : Result (RefId × Node) Memory)
    → IfOk r (λ parts. Lifts (state_of x) e parts.0 parts.1 o (state_of y) y.waits.taken) → OnErr r (y ≡ x)
    → (IsSome o → x.waits.taken ≡ [] → IsOk r) → x.waits.taken ≡ [] → LiftsAt (state_of x) e o (state_of y) y.waits.taken
lifted_at x y e None (Ok parts) ok same never none = absurd ok
lifted_at x y e None (Err m) ok same never none = (ap state_of same, ap (λ (z : Store). z.waits.taken) same ∙ none)
lifted_at x y e (Some b) (Ok parts) ok same never none = λ free. (ok.3, none_of y.waits.taken (ok.2 ∙ free))
lifted_at x y e (Some b) (Err m) ok same never none = λ free. absurd (let bad : false ≡ true = never refl none in cc)

-- A reference that is there leads elsewhere; it is taken out, its embargo lifted, and put back.
led_back : (s t u v : State) (r : ℕ) (from y : Reference) (taken : List HeldCall) → map.get s.refs r ≡ Some from → t ≡ record s { refs = map.insert s.refs r y } → y.embargo ≡ None
    → LiftsOf (record t { refs = map.remove t.refs r }) (map.get t.refs r) u taken → v ≡ record u { refs = map.insert u.refs r from } → (v ≡ s) × (taken ≡ [])
led_back s t u v r from y taken there led free lifts puts =
    let entry : map.get t.refs r ≡ Some y = ap (λ (x : State). map.get x.refs r) led ∙ get-insert_same s.refs r y in
    let lifted : LiftsOf (record t { refs = map.remove t.refs r }) (Some y) u taken = subst (λ (o : Option Reference). LiftsOf (record t { refs = map.remove t.refs r }) o u taken) entry lifts in
    let same : IsAsBefore (record t { refs = map.remove t.refs r }) u taken = subst (λ (e : Option EmbargoId). LiftsFor (record t { refs = map.remove t.refs r }) e u taken) free lifted in
    let refs : map.insert (map.remove (map.insert s.refs r y) r) r from ≡ s.refs = insert_removed (map.insert s.refs r y) r from ∙ insert_again s.refs r y from ∙ sym (insert_removed s.refs r from) ∙ put_back s.refs r from there in (
      puts ∙ ap (λ (x : State). record x { refs = map.insert x.refs r from }) (same.0 ∙ ap (λ (x : State). record x { refs = map.remove x.refs r }) led) ∙ ap (λ (m : Map Reference). record s { refs = m }) refs,
      same.1,
    )

-- It stayed.
stayed_back : (s t u v : State) (r : ℕ) (from : Reference) (taken : List HeldCall) → map.get s.refs r ≡ Some from → t ≡ s → from.embargo ≡ None
    → LiftsOf (record t { refs = map.remove t.refs r }) (map.get t.refs r) u taken → v ≡ record u { refs = map.insert u.refs r from } → (v ≡ s) × (taken ≡ [])
stayed_back s t u v r from taken there stayed free lifts puts =
    led_back s t u v r from from taken there (stayed ∙ ap (λ (m : Map Reference). record s { refs = m }) (sym (sym (insert_removed s.refs r from) ∙ put_back s.refs r from there))) free lifts puts

-- It leads elsewhere under a new embargo.
under_back : (s t u v : State) (r e : ℕ) (from y : Reference) (b : Embargo) (taken : List HeldCall) → map.get s.refs r ≡ Some from → y.embargo ≡ Some (record { 0 = e }) → map.get s.embargoes e ≡ None → b.waiting ≡ []
    → t ≡ record s { refs = map.insert s.refs r y; embargoes = map.insert s.embargoes e b }
    → LiftsOf (record t { refs = map.remove t.refs r }) (map.get t.refs r) u taken → v ≡ record u { refs = map.insert u.refs r from } → (v ≡ s) × (taken ≡ [])
under_back s t u v r e from y b taken there under free none led lifts puts =
    let cut : State = record t { refs = map.remove t.refs r } in
    let entry : map.get t.refs r ≡ Some y = ap (λ (x : State). map.get x.refs r) led ∙ get-insert_same s.refs r y in
    let embargo : map.get t.embargoes e ≡ Some b = ap (λ (x : State). map.get x.embargoes e) led ∙ get-insert_same s.embargoes e b in
    let lifted : LiftsOf cut (Some y) u taken = subst (λ (o : Option Reference). LiftsOf cut o u taken) entry lifts in
    let for : LiftsFor cut (Some (record { 0 = e })) u taken = subst (λ (o : Option EmbargoId). LiftsFor cut o u taken) under lifted in
    let at : LiftsAt cut e (Some b) u taken = subst (λ (o : Option Embargo). LiftsAt cut e o u taken) embargo for in
    let same : IsAsBefore (record cut { embargoes = map.remove cut.embargoes e }) u taken = at none in
    let refs : map.insert (map.remove (map.insert s.refs r y) r) r from ≡ s.refs = insert_removed (map.insert s.refs r y) r from ∙ insert_again s.refs r y from ∙ sym (insert_removed s.refs r from) ∙ put_back s.refs r from there in (
      puts ∙ ap (λ (x : State). record x { refs = map.insert x.refs r from })
          (same.0 ∙ ap (λ (x : State). record x { refs = map.remove x.refs r; embargoes = map.remove x.embargoes e }) led)
          ∙ ap (λ (m : Map Reference). record s { refs = m; embargoes = map.remove (map.insert s.embargoes e b) e }) refs
          ∙ ap (λ (m : Map Embargo). record s { embargoes = m }) (remove_inserted s.embargoes e b free),
      same.1,
    )

-- However it was led, it is as it was.
pub back_again : (s t u v : State) (r : ℕ) (from : Reference) (taken : List HeldCall) → map.get s.refs r ≡ Some from → from.embargo ≡ None → WasLed s r t
    → LiftsOf (record t { refs = map.remove t.refs r }) (map.get t.refs r) u taken → v ≡ record u { refs = map.insert u.refs r from } → (v ≡ s) × (taken ≡ [])
back_again s t u v r from taken there free (inl stayed) lifts puts = stayed_back s t u v r from taken there stayed free lifts puts
back_again s t u v r from taken there free (inr (inl led)) lifts puts = led_back s t u v r from led.0 taken there led.2 led.1 lifts puts
back_again s t u v r from taken there free (inr (inr led)) lifts puts =
    under_back s t u v r led.1 from led.0 led.2 taken there led.3 led.4 led.5 led.6 lifts puts
