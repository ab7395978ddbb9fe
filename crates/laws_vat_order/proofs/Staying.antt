-- What the small acts of a step leave as it is: references, embargoes and own calls that were there; and what they keep, from
-- the first act to the end.
use Rattle.std.proofs.Common.{◌≡◌, ℕ, ◌+◌, ◌<◌, false, nat_eq, List, [], ◌∷◌, Option, None, Some, refl, sym, subst, arith}
use Rattle.std.specs.FinMap as map
use Rattle.finite_maps.specs.Tally.{Map}
use Rattle.finite_maps.proofs.Tested.{get_other}
use Rattle.rpc_msg.specs.declared.ids.EmbargoId.{EmbargoId}
use Rattle.rpc_machine.specs.declared.node.Node.{Node}
use Rattle.rpc_machine.specs.declared.entries.Reference.{Reference}
use Rattle.rpc_machine.specs.declared.entries.Embargo.{Embargo}
use Rattle.rpc_machine.specs.declared.calls.OwnCall.{OwnCall}
use Rattle.rpc_machine.specs.State.{State}
use Rattle.rpc_machine.specs.Progress.{with_refs, caps_of}
use Rattle.laws_acts.specs.Moments.{Moment}
use Rattle.laws_acts.specs.SmallActs.{Act, Acts, NoMore}
use Rattle.laws_acts.specs.SmallActs as act
use Rattle.laws_acts.proofs.EachStep.{kept}
use Rattle.laws_nodes.specs.Settling.{AllStop}
use Rattle.laws_vat_order.proofs.Moving.{Fine, acted}
use Rattle.laws_vat_order.proofs.Steps.{one_act}
use Rattle.laws_vat_order.proofs.Tracking.{Tracked, tracked}

-- The reference is gone, or has that head and that embargo.
abbrev pub SameRef : Node → Option EmbargoId → Option Reference → Type 0
SameRef h e None = Unit {0}
SameRef h e (Some x) = (x.head ≡ h) × (x.embargo ≡ e)

abbrev pub RefStays : ℕ → Node → Option EmbargoId → Moment → Type 0
RefStays r h e d = SameRef h e (map.get d.state.refs r) × (r < d.state.next_ref)

lower : (r n : ℕ) → r < n → nat_eq r n ≡ false
lower r n h = grind (arith)

-- A new reference has a new number.
pub one_ref : (r : ℕ) (h : Node) (e : Option EmbargoId) (m : Map Reference) (next : ℕ) (x : Reference) → r < next → SameRef h e (map.get m r) → SameRef h e (map.get (map.insert m next x) r)
one_ref r h e m next x l i = subst (SameRef h e) (sym (get_other m next x r (lower r next l))) i

more_refs : (r : ℕ) (h : Node) (e : Option EmbargoId) (s : State) (ns : List Node) → SameRef h e (map.get s.refs r) × (r < s.next_ref) → SameRef h e (map.get (with_refs s ns).refs r) × (r < (with_refs s ns).next_ref)
more_refs r h e s [] i = i
more_refs r h e s (n ∷ ns) i =
    let l = i.1 in
    more_refs r h e (record s { refs = map.insert s.refs s.next_ref (record { head = n; embargo = None; made = 0 }); next_ref = s.next_ref + 1 }) ns
    (one_ref r h e s.refs s.next_ref (record { head = n; embargo = None; made = 0 }) i.1 i.0, omega arith)

ref_acted : (r : ℕ) (n : Node) (q : Option EmbargoId) (d new : Moment) → RefStays r n q d → Act d new → RefStays r n q new
ref_acted r z q d new i (act.Delivers c n rest u e f h) = rw h (more_refs r z q d.state c.request.caps i)
ref_acted r z q d new i (act.Reports c v from e f h) = rw h (more_refs r z q d.state (caps_of v) i)
ref_acted r z q d new i (act.Waits c n rest p calls e f j h) = rw h i
ref_acted r z q d new i (act.Holds c n rest u path x e f j h) = rw h i
ref_acted r z q d new i (act.Relays c n rest y t ds es e f j k h) = rw h i
ref_acted r z q d new i (act.Breaks c n rest reason e f h) = rw h i
ref_acted r z q d new i (act.NextArisen u v rest e f h) = rw h i
ref_acted r z q d new i (act.Knows u v fit x ps e f j k h) = rw h i
ref_acted r z q d new i (act.TellsNobody c v e f h) = rw h i
ref_acted r z q d new i (act.MakesReturn y v x b ds es e f j k h) = rw h i
ref_acted r z q d new i (act.SendsReturn x y e f j h) = rw h i
ref_acted r z q d new i (act.Clears x e f h) = rw h i
ref_acted r z q d new i (act.Lists x e h) = rw h i
ref_acted r z q d new i (act.SendsResolve x rest k es e w f h) = rw h i
ref_acted r z q d new i (act.SendsBroken x rest reason e f h) = rw h i
ref_acted r z q d new i (act.PromiseGoes p to w e f h) = rw h i
ref_acted r z q d new i (act.OutcomeGoes u x v w e f j k l h) = rw h i
ref_acted r z q d new i (act.ImportGoes k x w e f h) = rw h i
ref_acted r z q d new i (act.Sweeps over e f j h) = rw h i
ref_acted r z q d new i (act.SendsFinish y x rest e f j k l h) = rw h i
ref_acted r z q d new i (act.Closes y x rest e f j k l h) = rw h i
ref_acted r z q d new i (act.Releases w e f h) = rw h i

unchanged : (es : Map Embargo) (cs : Map OwnCall) (d new : Moment) → (d.state.embargoes ≡ es) × (d.state.calls ≡ cs) → Act d new → (new.state.embargoes ≡ es) × (new.state.calls ≡ cs)
unchanged es cs d new i (act.Delivers c n rest u e f h) = rw h i
unchanged es cs d new i (act.Reports c v from e f h) = rw h i
unchanged es cs d new i (act.Waits c n rest p calls e f j h) = rw h i
unchanged es cs d new i (act.Holds c n rest u path x e f j h) = rw h i
unchanged es cs d new i (act.Relays c n rest y t ds us e f j k h) = rw h i
unchanged es cs d new i (act.Breaks c n rest reason e f h) = rw h i
unchanged es cs d new i (act.NextArisen u v rest e f h) = rw h i
unchanged es cs d new i (act.Knows u v fit x ps e f j k h) = rw h i
unchanged es cs d new i (act.TellsNobody c v e f h) = rw h i
unchanged es cs d new i (act.MakesReturn y v x b ds us e f j k h) = rw h i
unchanged es cs d new i (act.SendsReturn x y e f j h) = rw h i
unchanged es cs d new i (act.Clears x e f h) = rw h i
unchanged es cs d new i (act.Lists x e h) = rw h i
unchanged es cs d new i (act.SendsResolve x rest k us e w f h) = rw h i
unchanged es cs d new i (act.SendsBroken x rest reason e f h) = rw h i
unchanged es cs d new i (act.PromiseGoes p to w e f h) = rw h i
unchanged es cs d new i (act.OutcomeGoes u x v w e f j k l h) = rw h i
unchanged es cs d new i (act.ImportGoes k x w e f h) = rw h i
unchanged es cs d new i (act.Sweeps over e f j h) = rw h i
unchanged es cs d new i (act.SendsFinish y x rest e f j k l h) = rw h i
unchanged es cs d new i (act.Closes y x rest e f j k l h) = rw h i
unchanged es cs d new i (act.Releases w e f h) = rw h i

-- ---- From the first act to the end

module _ (last start : Moment) (acts : Acts last start) where
  pub ref_kept : (r : ℕ) (h : Node) (e : Option EmbargoId) → RefStays r h e start → RefStays r h e last
  ref_kept r h e i = kept (RefStays r h e) (λ d new j f. ref_acted r h e d new j f) last start acts i

  pub same_kept : (last.state.embargoes ≡ start.state.embargoes) × (last.state.calls ≡ start.state.calls)
  same_kept = kept (λ d. (d.state.embargoes ≡ start.state.embargoes) × (d.state.calls ≡ start.state.calls)) (λ d new j f. unchanged start.state.embargoes start.state.calls d new j f) last start acts (refl, refl)

  module _ (stops : (d : Moment) → Acts d start → AllStop d.state) (s : State) (a : ℕ) where
    pub tracked_kept : (e : Node) → Tracked s a e start → Tracked s a e last
    tracked_kept e i = (kept (λ d. Acts d start × Tracked s a e d) (λ d new p f. (one_act d new start p.0 f, tracked s a e d new (stops d p.0) p.1 f)) last start acts (NoMore, i)).1

    pub fine_kept : (b : ℕ) → Fine s a b start → Fine s a b last
    fine_kept b i = (kept (λ d. Acts d start × Fine s a b d) (λ d new p f. (one_act d new start p.0 f, acted s a b d new (stops d p.0) p.1 f)) last start acts (NoMore, i)).1
