-- Which calls a connection has served, and how often it tells.
use Rattle.std.proofs.Common.{◌≡◌, ℕ, ◌≤◌, true, false, List, [], ◌∷◌, flat_map, Some, IsSome, ◌⊎◌, inl, inr, ap, subst, sym, ◌∙◌, arith}
use Rattle.rpc_msg.specs.declared.ids.CallId.{CallId}
use Rattle.rpc_journal.specs.declared.report.Delivery.{Delivery}
use Rattle.laws_authority.specs.Reach.{IsIn}
use Rattle.vat_host.specs.declared.event.Event.{Event}
use Rattle.vat_host.specs.declared.event.Event.TheVariants as event
use Rattle.vat_host.specs.Hosting.{Hosted}
use Rattle.vat_hosts.specs.Calls.{of_calls}
use Rattle.vat_hosts.specs.OneHost.{Happening, told_by as told_by_host, told_to as told_to_host}
use Rattle.vat_hosts.specs.Served.{HostsServeWhatIsGiven, IsOneVat as IsOneVatOfHost, times_served, times_told}
use Rattle.vat_hosts.proofs.Served.{in_either, serves-append, times-append}
use Rattle.vat_connection.specs.Connecting.{Connected, Tells, TellsNext, fresh}
use Rattle.vat_connections.specs.OneConnection.{command_of, told_by, told_to}
use Rattle.vat_connections.specs.Served.{ConnectionsServeWhatIsGiven, Did, IsLetGo, IsToldDown, IsToldEnded}
use Rattle.vat_connections.proofs.Counts.{told_counts}
use Rattle.vat_connections.proofs.Downs.{is_down_behind, none_is_some, silent_behind}
use Rattle.vat_connections.proofs.Moving.{HasNothing, IsOver, calls_same, in_left, in_right}
use Rattle.vat_connections.proofs.OneConnection.{So, one, so_all, so_new}
use Rattle.vat_connections.proofs.Working.{works_on}

-- Nothing is told once it was told that the vat is down.
nothing_next : (c d : Connected) (e : Event) → IsOver c → TellsNext c (Some e) d → ⊥
nothing_next c d e (is_down, none_open, nothing, told) (inl (tells, is)) = absurd (let both : e ∷ d.speaker.host.events ≡ [] = sym (ap (λ (h : Hosted). h.events) tells) ∙ nothing in cc)
nothing_next c d (event.Released o) (is_down, none_open, nothing, told) (inr (inl ((left, up, released, host_is), is))) = absurd (none_is_some c.speaker.host.core.down up is_down)
nothing_next c d (event.Cancelled t) (is_down, none_open, nothing, told) (inr (inl ((left, up, (q, cancelled, host_is)), is))) = absurd (none_is_some c.speaker.host.core.down up is_down)
nothing_next c d (event.Served y) over (inr (inl (tells, is))) = absurd tells
nothing_next c d (event.Ended x) over (inr (inl (tells, is))) = absurd tells
nothing_next c d (event.Resolved p) over (inr (inl (tells, is))) = absurd tells
nothing_next c d (event.Lifted r) over (inr (inl (tells, is))) = absurd tells
nothing_next c d (event.Down n reason) over (inr (inl (tells, is))) = absurd tells
nothing_next c d (event.Ended x) (is_down, none_open, nothing, told) (inr (inr (inl (only_down, cut, is)))) =
    absurd (let both : x.call ∷ d.open_calls ≡ [] = sym (ap (λ (k : Connected). k.open_calls) is) ∙ none_open in cc)
nothing_next c d (event.Served y) over (inr (inr (inl cuts))) = absurd cuts
nothing_next c d (event.Resolved p) over (inr (inr (inl cuts))) = absurd cuts
nothing_next c d (event.Lifted r) over (inr (inr (inl cuts))) = absurd cuts
nothing_next c d (event.Cancelled t) over (inr (inr (inl cuts))) = absurd cuts
nothing_next c d (event.Released o) over (inr (inr (inl cuts))) = absurd cuts
nothing_next c d (event.Down n reason) over (inr (inr (inl cuts))) = absurd cuts
nothing_next c d (event.Down n reason) (is_down, none_open, nothing, told) (inr (inr (inr ((left, still, down, why, host_is), none, is)))) = absurd (let both : true ≡ false = sym told ∙ still in cc)
nothing_next c d (event.Served y) over (inr (inr (inr (tells, none, is)))) = absurd tells
nothing_next c d (event.Ended x) over (inr (inr (inr (tells, none, is)))) = absurd tells
nothing_next c d (event.Resolved p) over (inr (inr (inr (tells, none, is)))) = absurd tells
nothing_next c d (event.Lifted r) over (inr (inr (inr (tells, none, is)))) = absurd tells
nothing_next c d (event.Cancelled t) over (inr (inr (inr (tells, none, is)))) = absurd tells
nothing_next c d (event.Released o) over (inr (inr (inr (tells, none, is)))) = absurd tells

nothing_more : (c d : Connected) (e : Event) → IsOver c → Tells c (Some e) d → ⊥
nothing_more c d e (is_down, none_open, nothing, told) (mid, worked, next) = nothing_next mid d e (still_down, calls_same c mid worked ∙ none_open, silent.0, silent.1 told) next
  where
    still_down : IsSome mid.speaker.host.core.down
    still_down = let works = works_on c mid worked in is_down_behind c.speaker.host mid.speaker.host works.acts works.lead is_down

    silent : (mid.speaker.host.events ≡ []) × (c.speaker.host.down_notice.told ≡ true → mid.speaker.host.down_notice.told ≡ true)
    silent = let works = works_on c mid worked in silent_behind c.speaker.host mid.speaker.host works.acts works.lead is_down nothing

pub served_rightly : HostsServeWhatIsGiven → ConnectionsServeWhatIsGiven
served_rightly hosts vat level root xs c acts = record {
  log = run.log;
  ran = run.ran;
  commanded = ap (λ (l : List Happening). flat_map command_of l) run.happened ∙ so.commanded;
  served = λ y i. run.served y (told y (in_either (event.Served y) (flat_map told_by xs) (flat_map of_calls c.speaker.host.events) i));
  tasks = tasks;
  followed = so.followed;
  ended = λ k. ended k so.cuts;
  closed = λ down. (so.closed down).1;
  over = λ down id made. over down id (so.followed id made);
  last = λ down e d tells. nothing_more c d e (so.closed down) tells;
}
  where
    so : So hosts vat level root xs c
    so = so_all hosts vat level root [] xs (fresh vat level root) c (so_new hosts vat level root) acts

    run : IsOneVatOfHost so.acts c.speaker.host
    run = one hosts vat level root xs c so

    told : (y : Delivery) → IsIn (event.Served y) (flat_map told_by xs) ⊎ IsIn (event.Served y) (flat_map of_calls c.speaker.host.events) → IsIn (event.Served y) (told_to_host so.acts c.speaker.host)
    told y (inl i) = in_left (event.Served y) (flat_map told_by_host so.acts) (flat_map of_calls c.speaker.host.events) (so.serves y i)
    told y (inr i) = in_right (event.Served y) (flat_map told_by_host so.acts) (flat_map of_calls c.speaker.host.events) i

    tasks : (k : ℕ) → times_served k (told_to xs c) ≤ 1
    tasks k =
        let a = serves-append k (flat_map told_by xs) (flat_map of_calls c.speaker.host.events) in
        let b = serves-append k (flat_map told_by_host so.acts) (flat_map of_calls c.speaker.host.events) in
        let e = so.tasks k in
        let f = run.tasks k in
        omega arith

    ended : (k : ℕ) → ((k : ℕ) → so.cut k ≡ 0) ⊎ HasNothing c.speaker.host → times_told k (told_to xs c) ≤ 1
    ended k (inl none) =
        let a = times-append k (flat_map told_by xs) (flat_map of_calls c.speaker.host.events) in
        let b = times-append k (flat_map told_by_host so.acts) (flat_map of_calls c.speaker.host.events) in
        let e = so.told k in
        let f = run.ended k in
        let g = none k in
        omega arith
    ended k (inr nothing) =
        let a = times-append k (flat_map told_by xs) (flat_map of_calls c.speaker.host.events) in
        let b : times_told k (flat_map of_calls c.speaker.host.events) ≡ 0 = ap (λ (l : List Event). times_told k (flat_map of_calls l)) nothing.1 in
        let e = so.told k in
        let f = so.once k in
        omega arith

    over : Did IsToldDown xs → (id : CallId) → Did (IsToldEnded id) xs ⊎ (Did (IsLetGo id) xs ⊎ IsIn id c.open_calls) → Did (IsLetGo id) xs ⊎ (times_told id.0 (flat_map told_by xs) ≡ 1)
    over down id (inl told) =
        let a = told_counts id xs told in
        let b = times-append id.0 (flat_map told_by xs) (flat_map of_calls c.speaker.host.events) in
        let e = ended id.0 so.cuts in
        inr (omega arith)
    over down id (inr (inl gone)) = inl gone
    over down id (inr (inr i)) = absurd (subst (λ (l : List CallId). IsIn id l) (so.closed down).1 i)
