-- One desk: act by act.
use Rattle.std.proofs.Common.{◌≡◌, ℕ, ◌+◌, Bool, true, false, cond, nat_eq, List, [], ◌∷◌, ◌++◌, append-nil, flat_map, Option, None, Some, Result, Ok, Err, ◌⊎◌, inl, inr, refl, sym, ap, subst, ◌∙◌, arith}
use Rattle.rpc_msg.specs.declared.ids.CallId.{CallId}
use Rattle.rpc_journal.specs.declared.report.Advanced.{Advanced}
use Rattle.rpc_machine.specs.declared.command.CallCommand.{CallCommand}
use Rattle.rpc_machine.specs.declared.command.Command.{Command}
use Rattle.rpc_machine.specs.declared.command.Command.TheVariants as command
use Rattle.rpc_machine.specs.declared.command.Granted.{Granted}
use Rattle.rpc_machine.specs.declared.command.Granted.TheVariants as granted
use Rattle.rpc_machine.specs.declared.command.Refusal.{Refusal}
use Rattle.peer_finishes.specs.declared.held.Finishes.{Finishes}
use Rattle.vat_host.specs.declared.event.Event.{Event}
use Rattle.vat_host.specs.declared.event.Event.TheVariants as event
use Rattle.vat_host.specs.Hosting.{Hosted}
use Rattle.vat_hosts.specs.Calls.{of_calls}
use Rattle.vat_hosts.specs.Served.{times_served, times_told}
use Rattle.vat_connection.specs.Calling.{Obeys, answered}
use Rattle.vat_connection.specs.Connecting.{Connected, answered_by}
use Rattle.vat_connections.specs.OneConnection.{Act as ConnectionAct, Acts as ConnectionActs, ActsAll as ConnectionActsAll, but_shut, commanded_by, told_by}
use Rattle.vat_connections.specs.OneConnection as acts
use Rattle.vat_connections.specs.Served.{Did as ConnectionDid, IsLetGo as IsLetGoThere, IsMade as IsMadeThere}
use Rattle.lovendak_c_desk.specs.declared.desk.Desk.{Desk}
use Rattle.lovendak_c_desk.specs.declared.not_done.NotDone.{NotDone}
use Rattle.lovendak_c_desk.specs.declared.not_done.NotDone.TheVariants as not_done
use Rattle.lovendak_c_desk.specs.declared.notice.Notice.{Notice}
use Rattle.lovendak_c_desk.specs.Commands.{CallsWith, Hosts as HostsObject, IsAsked as AsksDesk, IsAskedToFit, SetsBy, ShutsWith, a_call, unless_released}
use Rattle.lovendak_c_desk.specs.Given.{finishes_at}
use Rattle.lovendak_c_desk.specs.Notices.{notice_of}
use Rattle.lovendak_c_desk.specs.Telling.{HandsOver, Places, TellsLooked, TellsOf}
use Rattle.lovendak_c_desks.specs.OneDesk.{Act, Acts, HasDone, IsLetGo, IsMade, IsToldDown, Shows, counts_as, handed_by}
use Rattle.lovendak_c_desks.specs.OneDesk.Act.{Receives, Ends, SetsLimits, SetsFinishes, Shuts, HandsOut, Awaits, Asks, AsksToFit, Calls, Hosts, Tells}
use Rattle.lovendak_c_desks.proofs.Reaching.{Goes, IsAsked, None_of, Silently, looks, of_held, plainly, says, stays, then}

-- The event was looked at before, or the connection told it.
abbrev pub IsKnown : Event → Desk → List ConnectionAct → Type 0
IsKnown v d ys = (d.event ≡ Some v) ⊎ ConnectionDid (IsAsked v) ys

-- What an act of a desk is for its connection, and what is handed out.
pub record Steps (x : Act) (d e : Desk) : Type 0 where
  pub acts : List ConnectionAct
  pub lead : ConnectionActsAll d.connection acts e.connection
  pub commands : HasDone x (flat_map commanded_by acts)
  pub tasks : (k : ℕ) → times_served k (flat_map told_by acts) + times_served k (of_held d.event) ≡ handed_by 1 k x + times_served k (of_held e.event)
  pub ended : (k : ℕ) → times_told k (flat_map told_by acts) + times_told k (of_held d.event) ≡ handed_by 2 k x + times_told k (of_held e.event)
  pub held : (v : Event) → e.event ≡ Some v → IsKnown v d acts
  pub shown : (n : Notice) → Shows n x → (v : Event) × (n ≡ notice_of v) × IsKnown v d acts
  pub down : IsToldDown x → (e.event ≡ None) × ((number : ℕ) × (reason : List ℕ) × IsKnown (event.Down number reason) d acts)
  pub made : (id : CallId) → IsMade id x → ConnectionDid (IsMadeThere id) acts
  pub let_go : (id : CallId) → ConnectionDid (IsLetGoThere id) acts → IsLetGo id x

-- Nothing is handed out.
record IsSilent (x : Act) : Type 0 where
  handed : (kind k : ℕ) → handed_by kind k x ≡ 0
  shown : (n : Notice) → Shows n x → ⊥
  down : IsToldDown x → ⊥

silently : (x : Act) (cs : List Command) (d e : Desk) → IsSilent x → Goes (λ id. IsLetGo id x) (λ id. IsMade id x) cs d e → HasDone x cs → Steps x d e
silently x cs d e silent goes has_done = record {
  acts = goes.acts;
  lead = goes.lead;
  commands = subst (λ (l : List Command). HasDone x l) (sym goes.commands) has_done;
  tasks = λ k. let a = goes.tasks k in let b = silent.handed 1 k in omega arith;
  ended = λ k. let a = goes.ended k in let b = silent.handed 2 k in omega arith;
  held = goes.held;
  shown = λ n shows. absurd (silent.shown n shows);
  down = λ told. absurd (silent.down told);
  made = goes.made;
  let_go = goes.let_go;
}

-- One act of its connection, which tells nothing.
one : (L M : CallId → Type 0) (d e : Desk) (y : ConnectionAct) → ConnectionActsAll d.connection (y ∷ []) e.connection → told_by y ≡ [] → e.event ≡ d.event → ((id : CallId) → IsLetGoThere id y → L id)
    → ((id : CallId) → M id → IsMadeThere id y) → Goes L M (commanded_by y ++ []) d e
one L M d e y lead none same let_go made =
    plainly L M d e (y ∷ []) (commanded_by y ++ []) lead refl (ap (λ (l : List Event). l ++ []) none) same (λ id gone. go id gone) (λ id m. inl (made id m))
  where
    go : (id : CallId) → IsLetGoThere id y ⊎ ⊥ → L id
    go id (inl gone) = let_go id gone
    go id (inr i) = absurd i

alone : (x : Act) (y : ConnectionAct) (d e : Desk) → IsSilent x → ConnectionActs d.connection y e.connection → told_by y ≡ [] → e.event ≡ d.event → ((id : CallId) → IsLetGoThere id y → IsLetGo id x)
    → ((id : CallId) → IsMade id x → IsMadeThere id y) → HasDone x (commanded_by y ++ []) → Steps x d e
alone x y d e silent acted none same let_go made has_done =
    silently x (commanded_by y ++ []) d e silent (one (λ id. IsLetGo id x) (λ id. IsMade id x) d e y (e.connection, acted, refl) none same let_go made) has_done

event_same : (d e : Desk) (c : Connected) → e ≡ record d { connection = c } → e.event ≡ d.event
event_same d e c is = ap (λ (x : Desk). x.event) is

connection_same : (d e : Desk) (c : Connected) → e ≡ record d { connection = c } → e.connection ≡ c
connection_same d e c is = ap (λ (x : Desk). x.connection) is

-- Nothing happens.
same_desk : (x : Act) (d e : Desk) → IsSilent x → e ≡ d → HasDone x [] → ((id : CallId) → IsMade id x → ⊥) → Steps x d e
same_desk x d e silent is has_done none_made =
    silently x [] d e silent (stays (λ id. IsLetGo id x) (λ id. IsMade id x) d e (ap (λ (y : Desk). y.connection) is) (ap (λ (y : Desk). y.event) is) none_made) has_done

-- ---- commands

made_asks : (id : CallId) (c : Command) (g : Granted) → IsMade id (Asks c (Ok g)) → IsMadeThere id (acts.Commands c (Ok g))
made_asks id c (granted.Call n) m = m
made_asks id c granted.Done m = m
made_asks id c (granted.Reference r) m = m
made_asks id c (granted.Promise p r) m = m
made_asks id c (granted.Advanced a) m = m

made_to_fit : (id : CallId) (c : Command) (g : Granted) → IsMade id (AsksToFit c (Ok g)) → IsMadeThere id (acts.Commands c (Ok g))
made_to_fit id c (granted.Call n) m = m
made_to_fit id c granted.Done m = m
made_to_fit id c (granted.Reference r) m = m
made_to_fit id c (granted.Promise p r) m = m
made_to_fit id c (granted.Advanced a) m = m

asks : (d e : Desk) (c : Command) (answer : Result Granted NotDone) → AsksDesk d c (λ (g : Granted). g) answer e → Steps (Asks c answer) d e
asks d e c (Ok g) (asked, is) =
    alone (Asks c (Ok g)) (acts.Commands c (Ok g)) d e (record { handed = λ kind k. refl; shown = λ n s. s; down = λ t. t }) (inl asked) refl (event_same d e e.connection is) (λ id gone. gone) (λ id m. made_asks id c g m) (append-nil (but_shut c))
asks d e c (Err (not_done.Refused r)) (asked, is) =
    alone (Asks c (Err (not_done.Refused r))) (acts.Commands c (Err r)) d e (record { handed = λ kind k. refl; shown = λ n s. s; down = λ t. t }) (inl asked) refl (event_same d e e.connection is) (λ id gone. gone) (λ id m. m) refl
asks d e c (Err not_done.Empty) asked = absurd asked
asks d e c (Err not_done.InUse) asked = absurd asked
asks d e c (Err not_done.Malformed) asked = absurd asked
asks d e c (Err not_done.NoRoom) asked = absurd asked
asks d e c (Err not_done.Nothing) asked = absurd asked
asks d e c (Err not_done.NoSuchNumber) asked = absurd asked

abbrev Any : NotDone → Type 0
Any why = Unit {0}

to_fit : (d e : Desk) (c : Command) (answer : Result Granted NotDone) → IsAskedToFit Any d c (λ (g : Granted). g) answer e → Steps (AsksToFit c answer) d e
to_fit d e c (Ok g) (asked, is) =
    alone (AsksToFit c (Ok g)) (acts.Commands c (Ok g)) d e (record { handed = λ kind k. refl; shown = λ n s. s; down = λ t. t }) (inr asked) refl (event_same d e e.connection is) (λ id gone. gone) (λ id m. made_to_fit id c g m) (append-nil (but_shut c))
to_fit d e c (Err (not_done.Refused r)) (asked, is) =
    alone (AsksToFit c (Err (not_done.Refused r))) (acts.Commands c (Err r)) d e (record { handed = λ kind k. refl; shown = λ n s. s; down = λ t. t }) (inr asked) refl (event_same d e e.connection is) (λ id gone. gone) (λ id m. m) refl
to_fit d e c (Err not_done.Empty) (why, is) = same_desk (AsksToFit c (Err not_done.Empty)) d e (record { handed = λ kind k. refl; shown = λ n s. s; down = λ t. t }) is refl (λ id m. m)
to_fit d e c (Err not_done.InUse) (why, is) = same_desk (AsksToFit c (Err not_done.InUse)) d e (record { handed = λ kind k. refl; shown = λ n s. s; down = λ t. t }) is refl (λ id m. m)
to_fit d e c (Err not_done.Malformed) (why, is) = same_desk (AsksToFit c (Err not_done.Malformed)) d e (record { handed = λ kind k. refl; shown = λ n s. s; down = λ t. t }) is refl (λ id m. m)
to_fit d e c (Err not_done.NoRoom) (why, is) = same_desk (AsksToFit c (Err not_done.NoRoom)) d e (record { handed = λ kind k. refl; shown = λ n s. s; down = λ t. t }) is refl (λ id m. m)
to_fit d e c (Err not_done.Nothing) (why, is) = same_desk (AsksToFit c (Err not_done.Nothing)) d e (record { handed = λ kind k. refl; shown = λ n s. s; down = λ t. t }) is refl (λ id m. m)
to_fit d e c (Err not_done.NoSuchNumber) (why, is) = same_desk (AsksToFit c (Err not_done.NoSuchNumber)) d e (record { handed = λ kind k. refl; shown = λ n s. s; down = λ t. t }) is refl (λ id m. m)

-- ---- a call

abbrev shorter : CallCommand → Command
shorter c = command.Advance c.reference

abbrev numbered : ℕ → CallId
numbered k = record { 0 = k }

-- what its reference became, as the answer of a command
abbrev became_so : Result Advanced Refusal → Result Granted Refusal
became_so became = answered became granted.Advanced (λ r. r)

abbrev both : CallCommand → Result Advanced Refusal → Result Granted Refusal → List ConnectionAct
both c became answer = acts.Commands (shorter c) (became_so became) ∷ acts.Commands (command.Call c) answer ∷ []

none_gone : (c : CallCommand) (became : Result Advanced Refusal) (answer : Result Granted Refusal) (id : CallId) → ConnectionDid (IsLetGoThere id) (both c became answer) → ⊥
none_gone c (Ok a) answer id (inl is) = absurd (let both : command.Advance c.reference ≡ command.Finish id = is in cc)
none_gone c (Err r) answer id (inl is) = is
none_gone c became (Ok g) id (inr (inl is)) = absurd (let both : command.Call c ≡ command.Finish id = is in cc)
none_gone c became (Err r) id (inr (inl is)) = is
none_gone c became answer id (inr (inr i)) = i

-- Its reference took the shorter path, or did not; then it is made, or refused.
two : (d e : Desk) (c : CallCommand) (h : Hosted) (M : CallId → Type 0) (became : Result Advanced Refusal) (answer : Result Granted Refusal) → Obeys d.connection.speaker.host (shorter c) (became_so became) h
    → Obeys h (command.Call c) answer e.connection.speaker.host → e.connection ≡ answered_by d.connection (command.Call c) answer e.connection.speaker.host → e.event ≡ d.event
    → ((id : CallId) → M id → IsMadeThere id (acts.Commands (command.Call c) answer)) → Goes None_of M (flat_map commanded_by (both c became answer)) d e
two d e c h M (Ok a) answer first more is same made =
    plainly None_of M d e (both c (Ok a) answer) (flat_map commanded_by (both c (Ok a) answer))
    (answered_by d.connection (shorter c) (became_so (Ok a)) h, inl (first, refl), (e.connection, inl (more, is), refl)) refl refl same (none_gone c (Ok a) answer) (λ id m. inr (inl (made id m)))
two d e c h M (Err r) answer first more is same made =
    plainly None_of M d e (both c (Err r) answer) (flat_map commanded_by (both c (Err r) answer))
    (answered_by d.connection (shorter c) (became_so (Err r)) h, inl (first, refl), (e.connection, inl (more, is), refl)) refl refl same (none_gone c (Err r) answer) (λ id m. inr (inl (made id m)))

made_call : (d e : Desk) (c : CallCommand) (n : ℕ) (h : Hosted) (became : Result Advanced Refusal) → Obeys d.connection.speaker.host (shorter c) (became_so became) h → Obeys h (command.Call c) (Ok (a_call n)) e.connection.speaker.host
    → e ≡ record d { connection = answered_by d.connection (command.Call c) (Ok (a_call n)) e.connection.speaker.host } → HasDone (Calls c (Ok n)) (flat_map commanded_by (both c became (Ok (a_call n)))) → Steps (Calls c (Ok n)) d e
made_call d e c n h became first more is has_done =
    silently (Calls c (Ok n)) (flat_map commanded_by (both c became (Ok (a_call n)))) d e (record { handed = λ kind k. refl; shown = λ n s. s; down = λ t. t })
    (two d e c h (λ id. IsMade id (Calls c (Ok n))) became (Ok (a_call n)) first more (ap (λ (x : Desk). x.connection) is) (ap (λ (x : Desk). x.event) is) (λ id m. ap numbered m)) has_done

refused_call : (d e : Desk) (c : CallCommand) (f : Refusal) (h : Hosted) (became : Result Advanced Refusal) → Obeys d.connection.speaker.host (shorter c) (became_so became) h → Obeys h (command.Call c) (Err f) e.connection.speaker.host
    → e ≡ record d { connection = answered_by d.connection (command.Call c) (Err f) e.connection.speaker.host } → HasDone (Calls c (Err (not_done.Refused f))) (flat_map commanded_by (both c became (Err f)))
    → Steps (Calls c (Err (not_done.Refused f))) d e
refused_call d e c f h became first more is has_done =
    silently (Calls c (Err (not_done.Refused f))) (flat_map commanded_by (both c became (Err f))) d e (record { handed = λ kind k. refl; shown = λ n s. s; down = λ t. t })
    (two d e c h (λ id. IsMade id (Calls c (Err (not_done.Refused f)))) became (Err f) first more (ap (λ (x : Desk). x.connection) is) (ap (λ (x : Desk). x.event) is) (λ id m. m)) has_done

calls : (d e : Desk) (c : CallCommand) (answer : Result ℕ NotDone) → CallsWith d c answer e → Steps (Calls c answer) d e
calls d e c (Ok n) ((h, Ok a, first, more), fits, is) = made_call d e c n h (Ok a) first more is (inr refl)
calls d e c (Ok n) ((h, Err r, first, more), fits, is) = made_call d e c n h (Err r) first more is (inl refl)
calls d e c (Err (not_done.Refused f)) (inl (h, Ok a, first, more), is) = refused_call d e c f h (Ok a) first more is (inr refl)
calls d e c (Err (not_done.Refused f)) (inl (h, Err r, first, more), is) = refused_call d e c f h (Err r) first more is (inl refl)
calls d e c (Err (not_done.Refused f)) (inr large, is) =
    alone (Calls c (Err (not_done.Refused f))) (acts.Commands (command.Call c) (Err f)) d e (record { handed = λ kind k. refl; shown = λ n s. s; down = λ t. t }) (inr (inr (large.0, inl large.1, large.2), ap (λ (x : Desk). x.connection) is)) refl (ap (λ (x : Desk). x.event) is) (λ id gone. gone) (λ id m. m) (inl refl)
calls d e c (Err not_done.Empty) (why, is) = same_desk (Calls c (Err not_done.Empty)) d e (record { handed = λ kind k. refl; shown = λ n s. s; down = λ t. t }) is (inl refl) (λ id m. m)
calls d e c (Err not_done.InUse) (why, is) = same_desk (Calls c (Err not_done.InUse)) d e (record { handed = λ kind k. refl; shown = λ n s. s; down = λ t. t }) is (inl refl) (λ id m. m)
calls d e c (Err not_done.Malformed) (why, is) = same_desk (Calls c (Err not_done.Malformed)) d e (record { handed = λ kind k. refl; shown = λ n s. s; down = λ t. t }) is (inl refl) (λ id m. m)
calls d e c (Err not_done.NoRoom) (why, is) = same_desk (Calls c (Err not_done.NoRoom)) d e (record { handed = λ kind k. refl; shown = λ n s. s; down = λ t. t }) is (inl refl) (λ id m. m)
calls d e c (Err not_done.Nothing) (why, is) = same_desk (Calls c (Err not_done.Nothing)) d e (record { handed = λ kind k. refl; shown = λ n s. s; down = λ t. t }) is (inl refl) (λ id m. m)
calls d e c (Err not_done.NoSuchNumber) (why, is) = same_desk (Calls c (Err not_done.NoSuchNumber)) d e (record { handed = λ kind k. refl; shown = λ n s. s; down = λ t. t }) is (inl refl) (λ id m. m)

-- ---- an object is hosted

-- That it is released is no call, and is told no more.
module _ (o : ℕ) where
  same_served : (k : ℕ) (v : Option Event) → times_served k (of_held (unless_released o v)) ≡ times_served k (of_held v)
  same_served k None = refl
  same_served k (Some (event.Released r)) = by (nat_eq r.0 o)
    where
      by : (b : Bool) → times_served k (of_held (cond b None (Some (event.Released r)))) ≡ 0
      by true = refl
      by false = refl
  same_served k (Some (event.Served y)) = refl
  same_served k (Some (event.Ended x)) = refl
  same_served k (Some (event.Resolved p)) = refl
  same_served k (Some (event.Cancelled t)) = refl
  same_served k (Some (event.Lifted r)) = refl
  same_served k (Some (event.Down n reason)) = refl

  same_told : (k : ℕ) (v : Option Event) → times_told k (of_held (unless_released o v)) ≡ times_told k (of_held v)
  same_told k None = refl
  same_told k (Some (event.Released r)) = by (nat_eq r.0 o)
    where
      by : (b : Bool) → times_told k (of_held (cond b None (Some (event.Released r)))) ≡ 0
      by true = refl
      by false = refl
  same_told k (Some (event.Served y)) = refl
  same_told k (Some (event.Ended x)) = refl
  same_told k (Some (event.Resolved p)) = refl
  same_told k (Some (event.Cancelled t)) = refl
  same_told k (Some (event.Lifted r)) = refl
  same_told k (Some (event.Down n reason)) = refl

  was_held : (v : Option Event) (w : Event) → unless_released o v ≡ Some w → v ≡ Some w
  was_held None w is = is
  was_held (Some (event.Released r)) w is = by (nat_eq r.0 o) is
    where
      by : (b : Bool) → cond b None (Some (event.Released r)) ≡ Some w → Some (event.Released r) ≡ Some w
      by true e = absurd (let both : None ≡ Some w = e in cc)
      by false e = e
  was_held (Some (event.Served y)) w is = is
  was_held (Some (event.Ended x)) w is = is
  was_held (Some (event.Resolved p)) w is = is
  was_held (Some (event.Cancelled t)) w is = is
  was_held (Some (event.Lifted r)) w is = is
  was_held (Some (event.Down n reason)) w is = is

hosts : (d e : Desk) (o : ℕ) (answer : Result ℕ NotDone) → HostsObject d o answer e → Steps (Hosts o answer) d e
hosts d e o (Ok made) (asked, is) = record {
  acts = acts.Commands (command.Host (record { 0 = o })) (Ok (granted.Reference (record { 0 = made }))) ∷ [];
  lead = (e.connection, inl asked, refl);
  commands = refl;
  tasks = λ k. let a = ap (λ (v : Option Event). times_served k (of_held v)) left in let b = same_served o k d.event in omega arith;
  ended = λ k. let a = ap (λ (v : Option Event). times_told k (of_held v)) left in let b = same_told o k d.event in omega arith;
  held = λ v held. inl (was_held o d.event v (sym left ∙ held));
  shown = λ n shows. absurd shows;
  down = λ told. absurd told;
  made = λ id m. absurd m;
  let_go = λ id gone. absurd (not_gone id gone);
}
  where
    left : e.event ≡ unless_released o d.event
    left = ap (λ (x : Desk). x.event) is

    not_gone : (id : CallId) → (command.Host (record { 0 = o }) ≡ command.Finish id) ⊎ ⊥ → ⊥
    not_gone id (inl same) = absurd (let both : command.Host (record { 0 = o }) ≡ command.Finish id = same in cc)
    not_gone id (inr i) = i
hosts d e o (Err (not_done.Refused r)) (asked, is) =
    alone (Hosts o (Err (not_done.Refused r))) (acts.Commands (command.Host (record { 0 = o })) (Err r)) d e (record { handed = λ kind k. refl; shown = λ n s. s; down = λ t. t }) (inl asked) refl (event_same d e e.connection is) (λ id gone. gone) (λ id m. m) refl
hosts d e o (Err not_done.Empty) asked = absurd asked
hosts d e o (Err not_done.InUse) asked = absurd asked
hosts d e o (Err not_done.Malformed) asked = absurd asked
hosts d e o (Err not_done.NoRoom) asked = absurd asked
hosts d e o (Err not_done.Nothing) asked = absurd asked
hosts d e o (Err not_done.NoSuchNumber) asked = absurd asked

-- ---- streams

shuts : (d e : Desk) (n : ℕ) (answer : Result (Unit {0}) NotDone) → ShutsWith d n answer e → Steps (Shuts n answer) d e
shuts d e n (Ok u) (small, shut, is) =
    alone (Shuts n (Ok u)) (acts.Shuts n) d e (record { handed = λ kind k. refl; shown = λ n s. s; down = λ t. t }) shut refl (event_same d e e.connection is) (λ id gone. gone) (λ id m. m) refl
shuts d e n (Err not_done.NoSuchNumber) (large, is) = same_desk (Shuts n (Err not_done.NoSuchNumber)) d e (record { handed = λ kind k. refl; shown = λ n s. s; down = λ t. t }) is refl (λ id m. m)
shuts d e n (Err (not_done.Refused r)) shut = absurd shut
shuts d e n (Err not_done.Empty) shut = absurd shut
shuts d e n (Err not_done.InUse) shut = absurd shut
shuts d e n (Err not_done.Malformed) shut = absurd shut
shuts d e n (Err not_done.NoRoom) shut = absurd shut
shuts d e n (Err not_done.Nothing) shut = absurd shut

sets_finishes : (d e : Desk) (n : ℕ) (f : Option Finishes) (answer : Result (Unit {0}) NotDone) → SetsBy f d answer e → Steps (SetsFinishes n answer) d e
sets_finishes d e n (Some f) (Ok u) is =
    alone (SetsFinishes n (Ok u)) (acts.SetsFinishes f) d e (record { handed = λ kind k. refl; shown = λ n s. s; down = λ t. t }) (ap (λ (x : Desk). x.connection) is) refl (ap (λ (x : Desk). x.event) is) (λ id gone. gone) (λ id m. m) refl
sets_finishes d e n (Some f) (Err why) sets = absurd sets
sets_finishes d e n None (Ok u) sets = absurd sets
sets_finishes d e n None (Err why) (none, is) = same_desk (SetsFinishes n (Err why)) d e (record { handed = λ kind k. refl; shown = λ n s. s; down = λ t. t }) is refl (λ id m. m)

-- ---- the next event

as_served : (k : ℕ) (v : Event) → times_served k (of_calls v) ≡ counts_as 1 k (notice_of v)
as_served k (event.Served y) = omega arith
as_served k (event.Ended x) = refl
as_served k (event.Resolved p) = refl
as_served k (event.Cancelled t) = refl
as_served k (event.Lifted r) = refl
as_served k (event.Released o) = refl
as_served k (event.Down n reason) = refl

as_ended : (k : ℕ) (v : Event) → times_told k (of_calls v) ≡ counts_as 2 k (notice_of v)
as_ended k (event.Served y) = refl
as_ended k (event.Ended x) = omega arith
as_ended k (event.Resolved p) = refl
as_ended k (event.Cancelled t) = refl
as_ended k (event.Lifted r) = refl
as_ended k (event.Released o) = refl
as_ended k (event.Down n reason) = refl

pub other_kind : {A : Type 0} (a b : ℕ) → nat_eq a b ≡ false → a ≡ b → A
other_kind a b apart same = absurd (grind (arith, apart, same))

is_down : (v : Event) → (notice_of v).kind ≡ 3 → (number : ℕ) × (reason : List ℕ) × (v ≡ event.Down number reason)
is_down (event.Down n reason) is = (n, reason, refl)
is_down (event.Served y) is = other_kind 1 3 refl is
is_down (event.Ended x) is = other_kind 2 3 refl is
is_down (event.Resolved p) is = other_kind 6 3 refl is
is_down (event.Cancelled t) is = other_kind 5 3 refl is
is_down (event.Lifted r) is = other_kind 7 3 refl is
is_down (event.Released o) is = other_kind 4 3 refl is

-- The event that is looked at is handed out, where there is one.
module _ (d mid e : Desk) (room out : Places) (goes : Silently d mid) where
  none : mid.event ≡ None → (answer : Result (Unit {0}) NotDone) → answer ≡ Err not_done.Nothing → e ≡ mid → Steps (Tells room answer out) d e
  none empty answer is same = subst (λ (a : Result (Unit {0}) NotDone). Steps (Tells room a out) d e) (sym is) (record {
    acts = goes.acts;
    lead = subst (λ (c : Connected). ConnectionActsAll d.connection goes.acts c) (sym (ap (λ (x : Desk). x.connection) same)) goes.lead;
    commands = goes.commands;
    tasks = λ k. let a = goes.tasks k in let b = ap (λ (x : Desk). times_served k (of_held x.event)) same in omega arith;
    ended = λ k. let a = goes.ended k in let b = ap (λ (x : Desk). times_told k (of_held x.event)) same in omega arith;
    held = λ v held. goes.held v (sym (ap (λ (x : Desk). x.event) same) ∙ held);
    shown = λ n shows. absurd shows;
    down = λ told. absurd told;
    made = λ id m. absurd m;
    let_go = λ id gone. absurd (goes.let_go id gone);
  })

  module _ (v : Event) (looked : mid.event ≡ Some v) where
    too_large : HandsOver v room false out → e ≡ mid → Steps (Tells room (Err not_done.NoRoom) out) d e
    too_large (why, over) same = record {
      acts = goes.acts;
      lead = subst (λ (c : Connected). ConnectionActsAll d.connection goes.acts c) (sym (ap (λ (x : Desk). x.connection) same)) goes.lead;
      commands = goes.commands;
      tasks = λ k. let a = goes.tasks k in let b = ap (λ (x : Desk). times_served k (of_held x.event)) same in omega arith;
      ended = λ k. let a = goes.ended k in let b = ap (λ (x : Desk). times_told k (of_held x.event)) same in omega arith;
      held = λ w held. goes.held w (sym (ap (λ (x : Desk). x.event) same) ∙ held);
      shown = λ n shows. (v, sym shows ∙ ap (λ (p : Places). p.notice) over, goes.held v looked);
      down = λ told. absurd told;
      made = λ id m. absurd m;
      let_go = λ id gone. absurd (goes.let_go id gone);
    }

    whole : (u : Unit {0}) → HandsOver v room true out → e ≡ record mid { event = None } → Steps (Tells room (Ok u) out) d e
    whole u (bytes, refs, over) is = record {
      acts = goes.acts;
      lead = subst (λ (c : Connected). ConnectionActsAll d.connection goes.acts c) (sym (ap (λ (x : Desk). x.connection) is)) goes.lead;
      commands = goes.commands;
      tasks = λ k.
          let a = goes.tasks k in
          let b = ap (λ (o : Option Event). times_served k (of_held o)) looked in
          let f = as_served k v in
          let g = ap (counts_as 1 k) notice in
          let h = ap (λ (x : Desk). times_served k (of_held x.event)) is in
          omega arith;
      ended = λ k.
          let a = goes.ended k in
          let b = ap (λ (o : Option Event). times_told k (of_held o)) looked in
          let f = as_ended k v in
          let g = ap (counts_as 2 k) notice in
          let h = ap (λ (x : Desk). times_told k (of_held x.event)) is in
          omega arith;
      held = λ w held. absurd (let both : None ≡ Some w = sym left ∙ held in cc);
      shown = λ n shows. (v, sym shows ∙ notice, goes.held v looked);
      down = λ told. let down = is_down v (sym (ap (λ (n : Notice). n.kind) notice) ∙ told) in (left, (down.0, down.1, goes.held (event.Down down.0 down.1) (looked ∙ ap Some down.2)));
      made = λ id m. absurd m;
      let_go = λ id gone. absurd (goes.let_go id gone);
    }
      where
        notice : out.notice ≡ notice_of v
        notice = ap (λ (p : Places). p.notice) over

        left : e.event ≡ None
        left = ap (λ (x : Desk). x.event) is

    tells_of : (answer : Result (Unit {0}) NotDone) → TellsOf v mid room answer out e → Steps (Tells room answer out) d e
    tells_of (Ok u) (over, is) = whole u over is
    tells_of (Err not_done.NoRoom) (over, same) = too_large over same
    tells_of (Err (not_done.Refused r)) told = absurd told
    tells_of (Err not_done.Empty) told = absurd told
    tells_of (Err not_done.InUse) told = absurd told
    tells_of (Err not_done.Malformed) told = absurd told
    tells_of (Err not_done.Nothing) told = absurd told
    tells_of (Err not_done.NoSuchNumber) told = absurd told

  tells : (answer : Result (Unit {0}) NotDone) (o : Option Event) → mid.event ≡ o → TellsLooked o mid room answer out e → Steps (Tells room answer out) d e
  tells answer None empty (is, same_room, same) = none empty answer is same
  tells answer (Some v) looked told = tells_of v looked answer told

-- ---- all

pub steps : (x : Act) (d e : Desk) → Acts d x e → Steps x d e
steps (Receives bytes) d e (received, is) = alone (Receives bytes) (acts.Receives bytes) d e (record { handed = λ kind k. refl; shown = λ n s. s; down = λ t. t }) received refl (event_same d e e.connection is) (λ id gone. gone) (λ id m. m) refl
steps Ends d e (ended, is) = alone Ends acts.Ends d e (record { handed = λ kind k. refl; shown = λ n s. s; down = λ t. t }) ended refl (event_same d e e.connection is) (λ id gone. gone) (λ id m. m) refl
steps (SetsLimits limits) d e is =
    alone (SetsLimits limits) (acts.SetsLimits limits) d e (record { handed = λ kind k. refl; shown = λ n s. s; down = λ t. t }) (ap (λ (x : Desk). x.connection) is) refl (ap (λ (x : Desk). x.event) is) (λ id gone. gone) (λ id m. m) refl
steps (SetsFinishes n answer) d e sets = sets_finishes d e n (finishes_at n) answer sets
steps (Shuts n answer) d e shut = shuts d e n answer shut
steps (HandsOut room len out) d e (mid, said, len_is, out_is, is) =
    silently (HandsOut room len out) [] d e (record { handed = λ kind k. refl; shown = λ n s. s; down = λ t. t })
    (then d mid e (says d.waiting d mid said) (stays None_of None_of mid e (ap (λ (x : Desk). x.connection) is) (ap (λ (x : Desk). x.event) is) (λ id m. m))) refl
steps (Awaits n has_event) d e (mid, said, looked, n_is, has_is) =
    silently (Awaits n has_event) [] d e (record { handed = λ kind k. refl; shown = λ n s. s; down = λ t. t }) (then d mid e (says d.waiting d mid said) (looks mid.event mid e refl looked)) refl
steps (Asks c answer) d e asked = asks d e c answer asked
steps (AsksToFit c answer) d e asked = to_fit d e c answer asked
steps (Calls c answer) d e called = calls d e c answer called
steps (Hosts o answer) d e hosted = hosts d e o answer hosted
steps (Tells room answer out) d e (mid, looked, told) = tells d mid e room out (looks d.event d mid refl looked) answer mid.event refl told
