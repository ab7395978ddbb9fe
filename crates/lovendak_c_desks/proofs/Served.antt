-- What a desk hands out is what its connection tells.
use Rattle.std.proofs.Common.{◌≡◌, ℕ, ◌+◌, ◌≤◌, List, [], ◌∷◌, ◌++◌, append-nil, append_assoc, flat_map, Option, None, Some, ◌⊎◌, inl, inr, refl, sym, ap, subst, ◌∙◌, arith}
use Rattle.std.proofs.lemmas.Grind.{flat_map-append}
use Rattle.rpc_msg.specs.declared.ids.CallId.{CallId}
use Rattle.rpc_msg.specs.declared.ids.ObjectId.{ObjectId}
use Rattle.rpc_msg.specs.declared.ids.Vat.TheVariants.{A}
use Rattle.rpc_journal.specs.declared.report.Delivery.{Delivery}
use Rattle.rpc_machine.specs.declared.command.Command.{Command}
use Rattle.rpc_machine.specs.declared.command.Level.{Level}
use Rattle.laws_authority.specs.Reach.{IsIn}
use Rattle.vat_host.specs.declared.event.Event.{Event}
use Rattle.vat_host.specs.declared.event.Event.TheVariants as event
use Rattle.vat_hosts.specs.Calls.{of_calls}
use Rattle.vat_hosts.specs.Served.{WasServed, times_served, times_told}
use Rattle.vat_hosts.proofs.Served.{serves-append, times-append}
use Rattle.vat_connection.specs.Connecting.{Connected, fresh}
use Rattle.vat_connections.specs.OneConnection.{Act as ConnectionAct, Acts as ConnectionActs, ActsAll as ConnectionActsAll, commanded_by, told_by}
use Rattle.vat_connections.specs.Served.{ConnectionsServeWhatIsGiven, Did as ConnectionDid, IsLetGo as IsLetGoThere, IsMade as IsMadeThere, IsOneVat as IsOneVatOfConnection, IsToldDown as IsToldDownThere}
use Rattle.vat_connections.proofs.Moving.{in_left, in_right}
use Rattle.lovendak_c_desk.specs.declared.desk.Desk.{Desk}
use Rattle.lovendak_c_desk.specs.declared.notice.Notice.{Notice}
use Rattle.lovendak_c_desk.specs.Desks.{idle}
use Rattle.lovendak_c_desk.specs.Notices.{notice_of}
use Rattle.lovendak_c_desks.specs.OneDesk.{Act, ActsAll, Did, HaveDone, IsLetGo, IsMade, IsToldDown, Shows, times_handed}
use Rattle.lovendak_c_desks.specs.Served.{DesksServeWhatIsGiven}
use Rattle.lovendak_c_desks.proofs.OneDesk.{Steps, other_kind, steps}
use Rattle.lovendak_c_desks.proofs.Reaching.{IsAsked, acts_on, did_in, did_left, did_right, of_held}

-- ---- lists of acts, the last of which is the latest

did_before : (P : Act → Type 0) (xs : List Act) (x : Act) → Did P xs → Did P (xs ++ x ∷ [])
did_before P [] x d = absurd d
did_before P (y ∷ xs) x (inl p) = inl p
did_before P (y ∷ xs) x (inr d) = inr (did_before P xs x d)

did_last : (P : Act → Type 0) (xs : List Act) (x : Act) → P x → Did P (xs ++ x ∷ [])
did_last P [] x p = inl p
did_last P (y ∷ xs) x p = inr (did_last P xs x p)

did_either : (P : Act → Type 0) (xs : List Act) (x : Act) → Did P (xs ++ x ∷ []) → Did P xs ⊎ P x
did_either P [] x (inl p) = inr p
did_either P [] x (inr d) = absurd d
did_either P (y ∷ xs) x (inl p) = inl (inl p)
did_either P (y ∷ xs) x (inr d) = go (did_either P xs x d)
  where
    go : Did P xs ⊎ P x → Did P (y ∷ xs) ⊎ P x
    go (inl d) = inl (inr d)
    go (inr p) = inr p

handed_behind : (kind k : ℕ) (xs : List Act) (x : Act) → times_handed kind k (xs ++ x ∷ []) ≡ times_handed kind k xs + times_handed kind k (x ∷ [])
handed_behind kind k [] x = omega arith
handed_behind kind k (y ∷ xs) x = let e = handed_behind kind k xs x in omega arith

done_behind : (xs : List Act) (x : Act) (cs ds : List Command) → HaveDone xs cs → HaveDone (x ∷ []) ds → HaveDone (xs ++ x ∷ []) (cs ++ ds)
done_behind [] x cs ds none last = subst (λ (l : List Command). HaveDone (x ∷ []) (l ++ ds)) (sym none) last
done_behind (y ∷ xs) x cs ds (first, more, one, rest, is) last =
    (first, more ++ ds, one, done_behind xs x more ds rest last, ap (λ (l : List Command). l ++ ds) is ∙ append_assoc first more ds)

-- ---- so far

module _ (law : ConnectionsServeWhatIsGiven) (level : Level) (root : Option ObjectId) where
  abbrev begun : Connected
  begun = fresh A level root

  -- What was done with the desk, so far, as acts of its connection.
  record So (xs : List Act) (d : Desk) : Type 0 where
    acts : List ConnectionAct
    lead : ConnectionActsAll begun acts d.connection
    commanded : HaveDone xs (flat_map commanded_by acts)
    tasks : (k : ℕ) → times_served k (flat_map told_by acts) ≡ times_handed 1 k xs + times_served k (of_held d.event)
    ended : (k : ℕ) → times_told k (flat_map told_by acts) ≡ times_handed 2 k xs + times_told k (of_held d.event)
    held : (v : Event) → d.event ≡ Some v → ConnectionDid (IsAsked v) acts
    shown : (n : Notice) → Did (Shows n) xs → (v : Event) × (n ≡ notice_of v) × ConnectionDid (IsAsked v) acts
    down : Did IsToldDown xs → (d.event ≡ None) × ((number : ℕ) × (reason : List ℕ) × ConnectionDid (IsAsked (event.Down number reason)) acts)
    made : (id : CallId) → Did (IsMade id) xs → ConnectionDid (IsMadeThere id) acts
    let_go : (id : CallId) → ConnectionDid (IsLetGoThere id) acts → Did (IsLetGo id) xs

  so_new : So [] (idle level root)
  so_new = record {
    acts = [];
    lead = refl;
    commanded = refl;
    tasks = λ k. refl;
    ended = λ k. refl;
    held = λ v is. absurd (let both : None ≡ Some v = is in cc);
    shown = λ n shows. absurd shows;
    down = λ told. absurd told;
    made = λ id m. absurd m;
    let_go = λ id gone. absurd gone;
  }

  down_there : (number : ℕ) (reason : List ℕ) (ys : List ConnectionAct) → ConnectionDid (IsAsked (event.Down number reason)) ys → ConnectionDid IsToldDownThere ys
  down_there number reason [] d = absurd d
  down_there number reason (y ∷ ys) (inl is) = inl (subst IsToldDownThere (sym is) tt)
  down_there number reason (y ∷ ys) (inr d) = inr (down_there number reason ys d)

  -- Nothing is told once it was told that the vat is down.
  none_asked : (before ys : List ConnectionAct) (c e : Connected) → ConnectionActsAll begun before c → ConnectionDid IsToldDownThere before → ConnectionActsAll c ys e → (v : Event) → ConnectionDid (IsAsked v) ys → ⊥
  none_asked before [] c e lead over same v d = d
  none_asked before (y ∷ ys) c e lead over (mid, first, more) v (inl is) =
      (law A level root before c lead).last over v mid (subst (λ (x : ConnectionAct). ConnectionActs c x mid) is first)
  none_asked before (y ∷ ys) c e lead over (mid, first, more) v (inr d) =
      none_asked (before ++ y ∷ []) ys mid e (acts_on begun before c (y ∷ []) mid lead (mid, first, refl)) (did_left IsToldDownThere before (y ∷ []) over) more v d

  module _ (xs : List Act) (d e : Desk) (x : Act) (so : So xs d) (s : Steps x d e) where
    abbrev acts_then : List ConnectionAct
    acts_then = so.acts ++ s.acts

    known : (v : Event) → (d.event ≡ Some v) ⊎ ConnectionDid (IsAsked v) s.acts → ConnectionDid (IsAsked v) acts_then
    known v (inl is) = did_left (IsAsked v) so.acts s.acts (so.held v is)
    known v (inr asked) = did_right (IsAsked v) so.acts s.acts asked

    shown_on : (n : Notice) → Did (Shows n) xs ⊎ Shows n x → (v : Event) × (n ≡ notice_of v) × ConnectionDid (IsAsked v) acts_then
    shown_on n (inl shows) = let was = so.shown n shows in (was.0, was.1, did_left (IsAsked was.0) so.acts s.acts was.2)
    shown_on n (inr shows) = let was = s.shown n shows in (was.0, was.1, known was.0 was.2)

    still_none : (d.event ≡ None) × ConnectionDid IsToldDownThere so.acts → e.event ≡ None
    still_none (empty, over) = by e.event refl
      where
        no : (v : Event) → (d.event ≡ Some v) ⊎ ConnectionDid (IsAsked v) s.acts → ⊥
        no v (inl is) = absurd (let both : None ≡ Some v = sym empty ∙ is in cc)
        no v (inr asked) = none_asked so.acts s.acts d.connection e.connection so.lead over s.lead v asked

        by : (o : Option Event) → e.event ≡ o → e.event ≡ None
        by None is = is
        by (Some v) is = absurd (no v (s.held v is))

    down_on : Did IsToldDown xs ⊎ IsToldDown x → (e.event ≡ None) × ((number : ℕ) × (reason : List ℕ) × ConnectionDid (IsAsked (event.Down number reason)) acts_then)
    down_on (inl told) =
        let was = so.down told in
        (still_none (was.0, down_there was.1.0 was.1.1 so.acts was.1.2), (was.1.0, was.1.1, did_left (IsAsked (event.Down was.1.0 was.1.1)) so.acts s.acts was.1.2))
    down_on (inr told) = let is = s.down told in (is.0, (is.1.0, is.1.1, known (event.Down is.1.0 is.1.1) is.1.2))

    made_on : (id : CallId) → Did (IsMade id) xs ⊎ IsMade id x → ConnectionDid (IsMadeThere id) acts_then
    made_on id (inl m) = did_left (IsMadeThere id) so.acts s.acts (so.made id m)
    made_on id (inr m) = did_right (IsMadeThere id) so.acts s.acts (s.made id m)

    let_go_on : (id : CallId) → ConnectionDid (IsLetGoThere id) so.acts ⊎ ConnectionDid (IsLetGoThere id) s.acts → Did (IsLetGo id) (xs ++ x ∷ [])
    let_go_on id (inl gone) = did_before (IsLetGo id) xs x (so.let_go id gone)
    let_go_on id (inr gone) = did_last (IsLetGo id) xs x (s.let_go id gone)

    one_act : So (xs ++ x ∷ []) e
    one_act = record {
      acts = acts_then;
      lead = acts_on begun so.acts d.connection s.acts e.connection so.lead s.lead;
      commanded =
          subst (HaveDone (xs ++ x ∷ [])) (sym (flat_map-append commanded_by so.acts s.acts))
          (done_behind xs x (flat_map commanded_by so.acts) (flat_map commanded_by s.acts) so.commanded (flat_map commanded_by s.acts, [], s.commands, refl, sym (append-nil (flat_map commanded_by s.acts))));
      tasks = λ k.
          let a = ap (times_served k) (flat_map-append told_by so.acts s.acts) in
          let b = serves-append k (flat_map told_by so.acts) (flat_map told_by s.acts) in
          let f = so.tasks k in
          let g = s.tasks k in
          let h = handed_behind 1 k xs x in
          omega arith;
      ended = λ k.
          let a = ap (times_told k) (flat_map-append told_by so.acts s.acts) in
          let b = times-append k (flat_map told_by so.acts) (flat_map told_by s.acts) in
          let f = so.ended k in
          let g = s.ended k in
          let h = handed_behind 2 k xs x in
          omega arith;
      held = λ v is. known v (s.held v is);
      shown = λ n shows. shown_on n (did_either (Shows n) xs x shows);
      down = λ told. down_on (did_either IsToldDown xs x told);
      made = λ id m. made_on id (did_either (IsMade id) xs x m);
      let_go = λ id gone. let_go_on id (did_in (IsLetGoThere id) so.acts s.acts gone);
    }

  so_all : (before xs : List Act) (d e : Desk) → So before d → ActsAll d xs e → So (before ++ xs) e
  so_all before [] d e so same = subst (λ (l : List Act). So l e) (sym (append-nil before)) (subst (λ (x : Desk). So before x) (sym same) so)
  so_all before (x ∷ xs) d e so (mid, first, more) =
      subst (λ (l : List Act). So l e) (append_assoc before (x ∷ []) xs) (so_all (before ++ x ∷ []) xs mid e (one_act before d mid x so (steps x d mid first)) more)

-- ---- the law

is_served : (v : Event) → (notice_of v).kind ≡ 1 → (y : Delivery) × (v ≡ event.Served y)
is_served (event.Served y) is = (y, refl)
is_served (event.Ended x) is = other_kind 2 1 refl is
is_served (event.Resolved p) is = other_kind 6 1 refl is
is_served (event.Cancelled t) is = other_kind 5 1 refl is
is_served (event.Lifted r) is = other_kind 7 1 refl is
is_served (event.Released o) is = other_kind 4 1 refl is
is_served (event.Down n reason) is = other_kind 3 1 refl is

told_there : (y : Delivery) (ys : List ConnectionAct) → ConnectionDid (IsAsked (event.Served y)) ys → IsIn (event.Served y) (flat_map told_by ys)
told_there y [] d = d
told_there y (x ∷ ys) (inl is) =
    in_left (event.Served y) (told_by x) (flat_map told_by ys) (subst (λ (x : ConnectionAct). IsIn (event.Served y) (told_by x)) (sym is) (inl refl))
told_there y (x ∷ ys) (inr d) = in_right (event.Served y) (told_by x) (flat_map told_by ys) (told_there y ys d)

pub served_rightly : ConnectionsServeWhatIsGiven → DesksServeWhatIsGiven
served_rightly law level root xs d acts = record {
  log = run.log;
  ran = run.ran;
  commanded = subst (HaveDone xs) (sym run.commanded) so.commanded;
  served = λ n shows kind. served n kind (so.shown n shows);
  tasks = tasks;
  ended = ended;
  over = λ down id made. over (so.down down) id (run.over (down_there law level root (so.down down).1.0 (so.down down).1.1 so.acts (so.down down).1.2) id (so.made id made));
}
  where
    so : So law level root xs d
    so = so_all law level root [] xs (idle level root) d (so_new law level root) acts

    run : IsOneVatOfConnection so.acts d.connection
    run = law A level root so.acts d.connection so.lead

    served : (n : Notice) → n.kind ≡ 1 → (v : Event) × (n ≡ notice_of v) × ConnectionDid (IsAsked v) so.acts → (y : Delivery) × (n ≡ notice_of (event.Served y)) × WasServed run.log y
    served n kind (v, is, asked) =
        let of = is_served v (sym (ap (λ (m : Notice). m.kind) is) ∙ kind) in (
          of.0,
          is ∙ ap notice_of of.1,
          run.served of.0 (in_left (event.Served of.0) (flat_map told_by so.acts) (flat_map of_calls d.connection.speaker.host.events) (told_there of.0 so.acts (subst (λ (w : Event). ConnectionDid (IsAsked w) so.acts) of.1 asked))),
        )

    tasks : (k : ℕ) → times_handed 1 k xs ≤ 1
    tasks k =
        let a = run.tasks k in
        let b = serves-append k (flat_map told_by so.acts) (flat_map of_calls d.connection.speaker.host.events) in
        let e = so.tasks k in
        omega arith

    ended : (k : ℕ) → times_handed 2 k xs ≤ 1
    ended k =
        let a = run.ended k in
        let b = times-append k (flat_map told_by so.acts) (flat_map of_calls d.connection.speaker.host.events) in
        let e = so.ended k in
        omega arith

    over : (d.event ≡ None) × ((number : ℕ) × (reason : List ℕ) × ConnectionDid (IsAsked (event.Down number reason)) so.acts) → (id : CallId)
        → ConnectionDid (IsLetGoThere id) so.acts ⊎ (times_told id.0 (flat_map told_by so.acts) ≡ 1) → Did (IsLetGo id) xs ⊎ (times_handed 2 id.0 xs ≡ 1)
    over (empty, told) id (inl gone) = inl (so.let_go id gone)
    over (empty, told) id (inr once) =
        let a = so.ended id.0 in
        let b = ap (λ (o : Option Event). times_told id.0 (of_held o)) empty in
        inr (omega arith)
