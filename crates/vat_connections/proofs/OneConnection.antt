-- One connection is a run of one vat with any peer: what was done so far, act by act.
use Rattle.std.proofs.Common.{◌≡◌, ℕ, ◌+◌, ◌≤◌, List, [], ◌∷◌, ◌++◌, append-nil, append_assoc, flat_map, Option, None, Some, IsSome, ◌⊎◌, inl, inr, refl, sym, ap, subst, ◌∙◌, arith}
use Rattle.std.proofs.lemmas.Grind.{flat_map-append}
use Rattle.rpc_msg.specs.declared.ids.CallId.{CallId}
use Rattle.rpc_msg.specs.declared.ids.ObjectId.{ObjectId}
use Rattle.rpc_msg.specs.declared.ids.Vat.{Vat}
use Rattle.rpc_journal.specs.declared.report.Delivery.{Delivery}
use Rattle.rpc_machine.specs.declared.command.Command.{Command}
use Rattle.rpc_machine.specs.declared.command.Level.{Level}
use Rattle.rpc_machine.specs.State.{start}
use Rattle.laws_authority.specs.Reach.{IsIn}
use Rattle.vat_host.specs.declared.event.Event.{Event}
use Rattle.vat_host.specs.declared.event.Event.TheVariants as event
use Rattle.vat_host.specs.Hosting.{Hosted, idle}
use Rattle.vat_hosts.specs.Calls.{of_calls}
use Rattle.vat_hosts.specs.OneHost.{Act as HostAct, ActsAll as HostActsAll, calls_in, happened_by, told_by as told_by_host, told_to as told_to_host}
use Rattle.vat_hosts.specs.Served.{HostsServeWhatIsGiven, IsOneVat as IsOneVatOfHost, times_served, times_told}
use Rattle.vat_hosts.proofs.Known.{Each}
use Rattle.vat_hosts.proofs.OneHost.{so_all as host_so_all, so_new as host_so_new}
use Rattle.vat_hosts.proofs.Released.{IsOfStep, each_of_step}
use Rattle.vat_hosts.proofs.Served.{in_either, log_ends, serves-append, times-append}
use Rattle.vat_hosts.proofs.Sides.{flat_behind}
use Rattle.vat_connection.specs.Connecting.{Connected, down, fresh}
use Rattle.vat_connections.specs.OneConnection.{Act, ActsAll, command_of, commanded_by, told_by}
use Rattle.vat_connections.specs.Served.{Did, IsLetGo, IsMade, IsToldDown, IsToldEnded}
use Rattle.vat_connections.proofs.Counts.{times_open}
use Rattle.vat_connections.proofs.Downs.{is_down_behind, none_is_some, silent_behind}
use Rattle.vat_connections.proofs.Numbers.{ended_in_room, none_next, rises, room, room_given, room_rises}
use Rattle.vat_connections.proofs.Working.{Works, acts_on, commands-append}
use Rattle.vat_connections.proofs.Moving.{HasNothing, IsNew, IsOver, Moves, in_left, in_right, moves}

-- ---- lists of acts, the last of which is the latest

did_before : (P : Act → Type 0) (xs : List Act) (x : Act) → Did P xs → Did P (xs ++ x ∷ [])
did_before P [] x d = absurd d
did_before P (y ∷ xs) x (inl p) = inl p
did_before P (y ∷ xs) x (inr d) = inr (did_before P xs x d)

did_last : (P : Act → Type 0) (xs : List Act) (x : Act) → P x → Did P (xs ++ x ∷ [])
did_last P [] x p = inl p
did_last P (y ∷ xs) x p = inr (did_last P xs x p)

did_either : (P : Act → Type 0) (xs : List Act) (x : Act) → Did P (xs ++ x ∷ []) → Did P xs ⊎ P x
did_either P [] x (inl p) = inr p
did_either P [] x (inr d) = absurd d
did_either P (y ∷ xs) x (inl p) = inl (inl p)
did_either P (y ∷ xs) x (inr d) = go (did_either P xs x d)
  where
    go : Did P xs ⊎ P x → Did P (y ∷ xs) ⊎ P x
    go (inl d) = inl (inr d)
    go (inr p) = inr p

-- What is done with a connection, as acts of its host.
pub record Leads (c : Connected) (xs : List Act) (d : Connected) : Type 0 where
  pub acts : List HostAct
  pub lead : HostActsAll c.speaker.host acts d.speaker.host
  pub commanded : flat_map command_of (flat_map happened_by acts) ≡ flat_map commanded_by xs

-- ---- so far

module _ (hosts : HostsServeWhatIsGiven) (vat : Vat) (level : Level) (root : Option ObjectId) where
  abbrev begun : Hosted
  begun = idle (start vat level root)

  -- What was done with the connection, so far, as acts of its host.
  pub record So (xs : List Act) (c : Connected) : Type 0 where
    pub acts : List HostAct
    pub lead : HostActsAll begun acts c.speaker.host
    pub commanded : flat_map command_of (flat_map happened_by acts) ≡ flat_map commanded_by xs
    pub serves : (y : Delivery) → IsIn (event.Served y) (flat_map told_by xs) → IsIn (event.Served y) (flat_map told_by_host acts)
    pub tasks : (k : ℕ) → times_served k (flat_map told_by xs) ≡ times_served k (flat_map told_by_host acts)
    pub followed : (id : CallId) → Did (IsMade id) xs → Did (IsToldEnded id) xs ⊎ (Did (IsLetGo id) xs ⊎ IsIn id c.open_calls)
    pub cut : ℕ → ℕ
    pub told : (k : ℕ) → times_told k (flat_map told_by xs) ≡ times_told k (flat_map told_by_host acts) + cut k
    pub cuts : ((k : ℕ) → cut k ≡ 0) ⊎ HasNothing c.speaker.host
    -- what was told of a call, and how often it is open
    pub once : (k : ℕ) → times_told k (flat_map told_by_host acts) + (cut k + times_open k c.open_calls) ≤ 1
    pub numbered : down c ≡ None → (k : ℕ) → times_open k c.open_calls ≤ room c.speaker.host.core.next_call k
    pub closed : Did IsToldDown xs → IsOver c

  pub so_new : So [] (fresh vat level root)
  so_new = record {
    acts = [];
    lead = refl;
    commanded = refl;
    serves = λ y i. absurd i;
    tasks = λ k. refl;
    followed = λ id made. absurd made;
    cut = λ k. 0;
    told = λ k. refl;
    cuts = inl (λ k. refl);
    once = λ k. omega arith;
    numbered = λ up k. omega arith;
    closed = λ told. absurd told;
  }

  -- the run of its host
  module _ (xs : List Act) (c : Connected) (so : So xs c) where
    pub one : IsOneVatOfHost so.acts c.speaker.host
    one = hosts vat level root so.acts c.speaker.host so.lead

    -- While it is up, no call was told that is still to come.
    told_in_room : down c ≡ None → (k : ℕ) → times_told k (flat_map told_by_host so.acts) ≤ room c.speaker.host.core.next_call k
    told_in_room up k =
        let a = ended_in_room c.speaker.host.core one.log one.ran up k in
        let b : times_told k (told_to_host so.acts c.speaker.host) ≡ times_told k (calls_in one.log) = ap (times_told k) one.told in
        let e = log_ends k one.log in
        let d = times-append k (flat_map told_by_host so.acts) (flat_map of_calls c.speaker.host.events) in
        omega arith

  module _ (xs : List Act) (c d : Connected) (x : Act) (so : So xs c) (m : Moves x c d) where
    abbrev acts_then : List HostAct
    acts_then = so.acts ++ m.acts

    lead_then : HostActsAll begun acts_then d.speaker.host
    lead_then = acts_on begun so.acts c.speaker.host m.acts d.speaker.host so.lead m.lead

    still : (id : CallId) → Did (IsToldEnded id) xs ⊎ (Did (IsLetGo id) xs ⊎ IsIn id c.open_calls) → Did (IsToldEnded id) (xs ++ x ∷ []) ⊎ (Did (IsLetGo id) (xs ++ x ∷ []) ⊎ IsIn id d.open_calls)
    still id (inl told) = inl (did_before (IsToldEnded id) xs x told)
    still id (inr (inl gone)) = inr (inl (did_before (IsLetGo id) xs x gone))
    still id (inr (inr i)) = go (m.kept id i)
      where
        go : IsToldEnded id x ⊎ (IsLetGo id x ⊎ IsIn id d.open_calls) → Did (IsToldEnded id) (xs ++ x ∷ []) ⊎ (Did (IsLetGo id) (xs ++ x ∷ []) ⊎ IsIn id d.open_calls)
        go (inl told) = inl (did_last (IsToldEnded id) xs x told)
        go (inr (inl gone)) = inr (inl (did_last (IsLetGo id) xs x gone))
        go (inr (inr i)) = inr (inr i)

    followed_on : (id : CallId) → Did (IsMade id) xs ⊎ IsMade id x → Did (IsToldEnded id) (xs ++ x ∷ []) ⊎ (Did (IsLetGo id) (xs ++ x ∷ []) ⊎ IsIn id d.open_calls)
    followed_on id (inl made) = still id (so.followed id made)
    followed_on id (inr made) = inr (inr (m.made id made))

    closed_on : Did IsToldDown xs ⊎ IsToldDown x → IsOver d
    closed_on (inl told) =
        let was = so.closed told in
        let silent = silent_behind c.speaker.host d.speaker.host m.acts m.lead was.0 was.2 in
        (is_down_behind c.speaker.host d.speaker.host m.acts m.lead was.0, m.stays was.0 was.1, silent.0, silent.1 was.3)
    closed_on (inr told) = m.ends told

    serves_on : (y : Delivery) → IsIn (event.Served y) (flat_map told_by xs) ⊎ IsIn (event.Served y) (told_by x) → IsIn (event.Served y) (flat_map told_by_host so.acts ++ flat_map told_by_host m.acts)
    serves_on y (inl i) = in_left (event.Served y) (flat_map told_by_host so.acts) (flat_map told_by_host m.acts) (so.serves y i)
    serves_on y (inr i) = in_right (event.Served y) (flat_map told_by_host so.acts) (flat_map told_by_host m.acts) (m.serves y i)

    -- ---- how often

    told_then : (k : ℕ) → times_told k (flat_map told_by_host acts_then) ≡ times_told k (flat_map told_by_host so.acts) + times_told k (flat_map told_by_host m.acts)
    told_then k = ap (times_told k) (flat_map-append told_by_host so.acts m.acts) ∙ times-append k (flat_map told_by_host so.acts) (flat_map told_by_host m.acts)

    told_on : (k : ℕ) → times_told k (flat_map told_by (xs ++ x ∷ [])) ≡ times_told k (flat_map told_by_host acts_then) + (so.cut k + m.cut k)
    told_on k =
        let a = ap (times_told k) (flat_behind told_by xs x) in
        let b = times-append k (flat_map told_by xs) (told_by x) in
        let e = so.told k in
        let f = m.told k in
        let g = told_then k in
        omega arith

    tasks_on : (k : ℕ) → times_served k (flat_map told_by (xs ++ x ∷ [])) ≡ times_served k (flat_map told_by_host acts_then)
    tasks_on k =
        let a = ap (times_served k) (flat_behind told_by xs x) in
        let b = serves-append k (flat_map told_by xs) (told_by x) in
        let e = so.tasks k in
        let f = m.tasks k in
        let g = ap (times_served k) (flat_map-append told_by_host so.acts m.acts) in
        let h = serves-append k (flat_map told_by_host so.acts) (flat_map told_by_host m.acts) in
        omega arith

    cuts_on : ((k : ℕ) → so.cut k ≡ 0) ⊎ HasNothing c.speaker.host → ((k : ℕ) → m.cut k ≡ 0) ⊎ HasNothing d.speaker.host → ((k : ℕ) → so.cut k + m.cut k ≡ 0) ⊎ HasNothing d.speaker.host
    cuts_on (inr nothing) m_cuts =
        inr (is_down_behind c.speaker.host d.speaker.host m.acts m.lead nothing.0, (silent_behind c.speaker.host d.speaker.host m.acts m.lead nothing.0 nothing.1).0)
    cuts_on (inl none) (inr nothing) = inr nothing
    cuts_on (inl none) (inl uncut) = inl (λ k. let a = none k in let b = uncut k in omega arith)

    -- The host tells of no call twice.
    host_once : (k : ℕ) → times_told k (flat_map told_by_host acts_then) ≤ 1
    host_once k =
        let a = (hosts vat level root acts_then d.speaker.host lead_then).ended k in
        let b = times-append k (flat_map told_by_host acts_then) (flat_map of_calls d.speaker.host.events) in
        omega arith

    none_cut_up : down c ≡ None → (k : ℕ) → so.cut k ≡ 0
    none_cut_up up k = by so.cuts
      where
        by : ((k : ℕ) → so.cut k ≡ 0) ⊎ HasNothing c.speaker.host → so.cut k ≡ 0
        by (inl none) = none k
        by (inr nothing) = absurd (none_is_some (down c) up nothing.0)

    abbrev Once : ℕ → Type 0
    Once k = times_told k (flat_map told_by_host acts_then) + (so.cut k + m.cut k + times_open k d.open_calls) ≤ 1

    once_by : (k : ℕ) → (times_open k d.open_calls + m.cut k ≤ times_open k c.open_calls) ⊎ IsNew k x c d m.acts (m.cut k)
        → (times_told k (flat_map told_by_host m.acts) ≡ 0) ⊎ ((times_open k d.open_calls ≡ 0) × (m.cut k ≡ 0) × (HasNothing c.speaker.host → ⊥)) → Once k
    once_by k (inr new) ended =
        let told = told_in_room xs c so new.up k in
        let opens = so.numbered new.up k in
        let free : room c.speaker.host.core.next_call k ≡ 0 = ap (room c.speaker.host.core.next_call) new.next ∙ none_next c.speaker.host.core.next_call in
        let uncut = none_cut_up new.up k in
        let a = new.none_told in
        let b = new.none_cut in
        let e = new.opens in
        let f = told_then k in
        omega arith
    once_by k (inl fewer) (inl none) = let a = so.once k in let b = told_then k in omega arith
    once_by k (inl fewer) (inr (gone, uncut, some)) = by so.cuts
      where
        by : ((k : ℕ) → so.cut k ≡ 0) ⊎ HasNothing c.speaker.host → Once k
        by (inl none) = let a = none k in let b = host_once k in omega arith
        by (inr nothing) = absurd (some nothing)

    -- ---- numbers

    next_rises : down d ≡ None → c.speaker.host.core.next_call ≤ d.speaker.host.core.next_call
    next_rises up = rises so.acts m.acts c.speaker.host d.speaker.host (host_so_all [] so.acts begun c.speaker.host (host_so_new vat level root) so.lead) m.lead up

    up_before : down d ≡ None → down c ≡ None
    up_before up = by (down c) refl
      where
        by : (o : Option ℕ) → down c ≡ o → down c ≡ None
        by None e = e
        by (Some n) e =
            absurd (none_is_some (down d) up (is_down_behind c.speaker.host d.speaker.host m.acts m.lead (subst (λ (o : Option ℕ). IsSome o) (sym e) refl)))

    numbered_by : down d ≡ None → (k : ℕ) → (times_open k d.open_calls + m.cut k ≤ times_open k c.open_calls) ⊎ IsNew k x c d m.acts (m.cut k) → times_open k d.open_calls ≤ room d.speaker.host.core.next_call k
    numbered_by up k (inl fewer) =
        let a = so.numbered (up_before up) k in
        let b = room_rises c.speaker.host.core.next_call d.speaker.host.core.next_call k (next_rises up) in
        omega arith
    numbered_by up k (inr new) =
        let a = so.numbered new.up k in
        let free : room c.speaker.host.core.next_call k ≡ 0 = ap (room c.speaker.host.core.next_call) new.next ∙ none_next c.speaker.host.core.next_call in
        let n = new.next in
        let r = new.rises in
        let given = room_given d.speaker.host.core.next_call k (omega arith) in
        let e = new.opens in
        omega arith

    one_act : So (xs ++ x ∷ []) d
    one_act = record {
      acts = acts_then;
      lead = lead_then;
      commanded =
          commands-append so.acts m.acts
          ∙ ap (λ (l : List Command). l ++ flat_map command_of (flat_map happened_by m.acts)) so.commanded
          ∙ ap (λ (l : List Command). flat_map commanded_by xs ++ l) m.commands
          ∙ sym (flat_behind commanded_by xs x);
      serves =
          λ y i. subst (λ (l : List Event). IsIn (event.Served y) l) (sym (flat_map-append told_by_host so.acts m.acts))
          (serves_on y (in_either (event.Served y) (flat_map told_by xs) (told_by x) (subst (λ (l : List Event). IsIn (event.Served y) l) (flat_behind told_by xs x) i)));
      tasks = tasks_on;
      followed = λ id made. followed_on id (did_either (IsMade id) xs x made);
      cut = λ k. so.cut k + m.cut k;
      told = told_on;
      cuts = cuts_on so.cuts m.cuts;
      once = λ k. let a = once_by k (m.opens k) (m.ended k) in omega arith;
      numbered = λ up k. numbered_by up k (m.opens k);
      closed = λ told. closed_on (did_either IsToldDown xs x told);
    }

  reached_so : (xs : List Act) (c : Connected) → So xs c → (k : Hosted) → Works c.speaker.host k → Each IsOfStep k.events
  reached_so xs c so k works = each_of_step begun k (so.acts ++ works.acts) tt (acts_on begun so.acts c.speaker.host works.acts k so.lead works.lead)

  pub so_all : (before xs : List Act) (c d : Connected) → So before c → ActsAll c xs d → So (before ++ xs) d
  so_all before [] c d so same = subst (λ (l : List Act). So l d) (sym (append-nil before)) (subst (λ (k : Connected). So before k) (sym same) so)
  so_all before (x ∷ xs) c d so (mid, first, more) =
      let run = one before c so in
      subst (λ (l : List Act). So l d) (append_assoc before (x ∷ []) xs)
      (so_all (before ++ x ∷ []) xs mid d (one_act before c mid x so (moves c mid run.log run.ran (reached_so before c so) x first)) more)

  -- What is done then, after what was done so far.
  pub leads_all : (before xs : List Act) (c d : Connected) → So before c → ActsAll c xs d → Leads c xs d
  leads_all before [] c d so same = record { acts = []; lead = ap (λ (k : Connected). k.speaker.host) same; commanded = refl }
  leads_all before (x ∷ xs) c d so (mid, first, more) =
      let run = one before c so in
      let m = moves c mid run.log run.ran (reached_so before c so) x first in
      let rest = leads_all (before ++ x ∷ []) xs mid d (one_act before c mid x so m) more in
      record {
        acts = m.acts ++ rest.acts;
        lead = acts_on c.speaker.host m.acts mid.speaker.host rest.acts d.speaker.host m.lead rest.lead;
        commanded =
            commands-append m.acts rest.acts
            ∙ ap (λ (l : List Command). l ++ flat_map command_of (flat_map happened_by rest.acts)) m.commands
            ∙ ap (λ (l : List Command). commanded_by x ++ l) rest.commanded;
      }
