-- What an act of a connection is for its host, and for the own calls that are open.
use Rattle.std.proofs.Common.{◌≡◌, ℕ, ◌+◌, ◌≤◌, Bool, true, false, not, cond, ◌==◌, ◌&&◌, nat_eq, length, List, [], ◌∷◌, ◌++◌, append-nil, flat_map, Option, None, Some, is_some, IsSome, Result, Ok, Err, ◌⊎◌, inl, inr, refl, sym, ap, subst, ◌∙◌, arith}
use Rattle.std.proofs.lemmas.Bool.Decides.{nat_tests}
use Rattle.std.proofs.lemmas.Grind.{flat_map-append}
use Rattle.rpc_msg.specs.declared.ids.CallId.{CallId}
use Rattle.rpc_journal.specs.declared.report.Delivery.{Delivery}
use Rattle.rpc_machine.specs.declared.command.Command.{Command}
use Rattle.rpc_machine.specs.declared.command.Command.TheVariants as command
use Rattle.rpc_machine.specs.declared.command.Effects.{Effects}
use Rattle.rpc_machine.specs.declared.command.Granted.{Granted}
use Rattle.rpc_machine.specs.declared.command.Granted.TheVariants as granted
use Rattle.rpc_machine.specs.declared.command.Refusal.{Refusal}
use Rattle.rpc_machine.specs.Steps.{Obeys}
use Rattle.laws_nodes.specs.Ones.{one_if}
use Rattle.laws_authority.specs.Reach.{IsIn}
use Rattle.laws_authority.specs.Runs.{Event as Logged, RunsTo}
use Rattle.vat_host.specs.declared.event.Event.{Event}
use Rattle.vat_host.specs.declared.event.Event.TheVariants as event
use Rattle.vat_host.specs.Hosting.{Hosted, Does, Tells as HostTells, has_only_down}
use Rattle.vat_hosts.specs.Calls.{of_calls}
use Rattle.vat_hosts.specs.OneHost.{Act as HostAct, ActsAll as HostActsAll, happened_by, told_by as told_by_host}
use Rattle.vat_hosts.specs.OneHost.Act.{Commands as HostCommands, Asks as HostAsks}
use Rattle.vat_hosts.specs.Served.{times_served, times_told}
use Rattle.vat_hosts.proofs.Known.{Each}
use Rattle.vat_hosts.proofs.Released.{IsOfStep}
use Rattle.vat_connection.specs.OwnCalls.{finished_by, followed, let_go, without}
use Rattle.vat_connection.specs.Connecting.{Connected, Asks as AsksCommand, AsksToFit, CutsOff, EndsStream, TellsDown, TellsNext, TellsOldest, TellsFreed, WorksOn, answered_by, down}
use Rattle.vat_connections.specs.OneConnection.{Act, Acts, but_shut, command_of, commanded_by, told_by}
use Rattle.vat_connections.specs.OneConnection.Act.{Commands, Receives, Ends, Shuts as ShutsVat, Gives, Asks, SetsLimits, SetsFinishes}
use Rattle.vat_connections.specs.Served.{IsLetGo, IsMade, IsToldDown, IsToldEnded}
use Rattle.vat_connections.proofs.Counts.{none_without, open-append, open_without, times_open}
use Rattle.vat_connections.proofs.Downs.{is_down_behind, no_call_down, silent_behind}
use Rattle.vat_connections.proofs.Numbers.{by_call}
use Rattle.vat_connections.proofs.Working.{Works, acts_on, commands-append, ends_stream, falls, follows, rests, works_on}

-- ---- lists

pub in_left : {X : Type 0} (x : X) (xs ys : List X) → IsIn x xs → IsIn x (xs ++ ys)
in_left x [] ys i = absurd i
in_left x (z ∷ xs) ys (inl e) = inl e
in_left x (z ∷ xs) ys (inr i) = inr (in_left x xs ys i)

pub in_right : {X : Type 0} (x : X) (xs ys : List X) → IsIn x ys → IsIn x (xs ++ ys)
in_right x [] ys i = i
in_right x (z ∷ xs) ys i = inr (in_right x xs ys i)

-- ---- own calls that are open

abbrev pub numbered : ℕ → CallId
numbered k = record { 0 = k }

same_call : (c d : CallId) → (c.0 == d.0) ≡ true → d ≡ c
same_call c d e = let n : d.0 ≡ c.0 = grind (arith, nat_tests, e) in ap numbered n

abbrev Left : CallId → CallId → CallId → List CallId → Bool → Type 0
Left id gone c calls b = (gone ≡ id) ⊎ IsIn id (cond (not b) (c ∷ without gone calls) (without gone calls))

-- One that is open stays so when another is taken out.
in_without : (id gone : CallId) (calls : List CallId) → IsIn id calls → (gone ≡ id) ⊎ IsIn id (without gone calls)
in_without id gone [] i = absurd i
in_without id gone (c ∷ calls) i = by (λ j. in_without id gone calls j) (c.0 == gone.0) refl i
  where
    go : (gone ≡ id) ⊎ IsIn id (without gone calls) → Left id gone c calls false
    go (inl is) = inl is
    go (inr j) = inr (inr j)

    by : (IsIn id calls → (gone ≡ id) ⊎ IsIn id (without gone calls)) → (b : Bool) → (c.0 == gone.0) ≡ b → IsIn id (c ∷ calls) → Left id gone c calls (c.0 == gone.0)
    by rest true e (inl is) = inl (same_call c gone e ∙ is)
    by rest true e (inr j) = subst (λ (b : Bool). Left id gone c calls b) (sym e) (rest j)
    by rest false e (inl is) = subst (λ (b : Bool). Left id gone c calls b) (sym e) (inr (inl is))
    by rest false e (inr j) = subst (λ (b : Bool). Left id gone c calls b) (sym e) (go (rest j))

-- ---- an act of a connection

-- The act made the call with the number k, which is the next one.
pub record IsNew (k : ℕ) (x : Act) (c d : Connected) (acts : List HostAct) (cut : ℕ) : Type 0 where
  pub made : IsMade (numbered k) x
  pub none_told : times_told k (flat_map told_by_host acts) ≡ 0
  pub none_cut : cut ≡ 0
  pub opens : times_open k d.open_calls ≤ times_open k c.open_calls + 1
  pub up : down c ≡ None
  pub next : k ≡ c.speaker.host.core.next_call
  pub rises : d.speaker.host.core.next_call ≡ c.speaker.host.core.next_call + 1

abbrev pub HasNothing : Hosted → Type 0
HasNothing h = IsSome h.core.down × (h.events ≡ [])

-- The application was told that the vat is down.
abbrev pub IsOver : Connected → Type 0
IsOver c = IsSome (down c) × (c.open_calls ≡ []) × (c.speaker.host.events ≡ []) × (c.speaker.host.down_notice.told ≡ true)

-- What an act of a connection is for its host and its own calls. Some calls it cuts off.
pub record Moves (x : Act) (c d : Connected) : Type 0 where
  pub acts : List HostAct
  pub lead : HostActsAll c.speaker.host acts d.speaker.host
  pub commands : flat_map command_of (flat_map happened_by acts) ≡ commanded_by x
  pub serves : (y : Delivery) → IsIn (event.Served y) (told_by x) → IsIn (event.Served y) (flat_map told_by_host acts)
  pub tasks : (k : ℕ) → times_served k (told_by x) ≡ times_served k (flat_map told_by_host acts)
  pub kept : (id : CallId) → IsIn id c.open_calls → IsToldEnded id x ⊎ (IsLetGo id x ⊎ IsIn id d.open_calls)
  pub made : (id : CallId) → IsMade id x → IsIn id d.open_calls
  pub cut : ℕ → ℕ
  pub told : (k : ℕ) → times_told k (told_by x) ≡ times_told k (flat_map told_by_host acts) + cut k
  pub opens : (k : ℕ) → (times_open k d.open_calls + cut k ≤ times_open k c.open_calls) ⊎ IsNew k x c d acts (cut k)
  -- the host told of a call, which is open no more
  pub ended : (k : ℕ) → (times_told k (flat_map told_by_host acts) ≡ 0) ⊎ ((times_open k d.open_calls ≡ 0) × (cut k ≡ 0) × (HasNothing c.speaker.host → ⊥))
  pub cuts : ((k : ℕ) → cut k ≡ 0) ⊎ HasNothing d.speaker.host
  pub ends : IsToldDown x → IsOver d
  pub stays : IsSome (down c) → c.open_calls ≡ [] → d.open_calls ≡ []

abbrev Silent : Act → Type 0
Silent x = (commanded_by x ≡ []) × (told_by x ≡ []) × ((id : CallId) → IsMade id x → ⊥) × (IsToldDown x → ⊥)

-- It works by itself.
silent : (x : Act) (c d : Connected) → Silent x → Works c.speaker.host d.speaker.host → d.open_calls ≡ c.open_calls → Moves x c d
silent x c d (no_command, nothing, none_made, none_down) works same = record {
  acts = works.acts;
  lead = works.lead;
  commands = works.commands ∙ sym no_command;
  serves = λ y i. absurd (subst (λ (l : List Event). IsIn (event.Served y) l) nothing i);
  tasks = λ k. ap (times_served k) nothing ∙ sym (ap (times_served k) works.tells);
  kept = λ id i. inr (inr (subst (λ (l : List CallId). IsIn id l) (sym same) i));
  made = λ id made. absurd (none_made id made);
  cut = λ k. 0;
  told = λ k. let a = ap (times_told k) nothing in let b = ap (times_told k) works.tells in omega arith;
  opens = λ k. inl (let a = ap (times_open k) same in omega arith);
  ended = λ k. inl (ap (times_told k) works.tells);
  cuts = inl (λ k. refl);
  ends = λ told. absurd (none_down told);
  stays = λ is_down none. same ∙ none;
}

-- ---- commands

abbrev call_acts : Command → Granted → List HostAct
call_acts c g = HostCommands c (Ok g) ∷ []

-- How often a call is open once a command was done.
module _ (log : List Logged) (c : Command) (g : Granted) (old new : Connected) (ran : RunsTo old.speaker.host.core log) (e : Effects) where
  module _ (obeys : Obeys old.speaker.host.core c (Ok g) e new.speaker.host.core) (calls : new.open_calls ≡ followed old.open_calls (finished_by c) g) where
    abbrev Opens : ℕ → Type 0
    Opens k = (times_open k new.open_calls + 0 ≤ times_open k old.open_calls) ⊎ IsNew k (Commands c (Ok g)) old new (call_acts c g) 0

    fewer : (k : ℕ) (f : Option CallId) → times_open k (let_go old.open_calls f) ≤ times_open k old.open_calls
    fewer k None = omega arith
    fewer k (Some f) = open_without k f old.open_calls

    none_made : (k : ℕ) (h : Granted) → g ≡ h → followed old.open_calls (finished_by c) h ≡ let_go old.open_calls (finished_by c) → Opens k
    none_made k h same goes =
        let is = ap (times_open k) (calls ∙ ap (λ (h : Granted). followed old.open_calls (finished_by c) h) same ∙ goes) in
        inl (let b = fewer k (finished_by c) in omega arith)

    module _ (id : CallId) (same : g ≡ granted.Call id) where
      more : (k : ℕ) → times_open k new.open_calls ≡ times_open k old.open_calls + (one_if (nat_eq k id.0) + 0)
      more k = ap (times_open k) (calls ∙ ap (λ (h : Granted). followed old.open_calls (finished_by c) h) same) ∙ open-append k old.open_calls (id ∷ [])

      number : (down old ≡ None) × (new.speaker.host.core.next_call ≡ old.speaker.host.core.next_call + 1) × (id.0 ≡ old.speaker.host.core.next_call)
      number =
          by_call old.speaker.host.core new.speaker.host.core log ran e c id
          (subst (λ (h : Granted). Obeys old.speaker.host.core c (Ok h) e new.speaker.host.core) same obeys)

      one_made : (k : ℕ) (b : Bool) → nat_eq k id.0 ≡ b → Opens k
      one_made k true is =
          let n : id.0 ≡ k = grind (arith, nat_tests, is) in
          inr (record {
            made = subst (λ (h : Granted). IsMade (numbered k) (Commands c (Ok h))) (sym same) (ap numbered n);
            none_told = refl;
            none_cut = refl;
            opens = let a = more k in let b = ap one_if is in omega arith;
            up = number.0;
            next = sym n ∙ number.2;
            rises = number.1;
          })
      one_made k false is = inl (let a = more k in let b = ap one_if is in omega arith)

    opens : (k : ℕ) (h : Granted) → g ≡ h → Opens k
    opens k (granted.Call id) same = one_made id same k (nat_eq k id.0) refl
    opens k granted.Done same = none_made k granted.Done same refl
    opens k (granted.Reference r) same = none_made k (granted.Reference r) same refl
    opens k (granted.Promise p r) same = none_made k (granted.Promise p r) same refl
    opens k (granted.Advanced a) same = none_made k (granted.Advanced a) same refl

done : (log : List Logged) (c : Command) (g : Granted) (old new : Connected) → RunsTo old.speaker.host.core log → Does old.speaker.host c g new.speaker.host → new ≡ answered_by old c (Ok g) new.speaker.host
    → Moves (Commands c (Ok g)) old new
done log c g old new ran (e, obeys, host_is) is = record {
  acts = call_acts c g;
  lead = (new.speaker.host, (e, obeys, host_is), refl);
  commands = append-nil (but_shut c);
  serves = λ y i. absurd i;
  tasks = λ k. refl;
  kept = λ id i. subst (λ (l : List CallId). IsToldEnded id (Commands c (Ok g)) ⊎ (IsLetGo id (Commands c (Ok g)) ⊎ IsIn id l)) (sym calls) (kept g c id i);
  made = λ id m. subst (λ (l : List CallId). IsIn id l) (sym calls) (made g id m);
  cut = λ k. 0;
  told = λ k. refl;
  opens = λ k. opens log c g old new ran e obeys calls k g refl;
  ended = λ k. inl refl;
  cuts = inl (λ k. refl);
  ends = λ told. absurd told;
  stays = λ is_down none. calls ∙ none_left g is_down (subst (λ (r : Result Granted Refusal). Obeys old.speaker.host.core c r e new.speaker.host.core) refl obeys) none;
}
  where
    calls : new.open_calls ≡ followed old.open_calls (finished_by c) g
    calls = ap (λ (x : Connected). x.open_calls) is

    gone : (c : Command) (g : Granted) (id : CallId) → IsIn id old.open_calls → IsLetGo id (Commands c (Ok g)) ⊎ IsIn id (let_go old.open_calls (finished_by c))
    gone (command.Finish f) g id i = go (in_without id f old.open_calls i)
      where
        go : (f ≡ id) ⊎ IsIn id (without f old.open_calls) → (command.Finish f ≡ command.Finish id) ⊎ IsIn id (without f old.open_calls)
        go (inl same) = inl (ap command.Finish same)
        go (inr j) = inr j
    gone c g id i = inr i

    kept : (g : Granted) (c : Command) (id : CallId) → IsIn id old.open_calls → IsToldEnded id (Commands c (Ok g)) ⊎ (IsLetGo id (Commands c (Ok g)) ⊎ IsIn id (followed old.open_calls (finished_by c) g))
    kept (granted.Call k) c id i = inr (inr (in_left id old.open_calls (k ∷ []) i))
    kept g c id i = inr (gone c g id i)

    made : (g : Granted) (id : CallId) → IsMade id (Commands c (Ok g)) → IsIn id (followed old.open_calls (finished_by c) g)
    made (granted.Call k) id m = in_right id old.open_calls (k ∷ []) (inl m)
    made g id m = absurd m

    none_gone : (f : Option CallId) → old.open_calls ≡ [] → let_go old.open_calls f ≡ []
    none_gone None none = none
    none_gone (Some f) none = ap (λ (l : List CallId). without f l) none

    none_left : (g : Granted) → IsSome (down old) → Obeys old.speaker.host.core c (Ok g) e new.speaker.host.core → old.open_calls ≡ [] → followed old.open_calls (finished_by c) g ≡ []
    none_left (granted.Call k) is_down obeys none = absurd (no_call_down old.speaker.host.core c k e new.speaker.host.core is_down obeys)
    none_left g is_down obeys none = none_gone (finished_by c) none

refused : (c : Command) (r : Refusal) (old new : Connected) → new.speaker.host ≡ old.speaker.host → new ≡ answered_by old c (Err r) new.speaker.host → Moves (Commands c (Err r)) old new
refused c r old new host_is is =
    silent (Commands c (Err r)) old new (refl, refl, λ id made. made, λ told. told) (record { acts = []; lead = host_is; commands = refl; tells = refl }) (ap (λ (x : Connected). x.open_calls) is)

commands : (log : List Logged) (c : Command) (answer : Result Granted Refusal) (old new : Connected) → RunsTo old.speaker.host.core log → AsksCommand old c answer new ⊎ AsksToFit old c answer new
    → Moves (Commands c answer) old new
commands log c (Ok g) old new ran (inl (does, is)) = done log c g old new ran does is
commands log c (Ok g) old new ran (inr ((does, fits), is)) = done log c g old new ran does is
commands log c (Err r) old new ran (inl ((why, same), is)) = refused c r old new same is
commands log c (Err r) old new ran (inr (inl (why, same), is)) = refused c r old new same is
commands log c (Err r) old new ran (inr (inr (why, gives, same), is)) = refused c r old new same is

-- ---- what is told

-- It goes on by itself first.
module _ (e : Option Event) (c mid d : Connected) (works : Works c.speaker.host mid.speaker.host) (same : mid.open_calls ≡ c.open_calls) where
  after_work : Moves (Asks e) mid d → Moves (Asks e) c d
  after_work moves = record {
    acts = works.acts ++ moves.acts;
    lead = acts_on c.speaker.host works.acts mid.speaker.host moves.acts d.speaker.host works.lead moves.lead;
    commands = commands-append works.acts moves.acts ∙ ap (λ (l : List Command). l ++ flat_map command_of (flat_map happened_by moves.acts)) works.commands ∙ moves.commands;
    serves = λ y i. subst (λ (l : List Event). IsIn (event.Served y) l) (sym tells) (moves.serves y i);
    tasks = λ k. moves.tasks k ∙ sym (ap (times_served k) tells);
    kept = λ id i. moves.kept id (subst (λ (l : List CallId). IsIn id l) (sym same) i);
    made = moves.made;
    cut = moves.cut;
    told = λ k. let a = moves.told k in let b = ap (times_told k) tells in omega arith;
    opens = λ k. opens k (moves.opens k);
    ended = λ k. ended k (moves.ended k);
    cuts = moves.cuts;
    ends = moves.ends;
    stays = λ is_down none. moves.stays (is_down_behind c.speaker.host mid.speaker.host works.acts works.lead is_down) (same ∙ none);
  }
    where
      tells : flat_map told_by_host (works.acts ++ moves.acts) ≡ flat_map told_by_host moves.acts
      tells = flat_map-append told_by_host works.acts moves.acts ∙ ap (λ (l : List Event). l ++ flat_map told_by_host moves.acts) works.tells

      opens : (k : ℕ) → (times_open k d.open_calls + moves.cut k ≤ times_open k mid.open_calls) ⊎ IsNew k (Asks e) mid d moves.acts (moves.cut k)
          → (times_open k d.open_calls + moves.cut k ≤ times_open k c.open_calls) ⊎ IsNew k (Asks e) c d (works.acts ++ moves.acts) (moves.cut k)
      opens k (inl le) = inl (let a = ap (times_open k) same in omega arith)
      opens k (inr new) = absurd new.made

      has_nothing : HasNothing c.speaker.host → HasNothing mid.speaker.host
      has_nothing nothing = (
        is_down_behind c.speaker.host mid.speaker.host works.acts works.lead nothing.0,
        (silent_behind c.speaker.host mid.speaker.host works.acts works.lead nothing.0 nothing.1).0,
      )

      ended : (k : ℕ) → (times_told k (flat_map told_by_host moves.acts) ≡ 0) ⊎ ((times_open k d.open_calls ≡ 0) × (moves.cut k ≡ 0) × (HasNothing mid.speaker.host → ⊥))
          → (times_told k (flat_map told_by_host (works.acts ++ moves.acts)) ≡ 0) ⊎ ((times_open k d.open_calls ≡ 0) × (moves.cut k ≡ 0) × (HasNothing c.speaker.host → ⊥))
      ended k (inl none) = inl (ap (times_told k) tells ∙ none)
      ended k (inr (gone, uncut, some)) = inr (gone, uncut, λ nothing. some (has_nothing nothing))

-- The host tells it.
record Telling (e : Event) (c d : Connected) : Type 0 where
  tells : HostTells c.speaker.host (Some e) d.speaker.host
  kept : (id : CallId) → IsIn id c.open_calls → IsToldEnded id (Asks (Some e)) ⊎ IsIn id d.open_calls
  fewer : (k : ℕ) → times_open k d.open_calls ≤ times_open k c.open_calls
  gone : (k : ℕ) → (times_told k (of_calls e) ≡ 0) ⊎ ((times_open k d.open_calls ≡ 0) × (HasNothing c.speaker.host → ⊥))
  ends : IsToldDown (Asks (Some e)) → IsOver d
  stays : c.open_calls ≡ [] → d.open_calls ≡ []

host_tells : (e : Event) (c d : Connected) → Telling e c d → Moves (Asks (Some e)) c d
host_tells e c d telling = record {
  acts = HostAsks (Some e) ∷ [];
  lead = (d.speaker.host, telling.tells, refl);
  commands = refl;
  serves = λ y i. subst (λ (l : List Event). IsIn (event.Served y) l) (sym alone) i;
  tasks = λ k. sym (ap (times_served k) alone);
  kept = λ id i. go id (telling.kept id i);
  made = λ id made. absurd made;
  cut = λ k. 0;
  told = λ k. let a = ap (times_told k) alone in omega arith;
  opens = λ k. inl (let a = telling.fewer k in omega arith);
  ended = λ k. ended k (telling.gone k);
  cuts = inl (λ k. refl);
  ends = telling.ends;
  stays = λ is_down none. telling.stays none;
}
  where
    alone : flat_map told_by_host (HostAsks (Some e) ∷ []) ≡ of_calls e
    alone = append-nil (of_calls e)

    go : (id : CallId) → IsToldEnded id (Asks (Some e)) ⊎ IsIn id d.open_calls → IsToldEnded id (Asks (Some e)) ⊎ (IsLetGo id (Asks (Some e)) ⊎ IsIn id d.open_calls)
    go id (inl told) = inl told
    go id (inr i) = inr (inr i)

    ended : (k : ℕ) → (times_told k (of_calls e) ≡ 0) ⊎ ((times_open k d.open_calls ≡ 0) × (HasNothing c.speaker.host → ⊥))
        → (times_told k (flat_map told_by_host (HostAsks (Some e) ∷ [])) ≡ 0) ⊎ ((times_open k d.open_calls ≡ 0) × (◌≡◌ {A = ℕ} 0 0) × (HasNothing c.speaker.host → ⊥))
    ended k (inl none) = inl (ap (times_told k) alone ∙ none)
    ended k (inr (gone, some)) = inr (gone, refl, some)

-- It is neither that a call ended nor that the vat is down.
same_calls : (e : Event) (c d : Connected) → HostTells c.speaker.host (Some e) d.speaker.host → ((k : ℕ) → times_told k (of_calls e) ≡ 0) → (IsToldDown (Asks (Some e)) → ⊥) → d.open_calls ≡ c.open_calls → Moves (Asks (Some e)) c d
same_calls e c d tells none_ended none_down same = host_tells e c d (record {
  tells = tells;
  kept = λ id i. inr (subst (λ (l : List CallId). IsIn id l) (sym same) i);
  fewer = λ k. let a = ap (times_open k) same in omega arith;
  gone = λ k. inl (none_ended k);
  ends = λ told. absurd (none_down told);
  stays = λ none. same ∙ none;
})

oldest : (e : Event) (c d : Connected) → IsOfStep e → TellsOldest c e d → Moves (Asks (Some e)) c d
oldest (event.Ended x) c d of_step (tells, is) = host_tells (event.Ended x) c d (record {
  tells = inl tells;
  kept = λ id i. subst (λ (l : List CallId). (x.call ≡ id) ⊎ IsIn id l) (sym calls) (in_without id x.call c.open_calls i);
  fewer = λ k. let a = ap (times_open k) calls in let b = open_without k x.call c.open_calls in omega arith;
  gone = λ k. gone k (nat_eq k x.call.0) refl;
  ends = λ told. absurd told;
  stays = λ none. calls ∙ ap (λ (l : List CallId). without x.call l) none;
})
  where
    calls : d.open_calls ≡ without x.call c.open_calls
    calls = ap (λ (k : Connected). k.open_calls) is

    some : HasNothing c.speaker.host → ⊥
    some nothing = absurd (let both : event.Ended x ∷ d.speaker.host.events ≡ [] = sym (ap (λ (j : Hosted). j.events) tells) ∙ nothing.1 in cc)

    gone : (k : ℕ) (b : Bool) → nat_eq k x.call.0 ≡ b → (times_told k (event.Ended x ∷ []) ≡ 0) ⊎ ((times_open k d.open_calls ≡ 0) × (HasNothing c.speaker.host → ⊥))
    gone k true is = let n : x.call.0 ≡ k = grind (arith, nat_tests, is) in inr (ap (times_open k) calls ∙ subst (λ (k : ℕ). times_open k (without x.call c.open_calls) ≡ 0) n (none_without x.call c.open_calls), some)
    gone k false is = inl (let a = ap one_if is in omega arith)
oldest (event.Served y) c d of_step (tells, is) = same_calls (event.Served y) c d (inl tells) (λ k. refl) (λ told. told) (ap (λ (k : Connected). k.open_calls) is)
oldest (event.Resolved p) c d of_step (tells, is) = same_calls (event.Resolved p) c d (inl tells) (λ k. refl) (λ told. told) (ap (λ (k : Connected). k.open_calls) is)
oldest (event.Lifted r) c d of_step (tells, is) = same_calls (event.Lifted r) c d (inl tells) (λ k. refl) (λ told. told) (ap (λ (k : Connected). k.open_calls) is)
oldest (event.Cancelled t) c d of_step (tells, is) = same_calls (event.Cancelled t) c d (inl tells) (λ k. refl) (λ told. told) (ap (λ (k : Connected). k.open_calls) is)
oldest (event.Released o) c d of_step tells = absurd of_step
oldest (event.Down n reason) c d of_step tells = absurd of_step

freed : (e : Event) (c d : Connected) → TellsFreed c e d → Moves (Asks (Some e)) c d
freed (event.Released o) c d (tells, is) = same_calls (event.Released o) c d (inr (inl tells)) (λ k. refl) (λ told. told) (ap (λ (k : Connected). k.open_calls) is)
freed (event.Cancelled t) c d (tells, is) = same_calls (event.Cancelled t) c d (inr (inl tells)) (λ k. refl) (λ told. told) (ap (λ (k : Connected). k.open_calls) is)
freed (event.Served y) c d (tells, is) = absurd tells
freed (event.Ended x) c d (tells, is) = absurd tells
freed (event.Resolved p) c d (tells, is) = absurd tells
freed (event.Lifted r) c d (tells, is) = absurd tells
freed (event.Down n reason) c d (tells, is) = absurd tells

nothing_left : (h : Hosted) → has_only_down h ≡ true → HasNothing h
nothing_left h only = (down_of (length h.events == 0) (is_some h.core.down) only, none h.events refl)
  where
    down_of : (a b : Bool) → (a && b && not h.down_notice.told) ≡ true → b ≡ true
    down_of true true is = refl
    down_of true false is = is
    down_of false b is = absurd (let e : false ≡ true = is in cc)

    no : (x : Event) (es : List Event) (b : Bool) → (length (x ∷ es) == 0) ≡ b → (b && is_some h.core.down && not h.down_notice.told) ≡ true → ⊥
    no x es false e is = absurd (let f : false ≡ true = is in cc)
    no x es true e is = absurd (grind (arith, nat_tests, e))

    none : (es : List Event) → h.events ≡ es → h.events ≡ []
    none [] e = e
    none (x ∷ es) e = absurd (no x es (length (x ∷ es) == 0) refl (subst (λ (l : List Event). ((length l == 0) && is_some h.core.down && not h.down_notice.told) ≡ true) e only))

cuts_off : (e : Event) (c d : Connected) → CutsOff c e d → Moves (Asks (Some e)) c d
cuts_off (event.Ended x) c d (only_down, cut, is) = record {
  acts = [];
  lead = sym host_same;
  commands = refl;
  serves = λ y i. absurd (not_served y i);
  tasks = λ k. refl;
  kept = λ id i. go id (subst (λ (l : List CallId). IsIn id l) calls i);
  made = λ id made. absurd made;
  cut = λ k. one_if (nat_eq k x.call.0);
  told = λ k. omega arith;
  opens = λ k. inl (let a = ap (times_open k) calls in omega arith);
  ended = λ k. inl refl;
  cuts = inr (subst (λ (h : Hosted). HasNothing h) host_same (nothing_left c.speaker.host only_down));
  ends = λ told. absurd told;
  stays = λ is_down none. absurd (let is : x.call ∷ d.open_calls ≡ [] = sym calls ∙ none in cc);
}
  where
    host_same : c.speaker.host ≡ d.speaker.host
    host_same = ap (λ (k : Connected). k.speaker.host) is

    calls : c.open_calls ≡ x.call ∷ d.open_calls
    calls = ap (λ (k : Connected). k.open_calls) is

    not_served : (y : Delivery) → IsIn (event.Served y) (event.Ended x ∷ []) → ⊥
    not_served y (inl e) = absurd (let is : event.Ended x ≡ event.Served y = e in cc)
    not_served y (inr none) = none

    go : (id : CallId) → IsIn id (x.call ∷ d.open_calls) → (x.call ≡ id) ⊎ (⊥ ⊎ IsIn id d.open_calls)
    go id (inl same) = inl same
    go id (inr i) = inr (inr i)
cuts_off (event.Served y) c d cuts = absurd cuts
cuts_off (event.Resolved p) c d cuts = absurd cuts
cuts_off (event.Lifted r) c d cuts = absurd cuts
cuts_off (event.Cancelled t) c d cuts = absurd cuts
cuts_off (event.Released o) c d cuts = absurd cuts
cuts_off (event.Down n reason) c d cuts = absurd cuts

tells_down : (e : Event) (c d : Connected) → TellsDown c e d → Moves (Asks (Some e)) c d
tells_down (event.Down n reason) c d ((nothing, still, is_down, why, host_is), none, is) = host_tells (event.Down n reason) c d (record {
  tells = inr (inr (nothing, still, is_down, why, host_is));
  kept = λ id i. inr (subst (λ (l : List CallId). IsIn id l) (sym calls) i);
  fewer = λ k. let a = ap (times_open k) calls in omega arith;
  gone = λ k. inl refl;
  ends = λ told. (
    subst (λ (o : Option ℕ). IsSome o) (sym (ap (λ (j : Hosted). j.core.down) host_is ∙ is_down)) refl,
    calls ∙ none,
    ap (λ (j : Hosted). j.events) host_is ∙ nothing,
    ap (λ (j : Hosted). j.down_notice.told) host_is,
  );
  stays = λ none. calls ∙ none;
})
  where
    calls : d.open_calls ≡ c.open_calls
    calls = ap (λ (k : Connected). k.open_calls) is
tells_down (event.Served y) c d (tells, none, is) = absurd tells
tells_down (event.Ended x) c d (tells, none, is) = absurd tells
tells_down (event.Resolved p) c d (tells, none, is) = absurd tells
tells_down (event.Lifted r) c d (tells, none, is) = absurd tells
tells_down (event.Cancelled t) c d (tells, none, is) = absurd tells
tells_down (event.Released o) c d (tells, none, is) = absurd tells

next : (e : Option Event) (c d : Connected) → Each IsOfStep c.speaker.host.events → TellsNext c e d → Moves (Asks e) c d
next (Some e) c d waits (inl (tells, is)) = oldest e c d (subst (λ (l : List Event). Each IsOfStep l) (ap (λ (j : Hosted). j.events) tells) waits).0 (tells, is)
next (Some e) c d waits (inr (inl tells)) = freed e c d tells
next (Some e) c d waits (inr (inr (inl cuts))) = cuts_off e c d cuts
next (Some e) c d waits (inr (inr (inr tells))) = tells_down e c d tells
next None c d waits (nothing, is) =
    silent (Asks None) c d (refl, refl, λ id made. made, λ told. told) (record { acts = []; lead = ap (λ (k : Connected). k.speaker.host) is; commands = refl; tells = refl }) (ap (λ (k : Connected). k.open_calls) is)

-- ---- all

pub calls_same : (c d : Connected) → WorksOn c d → d.open_calls ≡ c.open_calls
calls_same c d (speaker, inflow, proceeded, (said, said_so, is)) = ap (λ (k : Connected). k.open_calls) is

stream_same : (d end : Option ℕ) (c k : Connected) → EndsStream d end c k → k.open_calls ≡ c.open_calls
stream_same (Some n) end c k is = ap (λ (x : Connected). x.open_calls) is
stream_same None (Some n) c k is = ap (λ (x : Connected). x.open_calls) is
stream_same None None c k (ended, is) = ap (λ (x : Connected). x.open_calls) is

module _ (c d : Connected) (log : List Logged) (ran : RunsTo c.speaker.host.core log) (reached : (k : Hosted) → Works c.speaker.host k → Each IsOfStep k.events) where
  pub moves : (x : Act) → Acts c x d → Moves x c d
  moves (Commands command answer) asked_so = commands log command answer c d ran asked_so
  moves (Receives bytes) (followed_so, is) =
      silent (Receives bytes) c d (refl, refl, λ id made. made, λ told. told) (follows (down c) c.inflow.over c.limits c.speaker d.speaker c.inflow d.inflow bytes followed_so)
      (ap (λ (k : Connected). k.open_calls) is)
  moves Ends ended = silent Ends c d (refl, refl, λ id made. made, λ told. told) (ends_stream (down c) c.inflow.over c d ended) (stream_same (down c) c.inflow.over c d ended)
  moves (ShutsVat n) (fell, is) = silent (ShutsVat n) c d (refl, refl, λ id made. made, λ told. told) (falls c.speaker d.speaker n fell) (ap (λ (k : Connected). k.open_calls) is)
  moves (Gives bytes) (mid, worked, given_so, is) =
      silent (Gives bytes) c d (refl, refl, λ id made. made, λ told. told)
      (subst (λ (h : Hosted). Works c.speaker.host h) (sym (ap (λ (k : Connected). k.speaker.host) is)) (works_on c mid worked))
      (ap (λ (k : Connected). k.open_calls) is ∙ calls_same c mid worked)
  moves (Asks e) (mid, worked, told) = after_work e c mid d (works_on c mid worked) (calls_same c mid worked) (next e mid d (reached mid.speaker.host (works_on c mid worked)) told)
  moves (SetsLimits limits) is =
      silent (SetsLimits limits) c d (refl, refl, λ id made. made, λ told. told) (subst (λ (k : Connected). Works c.speaker.host k.speaker.host) (sym is) (rests c.speaker.host)) (ap (λ (k : Connected). k.open_calls) is)
  moves (SetsFinishes finishes) is =
      silent (SetsFinishes finishes) c d (refl, refl, λ id made. made, λ told. told) (subst (λ (k : Connected). Works c.speaker.host k.speaker.host) (sym is) (rests c.speaker.host)) (ap (λ (k : Connected). k.open_calls) is)
