-- What the steps of a run leave to tell of calls: whose calls are served, and how often calls end.
use Rattle.std.proofs.Common.{◌≡◌, ℕ, ◌+◌, List, [], ◌∷◌, ◌++◌, map, Result, Ok, Err, ◌⊎◌, inl, inr, refl, ap, subst, arith}
use Rattle.rpc_msg.specs.declared.message.Message.{Message}
use Rattle.rpc_journal.specs.declared.report.Delivery.{Delivery}
use Rattle.rpc_journal.specs.declared.report.Ended.{Ended}
use Rattle.rpc_machine.specs.declared.command.Command.{Command}
use Rattle.rpc_machine.specs.declared.command.Effects.{Effects}
use Rattle.rpc_machine.specs.declared.command.Granted.{Granted}
use Rattle.rpc_machine.specs.declared.command.Refusal.{Refusal}
use Rattle.rpc_machine.specs.declared.node.Node.TheVariants as node
use Rattle.rpc_machine.specs.State.{State, start}
use Rattle.rpc_machine.specs.Steps.{Obeys, Receives}
use Rattle.laws_steps.specs.NodesThere.{IsReached, Stays}
use Rattle.laws_authority.specs.Authority.{AuthorityIsGiven, AuthorityIsKept, EachIsOfPeerOrOwn, IsOfPeer, IsOwn}
use Rattle.laws_authority.specs.Grants.{Gives}
use Rattle.laws_authority.specs.Once.{AllAtMostOnce, ends_in, tasks_in, times_delivered, times_ended}
use Rattle.laws_authority.specs.Reach.{IsIn, Reaches, Now}
use Rattle.laws_authority.specs.Runs.{Event as Logged, DidCommand, GotMessage, RunsTo, WasGiven, logged}
use Rattle.laws_authority.specs.Runs as run
use Rattle.laws_authority.proofs.Running.{reached}
use Rattle.vat_host.specs.declared.event.Event.{Event}
use Rattle.vat_host.specs.declared.event.Event.TheVariants as event
use Rattle.vat_host.specs.Hosting.{idle}
use Rattle.vat_hosts.specs.Calls.{calls_told}
use Rattle.vat_hosts.specs.OneHost.{calls_in, told_to}
use Rattle.vat_hosts.specs.Served.{HasObject, HostsServeWhatIsGiven, IsServedByCommand, IsServedByMessage, WasServed, times_served, times_told}
use Rattle.vat_hosts.proofs.OneHost.{So, so_all, so_new}

-- ---- calls to serve

pub in_either : {X : Type 0} (x : X) (xs ys : List X) → IsIn x (xs ++ ys) → IsIn x xs ⊎ IsIn x ys
in_either x [] ys i = inr i
in_either x (z ∷ xs) ys (inl e) = inl (inl e)
in_either x (z ∷ xs) ys (inr i) = go (in_either x xs ys i)
  where
    go : IsIn x xs ⊎ IsIn x ys → IsIn x (z ∷ xs) ⊎ IsIn x ys
    go (inl i) = inl (inr i)
    go (inr i) = inr i

none_ended : (y : Delivery) (xs : List Ended) → IsIn (event.Served y) (map event.Ended xs) → ⊥
none_ended y [] i = i
none_ended y (x ∷ xs) (inl e) = absurd (let is : event.Ended x ≡ event.Served y = e in cc)
none_ended y (x ∷ xs) (inr i) = none_ended y xs i

pub in_deliveries : (y : Delivery) (ds : List Delivery) (xs : List Ended) → IsIn (event.Served y) (map event.Served ds ++ map event.Ended xs) → IsIn y ds
in_deliveries y [] xs i = absurd (none_ended y xs i)
in_deliveries y (d ∷ ds) xs (inl e) = inl (let is : event.Served d ≡ event.Served y = e in cc)
in_deliveries y (d ∷ ds) xs (inr i) = inr (in_deliveries y ds xs i)

module _ (given : AuthorityIsGiven) (kept : AuthorityIsKept) (each : EachIsOfPeerOrOwn) where
  by_command : (s t : State) (log : List Logged) (c : Command) (a : Result Granted Refusal) (x : Effects) → RunsTo s log → Obeys s c a x t → (y : Delivery) → IsIn y x.deliveries → IsServedByCommand s c x log y
  by_command s t log c a x ran obeys y i = record { t = t; answer = a; obeys = obeys; among = i; rightly = by (each.commands s c a x t (reached s log ran s Stays) obeys y i) }
    where
      had : Reaches s (node.Object y.object) ⊎ Gives s c (node.Object y.object) → HasObject s log y.object ⊎ Gives s c (node.Object y.object)
      had (inl r) = inl (record { was_given = given.reached s log ran y.object (Now _ r); reaches = r })
      had (inr g) = inr g

      by : IsOfPeer t y ⊎ IsOwn t y → IsOwn t y ⊎ (IsOfPeer t y × (HasObject s log y.object ⊎ Gives s c (node.Object y.object)))
      by (inl p) = inr (p, had ((kept.commands s c a x t obeys).deliveries y i p))
      by (inr o) = inl o

  by_message : (s t : State) (log : List Logged) (m : Message) (x : Effects) → RunsTo s log → Receives s m x t → (y : Delivery) → IsIn y x.deliveries → IsServedByMessage s m x log y
  by_message s t log m x ran receives y i = record { t = t; receives = receives; among = i; rightly = by (each.messages s m x t is_reached receives y i) }
    where
      is_reached : IsReached s
      is_reached = reached s log ran s Stays

      by : IsOfPeer t y ⊎ IsOwn t y → IsOwn t y ⊎ (IsOfPeer t y × HasObject s log y.object)
      by (inl p) =
          inr (p, record { was_given = given.messages s log ran m x t receives y i p; reaches = (kept.messages s m x t is_reached receives).deliveries y i p })
      by (inr o) = inl o

  after_command : (s t : State) (log : List Logged) (c : Command) (a : Result Granted Refusal) (x : Effects) → RunsTo s log → Obeys s c a x t → ((y : Delivery) → IsIn (event.Served y) (calls_in log) → WasServed log y)
      → (y : Delivery) → IsIn (event.Served y) (calls_in (logged s c a x log)) → WasServed (logged s c a x log) y
  after_command s t log c (Err r) x ran obeys before y i = before y i
  after_command s t log c (Ok g) x ran obeys before y i = go (in_either (event.Served y) (calls_in log) (calls_told x) i)
    where
      go : IsIn (event.Served y) (calls_in log) ⊎ IsIn (event.Served y) (calls_told x) → WasServed (DidCommand s c x ∷ log) y
      go (inl j) = inr (before y j)
      go (inr j) = inl (by_command s t log c (Ok g) x ran obeys y (in_deliveries y x.deliveries x.answers j))

  after_message : (s t : State) (log : List Logged) (m : Message) (x : Effects) → RunsTo s log → Receives s m x t → ((y : Delivery) → IsIn (event.Served y) (calls_in log) → WasServed log y)
      → (y : Delivery) → IsIn (event.Served y) (calls_in (GotMessage s m x ∷ log)) → WasServed (GotMessage s m x ∷ log) y
  after_message s t log m x ran receives before y i = go (in_either (event.Served y) (calls_in log) (calls_told x) i)
    where
      go : IsIn (event.Served y) (calls_in log) ⊎ IsIn (event.Served y) (calls_told x) → WasServed (GotMessage s m x ∷ log) y
      go (inl j) = inr (before y j)
      go (inr j) = inl (by_message s t log m x ran receives y (in_deliveries y x.deliveries x.answers j))

  -- What the steps of a run have served is served rightly.
  pub serves : (s : State) (log : List Logged) → RunsTo s log → (y : Delivery) → IsIn (event.Served y) (calls_in log) → WasServed log y
  serves _ _ (run.New v l b) y i = absurd i
  serves t _ (run.Commanded {s = s} {log = log} c a x ran obeys) y i = after_command s t log c a x ran obeys (serves s log ran) y i
  serves t _ (run.Received {s = s} {log = log} m x ran receives) y i = after_message s t log m x ran receives (serves s log ran) y i
  serves _ _ (run.Fell {s = s} {log = log} n ran) y i = serves s log ran y i

-- ---- own calls that end

pub times-append : (k : ℕ) (xs ys : List Event) → times_told k (xs ++ ys) ≡ times_told k xs + times_told k ys
times-append k [] ys = omega arith
times-append k (x ∷ xs) ys = let e = times-append k xs ys in omega arith

none_served : (k : ℕ) (ds : List Delivery) → times_told k (map event.Served ds) ≡ 0
none_served k [] = refl
none_served k (d ∷ ds) = let e = none_served k ds in omega arith

all_ended : (k : ℕ) (xs : List Ended) → times_told k (map event.Ended xs) ≡ ends_in k xs
all_ended k [] = refl
all_ended k (x ∷ xs) = let e = all_ended k xs in omega arith

step_ends : (k : ℕ) (x : Effects) → times_told k (calls_told x) ≡ ends_in k x.answers
step_ends k x = let a = times-append k (map event.Served x.deliveries) (map event.Ended x.answers) in let b = none_served k x.deliveries in let c = all_ended k x.answers in omega arith

pub log_ends : (k : ℕ) (log : List Logged) → times_told k (calls_in log) ≡ times_ended k log
log_ends k [] = refl
log_ends k (DidCommand s c x ∷ log) = let a = times-append k (calls_in log) (calls_told x) in let b = step_ends k x in let c = log_ends k log in omega arith
log_ends k (GotMessage s m x ∷ log) = let a = times-append k (calls_in log) (calls_told x) in let b = step_ends k x in let c = log_ends k log in omega arith

-- ---- tasks that are told

pub serves-append : (k : ℕ) (xs ys : List Event) → times_served k (xs ++ ys) ≡ times_served k xs + times_served k ys
serves-append k [] ys = omega arith
serves-append k (x ∷ xs) ys = let e = serves-append k xs ys in omega arith

none_serves : (k : ℕ) (xs : List Ended) → times_served k (map event.Ended xs) ≡ 0
none_serves k [] = refl
none_serves k (x ∷ xs) = let e = none_serves k xs in omega arith

all_served : (k : ℕ) (ds : List Delivery) → times_served k (map event.Served ds) ≡ tasks_in k ds
all_served k [] = refl
all_served k (d ∷ ds) = let e = all_served k ds in omega arith

step_serves : (k : ℕ) (x : Effects) → times_served k (calls_told x) ≡ tasks_in k x.deliveries
step_serves k x =
    let a = serves-append k (map event.Served x.deliveries) (map event.Ended x.answers) in let b = none_serves k x.answers in let c = all_served k x.deliveries in omega arith

log_serves : (k : ℕ) (log : List Logged) → times_served k (calls_in log) ≡ times_delivered k log
log_serves k [] = refl
log_serves k (DidCommand s c x ∷ log) = let a = serves-append k (calls_in log) (calls_told x) in let b = step_serves k x in let c = log_serves k log in omega arith
log_serves k (GotMessage s m x ∷ log) = let a = serves-append k (calls_in log) (calls_told x) in let b = step_serves k x in let c = log_serves k log in omega arith

-- ---- the law

pub served_rightly : AuthorityIsGiven → AuthorityIsKept → EachIsOfPeerOrOwn → AllAtMostOnce → HostsServeWhatIsGiven
served_rightly given kept each once vat level root xs h acts = record {
  log = so.log;
  ran = so.ran;
  happened = so.happened;
  told = so.told;
  served = λ y i. serves given kept each h.core so.log so.ran y (subst (λ (l : List Event). IsIn (event.Served y) l) so.told i);
  tasks = λ k. let a = once.deliveries h.core so.log so.ran k in let b = log_serves k so.log in let c : times_served k (told_to xs h) ≡ times_served k (calls_in so.log) = ap (times_served k) so.told in omega arith;
  ended = λ k. let a = once.ends h.core so.log so.ran k in let b = log_ends k so.log in let c : times_told k (told_to xs h) ≡ times_told k (calls_in so.log) = ap (times_told k) so.told in omega arith;
}
  where
    so : So xs h
    so = so_all [] xs (idle (start vat level root)) h (so_new vat level root) acts
