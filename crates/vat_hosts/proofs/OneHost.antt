-- One host is a run of one vat with any peer: act by act.
use Rattle.std.proofs.Common.{◌≡◌, List, [], ◌∷◌, ◌++◌, append-nil, append_assoc, flat_map, Option, None, Some, Ok, Err, inl, inr, refl, sym, ap, subst, ◌∙◌}
use Rattle.rpc_msg.specs.declared.ids.ObjectId.{ObjectId}
use Rattle.rpc_msg.specs.declared.ids.Vat.{Vat}
use Rattle.rpc_msg.specs.declared.message.Message.{Message}
use Rattle.rpc_machine.specs.declared.command.Command.{Command}
use Rattle.rpc_machine.specs.declared.command.Effects.{Effects}
use Rattle.rpc_machine.specs.declared.command.Granted.{Granted}
use Rattle.rpc_machine.specs.declared.command.Level.{Level}
use Rattle.rpc_machine.specs.State.{State, start}
use Rattle.rpc_machine.specs.Steps.{Receives as CoreReceives}
use Rattle.laws_authority.specs.Runs.{Event as Logged, DidCommand, GotMessage, RunsTo}
use Rattle.laws_authority.specs.Runs as run
use Rattle.vat_host.specs.declared.event.Event.{Event}
use Rattle.vat_host.specs.declared.event.Event.TheVariants as event
use Rattle.vat_host.specs.Hosting.{Hosted, Does, Hears, Tells, TellsDown, TellsFreed, idle}
use Rattle.vat_host.specs.Watching.{known_by}
use Rattle.vat_hosts.specs.Calls.{calls_told, of_calls}
use Rattle.vat_hosts.specs.OneHost.{Act, Acts, ActsAll, Happening, TakesOut, calls_in, happened_by, happened_in, told_by, told_to}
use Rattle.vat_hosts.specs.OneHost as one
use Rattle.vat_hosts.specs.OneHost.Act.{Commands, Takes, Receives, Asks}
use Rattle.vat_hosts.proofs.Calls.{known_no_call, more_calls}
use Rattle.vat_hosts.proofs.Sides.{flat_behind, none_behind}

-- A run that is what was done with the host, so far.
pub record So (xs : List Act) (h : Hosted) : Type 0 where
  pub log : List Logged
  pub ran : RunsTo h.core log
  pub happened : happened_in log ≡ flat_map happened_by xs
  pub told : told_to xs h ≡ calls_in log

pub so_new : (vat : Vat) (level : Level) (root : Option ObjectId) → So [] (idle (start vat level root))
so_new vat level root = record { log = []; ran = run.New vat level root; happened = refl; told = refl }

-- ---- what is told

-- A step left this to tell of calls.
told_more : (xs : List Act) (x : Act) (h k : Hosted) (e : Effects) (log : List Logged) → told_by x ≡ [] → flat_map of_calls k.events ≡ flat_map of_calls h.events ++ calls_told e → told_to xs h ≡ calls_in log
    → told_to (xs ++ x ∷ []) k ≡ calls_in log ++ calls_told e
told_more xs x h k e log none more told =
    ap (λ (l : List Event). l ++ flat_map of_calls k.events) (none_behind told_by xs x none)
    ∙ ap (λ (l : List Event). flat_map told_by xs ++ l) more
    ∙ sym (append_assoc (flat_map told_by xs) (flat_map of_calls h.events) (calls_told e))
    ∙ ap (λ (l : List Event). l ++ calls_told e) told

-- Nothing was told of calls, and nothing is left besides.
told_same : (xs : List Act) (x : Act) (h k : Hosted) → told_by x ≡ [] → flat_map of_calls k.events ≡ flat_map of_calls h.events → told_to (xs ++ x ∷ []) k ≡ told_to xs h
told_same xs x h k none same = ap (λ (l : List Event). l ++ flat_map of_calls k.events) (none_behind told_by xs x none) ∙ ap (λ (l : List Event). flat_map told_by xs ++ l) same

-- The oldest event is told.
told_oldest : (xs : List Act) (e : Event) (h k : Hosted) → h.events ≡ e ∷ k.events → told_to (xs ++ Asks (Some e) ∷ []) k ≡ told_to xs h
told_oldest xs e h k is =
    ap (λ (l : List Event). l ++ flat_map of_calls k.events) (flat_behind told_by xs (Asks (Some e)))
    ∙ append_assoc (flat_map told_by xs) (of_calls e) (flat_map of_calls k.events)
    ∙ ap (λ (l : List Event). flat_map told_by xs ++ flat_map of_calls l) (sym is)

-- ---- acts

-- Nothing happened to the vat.
beside : (xs : List Act) (x : Act) (h k : Hosted) (so : So xs h) → happened_by x ≡ [] → k.core ≡ h.core → told_to (xs ++ x ∷ []) k ≡ told_to xs h → So (xs ++ x ∷ []) k
beside xs x h k so none core_is told = record {
  log = so.log;
  ran = subst (λ (s : State). RunsTo s so.log) (sym core_is) so.ran;
  happened = so.happened ∙ sym (none_behind happened_by xs x none);
  told = told ∙ so.told;
}

happened_more : (xs : List Act) (x : Act) (log : List Logged) (y : Happening) → happened_in log ≡ flat_map happened_by xs → happened_by x ≡ y ∷ [] → happened_in log ++ y ∷ [] ≡ flat_map happened_by (xs ++ x ∷ [])
happened_more xs x log y so is = ap (λ (l : List Happening). l ++ y ∷ []) so ∙ ap (λ (l : List Happening). flat_map happened_by xs ++ l) (sym is) ∙ sym (flat_behind happened_by xs x)

does : (xs : List Act) (h k : Hosted) (c : Command) (g : Granted) → So xs h → Does h c g k → So (xs ++ Commands c (Ok g) ∷ []) k
does xs h k c g so (e, obeys, is) = record {
  log = DidCommand h.core c e ∷ so.log;
  ran = run.Commanded c (Ok g) e so.ran obeys;
  happened = happened_more xs (Commands c (Ok g)) so.log (one.Commanded c) so.happened refl;
  told = told_more xs (Commands c (Ok g)) h k e so.log refl (ap (λ (h : Hosted). flat_map of_calls h.events) is ∙ more_calls h.events e None refl) so.told;
}

hears : (xs : List Act) (h k : Hosted) (m : Message) → So xs h → Hears h m k → So (xs ++ Receives m ∷ []) k
hears xs h k m so (mid, (reason, noted, mid_is), (e, receives, is)) = record {
  log = GotMessage h.core m e ∷ so.log;
  ran = run.Received m e so.ran (subst (λ (j : Hosted). CoreReceives j.core m e k.core) mid_is receives);
  happened = happened_more xs (Receives m) so.log (one.Received m) so.happened refl;
  told =
      told_more xs (Receives m) h k e so.log refl
      (ap (λ (j : Hosted). flat_map of_calls j.events) is ∙ more_calls mid.events e (known_by m mid.core k.core) (known_no_call m mid.core k.core) ∙ ap (λ (j : Hosted). flat_map of_calls j.events ++ calls_told e) mid_is)
      so.told;
}

-- An event that is no call changes neither the state nor what waits.
tells_beside : (xs : List Act) (h k : Hosted) (e : Event) → So xs h → of_calls e ≡ [] → k.core ≡ h.core → k.events ≡ h.events → So (xs ++ Asks (Some e) ∷ []) k
tells_beside xs h k e so none core_is events = beside xs (Asks (Some e)) h k so refl core_is (told_same xs (Asks (Some e)) h k none (ap (λ (l : List Event). flat_map of_calls l) events))

tells_freed : (xs : List Act) (h k : Hosted) (e : Event) → So xs h → TellsFreed h e k → So (xs ++ Asks (Some e) ∷ []) k
tells_freed xs h k (event.Released o) so (none, up, released, is) = tells_beside xs h k (event.Released o) so refl (ap (λ (j : Hosted). j.core) is) (ap (λ (j : Hosted). j.events) is)
tells_freed xs h k (event.Cancelled t) so (none, up, (q, cancelled, is)) = tells_beside xs h k (event.Cancelled t) so refl (ap (λ (j : Hosted). j.core) is) (ap (λ (j : Hosted). j.events) is)
tells_freed xs h k (event.Served d) so tells = absurd tells
tells_freed xs h k (event.Ended x) so tells = absurd tells
tells_freed xs h k (event.Resolved place) so tells = absurd tells
tells_freed xs h k (event.Lifted r) so tells = absurd tells
tells_freed xs h k (event.Down n reason) so tells = absurd tells

tells_down : (xs : List Act) (h k : Hosted) (e : Event) → So xs h → TellsDown h e k → So (xs ++ Asks (Some e) ∷ []) k
tells_down xs h k (event.Down n reason) so (none, still, down, why, is) = tells_beside xs h k (event.Down n reason) so refl (ap (λ (j : Hosted). j.core) is) (ap (λ (j : Hosted). j.events) is)
tells_down xs h k (event.Served d) so tells = absurd tells
tells_down xs h k (event.Ended x) so tells = absurd tells
tells_down xs h k (event.Resolved place) so tells = absurd tells
tells_down xs h k (event.Lifted r) so tells = absurd tells
tells_down xs h k (event.Cancelled t) so tells = absurd tells
tells_down xs h k (event.Released o) so tells = absurd tells

asks : (xs : List Act) (h k : Hosted) (e : Option Event) → So xs h → Tells h e k → So (xs ++ Asks e ∷ []) k
asks xs h k (Some e) so (inl is) = beside xs (Asks (Some e)) h k so refl (sym (ap (λ (j : Hosted). j.core) is)) (told_oldest xs e h k (ap (λ (j : Hosted). j.events) is))
asks xs h k (Some e) so (inr (inl tells)) = tells_freed xs h k e so tells
asks xs h k (Some e) so (inr (inr tells)) = tells_down xs h k e so tells
asks xs h k None so (none, why, is) = beside xs (Asks None) h k so refl (ap (λ (j : Hosted). j.core) is) (told_same xs (Asks None) h k refl (ap (λ (j : Hosted). flat_map of_calls j.events) is))

pub one_act : (xs : List Act) (h k : Hosted) (x : Act) → So xs h → Acts h x k → So (xs ++ x ∷ []) k
one_act xs h k (Commands c (Ok g)) so done = does xs h k c g so done
one_act xs h k (Commands c (Err r)) so (why, is) =
    beside xs (Commands c (Err r)) h k so refl (ap (λ (j : Hosted). j.core) is) (told_same xs (Commands c (Err r)) h k refl (ap (λ (j : Hosted). flat_map of_calls j.events) is))
one_act xs h k (Takes ms) so (left, taken, is) = beside xs (Takes ms) h k so refl (ap (λ (j : Hosted). j.core) is) (told_same xs (Takes ms) h k refl (ap (λ (j : Hosted). flat_map of_calls j.events) is))
one_act xs h k (Receives m) so heard = hears xs h k m so heard
one_act xs h k (Asks e) so tells = asks xs h k e so tells

pub so_all : (before xs : List Act) (h k : Hosted) → So before h → ActsAll h xs k → So (before ++ xs) k
so_all before [] h k so same = subst (λ (l : List Act). So l k) (sym (append-nil before)) (subst (λ (j : Hosted). So before j) (sym same) so)
so_all before (x ∷ xs) h k so (mid, first, more) =
    subst (λ (l : List Act). So l k) (append_assoc before (x ∷ []) xs) (so_all (before ++ x ∷ []) xs mid k (one_act before h mid x so first) more)
