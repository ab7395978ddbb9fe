-- What a call of a command's name answers, and what comes of the command.
use Rattle.std.proofs.Common.{◌≡◌, ℕ, List, Result, Ok, Err, ◌⊎◌, inl, inr, refl, ap, subst, sym, ◌∙◌}
use Rattle.std.specs.Prelude.{IfOk, IfErr}
use Rattle.rpc_msg.specs.declared.ids.CallId.{CallId}
use Rattle.rpc_journal.specs.declared.report.Advanced.{Advanced}
use Rattle.rpc_machine.specs.declared.command.CallCommand.{CallCommand}
use Rattle.rpc_machine.specs.declared.command.Command.{Command}
use Rattle.rpc_machine.specs.declared.command.Command.TheVariants as command
use Rattle.rpc_machine.specs.declared.command.Granted.{Granted}
use Rattle.rpc_machine.specs.declared.command.Granted.TheVariants as granted
use Rattle.rpc_machine.specs.declared.command.Refusal.{Refusal}
use Rattle.rpc_machine.specs.declared.command.Refusal.TheVariants as refusal
use Rattle.rpc_machine.specs.Steps.{Shuts}
use Rattle.laws_places.specs.Wanted.{lacks_places}
use Rattle.vat_host.specs.Hosting.{Hosted, Does, Refuses, hosted_by, stepped}
use Rattle.vat_host.specs.Objects.{with_object}
use Rattle.peer_large.specs.Sparing.{Sparing}
use Rattle.rpc_codec_fits.specs.Carrying.{Carries}
use Rattle.rpc_outgoing.specs.Outflows.{Outflow}
use Rattle.vat_connection.specs.Calling.{Calls, FindsRoom, Fits, IsTooLarge, Obeys, ObeysToFit, answered}
use Rattle.vat_connection.specs.Speaking.{Speaking, Shuts as IsShut}
use Rattle.vat_connection.specs.Load.{Intake}
use Rattle.vat_connection.specs.declared.load.Limits.{Limits}
use Rattle.vat_connection.specs.Hearing.{Inflow}
use Rattle.vat_connection.specs.OwnCalls.{asked}
use Rattle.vat_connection.specs.Connecting.{Asks, AsksToFit, Connected, answered_by}

pub obeyed : {A E : Type 0} (result : Result A E) (gives : A → Granted) (why : E → Refusal) (old new : Hosted) (c : Command)
    → IfOk result (λ x. Does old c (gives x) new) → IfErr result (λ e. Refuses old c (why e) new) → Obeys old c (answered result gives why) new
obeyed (Ok x) gives why old new c done refused = done
obeyed (Err e) gives why old new c done refused = refused

module _ {X : Type 0} (refusal_of : X → Refusal) (old mid new : Hosted) (c : CallCommand) (became : Result Advanced Refusal) where
  pub done : (result : Result CallId X) → Obeys old (command.Advance c.reference) (answered became granted.Advanced (λ r. r)) mid → Fits (command.Call c)
      → IfOk result (λ id. Does mid (command.Call c) (granted.Call id) new) → IfOk result (λ id. Calls old c (Ok id) new × Fits (command.Call c))
  done (Ok id) short fits does = ((mid, became, short, does), fits)
  done (Err e) short fits does = tt

  pub refused : (result : Result CallId X) → Obeys old (command.Advance c.reference) (answered became granted.Advanced (λ r. r)) mid
      → IfErr result (λ e. Refuses mid (command.Call c) (refusal_of e) new) → IfErr result (λ e. Calls old c (Err (refusal_of e)) new ⊎ IsTooLarge old (command.Call c) (refusal_of e) new)
  refused (Ok id) short refuses = tt
  refused (Err e) short refuses = inl (mid, became, short, refuses)

-- No place for one more open call.
pub lacks_place : (old : Hosted) (c : CallCommand) → Calls old c (Err refusal.Memory) old
lacks_place old c = (old, Err refusal.Memory, (inr (refl, refl), refl), (inr (refl, refl), refl))

-- A shut, of which nothing follows but an Abort.
pub shuts : (old new : Hosted) (c : Command) (n : ℕ) → c ≡ command.Shut n → IsShut old n new → Does old c granted.Done new × FindsRoom old c
shuts old new c n is falls = (
  (falls.0, Shuts n is refl falls.1, falls.2 ∙ ap (λ (k : Command). record (stepped old falls.0 new.core) { objects = with_object (hosted_by k) old.objects }) (sym is)),
  (λ m carries. absurd (subst (λ (k : Command). Carries k m) is carries), ap (lacks_places old.core) is),
)

-- ---- of a connection

abbrev pub connected : Hosted → Outflow → Sparing → Intake → Inflow → Limits → List CallId → Connected
connected host out adapter heard inflow limits calls = record {
  speaker = record { host = host; out = out; adapter = adapter; heard = heard };
  inflow = inflow;
  limits = limits;
  open_calls = calls;
}

abbrev pub connection : Speaking → Inflow → Limits → List CallId → Connected
connection s inflow limits calls = record { speaker = s; inflow = inflow; limits = limits; open_calls = calls }

-- What makes no call and lets none go leaves the same ones open.
same_calls : {A E : Type 0} (result : Result A E) (gives : A → Granted) (why : E → Refusal) (calls : List CallId) (c : Command)
    → ((x : A) → calls ≡ asked calls c (Ok (gives x))) → calls ≡ asked calls c (answered result gives why)
same_calls (Ok x) gives why calls c same = same x
same_calls (Err e) gives why calls c same = refl

module _ (before after : Hosted) (out : Outflow) (adapter : Sparing) (heard : Intake) (inflow : Inflow) (limits : Limits) (calls : List CallId) (old : Connected) (c : Command) (is : connected before out adapter heard inflow limits calls ≡ old) where
  -- What comes of the vat is what comes of the connection.
  pub asks_as : (answer : Result Granted Refusal) (left : List CallId) → left ≡ asked calls c answer → Obeys before c answer after → Asks old c answer (connected after out adapter heard inflow limits left)
  asks_as answer left follows obeys =
      subst (λ (o : Connected). Asks o c answer (connected after out adapter heard inflow limits left)) is (obeys, ap (λ (cs : List CallId). connected after out adapter heard inflow limits cs) follows)

  pub asks : {A E : Type 0} (result : Result A E) (gives : A → Granted) (why : E → Refusal) → ((x : A) → calls ≡ asked calls c (Ok (gives x))) → IfOk result (λ x. Does before c (gives x) after)
      → IfErr result (λ e. Refuses before c (why e) after) → Asks old c (answered result gives why) (connected after out adapter heard inflow limits calls)
  asks result gives why same done refused = asks_as (answered result gives why) calls (same_calls result gives why calls c same) (obeyed result gives why before after c done refused)

module _ (before after : Speaking) (inflow : Inflow) (limits : Limits) (calls : List CallId) (old : Connected) (c : Command) (is : connection before inflow limits calls ≡ old) (rest : after ≡ record before { host = after.host }) where
  pub leaves : (answer : Result Granted Refusal) (left : List CallId) → left ≡ asked calls c answer → connection after inflow limits left ≡ answered_by old c answer after.host
  leaves answer left follows =
      subst (λ (o : Connected). connection after inflow limits left ≡ answered_by o c answer after.host) is
      (ap (λ (s : Speaking). connection s inflow limits left) rest ∙ ap (λ (cs : List CallId). connection (record before { host = after.host }) inflow limits cs) follows)

  pub spoken : (answer : Result Granted Refusal) (left : List CallId) → left ≡ asked calls c answer → Obeys before.host c answer after.host → Asks old c answer (connection after inflow limits left)
  spoken answer left follows obeys = (subst (λ (o : Connected). Obeys o.speaker.host c answer after.host) is obeys, leaves answer left follows)

  pub spoken_to_fit : (answer : Result Granted Refusal) (left : List CallId) → left ≡ asked calls c answer → ObeysToFit before.host c answer after.host → AsksToFit old c answer (connection after inflow limits left)
  spoken_to_fit answer left follows obeys = (subst (λ (o : Connected). ObeysToFit o.speaker.host c answer after.host) is obeys, leaves answer left follows)
