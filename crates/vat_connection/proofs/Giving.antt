-- Commands that give nothing.
use Rattle.std.proofs.Common.{◌≡◌, ◌∙◌, ℕ, Option, Some, None, Result, Ok, Err, subst}
use Rattle.rpc_msg.specs.declared.exception.Exception.{Exception}
use Rattle.rpc_machine.specs.declared.calls.OwnCall.{OwnCall}
use Rattle.rpc_machine.specs.declared.calls.Value.{Value}
use Rattle.rpc_machine.specs.declared.calls.Value.TheVariants as value
use Rattle.rpc_machine.specs.declared.command.Command.{Command}
use Rattle.rpc_machine.specs.declared.command.Command.TheVariants as command
use Rattle.rpc_machine.specs.declared.command.Effects.{Effects}
use Rattle.rpc_machine.specs.declared.command.Granted.{Granted}
use Rattle.rpc_machine.specs.declared.command.Granted.TheVariants as granted
use Rattle.rpc_machine.specs.declared.command.Refusal.{Refusal}
use Rattle.rpc_machine.specs.declared.command.Refusal.TheVariants as refusal
use Rattle.rpc_machine.specs.declared.entries.Reference.{Reference}
use Rattle.rpc_machine.specs.Commands.{Acts, AnswersTask, DropsRef, FinishesCall, RejectsPromise, ResolvesPromise, heads}
use Rattle.rpc_machine.specs.Progress.{Progress, begin}
use Rattle.rpc_machine.specs.State.{State}
use Rattle.rpc_machine.specs.Steps.{Obeys, Refuses, LacksMemory, GoesDown, Shuts, IsDone}
use Rattle.vat_host.specs.Hosting.{Hosted, Does}

drops : (d new : Progress) (r : ℕ) (x : Option Reference) (g : Granted) → DropsRef d r x g new → g ≡ granted.Done
drops d new r None g acts = absurd acts
drops d new r (Some x) g acts = acts.0

finishes : (d new : Progress) (c : ℕ) (x : Option OwnCall) (g : Granted) → FinishesCall d c x g new → g ≡ granted.Done
finishes d new c None g acts = absurd acts
finishes d new c (Some x) g acts = acts.0

resolves : (d new : Progress) (p : ℕ) (key : Option ℕ) (x : Option Reference) (g : Granted) → ResolvesPromise d p key x g new → g ≡ granted.Done
resolves d new p None x g acts = absurd acts
resolves d new p (Some key) None g acts = absurd acts
resolves d new p (Some key) (Some x) g acts = acts.0

rejects : (d new : Progress) (p : ℕ) (e : Exception) (key : Option ℕ) (g : Granted) → RejectsPromise d p e key g new → g ≡ granted.Done
rejects d new p e None g acts = absurd acts
rejects d new p e (Some key) g acts = acts.0

answers : (d new : Progress) (t : ℕ) (v : Value) (o : Option ℕ) (g : Granted) → AnswersTask d t v o g new → g ≡ granted.Done
answers d new t v None g acts = absurd acts
answers d new t v (Some o) g acts = acts.0

-- These commands give nothing.
abbrev pub GivesNothing : Command → Type 0
GivesNothing (command.Host o) = ⊥
GivesNothing (command.CloneRef r) = ⊥
GivesNothing (command.DropRef r) = Unit {0}
GivesNothing command.Bootstrap = ⊥
GivesNothing (command.Call c) = ⊥
GivesNothing (command.Field c path) = ⊥
GivesNothing command.Promise = ⊥
GivesNothing (command.Resolve p r) = Unit {0}
GivesNothing (command.Reject p e) = Unit {0}
GivesNothing (command.Answer t payload refs) = Unit {0}
GivesNothing (command.Fail t e) = Unit {0}
GivesNothing (command.Finish c) = Unit {0}
GivesNothing (command.Advance r) = ⊥
GivesNothing (command.Shut n) = ⊥

acts_nothing : (c : Command) → GivesNothing c → (d new : Progress) (g : Granted) → Acts d c g new → g ≡ granted.Done
acts_nothing (command.Host o) is d new g acts = absurd is
acts_nothing (command.CloneRef r) is d new g acts = absurd is
acts_nothing (command.DropRef r) is d new g acts = drops d new r.0 _ g acts
acts_nothing command.Bootstrap is d new g acts = absurd is
acts_nothing (command.Call c) is d new g acts = absurd is
acts_nothing (command.Field c path) is d new g acts = absurd is
acts_nothing command.Promise is d new g acts = absurd is
acts_nothing (command.Resolve p r) is d new g acts = resolves d new p.0 _ _ g acts
acts_nothing (command.Reject p e) is d new g acts = rejects d new p.0 e _ g acts
acts_nothing (command.Answer t payload refs) is d new g acts = answers d new t.0 (value.Results payload (heads d.state refs)) _ g acts
acts_nothing (command.Fail t e) is d new g acts = answers d new t.0 (value.Exception e) _ g acts
acts_nothing (command.Finish c) is d new g acts = finishes d new c.0 _ g acts
acts_nothing (command.Advance r) is d new g acts = absurd is
acts_nothing (command.Shut n) is d new g acts = absurd is

given : (s new : State) (c : Command) (g : Granted) (effects : Effects) → GivesNothing c → Obeys s c (Ok g) effects new → g ≡ granted.Done
given s new c g effects is (Refuses r e answer u) = absurd (let k : ◌≡◌ {A = Result Granted Refusal} (Ok g) (Err r) = answer in cc)
given s new c g effects is (LacksMemory e m answer u) = absurd (let k : ◌≡◌ {A = Result Granted Refusal} (Ok g) (Err refusal.Memory) = answer in cc)
given s new c g effects is (GoesDown e m answer f) = let k : ◌≡◌ {A = Result Granted Refusal} (Ok g) (Ok granted.Done) = answer in cc
given s new c g effects is (Shuts n is_shut answer f) = let k : ◌≡◌ {A = Result Granted Refusal} (Ok g) (Ok granted.Done) = answer in cc
given s new c g effects is (IsDone x e answer does within) =
    let same : g ≡ x = let k : ◌≡◌ {A = Result Granted Refusal} (Ok g) (Ok x) = answer in cc in
    same ∙ acts_nothing c is (begin s) does.acted x does.acts

pub gives_nothing : (old new : Hosted) (c : Command) (g : Granted) → GivesNothing c → Does old c g new → Does old c granted.Done new
gives_nothing old new c g is does = subst (λ (x : Granted). Does old c x new) (given old.core new.core c g does.0 is does.1) does
