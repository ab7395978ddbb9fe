-- Which imports a message brings.
use Rattle.std.specs.FinMap as map
use Rattle.std.proofs.Common.{◌≡◌, ℕ, [], ◌∷◌, Option, None, Some, IsSome, refl, sym, subst, ap, ◌∙◌}
use Rattle.finite_maps.specs.Tally.{Map}
use Rattle.finite_maps.proofs.Tested.{at_put}
use Rattle.rpc_msg.specs.declared.message.DisembargoContext.{DisembargoContext}
use Rattle.rpc_msg.specs.declared.message.DisembargoContext.TheVariants.{SenderLoopback, ReceiverLoopback}
use Rattle.rpc_msg.specs.declared.message.Message.TheVariants as message
use Rattle.rpc_msg.specs.declared.message.PlainMessage.{PlainMessage}
use Rattle.rpc_msg.specs.declared.message.PlainMessage.TheVariants as plain
use Rattle.rpc_msg.specs.declared.message.ResolvedTo.{ResolvedTo}
use Rattle.rpc_msg.specs.declared.message.ResolvedTo.TheVariants as resolved
use Rattle.rpc_msg.specs.declared.message.Return.{Return}
use Rattle.rpc_msg.specs.Messages.{descriptors_of, descriptors_of_body, descriptors_of_resolved}
use Rattle.rpc_machine.specs.declared.command.Level.{Level}
use Rattle.rpc_machine.specs.declared.command.Level.TheVariants.{One, Zero}
use Rattle.rpc_machine.specs.declared.entries.AnswerEntry.{AnswerEntry}
use Rattle.rpc_machine.specs.declared.entries.Finishing.{Finishing}
use Rattle.rpc_machine.specs.declared.entries.Finishing.TheVariants as finishing
use Rattle.rpc_machine.specs.declared.entries.Import.{Import}
use Rattle.rpc_machine.specs.declared.entries.Question.{Question}
use Rattle.rpc_machine.specs.declared.entries.Resolution.{Resolution}
use Rattle.rpc_machine.specs.State.{State}
use Rattle.rpc_machine.specs.Descriptors.{take_all, take_at}
use Rattle.rpc_machine.specs.Faults.{gave}
use Rattle.rpc_machine.specs.Lists.{updated}
use Rattle.rpc_machine.specs.Messages.{resolve_import, set_resolution, take_resolve}
use Rattle.rpc_machine.specs.Progress.{Progress, begin, numbers}
use Rattle.laws_acts.specs.Acts.{ComesTo, Consumes, StepsAreActs, TurnsBy, came}
use Rattle.laws_runs.proofs.Same.{obeys}
use Rattle.laws_messages.specs.Imports.{KeepsImport}
use Rattle.laws_messages.proofs.Keeping as keeping
use Rattle.laws_wires.specs.SceneWires.{MessagesBringTheirs}

-- What is there in n is there in m.
abbrev Within : Map Import → Map Import → Type 0
Within n m = (e : ℕ) → IsSome (map.get n e) → IsSome (map.get m e)

alike : (n m : Map Import) → n ≡ m → Within n m
alike n m h e i = subst (λ (k : Map Import). IsSome (map.get k e)) h i

nothing : (l : Level) (s : State) → s.imports ≡ (take_at l s []).imports
nothing Zero s = refl
nothing One s = refl

none_taken : (s : State) → s.imports ≡ (take_all s []).imports
none_taken s = nothing s.level s

put_within : (m : Map Import) (k : ℕ) (r : Resolution) → Within (updated m k (set_resolution r) (map.get m k)) m
put_within m k r = by (map.get m k) refl
  where
    by : (o : Option Import) → map.get m k ≡ o → Within (updated m k (set_resolution r) o) m
    by None f = λ e i. i
    by (Some x) f = at_put (λ j o. IsSome o → IsSome (map.get m j)) m k (set_resolution r x) (λ i. subst (λ (o : Option Import). IsSome o) (sym f) refl) (λ j n i. i)

resolved_within : (t : State) (k : ℕ) (r : Resolution) (o : Option Import) → Within (resolve_import t k r o).imports t.imports
resolved_within t k r None = λ e i. i
resolved_within t k r (Some x) = put_within t.imports k r

resolve_within : (s : State) (k : ℕ) (to : ResolvedTo) → Within (take_resolve s k to).imports (take_all s (descriptors_of_resolved to)).imports
resolve_within s k (resolved.Cap d) = resolved_within (take_all s (d ∷ [])) k _ (map.get s.imports k)
resolve_within s k (resolved.Exception x) = λ e i. alike s.imports (take_all s []).imports (none_taken s) e (resolved_within s k _ (map.get s.imports k) e i)

came_imports : (s : State) (r : Return) (x : Question) (f : Finishing) (first : Progress) → ComesTo (begin s) r x f first → first.state.imports ≡ (came s r x).imports
came_imports s r x finishing.Sent first h = rw h refl
came_imports s r x finishing.Owed first h = rw h refl
came_imports s r x finishing.Waived first h = rw h refl

turned : (s : State) (c : DisembargoContext) (first : Progress) → TurnsBy (begin s) c first → first.state.imports ≡ s.imports
turned s (SenderLoopback y) first h = rw h.1 refl
turned s (ReceiverLoopback y) first h = rw h.2 refl

first_within : (s : State) (x : PlainMessage) (first : Progress) → Consumes x (begin s) first → Within first.state.imports (take_all s (descriptors_of (message.Plain x))).imports
first_within s (plain.Abort exception) first h = absurd h
first_within s (plain.Bootstrap q) first h = alike _ _ (ap (λ (p : Progress). p.state.imports) h.3 ∙ none_taken s)
first_within s (plain.Call c) first h = alike _ _ (ap (λ (p : Progress). p.state.imports) h.3)
first_within s (plain.Return r) first h =
    let y : Question = h.0 in
    let b = obeys (take_all s (descriptors_of_body r.body)) r.release_param_caps (numbers y.given) in
    alike _ _ (came_imports s r y y.finish first h.3 ∙ b.imports)
first_within s (plain.Finish f) first h =
    let y : AnswerEntry = h.0 in
    let b = obeys s f.release_result_caps (gave y.returned) in
    alike _ _ (ap (λ (p : Progress). p.state.imports) h.3 ∙ (b.imports ∙ none_taken s))
first_within s (plain.Resolve r) first h = λ e i. resolve_within s r.promise.0 r.to e (subst (λ (p : Progress). IsSome (map.get p.state.imports e)) h i)
first_within s (plain.Release r) first h = alike _ _ (ap (λ (p : Progress). p.state.imports) h ∙ none_taken s)
first_within s (plain.Disembargo d) first h = alike _ _ (turned s d.context first h ∙ none_taken s)
first_within s (plain.Other n) first h = alike _ _ (ap (λ (p : Progress). p.state.imports) h ∙ none_taken s)

pub kept_there : (x y : Option Import) → KeepsImport x y → IsSome y → IsSome x
kept_there x None k j = cc
kept_there None (Some y) k j = absurd k
kept_there (Some x) (Some y) k j = refl

pub messages_bring_theirs : StepsAreActs → MessagesBringTheirs
messages_bring_theirs law s t x effects level fault handles e i =
    let a = law.messages s x effects t level fault handles in
    let first : Progress = a.0 in
    let more = a.2 in
    let keeps = subst (λ (z : State). KeepsImport (map.get first.state.imports e) (map.get z.imports e)) (sym more.3) (keeping.acts more.0 first more.1 e) in
    first_within s x first a.1 e (kept_there (map.get first.state.imports e) (map.get t.imports e) keeps i)
