-- What a vat was told, by Returns and Resolves: it keeps that, and hears it of messages alone.
use Rattle.std.proofs.Common.{◌≡◌, ◌⊎◌, inl, inr, ℕ, Bool, true, false, cond, nat_eq, List, [], ◌∷◌, Option, None, Some, refl, sym, ap, subst, ◌∙◌}
use Rattle.std.specs.FinMap as map
use Rattle.finite_maps.specs.Tally.{Map}
use Rattle.finite_maps.proofs.Tested.{equal, get_put, get_cut}
use Rattle.rpc_msg.specs.Payloads.{Contents}
use Rattle.rpc_msg.specs.declared.ids.QuestionId.{QuestionId}
use Rattle.rpc_msg.specs.declared.parts.Descriptor.{Descriptor}
use Rattle.rpc_msg.specs.declared.parts.Descriptor.TheVariants as descriptor
use Rattle.rpc_msg.specs.declared.message.Return.{Return}
use Rattle.rpc_msg.specs.declared.message.ReturnBody.{ReturnBody}
use Rattle.rpc_msg.specs.declared.message.ReturnBody.TheVariants as body
use Rattle.rpc_msg.specs.declared.message.ResolvedTo.{ResolvedTo}
use Rattle.rpc_msg.specs.declared.message.ResolvedTo.TheVariants as resolved
use Rattle.rpc_msg.specs.declared.message.DisembargoContext.{DisembargoContext}
use Rattle.rpc_msg.specs.declared.message.DisembargoContext.TheVariants.{SenderLoopback, ReceiverLoopback}
use Rattle.rpc_msg.specs.declared.message.PlainMessage.{PlainMessage}
use Rattle.rpc_msg.specs.declared.message.PlainMessage.TheVariants as plain
use Rattle.rpc_msg.specs.Messages.{given, descriptors_of_body}
use Rattle.rpc_machine.specs.declared.calls.Value.{Value}
use Rattle.rpc_machine.specs.declared.calls.Caller.{Caller}
use Rattle.rpc_machine.specs.declared.calls.Caller.TheVariants as caller
use Rattle.rpc_machine.specs.declared.entries.AnswerEntry.{AnswerEntry}
use Rattle.rpc_machine.specs.declared.entries.Finishing.{Finishing}
use Rattle.rpc_machine.specs.declared.entries.Finishing.TheVariants as finishing
use Rattle.rpc_machine.specs.declared.entries.Returned.{Returned}
use Rattle.rpc_machine.specs.declared.entries.Returned.TheVariants as back
use Rattle.rpc_machine.specs.declared.entries.Question.{Question}
use Rattle.rpc_machine.specs.State.{State}
use Rattle.rpc_machine.specs.Progress.{Progress, with_state, numbers, export_ids}
use Rattle.rpc_machine.specs.Messages.{results_of, set_resolution, resolve_import, take_resolve}
use Rattle.rpc_machine.specs.declared.command.Level.{Level}
use Rattle.rpc_machine.specs.declared.command.Level.TheVariants.{One}
use Rattle.rpc_machine.specs.declared.entries.SenderKind.{SenderKind}
use Rattle.rpc_machine.specs.declared.entries.SenderKind.TheVariants as kind
use Rattle.rpc_machine.specs.declared.entries.Resolution.{Resolution}
use Rattle.rpc_machine.specs.declared.entries.Resolution.TheVariants as resolution
use Rattle.rpc_machine.specs.declared.entries.Import.{Import}
use Rattle.rpc_machine.specs.Lists.{update, updated}
use Rattle.rpc_machine.specs.Descriptors.{read, read_beside, received, import_one, take_each, take_at, take_all}
use Rattle.rpc_machine.specs.Settling.{known, TellsPeer, Tells}
use Rattle.rpc_machine.specs.Sweeping.{descriptors_said, closed_map, got_of, finished_by}
use Rattle.laws_acts.specs.Acts.{Acts, NoMore, Then, Consumes, TurnsBy, came, ComesTo}
use Rattle.laws_runs.proofs.EachAct.{OfActs, by_act}
use Rattle.laws_runs.proofs.Same as same
use Rattle.laws_runs.proofs.Heard.{came_same}
use Rattle.laws_runs.proofs.Paid.{release_state}
use Rattle.laws_runs.specs.Questions as session
use Rattle.laws_runs.specs.Questions.{Asker}
use Rattle.laws_runs.specs.Views.{asked_by, asker_of, IsNotWaived, IsUsual, IsReady}
use Rattle.laws_acts.specs.Sent.{Ids}
use Rattle.laws_messages.specs.Imports.{KeepsImport}
use Rattle.laws_messages.proofs.Keeping.{acts as keeps_imports}

-- Results, and what their capabilities are.
abbrev pub Told : Type 0
Told = Contents × List Descriptor

abbrev pub told_by : Option Returned → Option Told
told_by None = None
told_by (Some (back.Results p caps)) = Some (p, descriptors_said caps)
told_by (Some (back.Exception x)) = None

-- what a question was told
abbrev pub told_of : Option Question → Option Told
told_of None = None
told_of (Some x) = told_by x.returned

-- It was told that before.
abbrev pub Keeps : Option Question → Option Question → Type 0
Keeps o p = (z : Told) → told_of p ≡ Some z → told_of o ≡ Some z

-- Each question of a state was told what it was told in another.
abbrev pub KeepTold : State → State → Type 0
KeepTold s t = (q : ℕ) → Keeps (map.get s.questions q) (map.get t.questions q)

all_same : (s t : State) → t.questions ≡ s.questions → KeepTold s t
all_same s t h q z e = ap (λ (m : Map Question). told_of (map.get m q)) (sym h) ∙ e

-- one entry is new, and was told nothing
fresh : (s t : State) (k : ℕ) (x : Question) → x.returned ≡ None → t.questions ≡ map.insert s.questions k x → KeepTold s t
fresh s t k x n h q z e = by (nat_eq q k) (sym (ap told_of (get_put s.questions k x q)) ∙ (ap (λ (m : Map Question). told_of (map.get m q)) (sym h) ∙ e))
  where
    by : (b : Bool) → told_of (cond b (Some x) (map.get s.questions q)) ≡ Some z → told_of (map.get s.questions q) ≡ Some z
    by true f = absurd (let bad : None ≡ Some z = sym (ap told_by n) ∙ f in cc)
    by false f = f

-- one is finished: it was told the same, or is gone
ended : (s t : State) (k : ℕ) (x : Question) → map.get s.questions k ≡ Some x → t.questions ≡ closed_map s.questions k x x.returned → KeepTold s t
ended s t k x there h q z e = of x.returned refl (ap (λ (m : Map Question). told_of (map.get m q)) (sym h) ∙ e)
  where
    kept : (b : Bool) → nat_eq q k ≡ b → told_of (cond b (Some (record x { finish = finishing.Sent })) (map.get s.questions q)) ≡ Some z → told_of (map.get s.questions q) ≡ Some z
    kept true c f = ap (λ (j : ℕ). told_of (map.get s.questions j)) (equal q k c) ∙ ap told_of there ∙ f
    kept false c f = f

    gone : (b : Bool) → told_of (cond b None (map.get s.questions q)) ≡ Some z → told_of (map.get s.questions q) ≡ Some z
    gone true f = absurd (let bad : None ≡ Some z = f in cc)
    gone false f = f

    of : (r : Option Returned) → x.returned ≡ r → told_of (map.get (closed_map s.questions k x r) q) ≡ Some z → told_of (map.get s.questions q) ≡ Some z
    of None c f = kept (nat_eq q k) refl (sym (ap told_of (get_put s.questions k (record x { finish = finishing.Sent }) q)) ∙ f)
    of (Some r) c f = gone (nat_eq q k) (sym (ap told_of (get_cut s.questions k q)) ∙ f)

keep_then : (s t u : State) → KeepTold s t → KeepTold t u → KeepTold s u
keep_then s t u h k q z e = h q z (k q z e)

tells_peer : (d new : Progress) (q : QuestionId) (v : Value) (o : Option AnswerEntry) → TellsPeer d q v o new → new.state.questions ≡ d.state.questions
tells_peer d new q v None h = absurd h
tells_peer d new q v (Some a) h =
    let g = h.4 in
    let said = same.says d.state a.finished v h.0 h.1 h.2 h.3 in
    let left = same.collects g.0 (with_state d h.2) g.1 in
    let gives = same.gives g.0.state (numbers a.taken) in
    ap (λ (p : Progress). p.state.questions) g.2 ∙ (gives.questions ∙ (left.questions ∙ said.tables.questions))

tells : (d new : Progress) (who : Caller) (v : Value) → Tells d who v new → new.state.questions ≡ d.state.questions
tells d new (caller.Application c) v h = let k = same.tells_call d c.0 v (map.get d.state.calls c.0) new h in k.0.ids.tables.questions
tells d new (caller.Peer q) v h = tells_peer d new q v (map.get d.state.answers q.0) h

ends : (d : Progress) (k : ℕ) (x : Question) (f : Finishing) → map.get d.state.questions k ≡ Some x → KeepTold d.state (finished_by d k x f).state
ends d k x finishing.Owed there =
    let ids = got_of x.returned in
    let g = same.gives d.state ids in
    ended d.state (finished_by d k x finishing.Owed).state k x there (ap (λ (m : Map Question). closed_map m k x x.returned) g.questions)
ends d k x finishing.Sent there = λ q z e. e
ends d k x finishing.Waived there = ended d.state (finished_by d k x finishing.Waived).state k x there refl

law : OfActs (λ d new sent. KeepTold d.state new.state)
law = record {
  quiet = λ d new h r s. all_same d.state new.state h.ids.tables.questions;
  asks = λ d from new k role t r h f s a.
      let g = a.1 in
      let ids = same.describes_all from.state r.caps g.0 g.1 g.2 in
      let x : Question = record { role = role; given = export_ids (given g.0); returned = None; finish = finishing.Owed } in
      fresh d.state new.state k x refl (ap (λ (p : Progress). p.state.questions) g.3 ∙ ap (λ (m : Map Question). map.insert m k x) (ids.tables.questions ∙ h.ids.tables.questions));
  asks_root = λ d new g h. fresh d.state new.state h.0 _ refl (ap (λ (p : Progress). p.state.questions) h.3);
  turns = λ d new x h r s. all_same d.state new.state h.ids.tables.questions;
  settles = λ d new told o x v fit mid there unknown f t h.
      let k = same.fits d.state o x.caller x.waiting v fit mid f in
      all_same d.state new.state (ap (λ (p : Progress). p.state.questions) h ∙ tells (with_state d (known mid o x.caller x.waiting fit)) told x.caller fit t ∙ k.ids.tables.questions);
  resolves = λ d new i x n h. let k = same.resolves d i x n new h in all_same d.state new.state k.tables.questions;
  goes = λ d new h. let k = same.goes d new h in all_same d.state new.state k.questions;
  ends = λ d new q x there due h. subst (λ (p : Progress). KeepTold d.state p.state) (sym h) (ends d q x x.finish there);
  releases = λ d new h. all_same d.state new.state (ap (λ (p : Progress). p.state.questions) h ∙ ap (λ (s : State). s.questions) (release_state d (map.entries d.released)));
}

pub acts : (last d : Progress) (list : Acts last d) → KeepTold d.state last.state
acts last d NoMore = λ q z e. e
acts last d (Then {mid = mid} one rest) = keep_then d.state mid.state last.state (by_act law d mid one) (acts last mid rest)

-- ---- By a message

abbrev pub told_in : ReturnBody → Option Told
told_in (body.Results p ds) = Some (p, ds)
told_in (body.Exception x) = None
told_in body.Canceled = None

-- It is a Return to that question that tells so.
abbrev pub IsTold : PlainMessage → ℕ → Told → Type 0
IsTold (plain.Abort x) q z = ⊥
IsTold (plain.Bootstrap k) q z = ⊥
IsTold (plain.Call c) q z = ⊥
IsTold (plain.Return r) q z = (nat_eq q r.answer.0 ≡ true) × (told_in r.body ≡ Some z)
IsTold (plain.Finish f) q z = ⊥
IsTold (plain.Resolve r) q z = ⊥
IsTold (plain.Release r) q z = ⊥
IsTold (plain.Disembargo d) q z = ⊥
IsTold (plain.Other n) q z = ⊥

said_beside : (s : State) (ds : List Descriptor) → descriptors_said (read_beside s ds) ≡ ds
said_beside s [] = refl
said_beside s (d ∷ ds) = ap (λ (xs : List Descriptor). d ∷ xs) (said_beside s ds)

same_results : (s : State) (b : ReturnBody) → told_by (Some (results_of s b)) ≡ told_in b
same_results s (body.Results p ds) = ap (λ (l : List Descriptor). Some (p, l)) (said_beside s ds)
same_results s (body.Exception x) = refl
same_results s body.Canceled = refl

-- It waited for that.
abbrev pub Waited : Option Question → Type 0
Waited o = (ids : Ids) × (asker_of o ≡ session.Asked ids)

abbrev ByThat : State → PlainMessage → State → Type 0
ByThat s m t = (q : ℕ) (z : Told) → told_of (map.get t.questions q) ≡ Some z → (told_of (map.get s.questions q) ≡ Some z) ⊎ (IsTold m q z × Waited (map.get s.questions q))

same_so : (s : State) (m : PlainMessage) (t : State) → t.questions ≡ s.questions → ByThat s m t
same_so s m t h q z e = inl (all_same s t h q z e)

returns_so : (d first : Progress) (r : Return) (x : Question) → IsReady d.state → map.get d.state.questions r.answer.0 ≡ Some x → x.returned ≡ None → (f : Finishing) → x.finish ≡ f → ComesTo d r x f first → ByThat d.state (plain.Return r) first.state
returns_so d first r x i there none finishing.Waived e h q z k = absurd (subst (λ (f : Finishing). IsNotWaived f) e (subst (λ (o : Option Question). IsUsual o) there (i.usual r.answer.0)))
returns_so d first r x i there none finishing.Sent e h q z k = inl (by (nat_eq q r.answer.0) (sym (ap told_of (get_cut d.state.questions r.answer.0 q)) ∙ (ap (λ (p : Progress). told_of (map.get p.state.questions q)) (sym h) ∙ k)))
  where
    by : (b : Bool) → told_of (cond b None (map.get d.state.questions q)) ≡ Some z → told_of (map.get d.state.questions q) ≡ Some z
    by true f = absurd (let bad : None ≡ Some z = f in cc)
    by false f = f
returns_so d first r x i there none finishing.Owed e h q z k =
    let y : Question = record x { returned = Some (results_of d.state r.body) } in
    let c = came_same d.state r x in
    let at : told_of (map.get (map.insert d.state.questions r.answer.0 y) q) ≡ Some z =
    ap (λ (m : Map Question). told_of (map.get (map.insert m r.answer.0 y) q)) (sym c.questions) ∙ (ap (λ (p : Progress). told_of (map.get p.state.questions q)) (sym h) ∙ k) in
    by (nat_eq q r.answer.0) refl (sym (ap told_of (get_put d.state.questions r.answer.0 y q)) ∙ at)
  where
    asked : asker_of (Some x) ≡ session.Asked (numbers x.given)
    asked = ap (λ (f : Finishing). asked_by (numbers x.given) f x.returned) e ∙ ap (λ (r : Option Returned). asked_by (numbers x.given) finishing.Owed r) none

    by : (b : Bool) → nat_eq q r.answer.0 ≡ b → told_of (cond b (Some (record x { returned = Some (results_of d.state r.body) })) (map.get d.state.questions q)) ≡ Some z → (told_of (map.get d.state.questions q) ≡ Some z) ⊎ (IsTold (plain.Return r) q z × Waited (map.get d.state.questions q))
    by true f g = inr ((f, sym (same_results d.state r.body) ∙ g), (numbers x.given, ap (λ (j : ℕ). asker_of (map.get d.state.questions j)) (equal q r.answer.0 f) ∙ ap asker_of there ∙ asked))
    by false f g = inl g

turns_so : (d first : Progress) (c : DisembargoContext) → TurnsBy d c first → first.state.questions ≡ d.state.questions
turns_so d first (SenderLoopback x) h = ap (λ (p : Progress). p.state.questions) h.1
turns_so d first (ReceiverLoopback x) h = ap (λ (p : Progress). p.state.questions) h.2

pub consumes : (m : PlainMessage) (d first : Progress) → IsReady d.state → Consumes m d first → ByThat d.state m first.state
consumes (plain.Abort x) d first i h = absurd h
consumes (plain.Bootstrap k) d first i h = same_so d.state (plain.Bootstrap k) first.state (ap (λ (p : Progress). p.state.questions) h.3)
consumes (plain.Call c) d first i h = let t = same.takes d.state c.descriptors in same_so d.state (plain.Call c) first.state (ap (λ (p : Progress). p.state.questions) h.3 ∙ t.questions)
consumes (plain.Return r) d first i h = let x = h.0 in returns_so d first r x i h.1 h.2 x.finish refl h.3
consumes (plain.Finish f) d first i h = let a = h.0 in let o = same.obeys d.state f.release_result_caps _ in same_so d.state (plain.Finish f) first.state (ap (λ (p : Progress). p.state.questions) h.3 ∙ o.tables.questions)
consumes (plain.Resolve r) d first i h = let t = same.takes_resolve d.state r.promise.0 r.to in same_so d.state (plain.Resolve r) first.state (ap (λ (p : Progress). p.state.questions) h ∙ t.questions)
consumes (plain.Release r) d first i h = same_so d.state (plain.Release r) first.state (ap (λ (p : Progress). p.state.questions) h)
consumes (plain.Disembargo x) d first i h = same_so d.state (plain.Disembargo x) first.state (turns_so d first x.context h)
consumes (plain.Other n) d first i h = same_so d.state (plain.Other n) first.state (ap (λ (p : Progress). p.state.questions) h)

-- ---- Imports

abbrev pub resolved_by : Option Resolution → Option Descriptor
resolved_by None = None
resolved_by (Some (resolution.To d n)) = Some d
resolved_by (Some (resolution.Exception x)) = None

-- what the Resolve of an import said
abbrev pub resolved_of : Option Import → Option Descriptor
resolved_of None = None
resolved_of (Some x) = resolved_by x.resolution

kept_import : (o p : Option Import) (d : Descriptor) → KeepsImport o p → resolved_of p ≡ Some d → resolved_of o ≡ Some d
kept_import o None d h e = absurd (let bad : None ≡ Some d = e in cc)
kept_import None (Some y) d h e = absurd h
kept_import (Some x) (Some y) d h e = ap resolved_by (sym h.1) ∙ e

pub keeps : (last d : Progress) (list : Acts last d) (e : ℕ) (z : Descriptor) → resolved_of (map.get last.state.imports e) ≡ Some z → resolved_of (map.get d.state.imports e) ≡ Some z
keeps last d list e z h = kept_import (map.get d.state.imports e) (map.get last.state.imports e) z (keeps_imports last d list e) h

abbrev pub resolves_to : ResolvedTo → Option Descriptor
resolves_to (resolved.Cap d) = Some d
resolves_to (resolved.Exception x) = None

-- It is a Resolve of that import that says so.
abbrev pub Says : PlainMessage → ℕ → Descriptor → Type 0
Says (plain.Abort x) e d = ⊥
Says (plain.Bootstrap k) e d = ⊥
Says (plain.Call c) e d = ⊥
Says (plain.Return r) e d = ⊥
Says (plain.Finish f) e d = ⊥
Says (plain.Resolve r) e d = (nat_eq e r.promise.0 ≡ true) × (resolves_to r.to ≡ Some d)
Says (plain.Release r) e d = ⊥
Says (plain.Disembargo x) e d = ⊥
Says (plain.Other n) e d = ⊥

module _ (e : ℕ) (z : Descriptor) where
  abbrev Is : State → Type 0
  Is s = resolved_of (map.get s.imports e) ≡ Some z

  one_taken : (s : State) (k : SenderKind) (i : ℕ) → Is (import_one s k i) → Is s
  one_taken s k i h = by (nat_eq e i) refl (sym (ap resolved_of (get_put s.imports i (received k (map.get s.imports i)) e)) ∙ h)
    where
      same_resolution : (o : Option Import) → resolved_of (Some (received k o)) ≡ resolved_of o
      same_resolution None = refl
      same_resolution (Some x) = refl

      by : (b : Bool) → nat_eq e i ≡ b → resolved_of (cond b (Some (received k (map.get s.imports i))) (map.get s.imports e)) ≡ Some z → Is s
      by true c g = ap (λ (j : ℕ). resolved_of (map.get s.imports j)) (equal e i c) ∙ (sym (same_resolution (map.get s.imports i)) ∙ g)
      by false c g = g

  each_taken : (s : State) (ds : List Descriptor) → Is (take_each s ds) → Is s
  each_taken s [] h = h
  each_taken s (descriptor.None ∷ ds) h = each_taken s ds h
  each_taken s (descriptor.SenderHosted i ∷ ds) h = one_taken s kind.Hosted i.0 (each_taken (import_one s kind.Hosted i.0) ds h)
  each_taken s (descriptor.SenderPromise i ∷ ds) h = one_taken s kind.Promise i.0 (each_taken (import_one s kind.Promise i.0) ds h)
  each_taken s (descriptor.ReceiverHosted i ∷ ds) h = each_taken s ds h
  each_taken s (descriptor.ReceiverAnswer q path ∷ ds) h = each_taken s ds h

  all_taken : (s : State) → s.level ≡ One → (ds : List Descriptor) → Is (take_all s ds) → Is s
  all_taken s l ds h = each_taken s ds (subst (λ (k : Level). Is (take_at k s ds)) l h)

  abbrev BySaid : State → PlainMessage → State → Type 0
  BySaid s m t = Is t → Is s ⊎ Says m e z

  one_resolved : (s u : State) (i : ℕ) (r : Resolution) → (Is u → Is s) → Is (record u { imports = update u.imports i (set_resolution r) }) → Is s ⊎ ((nat_eq e i ≡ true) × (resolved_by (Some r) ≡ Some z))
  one_resolved s u i r back h = of (map.get u.imports i) h
    where
      at : (x : Import) (b : Bool) → nat_eq e i ≡ b → resolved_of (cond b (Some (set_resolution r x)) (map.get u.imports e)) ≡ Some z → Is s ⊎ ((nat_eq e i ≡ true) × (resolved_by (Some r) ≡ Some z))
      at x true c g = inr (c, g)
      at x false c g = inl (back g)

      of : (o : Option Import) → resolved_of (map.get (updated u.imports i (set_resolution r) o) e) ≡ Some z → Is s ⊎ ((nat_eq e i ≡ true) × (resolved_by (Some r) ≡ Some z))
      of None g = inl (back g)
      of (Some x) g = at x (nat_eq e i) refl (sym (ap resolved_of (get_put u.imports i (set_resolution r x) e)) ∙ g)

  resolves_so : (s : State) → s.level ≡ One → (i : ℕ) (to : ResolvedTo) → Is (take_resolve s i to) → Is s ⊎ ((nat_eq e i ≡ true) × (resolves_to to ≡ Some z))
  resolves_so s l i (resolved.Exception x) h = of (map.get s.imports i) h
    where
      of : (o : Option Import) → Is (resolve_import s i (resolution.Exception x) o) → Is s ⊎ ((nat_eq e i ≡ true) × (None ≡ Some z))
      of None g = inl g
      of (Some y) g = one_resolved s s i (resolution.Exception x) (λ k. k) g
  resolves_so s l i (resolved.Cap d) h = of (map.get s.imports i) h
    where
      back : Is (take_all s (d ∷ [])) → Is s
      back k = all_taken s l (d ∷ []) k

      of : (o : Option Import) → Is (resolve_import (take_all s (d ∷ [])) i (resolution.To d (read s d)) o) → Is s ⊎ ((nat_eq e i ≡ true) × (Some d ≡ Some z))
      of None g = inl (back g)
      of (Some y) g = one_resolved s (take_all s (d ∷ [])) i (resolution.To d (read s d)) back g

  moved : (s t : State) (m : PlainMessage) → t.imports ≡ s.imports → BySaid s m t
  moved s t m h k = inl (ap (λ (n : Map Import). resolved_of (map.get n e)) (sym h) ∙ k)

  taken_then : (s u t : State) (m : PlainMessage) → t.imports ≡ u.imports → (Is u → Is s) → BySaid s m t
  taken_then s u t m h back k = inl (back (ap (λ (n : Map Import). resolved_of (map.get n e)) (sym h) ∙ k))

  came_so : (d first : Progress) (r : Return) (x : Question) → IsReady d.state → (f : Finishing) → ComesTo d r x f first → BySaid d.state (plain.Return r) first.state
  came_so d first r x i f h =
      let u = take_all d.state (descriptors_of_body r.body) in
      let o = same.obeys u r.release_param_caps (numbers x.given) in
      taken_then d.state u first.state (plain.Return r) (by f h ∙ o.imports) (all_taken d.state i.level (descriptors_of_body r.body))
    where
      by : (f : Finishing) → ComesTo d r x f first → first.state.imports ≡ (came d.state r x).imports
      by finishing.Sent h = ap (λ (p : Progress). p.state.imports) h
      by finishing.Owed h = ap (λ (p : Progress). p.state.imports) h
      by finishing.Waived h = ap (λ (p : Progress). p.state.imports) h

  turned_so : (d first : Progress) (c : DisembargoContext) → TurnsBy d c first → first.state.imports ≡ d.state.imports
  turned_so d first (SenderLoopback x) h = ap (λ (p : Progress). p.state.imports) h.1
  turned_so d first (ReceiverLoopback x) h = ap (λ (p : Progress). p.state.imports) h.2

  pub says : (m : PlainMessage) (d first : Progress) → IsReady d.state → Consumes m d first → BySaid d.state m first.state
  says (plain.Abort x) d first i h k = absurd h
  says (plain.Bootstrap p) d first i h k = moved d.state first.state (plain.Bootstrap p) (ap (λ (p : Progress). p.state.imports) h.3) k
  says (plain.Call c) d first i h k = taken_then d.state (take_all d.state c.descriptors) first.state (plain.Call c) (ap (λ (p : Progress). p.state.imports) h.3) (all_taken d.state i.level c.descriptors) k
  says (plain.Return r) d first i h k = let x = h.0 in came_so d first r x i x.finish h.3 k
  says (plain.Finish f) d first i h k = let o = same.obeys d.state f.release_result_caps _ in moved d.state first.state (plain.Finish f) (ap (λ (p : Progress). p.state.imports) h.3 ∙ o.imports) k
  says (plain.Resolve r) d first i h k = resolves_so d.state i.level r.promise.0 r.to (ap (λ (p : Progress). resolved_of (map.get p.state.imports e)) (sym h) ∙ k)
  says (plain.Release r) d first i h k = moved d.state first.state (plain.Release r) (ap (λ (p : Progress). p.state.imports) h) k
  says (plain.Disembargo x) d first i h k = moved d.state first.state (plain.Disembargo x) (turned_so d first x.context h) k
  says (plain.Other n) d first i h k = moved d.state first.state (plain.Other n) (ap (λ (p : Progress). p.state.imports) h) k
