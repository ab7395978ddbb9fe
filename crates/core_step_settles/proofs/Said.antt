-- A Return is sent.
use Rattle.std.proofs.Common.{◌≡◌, inl, ℕ, ◌-◌, ◌≤◌, Bool, true, false, cond, List, [], ◌∷◌, Option, None, Some, refl, sym, ap, subst, ◌∙◌, arith}
use Rattle.std.specs.Prelude.{nat_le}
use Rattle.std.specs.FinMap as map
use Rattle.finite_maps.specs.Tally.{Map}
use Rattle.finite_maps.proofs.Lens.{len_same, len_fewer}
use Rattle.rpc_msg.specs.declared.ids.QuestionId.{QuestionId}
use Rattle.rpc_msg.specs.declared.ids.ExportId.{ExportId}
use Rattle.rpc_msg.specs.declared.parts.Descriptor.{Descriptor}
use Rattle.rpc_msg.specs.declared.message.ReturnBody.{ReturnBody}
use Rattle.rpc_msg.specs.declared.message.PlainMessage.TheVariants as plain
use Rattle.rpc_msg.specs.Messages.{given}
use Rattle.rpc_machine.specs.declared.calls.Value.{Value}
use Rattle.rpc_machine.specs.declared.calls.Value.TheVariants as value
use Rattle.rpc_machine.specs.declared.calls.Caller.{Caller}
use Rattle.rpc_machine.specs.declared.calls.Caller.TheVariants as caller
use Rattle.rpc_machine.specs.declared.calls.OwnCall.{OwnCall}
use Rattle.rpc_machine.specs.declared.entries.AnswerEntry.{AnswerEntry}
use Rattle.rpc_machine.specs.declared.entries.Import.{Import}
use Rattle.rpc_machine.specs.State.{State}
use Rattle.rpc_machine.specs.Progress.{Progress, with_state, send, export_ids, numbers, caps_of}
use Rattle.rpc_machine.specs.Collecting.{Collects}
use Rattle.rpc_machine.specs.Flags.{flag_for, give_one, give_each, give_if, give_back}
use Rattle.rpc_machine.specs.Settling.{SaysBack, Returns, TellsPeer, TellsCall, Tells}
use Rattle.core_store_tables.specs.Peer.{return_answer}
use Rattle.core_store.specs.declared.store.Store.{Store}
use Rattle.core_store.specs.Holding.{state_of, IsSound}
use Rattle.core_step.specs.declared.step.Step.{Step}
use Rattle.core_step.specs.InProgress.{IsReady}
use Rattle.core_step.proofs.Readying.{ready_grown, ready_same}
use Rattle.core_step_routes.proofs.Describing.{all_only}
use Rattle.core_step_settles.specs.Returning.{Says, returned_with}
use Rattle.core_step_settles.proofs.Told.{refs_only}
use Rattle.core_step_settles.proofs.Collected.{collects_only, collects_leaves, IsSameOrGone, Leaves}

-- ---- What a Return says changes the exports alone

abbrev exports_of : State → State → State
exports_of s t = record s { exports = t.exports }

says_only : (s : State) (b : Bool) (v : Value) (said : ReturnBody) (ds : List Descriptor) (new : State) → SaysBack s b v said ds new → new ≡ exports_of s new
says_only s true v said ds new h = h.2 ∙ ap (exports_of s) (sym h.2)
says_only s false (value.Exception exception) said ds new h = h.2 ∙ ap (exports_of s) (sym h.2)
says_only s false (value.Results payload caps) said ds new h = all_only s caps ds new h.1

pub ready_described : (x : Step) (new : Store) → state_of new ≡ exports_of (state_of x.store) (state_of new) → IsReady x → IsSound new → new.slack ≤ x.store.slack → IsReady (record x { store = new })
ready_described x new only h sound less = ready_same x new h sound less (ap (λ (s : State). s.questions) only) (ap (λ (s : State). s.imports) only)

numbers_back : (es : List ℕ) → numbers (export_ids es) ≡ es
numbers_back [] = refl
numbers_back (e ∷ es) = ap (λ (ns : List ℕ). e ∷ ns) (numbers_back es)

-- ---- What the flag lets go

given_fewer : (m : Map Import) (e : ℕ) (o : Option Import) → map.get m e ≡ o → map.len (give_one m e o) ≤ map.len m
given_fewer m e None there = omega (arith)
given_fewer m e (Some x) there = by (nat_le x.count 1)
  where
    by : (b : Bool) → map.len (cond b (map.remove m e) (map.insert m e (record x { count = x.count - 1 }))) ≤ map.len m
    by true = len_fewer m e
    by false = let a = len_same m e x (record x { count = x.count - 1 }) there in omega (arith, a)

each_fewer : (m : Map Import) (es : List ℕ) → map.len (give_each m es) ≤ map.len m
each_fewer m [] = omega (arith)
each_fewer m (e ∷ es) =
    let a = given_fewer m e (map.get m e) refl in
    let b = each_fewer (give_one m e (map.get m e)) es in
    omega (arith, a, b)

abbrev imports_of : State → State → State
imports_of s t = record s { imports = t.imports }

gives_only : (s : State) (b : Bool) (ids : List ℕ) → give_if s b ids ≡ imports_of s (give_if s b ids)
gives_only s true ids = refl
gives_only s false ids = refl

gives_fewer : (s : State) (b : Bool) (ids : List ℕ) → map.len (give_if s b ids).imports ≤ map.len s.imports
gives_fewer s true ids = each_fewer s.imports ids
gives_fewer s false ids = omega (arith)

pub ready_given : (x : Step) (new : Store) (ids : List ℕ) → state_of new ≡ give_back (state_of x.store) ids → IsReady x → IsSound new → new.slack ≡ x.store.slack → IsReady (record x { store = new })
ready_given x new ids gave h sound left =
    let s = state_of x.store in
    let only = gave ∙ gives_only s (flag_for s ids) ids in
    let asked : map.len new.questions.entries ≡ map.len x.store.questions.entries = ap (λ (t : State). map.len t.questions) only in
    let kept : map.len new.imports.entries ≡ map.len (give_back s ids).imports = ap (λ (t : State). map.len t.imports) gave in
    let fewer = gives_fewer s (flag_for s ids) ids in
    ready_grown x new h sound (omega (arith, left)) (omega (arith, left, asked)) (omega (arith, left, kept, fewer))

-- ---- The answer has returned

abbrev answers_of : State → State → State
answers_of s t = record s { answers = t.answers }

answer_only : (s : State) (q : ℕ) (ids : List ℕ) (o : Option AnswerEntry) → return_answer s q ids o ≡ answers_of s (return_answer s q ids o)
answer_only s q ids None = refl
answer_only s q ids (Some a) = refl

pub ready_returned : (x : Step) (new : Store) (q : ℕ) (ids : List ℕ) (o : Option AnswerEntry) → state_of new ≡ return_answer (state_of x.store) q ids o → IsReady x → IsSound new → new.slack ≤ x.store.slack → IsReady (record x { store = new })
ready_returned x new q ids o closed h sound less =
    let only = closed ∙ answer_only (state_of x.store) q ids o in
    ready_same x new h sound less (ap (λ (s : State). s.questions) only) (ap (λ (s : State). s.imports) only)

-- ---- The whole

-- d before, mid when it was said, late when what no place names was gone.
module _ (d : Progress) (q : QuestionId) (v : Value) (a : AnswerEntry) (mid : State) (late : Progress) (said : ReturnBody) (ids : List ExportId) where
  returns_so : Says d.state a.finished v said ids mid → Collects late (with_state d mid) → map.get d.state.answers q.0 ≡ Some a → Returns d q a v (returned_with late q (numbers a.taken) said ids)
  returns_so h k there =
      let ds = h.0 in
      let taken = numbers a.taken in
      let s : State = late.state in
      let t : State = give_back s taken in
      let end : State → Progress = λ u. send (with_state late u) (plain.Return (record { answer = q; release_param_caps = flag_for s taken; body = said })) in
      let one : t.answers ≡ s.answers = ap (λ (u : State). u.answers) (gives_only s (flag_for s taken) taken) in
      let two : s.answers ≡ mid.answers = ap (λ (p : Progress). p.state.answers) (collects_only late (with_state d mid) k) in
      let three : mid.answers ≡ d.state.answers = ap (λ (u : State). u.answers) (says_only d.state a.finished v said ds mid h.1) in
      let still : map.get t.answers q.0 ≡ Some a = ap (λ (m : Map AnswerEntry). map.get m q.0) (one ∙ two ∙ three) ∙ there in
      let listed : numbers ids ≡ given ds = ap numbers h.2 ∙ numbers_back (given ds) in (
        said,
        ds,
        mid,
        h.1,
        (late, k, ap (λ (es : List ℕ). end (return_answer t q.0 es (map.get t.answers q.0))) listed ∙ ap (λ (o : Option AnswerEntry). end (return_answer t q.0 (given ds) o)) still),
      )

pub tells_peer : (d : Progress) (q : QuestionId) (v : Value) (found : AnswerEntry) (finished : Bool) (taken lent : List ExportId) (mid late new : Progress) (said : ReturnBody) (ids : List ExportId)
    → Some found ≡ map.get d.state.answers q.0 → finished ≡ found.finished → taken ≡ found.taken → lent ≡ taken
    → Says d.state finished v said ids mid.state → mid ≡ with_state d mid.state → Collects late mid → new ≡ returned_with late q (numbers lent) said ids
    → TellsPeer d q v (map.get d.state.answers q.0) new
tells_peer d q v found finished taken lent mid late new said ids there ended copied same says only collects sent =
    let was : Says d.state found.finished v said ids mid.state = subst (λ (b : Bool). Says d.state b v said ids mid.state) ended says in
    let went : Collects late (with_state d mid.state) = subst (λ (p : Progress). Collects late p) only collects in
    let all : new ≡ returned_with late q (numbers found.taken) said ids = sent ∙ ap (λ (es : List ExportId). returned_with late q (numbers es) said ids) (same ∙ copied) in
    subst (λ (o : Option AnswerEntry). TellsPeer d q v o new) there
    (subst (λ (p : Progress). Returns d q found v p) (sym all) (returns_so d q v found mid.state late said ids was went (sym there)))

-- ---- Telling leaves an outcome as it was, or lets it go

returns_leaves : (d : Progress) (q : QuestionId) (a : AnswerEntry) (v : Value) (new : Progress) → Returns d q a v new → Leaves d new
returns_leaves d q a v new h = λ o.
    let k = h.4 in
    let s = k.0.state in
    let taken = numbers a.taken in
    let one : (h.2).outcomes ≡ d.state.outcomes = ap (λ (u : State). u.outcomes) (says_only d.state a.finished v h.0 h.1 h.2 h.3) in
    let two : new.state.outcomes ≡ s.outcomes = ap (λ (p : Progress). p.state.outcomes) k.2 ∙ ap (λ (u : State). u.outcomes) (gives_only s (flag_for s taken) taken) in
    subst (λ (m : Map _). IsSameOrGone (map.get m o) (map.get new.state.outcomes o)) one
    (subst (λ (m : Map _). IsSameOrGone (map.get (h.2).outcomes o) (map.get m o)) (sym two) (collects_leaves k.0 (with_state d h.2) k.1 o))

pub tells_leaves : (d : Progress) (who : Caller) (v : Value) (new : Progress) → Tells d who v new → Leaves d new
tells_leaves d (caller.Application c) v new h = call (map.get d.state.calls c.0) h
  where
    call : (o : Option OwnCall) → TellsCall d c.0 v o new → Leaves d new
    call None h = λ k. inl (ap (λ (p : Progress). map.get p.state.outcomes k) h)
    call (Some from) h = λ k. inl (ap (λ (p : Progress). map.get p.state.outcomes k) h ∙ ap (λ (u : State). map.get u.outcomes k) (refs_only d.state (caps_of v)))
tells_leaves d (caller.Peer q) v new h = peer (map.get d.state.answers q.0) h
  where
    peer : (o : Option AnswerEntry) → TellsPeer d q v o new → Leaves d new
    peer None h = absurd h
    peer (Some a) h = returns_leaves d q a v new h
