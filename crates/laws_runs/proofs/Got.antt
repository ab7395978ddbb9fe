-- What a received message does to the counts of imports.
use Rattle.std.proofs.Common.{◌≡◌, inl, ℕ, suc, ◌+◌, ◌≤◌, Bool, true, false, cond, nat_eq, List, [], ◌∷◌, Option, None, Some, refl, sym, ap, subst, ◌∙◌, arith}
use Rattle.std.specs.FinMap as map
use Rattle.std.specs.Ordering.{nat_cmp}
use Rattle.rpc_msg.specs.declared.ids.ExportId.{ExportId}
use Rattle.rpc_msg.specs.declared.parts.Descriptor.{Descriptor}
use Rattle.rpc_msg.specs.declared.message.ReturnBody.{ReturnBody}
use Rattle.rpc_msg.specs.declared.message.ReturnBody.TheVariants as body
use Rattle.rpc_msg.specs.declared.message.ResolvedTo.{ResolvedTo}
use Rattle.rpc_msg.specs.declared.message.ResolvedTo.TheVariants as resolved
use Rattle.rpc_msg.specs.declared.message.DisembargoContext.TheVariants.{SenderLoopback, ReceiverLoopback}
use Rattle.rpc_msg.specs.declared.message.PlainMessage.{PlainMessage}
use Rattle.rpc_msg.specs.declared.message.PlainMessage.TheVariants as plain
use Rattle.rpc_msg.specs.Messages.{given, descriptors_of_body, descriptors_of_plain}
use Rattle.rpc_msg.specs.declared.message.Resolve.{Resolve}
use Rattle.rpc_msg.specs.declared.message.Finish.{Finish}
use Rattle.rpc_msg.specs.declared.message.Return.{Return}
use Rattle.rpc_msg.specs.declared.message.Disembargo.{Disembargo}
use Rattle.rpc_msg.specs.declared.message.DisembargoContext.{DisembargoContext}
use Rattle.rpc_msg.specs.declared.parts.Descriptor.TheVariants as descriptor
use Rattle.finite_maps.specs.Tally.{Map, tally, worth}
use Rattle.finite_maps.proofs.Tallies.{tally-new, tally-split, tally-insert, tally-same}
use Rattle.finite_maps.proofs.Tested.{equal, get_put, get_cut, at_changed}
use Rattle.rpc_machine.specs.declared.command.Level.{Level}
use Rattle.rpc_machine.specs.declared.command.Level.TheVariants.{One}
use Rattle.rpc_machine.specs.declared.entries.Finishing.{Finishing}
use Rattle.rpc_machine.specs.declared.entries.Finishing.TheVariants as finishing
use Rattle.rpc_machine.specs.declared.entries.Returned.{Returned}
use Rattle.rpc_machine.specs.declared.entries.Question.{Question}
use Rattle.rpc_machine.specs.declared.entries.AnswerEntry.{AnswerEntry}
use Rattle.rpc_machine.specs.State.{State}
use Rattle.rpc_machine.specs.Progress.{Progress, with_state, export_ids, numbers, begin}
use Rattle.rpc_machine.specs.Sweeping.{got_of}
use Rattle.rpc_machine.specs.Descriptors.{read, read_beside, take_each, take_at, take_all, received, import_one}
use Rattle.rpc_machine.specs.Flags.{obey}
use Rattle.rpc_machine.specs.Limits.{import_count}
use Rattle.rpc_machine.specs.Lists.{how_many, updated}
use Rattle.rpc_machine.specs.declared.entries.Import.{Import}
use Rattle.rpc_machine.specs.declared.entries.Resolution.{Resolution}
use Rattle.rpc_machine.specs.Faults.{gave}
use Rattle.rpc_machine.specs.Messages.{opened, results_of, kept_returned, finished_map, take_resolve, resolve_import, set_resolution}
use Rattle.rpc_machine.specs.declared.entries.SenderKind.{SenderKind}
use Rattle.rpc_machine.specs.declared.entries.SenderKind.TheVariants as kind
use Rattle.rpc_machine.specs.declared.entries.Resolution.TheVariants as resolution
use Rattle.rpc_machine.specs.declared.entries.Returned.TheVariants as back
use Rattle.laws_steps.proofs.Taken.{brought_results}
use Rattle.laws_steps.proofs.NamedNodes as nodes_there
use Rattle.laws_acts.specs.Acts.{came, ComesTo, TurnsBy, Consumes}
use Rattle.laws_acts.specs.Sent.{Ids, Noted, bounce_sent, turned_sent, sent_at_once}
use Rattle.laws_runs.specs.Views.{IsUseful, IsReady}
use Rattle.laws_runs.proofs.Acted.{same_numbers}
use Rattle.laws_runs.proofs.Same as tables
use Rattle.laws_runs.proofs.Heard as heard
use Rattle.laws_runs.specs.Imports.{count, letting, got, kept, reserved, Brought, IsCovered, pending, Paid, Took}
use Rattle.laws_runs.proofs.Paid.{untouched, quiet, other, covered_still}

-- ---- Descriptors

take_one_count : (s : State) (k : SenderKind) (i e : ℕ) → count e (import_one s k i) ≡ count e s + cond (nat_eq e i) 1 0
take_one_count s k i e = ap import_count (get_put s.imports i (received k (map.get s.imports i)) e) ∙ by (nat_eq e i) refl
  where
    one : (o : Option Import) → import_count (Some (received k o)) ≡ import_count o + 1
    one None = omega arith
    one (Some x) = refl

    by : (b : Bool) → nat_eq e i ≡ b → import_count (cond b (Some (received k (map.get s.imports i))) (map.get s.imports e)) ≡ count e s + cond b 1 0
    by false f = omega arith
    by true f = one (map.get s.imports i) ∙ ap (λ (j : ℕ). import_count (map.get s.imports j) + 1) (sym (equal e i f))

taken_count : (s : State) (ds : List Descriptor) (e : ℕ) → count e (take_each s ds) ≡ count e s + how_many (nat_eq e) (given ds)
taken_count s [] e = omega arith
taken_count s (descriptor.None ∷ ds) e = taken_count s ds e
taken_count s (descriptor.SenderHosted i ∷ ds) e = let r = taken_count (import_one s kind.Hosted i.0) ds e in let o = take_one_count s kind.Hosted i.0 e in by (nat_eq e i.0) r o
  where
    by : (b : Bool) → count e (take_each (import_one s kind.Hosted i.0) ds) ≡ count e (import_one s kind.Hosted i.0) + how_many (nat_eq e) (given ds) → count e (import_one s kind.Hosted i.0) ≡ count e s + cond b 1 0 → count e (take_each (import_one s kind.Hosted i.0) ds) ≡ count e s + cond b (suc (how_many (nat_eq e) (given ds))) (how_many (nat_eq e) (given ds))
    by true r o = omega (arith, r, o)
    by false r o = omega (arith, r, o)
taken_count s (descriptor.SenderPromise i ∷ ds) e = let r = taken_count (import_one s kind.Promise i.0) ds e in let o = take_one_count s kind.Promise i.0 e in by (nat_eq e i.0) r o
  where
    by : (b : Bool) → count e (take_each (import_one s kind.Promise i.0) ds) ≡ count e (import_one s kind.Promise i.0) + how_many (nat_eq e) (given ds) → count e (import_one s kind.Promise i.0) ≡ count e s + cond b 1 0 → count e (take_each (import_one s kind.Promise i.0) ds) ≡ count e s + cond b (suc (how_many (nat_eq e) (given ds))) (how_many (nat_eq e) (given ds))
    by true r o = omega (arith, r, o)
    by false r o = omega (arith, r, o)
taken_count s (descriptor.ReceiverHosted i ∷ ds) e = taken_count s ds e
taken_count s (descriptor.ReceiverAnswer q path ∷ ds) e = taken_count s ds e

took : (s : State) (ds : List Descriptor) (e : ℕ) → s.level ≡ One → count e (take_all s ds) ≡ count e s + how_many (nat_eq e) (given ds)
took s ds e l = subst (λ (w : Level). count e (take_at w s ds) ≡ count e s + how_many (nat_eq e) (given ds)) (sym l) (taken_count s ds e)

at_once : (d first : Progress) (m : PlainMessage) → IsCovered first.state → first.released ≡ d.released → ((e : ℕ) → map.get d.released e ≡ None) → ((e : ℕ) → count e first.state ≡ count e d.state + how_many (nat_eq e) (given (descriptors_of_plain m))) → Took m d [] first
at_once d first m i r n c = record { mid = first.state; counts = c; paid = quiet (with_state d first.state) first i (λ e. inl (n e)) (untouched first.state) r }

-- The questions and answers reserve no more than before and what came.
abbrev covers : State → State → (ℕ → ℕ) → Type 0
covers s t more = (e : ℕ) → reserved e t ≤ reserved e s + more e

open_tally : (e : ℕ) (m : Map AnswerEntry) (k o : ℕ) (ids : List ℕ) → map.get m k ≡ None → tally (kept e) (map.insert m k (record { outcome = o; taken = export_ids ids; returned = None; finished = false })) ≡ how_many (nat_eq e) ids + tally (kept e) m
open_tally e m k o ids free =
    let g = tally-new (kept e) m k (record { outcome = o; taken = export_ids ids; returned = None; finished = false }) free in
    let z : how_many (nat_eq e) (numbers (export_ids ids)) ≡ how_many (nat_eq e) ids = ap (how_many (nat_eq e)) (same_numbers ids) in
    omega (arith, g, z)

opens : (d : Progress) (s : State) (m : PlainMessage) (k o : ℕ) → IsCovered d.state → ((e : ℕ) → map.get d.released e ≡ None) → s.questions ≡ d.state.questions → s.answers ≡ d.state.answers → map.get d.state.answers k ≡ None → ((e : ℕ) → count e s ≡ count e d.state + how_many (nat_eq e) (given (descriptors_of_plain m))) → Took m d [] (with_state d (opened s k o (given (descriptors_of_plain m))))
opens d s m k o i n a b free c = at_once d (with_state d (opened s k o (given (descriptors_of_plain m)))) m (record {
  cover = λ e.
      let g = i.cover e in
      let h = c e in
      let x : tally (got e) s.questions ≡ tally (got e) d.state.questions = ap (tally (got e)) a in
      let y = ap (λ (w : Map AnswerEntry). tally (kept e) (map.insert w k (record { outcome = o; taken = export_ids (given (descriptors_of_plain m)); returned = None; finished = false }))) b ∙ open_tally e d.state.answers k o (given (descriptors_of_plain m)) free in
      omega (arith, g, h, x, y);
  brought = λ q. subst (λ (w : Map Question). Brought (map.get w q)) (sym a) (i.brought q);
}) refl n c

came_count : (s : State) (r : Return) (x : Question) (e : ℕ) → s.level ≡ One → count e (came s r x) ≡ count e s + how_many (nat_eq e) (given (descriptors_of_body r.body))
came_count s r x e l = ap (λ (m : Map Import). import_count (map.get m e)) (tables.obeys (take_all s (descriptors_of_body r.body)) r.release_param_caps (numbers x.given)).imports ∙ took s (descriptors_of_body r.body) e l

brought_now : (s : State) (x : Question) (b : ReturnBody) → s.level ≡ One → Brought (Some (record x { returned = Some (results_of s b) }))
brought_now s x (body.Results payload ds) l = subst (λ (w : Level). nodes_there.Brought w (Some (record x { returned = Some (back.Results payload (read_beside s ds)) }))) l (brought_results s x payload ds)
brought_now s x (body.Exception exception) l = λ e. omega arith
brought_now s x body.Canceled l = λ e. omega arith

comes : (d first : Progress) (r : Return) (x : Question) → IsReady d.state → IsCovered d.state → ((e : ℕ) → map.get d.released e ≡ None) → map.get d.state.questions r.answer.0 ≡ Some x → x.returned ≡ None → (f : Finishing) → ComesTo d r x f first → Took (plain.Return r) d [] first
comes d first r x ready i n there unsaid f h = by f h
  where
    u : State
    u = came d.state r x

    same : tables.SameTables d.state (came d.state r x)
    same = heard.came_same d.state r x

    no_got : (e : ℕ) → got e x ≡ 0
    no_got e = ap (λ (o : Option Returned). how_many (nat_eq e) (got_of o)) unsaid

    gone : Took (plain.Return r) d [] (with_state d (record (came d.state r x) { questions = map.remove d.state.questions r.answer.0 }))
    gone = at_once d (with_state d (record (came d.state r x) { questions = map.remove d.state.questions r.answer.0 })) (plain.Return r) (record {
      cover = λ e.
          let g = i.cover e in
          let t = tally-split (got e) d.state.questions r.answer.0 x there in
          let c = came_count d.state r x e ready.level in
          let z : tally (kept e) (came d.state r x).answers ≡ tally (kept e) d.state.answers = ap (tally (kept e)) same.answers in
          omega (arith, g, t, c, z);
      brought = at_changed (λ o. Brought o) d.state.questions r.answer.0 None (map.remove d.state.questions r.answer.0) (get_cut d.state.questions r.answer.0) tt i.brought;
    }) refl n (λ e. came_count d.state r x e ready.level)

    y : Question
    y = record x { returned = Some (results_of d.state r.body) }

    stays : Took (plain.Return r) d [] (kept_returned (with_state d (came d.state r x)) r.answer.0 x (results_of d.state r.body))
    stays = at_once d (kept_returned (with_state d (came d.state r x)) r.answer.0 x (results_of d.state r.body)) (plain.Return r) (record {
      cover = λ e.
          let g = i.cover e in
          let t = tally-split (got e) d.state.questions r.answer.0 x there in
          let w = ap (λ (m : Map Question). tally (got e) (map.insert m r.answer.0 (record x { returned = Some (results_of d.state r.body) }))) same.questions ∙ tally-insert (got e) d.state.questions r.answer.0 (record x { returned = Some (results_of d.state r.body) }) in
          let b : how_many (nat_eq e) (got_of (Some (results_of d.state r.body))) ≡ how_many (nat_eq e) (given (descriptors_of_body r.body)) = ap (how_many (nat_eq e)) (heard.got_back d.state r.body) in
          let c = came_count d.state r x e ready.level in
          let z : tally (kept e) (came d.state r x).answers ≡ tally (kept e) d.state.answers = ap (tally (kept e)) same.answers in
          omega (arith, g, t, w, b, c, z);
      brought = at_changed (λ o. Brought o) d.state.questions r.answer.0 (Some (record x { returned = Some (results_of d.state r.body) })) (map.insert (came d.state r x).questions r.answer.0 (record x { returned = Some (results_of d.state r.body) })) (λ q. ap (λ (m : Map Question). map.get (map.insert m r.answer.0 (record x { returned = Some (results_of d.state r.body) })) q) same.questions ∙ get_put d.state.questions r.answer.0 (record x { returned = Some (results_of d.state r.body) }) q) (brought_now d.state x r.body ready.level) i.brought;
    }) refl n (λ e. came_count d.state r x e ready.level)

    by : (f : Finishing) → ComesTo d r x f first → Took (plain.Return r) d [] first
    by finishing.Sent h = subst (λ (p : Progress). Took (plain.Return r) d [] p) (sym h) gone
    by finishing.Owed h = subst (λ (p : Progress). Took (plain.Return r) d [] p) (sym h) stays
    by finishing.Waived h = subst (λ (p : Progress). Took (plain.Return r) d [] p) (sym h) stays

finished_tally : (e : ℕ) (m : Map AnswerEntry) (k : ℕ) (a : AnswerEntry) (o : Option (List ExportId)) → map.get m k ≡ Some a → a.returned ≡ o → tally (kept e) (finished_map m k a o) ≤ tally (kept e) m
finished_tally e m k a None h f = let g = tally-same (kept e) m k a (record a { finished = true }) h refl in omega (arith, g)
finished_tally e m k a (Some ids) h f = let g = tally-split (kept e) m k a h in omega (arith, g)

is_finished : (d first : Progress) (f : Finish) (a : AnswerEntry) → IsCovered d.state → ((e : ℕ) → map.get d.released e ≡ None) → map.get d.state.answers f.question.0 ≡ Some a → first ≡ with_state d (record (obey d.state f.release_result_caps (gave a.returned)) { answers = finished_map d.state.answers f.question.0 a a.returned }) → Took (plain.Finish f) d [] first
is_finished d first f a i n there h =
    let u = obey d.state f.release_result_caps (gave a.returned) in
    let t : State = record u { answers = finished_map d.state.answers f.question.0 a a.returned } in
    let same = (tables.obeys d.state f.release_result_caps (gave a.returned)).tables in
    let counts : (e : ℕ) → count e t ≡ count e d.state = λ (e : ℕ). ap (λ (m : Map Import). import_count (map.get m e)) (tables.obeys d.state f.release_result_caps (gave a.returned)).imports in
    subst (λ (p : Progress). Took (plain.Finish f) d [] p) (sym h)
    (at_once d (with_state d t) (plain.Finish f) (record {
      cover = λ e.
          let g = i.cover e in
          let k = finished_tally e d.state.answers f.question.0 a a.returned there refl in
          let c = counts e in
          let z : tally (got e) u.questions ≡ tally (got e) d.state.questions = ap (tally (got e)) same.questions in
          omega (arith, g, k, c, z);
      brought = λ q. subst (λ (w : Map Question). Brought (map.get w q)) (sym same.questions) (i.brought q);
    }) refl n (λ e. let c = counts e in omega (arith, c)))

resolved_count : (s : State) (k : ℕ) (said : Resolution) (o : Option Import) (e : ℕ) → count e (resolve_import s k said o) ≡ count e s
resolved_count s k said None e = refl
resolved_count s k said (Some x) e = by (map.get s.imports k) refl
  where
    by : (o : Option Import) → map.get s.imports k ≡ o → import_count (map.get (updated s.imports k (set_resolution said) o) e) ≡ count e s
    by None f = refl
    by (Some y) f = ap import_count (get_put s.imports k (set_resolution said y) e) ∙ here (nat_eq e k) refl
      where
        here : (b : Bool) → nat_eq e k ≡ b → import_count (cond b (Some (set_resolution said y)) (map.get s.imports e)) ≡ count e s
        here false g = refl
        here true g = sym (ap (λ (j : ℕ). import_count (map.get s.imports j)) (equal e k g) ∙ ap import_count f)

is_resolved : (d : Progress) (k : ℕ) (to : ResolvedTo) (m : PlainMessage) → IsReady d.state → IsCovered d.state → ((e : ℕ) → map.get d.released e ≡ None) → ((e : ℕ) → count e (take_resolve d.state k to) ≡ count e d.state + how_many (nat_eq e) (given (descriptors_of_plain m))) → Took m d [] (with_state d (take_resolve d.state k to))
is_resolved d k to m ready i n c =
    let same = tables.takes_resolve d.state k to in
    at_once d (with_state d (take_resolve d.state k to)) m (record {
      cover = λ e.
          let g = i.cover e in
          let h = c e in
          let x : tally (got e) (take_resolve d.state k to).questions ≡ tally (got e) d.state.questions = ap (tally (got e)) same.questions in
          let y : tally (kept e) (take_resolve d.state k to).answers ≡ tally (kept e) d.state.answers = ap (tally (kept e)) same.answers in
          omega (arith, g, h, x, y);
      brought = λ q. subst (λ (w : Map Question). Brought (map.get w q)) (sym same.questions) (i.brought q);
    }) refl n c

resolve_counts : (d : Progress) (r : Resolve) (to : ResolvedTo) → d.state.level ≡ One → (e : ℕ) → count e (take_resolve d.state r.promise.0 to) ≡ count e d.state + how_many (nat_eq e) (given (descriptors_of_plain (plain.Resolve (record r { to = to }))))
resolve_counts d r (resolved.Cap x) l e =
    let one = resolved_count (take_all d.state (x ∷ [])) r.promise.0 (resolution.To x (read d.state x)) (map.get d.state.imports r.promise.0) e in
    let two = took d.state (x ∷ []) e l in
    omega (arith, one, two)
resolve_counts d r (resolved.Exception x) l e =
    let one = resolved_count d.state r.promise.0 (resolution.Exception x) (map.get d.state.imports r.promise.0) e in
    omega (arith, one)

turned : (d first : Progress) (x : Disembargo) (c : DisembargoContext) → IsCovered d.state → ((e : ℕ) → map.get d.released e ≡ None) → (h : TurnsBy d c first) → Took (plain.Disembargo x) d (turned_sent d first c h) first
turned d first x (SenderLoopback e) i n h = record {
  mid = d.state;
  counts = λ e. omega arith;
  paid = subst (λ (p : Progress). Paid d (bounce_sent d first e h) p) (sym h.1) (other d _ (plain.Disembargo (record { target = h.0; context = ReceiverLoopback e })) (λ e. refl) i (λ e. inl (n e)) (untouched d.state) refl);
}
turned d first x (ReceiverLoopback e) i n h = subst (λ (p : Progress). Took (plain.Disembargo x) d [] p) (sym h.2) (at_once d _ (plain.Disembargo x) (covered_still d.state _ (record { questions = refl; answers = refl; imports = refl }) i) refl n (λ e. omega arith))

pub took_one : (m : PlainMessage) (d first : Progress) → IsReady d.state → IsCovered d.state → ((e : ℕ) → map.get d.released e ≡ None) → IsUseful m → (h : Consumes m d first) → Took m d (sent_at_once d first m h) first
took_one (plain.Abort x) d first r i n k h = absurd h
took_one (plain.Bootstrap q) d first r i n k h = subst (λ (p : Progress). Took (plain.Bootstrap q) d [] p) (sym h.3) (opens d d.state (plain.Bootstrap q) q.0 h.0 i n refl refl h.1 (λ e. omega arith))
took_one (plain.Call c) d first r i n k h =
    let s = take_all d.state c.descriptors in
    let same = tables.takes d.state c.descriptors in
    let e = h.3 ∙ ap (λ (ids : Ids). with_state d (opened s c.question.0 h.0 ids)) (heard.taken_is d.state c.descriptors r.level) in
    subst (λ (p : Progress). Took (plain.Call c) d [] p) (sym e) (opens d s (plain.Call c) c.question.0 h.0 i n same.questions same.answers h.1 (λ e. took d.state c.descriptors e r.level))
took_one (plain.Return r) d first ready i n k h = let x = h.0 in comes d first r x ready i n h.1 h.2 x.finish h.3
took_one (plain.Finish f) d first r i n k h = is_finished d first f h.0 i n h.1 h.3
took_one (plain.Resolve r) d first ready i n k h = subst (λ (p : Progress). Took (plain.Resolve r) d [] p) (sym h) (is_resolved d r.promise.0 r.to (plain.Resolve r) ready i n (resolve_counts d r r.to ready.level))
took_one (plain.Release x) d first r i n k h = subst (λ (p : Progress). Took (plain.Release x) d [] p) (sym h) (at_once d _ (plain.Release x) (covered_still d.state _ (record { questions = refl; answers = refl; imports = refl }) i) refl n (λ e. omega arith))
took_one (plain.Disembargo x) d first r i n k h = turned d first x x.context i n h
took_one (plain.Other x) d first r i n k h = absurd k

-- ---- Steps

pub balanced : (s : State) (last : Progress) (t : State) (u : State) (sent : List Noted) → Paid (with_state (begin s) u) sent last → t ≡ last.state → last.released ≡ map.empty → (k : ℕ) → count k t + letting k sent ≡ count k u
balanced s last t u sent p f g k =
    let b = p.balance k in
    let z : pending k last ≡ 0 = ap (λ (m : Map ℕ). worth (λ n. n) (map.get m k)) g ∙ ap (worth (λ n. n)) (map.get-empty nat_cmp k) in
    let y : pending k (begin s) ≡ 0 = ap (worth (λ n. n)) (map.get-empty nat_cmp k) in
    let c : count k t ≡ count k last.state = ap (count k) f in
    omega (arith, b, z, y, c)
