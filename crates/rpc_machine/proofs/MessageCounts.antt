-- The count of an export, over a received message: it rises by the descriptors that are sent, and falls by what the
-- message takes off.
use Rattle.std.proofs.Common.{subst, ◌≡◌, ◌+◌, ◌-◌, ◌||◌, cond, nat_eq, nat_lt, is_some, ◌∙◌, sym, ap, ℕ, ◌≤◌, Bool, true, false, List, [], ◌∷◌, Option, None, Some, refl, arith}
use Rattle.std.specs.FinMap as map
use Rattle.rpc_journal.specs.rpc_msg.specs.declared.ids.EmbargoId.{EmbargoId}
use Rattle.rpc_journal.specs.rpc_msg.specs.declared.parts.Descriptor.{Descriptor}
use Rattle.rpc_journal.specs.rpc_msg.specs.declared.parts.Descriptor.TheVariants as descriptor
use Rattle.rpc_journal.specs.rpc_msg.specs.declared.parts.Target.{Target}
use Rattle.rpc_journal.specs.rpc_msg.specs.declared.message.DisembargoContext.{DisembargoContext}
use Rattle.rpc_journal.specs.rpc_msg.specs.declared.message.DisembargoContext.TheVariants.{SenderLoopback, ReceiverLoopback}
use Rattle.rpc_journal.specs.rpc_msg.specs.declared.message.ResolvedTo.{ResolvedTo}
use Rattle.rpc_journal.specs.rpc_msg.specs.declared.message.ResolvedTo.TheVariants as resolved
use Rattle.rpc_journal.specs.rpc_msg.specs.declared.message.Call.{Call}
use Rattle.rpc_journal.specs.rpc_msg.specs.declared.message.Return.{Return}
use Rattle.rpc_journal.specs.rpc_msg.specs.declared.message.PlainMessage.{PlainMessage}
use Rattle.rpc_journal.specs.rpc_msg.specs.declared.message.PlainMessage.TheVariants as plain
use Rattle.rpc_journal.specs.rpc_msg.specs.declared.message.Message.TheVariants as message
use Rattle.rpc_journal.specs.rpc_msg.specs.Messages.{descriptors_of_body}
use Rattle.rpc_machine.specs.declared.command.Level.{Level}
use Rattle.rpc_machine.specs.declared.command.Level.TheVariants.{Zero, One}
use Rattle.rpc_machine.specs.declared.command.Effects.{Effects}
use Rattle.rpc_machine.specs.declared.calls.WaitingCall.{WaitingCall}
use Rattle.rpc_machine.specs.declared.entries.Role.{Role}
use Rattle.rpc_machine.specs.declared.entries.Role.TheVariants as role
use Rattle.rpc_machine.specs.declared.entries.Finishing.{Finishing}
use Rattle.rpc_machine.specs.declared.entries.Finishing.TheVariants as finishing
use Rattle.rpc_machine.specs.declared.entries.Returned.{Returned}
use Rattle.rpc_machine.specs.declared.calls.Value.{Value}
use Rattle.rpc_machine.specs.declared.calls.OwnCall.{OwnCall}
use Rattle.rpc_machine.specs.declared.entries.Question.{Question}
use Rattle.rpc_machine.specs.declared.entries.AnswerEntry.{AnswerEntry}
use Rattle.rpc_machine.specs.declared.entries.Import.{Import}
use Rattle.rpc_machine.specs.declared.entries.Resolution.{Resolution}
use Rattle.rpc_machine.specs.declared.entries.Embargo.{Embargo}
use Rattle.rpc_machine.specs.State.{State}
use Rattle.rpc_machine.specs.Progress.{Progress, with_state, caps_of, numbers}
use Rattle.rpc_machine.specs.Descriptors.{taken_of, take_one, take_each, take_at, take_all}
use Rattle.rpc_machine.specs.Settling.{TellsCall}
use Rattle.rpc_machine.specs.Messages.{opened, received_request, ComesFor, ComesBack, TakesReturn, TakesFinish, resolve_import, take_resolve, Bounces, Lifts, TakesDisembargo, TakesPlain, TakesUnless}
use Rattle.rpc_machine.specs.Flags.{obey}
use Rattle.rpc_machine.specs.Faults.{target_node, is_foreign}
use Rattle.rpc_machine.specs.Steps.{Handles}
use Rattle.rpc_journal.specs.History.{if_so}
use Rattle.rpc_machine.specs.Lists.{how_many, earliest}
use Rattle.rpc_machine.specs.Progress.{begin, echo}
use Rattle.rpc_machine.specs.Descriptors.{giving}
use Rattle.rpc_machine.specs.Flags.{lower_by}
use Rattle.rpc_machine.specs.Faults.{flag_fault, return_fault, body_fault, finish_fault, release_fault, gave, fault_of, unless_foreign, plain_fault}
use Rattle.rpc_machine.specs.declared.entries.Export.{Export}
use Rattle.rpc_machine.specs.Limits.{export_count}
use Rattle.rpc_machine.specs.UnderWay.{takes_off, call_gave, return_gave, if_true, plain_takes}
use Rattle.rpc_machine.proofs.ExportCounts.{count, Balanced, same, sends, routes, routes_all, refs_count, settles}
use Rattle.rpc_machine.proofs.Lowering.{obey_count, lower_by_count, no_fault, or_no}
use Rattle.rpc_machine.proofs.StepCounts.{ends}
use Rattle.finite_maps.proofs.Tested.{equal}

few : (n c : ℕ) → nat_lt c n ≡ false → n ≤ c
few n c h = grind (arith)

module _ (e : ℕ) where
  take_one_same : (s : State) (d : Descriptor) → count e (take_one s d) ≡ count e s
  take_one_same s descriptor.None = refl
  take_one_same s (descriptor.SenderHosted k) = refl
  take_one_same s (descriptor.SenderPromise k) = refl
  take_one_same s (descriptor.ReceiverHosted k) = refl
  take_one_same s (descriptor.ReceiverAnswer q path) = refl

  take_each_same : (s : State) (ds : List Descriptor) → count e (take_each s ds) ≡ count e s
  take_each_same s [] = refl
  take_each_same s (d ∷ ds) = take_each_same (take_one s d) ds ∙ take_one_same s d

  take_at_same : (l : Level) (s : State) (ds : List Descriptor) → count e (take_at l s ds) ≡ count e s
  take_at_same Zero s ds = refl
  take_at_same One s ds = take_each_same s ds

  -- The flag's check does not look at imports.
  take_at_flag : (l : Level) (s : State) (ds : List Descriptor) (flag : Bool) (ids : List ℕ) → flag_fault s flag ids ≡ None → flag_fault (take_at l s ds) flag ids ≡ None
  take_at_flag Zero s ds flag ids h = h
  take_at_flag One s [] flag ids h = h
  take_at_flag One s (descriptor.None ∷ ds) flag ids h = take_at_flag One s ds flag ids h
  take_at_flag One s (descriptor.SenderHosted k ∷ ds) flag ids h = take_at_flag One (take_one s (descriptor.SenderHosted k)) ds flag ids (off flag h)
    where
      off : (b : Bool) → flag_fault s b ids ≡ None → flag_fault (take_one s (descriptor.SenderHosted k)) b ids ≡ None
      off true h = h
      off false h = refl
  take_at_flag One s (descriptor.SenderPromise k ∷ ds) flag ids h = take_at_flag One (take_one s (descriptor.SenderPromise k)) ds flag ids (off flag h)
    where
      off : (b : Bool) → flag_fault s b ids ≡ None → flag_fault (take_one s (descriptor.SenderPromise k)) b ids ≡ None
      off true h = h
      off false h = refl
  take_at_flag One s (descriptor.ReceiverHosted k ∷ ds) flag ids h = take_at_flag One s ds flag ids h
  take_at_flag One s (descriptor.ReceiverAnswer q path ∷ ds) flag ids h = take_at_flag One s ds flag ids h

  if_flag : (flag : Bool) (ids : List ℕ) → if_true flag ids ≡ cond flag ids []
  if_flag true ids = refl
  if_flag false ids = refl

  -- ---- Return

  tells_call : (d : Progress) (c : ℕ) (v : Value) (o : Option OwnCall) (new : Progress) → TellsCall d c v o new → Balanced e d new
  tells_call d c v None new h = rw h (same e d)
  tells_call d c v (Some from) new h = rw h (ap (λ k. k + giving e d.effects.sends) (refs_count d.state (caps_of v) e))

  comes_for : (d : Progress) (r : Role) (v : Value) (new : Progress) → ComesFor d r v new → Balanced e d new
  comes_for d (role.Relay o) v new h = rw h (same e d)
  comes_for d (role.Direct c) v new h = tells_call d c.0 v _ new h

  comes_back : (d : Progress) (q : ℕ) (x : Question) (said : Returned) (f : Finishing) (new : Progress) → ComesBack d q x said f new → Balanced e d new
  comes_back d q x said finishing.Sent new h = rw h (same e d)
  comes_back d q x said finishing.Owed new h = comes_for _ x.role _ new h
  comes_back d q x said finishing.Waived new h = comes_for _ x.role _ new h

  -- The last of three checks.
  third : (a b c : Option ℕ) → earliest (a ∷ b ∷ c ∷ []) ≡ None → c ≡ None
  third None None None h = refl
  third None None (Some n) h = cc
  third None (Some n) c h = cc
  third (Some n) b c h = cc

  second : (a b : Option ℕ) → earliest (a ∷ b ∷ []) ≡ None → b ≡ None
  second None None h = refl
  second None (Some n) h = cc
  second (Some n) b h = cc

  -- A state whose count is lower by what was taken, and a step from it.
  lower_then : (d : Progress) (s : State) (k : ℕ) (new : Progress) → count e s + k ≡ count e d.state → Balanced e (with_state d s) new → (count e new.state + k) + giving e d.effects.sends ≡ count e d.state + giving e new.effects.sends
  lower_then d s k new h b =
      let c : count e new.state + giving e d.effects.sends ≡ count e s + giving e new.effects.sends = b in
      omega arith

  abbrev Lowers : Progress → ℕ → Progress → Type 0
  Lowers d k new = (count e new.state + k) + giving e d.effects.sends ≡ count e d.state + giving e new.effects.sends

  still : (d new : Progress) → Balanced e d new → Lowers d 0 new
  still d new b = let c : count e new.state + giving e d.effects.sends ≡ count e d.state + giving e new.effects.sends = b in omega arith

  takes_return : (d : Progress) (r : Return) (o : Option Question) (new : Progress) → return_fault d.state r.release_param_caps r.body o ≡ None → TakesReturn d r o new → Lowers d (how_many (nat_eq e) (if_true r.release_param_caps (call_gave o))) new
  takes_return d r None new f h = absurd h
  takes_return d r (Some x) new f h =
      let ds = descriptors_of_body r.body in
      let ids = numbers x.given in
      let flag = r.release_param_caps in
      let t = take_all d.state ds in
      let a = third (if_so (is_some x.returned) 21) (body_fault d.state r.body) (flag_fault d.state flag ids) f in
      let b : count e (obey t flag ids) + how_many (nat_eq e) (cond flag ids []) ≡ count e t = obey_count t flag ids e (take_at_flag d.state.level d.state ds flag ids a) in
      let c : count e t ≡ count e d.state = take_at_same d.state.level d.state ds in
      rw (if_flag flag ids) (lower_then d (obey t flag ids) _ new (b ∙ c) (comes_back _ r.answer.0 x _ x.finish new h))

  takes_finish : (d : Progress) (q : ℕ) (flag : Bool) (o : Option AnswerEntry) (new : Progress) → finish_fault d.state flag o ≡ None → TakesFinish d q flag o new → Lowers d (how_many (nat_eq e) (if_true flag (return_gave o))) new
  takes_finish d q flag None new f h = absurd h
  takes_finish d q flag (Some a) new f h =
      let ids = gave a.returned in
      let b = obey_count d.state flag ids e (second (if_so a.finished 23) (flag_fault d.state flag ids) f) in
      rw (if_flag flag ids) (lower_then d (obey d.state flag ids) _ new b (rw h refl))

  -- ---- Release, Resolve, Disembargo

  releases : (d : Progress) (k n : ℕ) (new : Progress) → release_fault n (map.get d.state.exports k) ≡ None → new ≡ with_state d (record (d.state) { exports = lower_by d.state.exports k n }) → Lowers d (cond (nat_eq e k) n 0) new
  releases d k n new f h =
      let t : State = record (d.state) { exports = lower_by d.state.exports k n } in
      let a : count e t ≡ count e d.state - cond (nat_eq e k) n 0 = lower_by_count d.state.exports k n e in
      let b : count e t + cond (nat_eq e k) n 0 ≡ count e d.state = by (nat_eq e k) refl a in
      lower_then d t (cond (nat_eq e k) n 0) new b (rw h refl)
    where
      there : (o : Option Export) → map.get d.state.exports k ≡ o → release_fault n o ≡ None → n ≤ count k d.state
      there None g f = cc
      there (Some x) g f =
          let c = or_no (nat_eq n 0) (nat_lt x.count n) (no_fault (nat_eq n 0 || nat_lt x.count n) 24 f) in
          let i : n ≤ x.count = few n x.count c.1 in
          let j : count k d.state ≡ x.count = ap export_count g in
          omega arith

      by : (b : Bool) → nat_eq e k ≡ b → count e (record (d.state) { exports = lower_by d.state.exports k n }) ≡ count e d.state - cond b n 0 → count e (record (d.state) { exports = lower_by d.state.exports k n }) + cond b n 0 ≡ count e d.state
      by true t a =
          let i : n ≤ count e d.state = subst (λ j. n ≤ count j d.state) (sym (equal e k t)) (there (map.get d.state.exports k) refl f) in
          omega arith
      by false t a = omega arith

  resolved_same : (s : State) (k : ℕ) (said : Resolution) (o : Option Import) → count e (resolve_import s k said o) ≡ count e s
  resolved_same s k said None = refl
  resolved_same s k said (Some x) = refl

  take_resolve_same : (s : State) (k : ℕ) (to : ResolvedTo) → count e (take_resolve s k to) ≡ count e s
  take_resolve_same s k (resolved.Exception x) = resolved_same s k _ (map.get s.imports k)
  take_resolve_same s k (resolved.Cap d) = resolved_same (take_all s (d ∷ [])) k _ (map.get s.imports k) ∙ take_at_same s.level s (d ∷ [])

  bounces : (d : Progress) (x : EmbargoId) (t : Option Target) (new : Progress) → Bounces d x t new → Balanced e d new
  bounces d x None new h = absurd h
  bounces d x (Some t) new h = rw h (sends e d.state d.state d.effects.sends _ (omega arith))

  lifts : (d : Progress) (k : ℕ) (o : Option Embargo) (new : Progress) → Lifts d k o new → Balanced e d new
  lifts d k None new h = absurd h
  lifts d k (Some b) new h = routes_all e _ b.waiting b.node new h

  disembargo : (d : Progress) (t : Target) (c : DisembargoContext) (new : Progress) → TakesDisembargo d t c new → Balanced e d new
  disembargo d t (SenderLoopback x) new h = bounces d x _ new h
  disembargo d t (ReceiverLoopback x) new h = lifts d x.0 _ new h

  takes_call : (d : Progress) (c : Call) (new : Progress) → TakesPlain d (plain.Call c) new → Balanced e d new
  takes_call d c new h =
      let s = take_all d.state c.descriptors in
      let w : WaitingCall = record { request = received_request d.state c; outcome = h.0 } in
      let a : count e s ≡ count e d.state = take_at_same d.state.level d.state c.descriptors in
      let b : count e new.state + giving e d.effects.sends ≡ count e s + giving e new.effects.sends = routes e (with_state d (opened s c.question.0 h.0 (taken_of d.state c.descriptors))) w (target_node d.state c.target) new h.2 in
      omega arith

  -- ---- All

  takes_plain : (d : Progress) (m : PlainMessage) (new : Progress) → plain_fault d.state m ≡ None → TakesPlain d m new → Lowers d (plain_takes d.state e m) new
  takes_plain d (plain.Abort x) new f h = absurd h
  takes_plain d (plain.Bootstrap q) new f h = still d new (settles e _ h.0 _ new h.2)
  takes_plain d (plain.Call c) new f h = still d new (takes_call d c new h)
  takes_plain d (plain.Return r) new f h = takes_return d r _ new f h
  takes_plain d (plain.Finish x) new f h = takes_finish d x.question.0 x.release_result_caps _ new f h
  takes_plain d (plain.Resolve r) new f h =
      let a = take_resolve_same d.state r.promise.0 r.to in
      rw h (still d (with_state d (take_resolve d.state r.promise.0 r.to)) (ap (λ k. k + giving e d.effects.sends) a))
  takes_plain d (plain.Release r) new f h = releases d r.export.0 r.count new f h
  takes_plain d (plain.Disembargo x) new f h = still d new (disembargo d x.target x.context new h)
  takes_plain d (plain.Other n) new f h = rw h (still d (echo d (plain.Other n)) (sends e d.state d.state d.effects.sends _ (omega arith)))

  unless : (b : Bool) (d : Progress) (m : PlainMessage) (new : Progress) → b ≡ false → unless_foreign b (plain_fault d.state m) ≡ None → TakesUnless b d m new → Lowers d (plain_takes d.state e m) new
  unless true d m new z f h = cc
  unless false d m new z f h = takes_plain d m new f h

  -- In a message's step the count of an export rises by what its sends give, and falls by what the message takes off.
  pub message_counts : (s : State) (m : PlainMessage) (x : Effects) (new : State) → is_foreign s.level m ≡ false → fault_of s (message.Plain m) ≡ None → Handles s (message.Plain m) x new → count e new + takes_off s e (message.Plain m) ≡ count e s + giving e x.sends
  message_counts s m x new z f h =
      let a : (count e h.taken.state + plain_takes s e m) + 0 ≡ count e s + giving e h.taken.effects.sends = unless (is_foreign s.level m) (begin s) m h.taken z f h.takes in
      let b = ends e h.taken x new h.ends in
      omega arith
