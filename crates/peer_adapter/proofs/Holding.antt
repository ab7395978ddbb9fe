-- Refusals and names change nothing of what is held of tail calls.
use Rattle.std.proofs.Common.{true, false, [], Some, None, Result, Ok, Err, arith}
use Rattle.std.specs.Prelude.{Option, Bool, ◌||◌, cond, nat_le, IfOk}
use Rattle.std.specs.FinMap as finite
use Rattle.rpc_msg.specs.declared.ids.QuestionId.{QuestionId}
use Rattle.rpc_msg.specs.declared.message.Finish.{Finish}
use Rattle.rpc_msg.specs.declared.message.Resolve.{Resolve}
use Rattle.rpc_msg.specs.declared.message.PlainMessage.{PlainMessage}
use Rattle.rpc_msg.specs.declared.message.PlainMessage.TheVariants as plain
use Rattle.rpc_msg.specs.declared.message.Message.{Message}
use Rattle.rpc_msg.specs.declared.message.Message.TheVariants as message
use Rattle.rpc_codec.specs.declared.envelope.TakenFromOther.{TakenFromOther}
use Rattle.rpc_codec.specs.Envelopes.{What, profile, tail_call, sent_elsewhere, taken_from_other, strange}
use Rattle.peer_overload.specs.declared.errors.OverloadFault.{OverloadFault}
use Rattle.peer_overload.specs.declared.errors.OverloadFault.TheVariants.{QuestionInUse, TooManyRefused}
use Rattle.peer_overload.specs.declared.refusals.Refusal.{Refusal}
use Rattle.peer_overload.specs.declared.refusals.Refusal.TheVariants as refusal
use Rattle.peer_overload.specs.Overloading.{Overloading, Outcome, admitted, refused, refused_tail, nothing}
use Rattle.peer_overload.specs.Overloading as overload
use Rattle.peer_kinds.specs.Kinds as kinds
use Rattle.peer_finishes.specs.declared.questions.Awaited.{Awaited}
use Rattle.peer_finishes.specs.declared.questions.Awaited.TheVariants.{Asked, Finished}
use Rattle.peer_finishes.specs.Finishing as finishes
use Rattle.peer_broken.specs.Naming.{Naming}
use Rattle.peer_broken.specs.Naming as names
use Rattle.peer_tail_calls.specs.declared.errors.AdapterFault.{AdapterFault}
use Rattle.peer_tail_calls.specs.Held as held
use Rattle.peer_tail_calls.specs.Adapting.{Adapting}
use Rattle.peer_tail_calls.specs.Adapting as tails
use Rattle.peer_tail_calls.specs.Laws as tail_laws
use Rattle.peer_adapter.specs.declared.errors.PeerFault.{PeerFault}
use Rattle.peer_adapter.specs.Peering.{Coming, Going, Peering, Tables, admits, admits_by, comes, finished_by, goes, goes_by, heard_by, hears, kinds_by}
use Rattle.peer_adapter.specs.Laws.{tails_come, tails_go}

-- It is a new tail call where what came is one.
abbrev NewAs : What → Adapting → What → Type 0
NewAs w s v = tail_laws.IsNew s w → tail_laws.IsNew s v

abbrev NewOutcome : What → Adapting → Outcome → Type 0
NewOutcome w s (admitted v) = NewAs w s v
NewOutcome w s (refused q) = Unit {0}
NewOutcome w s (refused_tail q) = Unit {0}
NewOutcome w s nothing = Unit {0}

module _ (h : held.Held) (turned : tail_laws.CountsOnce) (t : Tables) (w : What) where
  abbrev Once : Peering → Coming → Type 0
  Once s c = tail_laws.CameOnce h s.tails w (tails_come c)

  held_by : (s : Peering) (n : names.Coming) (r : Result tails.Coming AdapterFault) → NewAs w s.tails n.came
      → IfOk r (λ (c : tails.Coming). tail_laws.CameOnce h s.tails n.came c) → IfOk (heard_by (record s { names = n.state }) n.given_back r) (λ (c : Coming). Once s c)
  held_by s n (Err f) new once = tt
  held_by s n (Ok c) new once = record { counts = once.counts; flags = once.flags; agrees = λ is. once.agrees (new is) }

  abbrev NewKind : Peering → kinds.Outcome → Type 0
  NewKind s (kinds.heard v) = NewAs w s.tails v
  NewKind s (kinds.set_aside given) = Unit {0}

  resolve_new : (s : Peering) (r : Resolve) (b : Bool) → NewKind s (cond b (kinds.set_aside (kinds.given_to r.to)) (kinds.hears t.standing (profile (message.Plain (plain.Resolve r)))))
  resolve_new s r true = tt
  resolve_new s r false = λ is. tt

  plain_new : (s : Peering) (m : PlainMessage) → NewKind s (kinds.comes t.standing (profile (message.Plain m)))
  plain_new s (plain.Resolve r) = resolve_new s r (kinds.is_hosted (t.standing r.promise))
  plain_new s (plain.Abort x) = λ is. tt
  plain_new s (plain.Bootstrap q) = λ is. tt
  plain_new s (plain.Call c) = λ is. tt
  plain_new s (plain.Return r) = λ is. tt
  plain_new s (plain.Finish f) = λ is. tt
  plain_new s (plain.Release r) = λ is. tt
  plain_new s (plain.Disembargo d) = λ is. tt
  plain_new s (plain.Other n) = λ is. tt

  -- A kind leaves the id of a tail call.
  kind_new : (s : Peering) (v : What) → NewAs w s.tails v → NewKind s (kinds.comes t.standing v)
  kind_new s (profile (message.Plain m)) new = plain_new s m
  kind_new s (profile (message.Unimplemented m)) new = λ is. tt
  kind_new s (tail_call x) new = new
  kind_new s (sent_elsewhere x) new = λ is. tt
  kind_new s (taken_from_other x) new = λ is. tt
  kind_new s (strange n original) new = λ is. tt

  -- A name leaves it too.
  named_new : (s : Peering) (v : What) → NewAs w s.tails v → NewAs w s.tails (names.comes t.broken t.finished s.names v).came
  named_new s (profile m) new is = tt
  named_new s (tail_call x) new is = new is
  named_new s (sent_elsewhere x) new is = tt
  named_new s (taken_from_other x) new is = tt
  named_new s (strange n original) new is = tt

  -- The vat hears nothing.
  nothing_held : (s : Peering) → held.Agrees h s.tails → tail_laws.CameOnce h s.tails w (tails.hears s.tails [])
  nothing_held s agrees = record { counts = λ e. omega arith; flags = tt; agrees = λ is. agrees }

  kinds_held : (s : Peering) (o : kinds.Outcome) → held.Agrees h s.tails → NewKind s o → IfOk (kinds_by t s o) (λ (c : Coming). Once s c)
  kinds_held s (kinds.heard v) agrees new =
      held_by s (names.comes t.broken t.finished s.names v) (tails.comes s.tails (names.comes t.broken t.finished s.names v).came) (named_new s v new)
      (turned.came h s.tails (names.comes t.broken t.finished s.names v).came agrees)
  kinds_held s (kinds.set_aside given) agrees new = nothing_held s agrees

  outcome_held : (s : Peering) (x : Outcome) → held.Agrees h s.tails → NewOutcome w s.tails x → IfOk (admits t s x) (λ (c : Coming). Once s c)
  outcome_held s (admitted v) agrees new = kinds_held s (kinds.comes t.standing v) agrees (kind_new s v new)
  outcome_held s (refused q) agrees new = nothing_held s agrees
  outcome_held s (refused_tail q) agrees new = nothing_held s agrees
  outcome_held s nothing agrees new = nothing_held s agrees

  result_held : (s : Peering) (r : Result overload.Coming OverloadFault) → held.Agrees h s.tails → IfOk r (λ (c : overload.Coming). NewOutcome w s.tails c.outcome)
      → IfOk (admits_by t s r) (λ (c : Coming). Once s c)
  result_held s (Err f) agrees new = tt
  result_held s (Ok c) agrees new = outcome_held (record s { overload = c.state }) c.outcome agrees new

  behind_held : (s : Peering) (o : Option Finish) (r : Result Coming PeerFault) → IfOk r (λ (c : Coming). Once s c) → IfOk (finished_by o r) (λ (c : Coming). Once s c)
  behind_held s o (Err f) once = tt
  behind_held s o (Ok c) once = once

  pub all_held : (s : Peering) → held.Agrees h s.tails → IfOk (overload.comes s.overload t.is_full w) (λ (c : overload.Coming). NewOutcome w s.tails c.outcome) → IfOk (comes t s w) (λ (c : Coming). Once s c)
  all_held s agrees new =
      let then : Peering = record s { finishes = (finishes.comes s.finishes w).state } in
      behind_held s (finishes.comes s.finishes w).told (hears t then w) (result_held then (overload.comes s.overload t.is_full w) agrees new)

-- What goes holds as much where a Finish is held back.
module _ (h : held.Held) (turned : tail_laws.CountsOnce) (s : Peering) (agrees : held.Agrees h s.tails) where
  abbrev GoesOnce : Message → Going → Type 0
  GoesOnce m g = tail_laws.WentOnce h s.tails m (tails_go g)

  finish_held : (f : Finish) (o : Option Awaited) → GoesOnce (message.Plain (plain.Finish f)) (goes_by s (finishes.finishes s.finishes f o))
  finish_held f None = turned.went h s.tails (message.Plain (plain.Finish f)) agrees
  finish_held f (Some (Finished flag)) = turned.went h s.tails (message.Plain (plain.Finish f)) agrees
  finish_held f (Some Asked) = let w = turned.went h s.tails (message.Plain (plain.Finish f)) agrees in record { counts = w.counts; flags = w.flags; agrees = w.agrees }

  plain_held : (m : PlainMessage) → GoesOnce (message.Plain m) (goes s (message.Plain m))
  plain_held (plain.Finish f) = finish_held f (finite.get s.finishes.awaited f.question.0)
  plain_held (plain.Abort x) = turned.went h s.tails (message.Plain (plain.Abort x)) agrees
  plain_held (plain.Bootstrap q) = turned.went h s.tails (message.Plain (plain.Bootstrap q)) agrees
  plain_held (plain.Call c) = turned.went h s.tails (message.Plain (plain.Call c)) agrees
  plain_held (plain.Return r) = turned.went h s.tails (message.Plain (plain.Return r)) agrees
  plain_held (plain.Resolve r) = turned.went h s.tails (message.Plain (plain.Resolve r)) agrees
  plain_held (plain.Release r) = turned.went h s.tails (message.Plain (plain.Release r)) agrees
  plain_held (plain.Disembargo d) = turned.went h s.tails (message.Plain (plain.Disembargo d)) agrees
  plain_held (plain.Other n) = turned.went h s.tails (message.Plain (plain.Other n)) agrees

  pub went_held : (m : Message) → GoesOnce m (goes s m)
  went_held (message.Plain m) = plain_held m
  went_held (message.Unimplemented m) = turned.went h s.tails (message.Unimplemented m) agrees

-- The id of a tail call that is admitted is that of the one that came.
module _ (s : Adapting) (o : Overloading) where
  if_admitted : (w v : What) (q : QuestionId) (r : Refusal) (in_use over full : Bool) → (tail_laws.IsNew s w → tail_laws.IsNew s v)
      → IfOk (cond in_use (Err QuestionInUse) (cond over (cond full (Err TooManyRefused) (Ok (record { state = overload.with_refusal o q r; outcome = overload.told q r }))) (Ok (overload.admits o v)))) (λ (c : overload.Coming). NewOutcome w s c.outcome)
  if_admitted w v q r true over full new = tt
  if_admitted w v q r false true true new = tt
  if_admitted w v q refusal.Plain false true false new = tt
  if_admitted w v q refusal.Tail false true false new = tt
  if_admitted w v q refusal.TakenTail false true false new = tt
  if_admitted w v q r false false full new = new

  new_finish : (f : Finish) (b : Bool) → NewOutcome (profile (message.Plain (plain.Finish f))) s (overload.finishes o f b).outcome
  new_finish f true = tt
  new_finish f false = λ is. tt

  new_take : (x : TakenFromOther) (r : Option Refusal) → NewOutcome (taken_from_other x) s (overload.takes o x r).outcome
  new_take x (Some refusal.Tail) = λ is. tt
  new_take x (Some refusal.Plain) = λ is. tt
  new_take x (Some refusal.TakenTail) = λ is. tt
  new_take x None = λ is. tt

  new_plain : (is_full : Bool) (m : PlainMessage) → IfOk (overload.comes o is_full (profile (message.Plain m))) (λ (c : overload.Coming). NewOutcome (profile (message.Plain m)) s c.outcome)
  new_plain is_full (plain.Bootstrap q) = if_admitted (profile (message.Plain (plain.Bootstrap q))) (profile (message.Plain (plain.Bootstrap q))) q refusal.Plain (overload.is_refused o q) is_full (nat_le 65536 (finite.len o)) (λ is. tt)
  new_plain is_full (plain.Call c) =
      if_admitted (profile (message.Plain (plain.Call c))) (profile (message.Plain (plain.Call (overload.cleared_call o c)))) c.question refusal.Plain (overload.is_refused o c.question) (is_full || overload.goes_to_refused o c.target) (nat_le 65536 (finite.len o)) (λ is. tt)
  new_plain is_full (plain.Finish f) = new_finish f (overload.is_refused o f.question)
  new_plain is_full (plain.Return r) = λ is. tt
  new_plain is_full (plain.Resolve r) = λ is. tt
  new_plain is_full (plain.Abort x) = λ is. tt
  new_plain is_full (plain.Release r) = λ is. tt
  new_plain is_full (plain.Disembargo d) = λ is. tt
  new_plain is_full (plain.Other n) = λ is. tt

  pub new_admitted : (is_full : Bool) (w : What) → IfOk (overload.comes o is_full w) (λ (c : overload.Coming). NewOutcome w s c.outcome)
  new_admitted is_full (profile (message.Plain m)) = new_plain is_full m
  new_admitted is_full (profile (message.Unimplemented m)) = λ is. tt
  new_admitted is_full (tail_call c) =
      if_admitted (tail_call c) (tail_call (overload.cleared_call o c)) c.question refusal.Tail (overload.is_refused o c.question) (is_full || overload.goes_to_refused o c.target) (nat_le 65536 (finite.len o)) (λ is. is)
  new_admitted is_full (sent_elsewhere x) = λ is. tt
  new_admitted is_full (taken_from_other x) = new_take x (finite.get o x.question.0)
  new_admitted is_full (strange n original) = λ is. tt
