-- When a Finish goes (docs/messages.md, "Peers of other make").
--
-- In rpc.capnp each call has a Return, also where its Finish came first. A peer of another make sends none then. It sends one where it
-- hears of the Finish behind it.
use Rattle.std.specs.Prelude.{Option, Some, None, refl}
use Rattle.std.specs.FinMap as finite
use Rattle.std.specs.Coded.{Coded, code_by, coded×}
use Rattle.finite_maps.specs.Tally.{Map}
use Rattle.rpc_msg.specs.declared.ids.QuestionId.{QuestionId}
use Rattle.rpc_msg.specs.declared.message.Finish.{Finish}
use Rattle.rpc_msg.specs.declared.message.PlainMessage.{PlainMessage}
use Rattle.rpc_msg.specs.declared.message.PlainMessage.TheVariants as plain
use Rattle.rpc_msg.specs.declared.message.Message.{Message}
use Rattle.rpc_msg.specs.declared.message.Message.TheVariants as message
use Rattle.rpc_codec.specs.Envelopes.{What, profile, tail_call, sent_elsewhere, taken_from_other, strange}
use Rattle.peer_finishes.specs.contracts.held.Finishes as finishes_row
use Rattle.peer_finishes.specs.contracts.questions.Questions as questions_row
use Rattle.peer_finishes.specs.declared.held.Finishes.{Finishes}
use Rattle.peer_finishes.specs.declared.held.Finishes.TheVariants.{AtOnce, AfterReturn}
use Rattle.peer_finishes.specs.declared.questions.Awaited.{Awaited}
use Rattle.peer_finishes.specs.declared.questions.Awaited.TheVariants.{Asked, Finished}

-- Whether Finishes wait, and the questions of the vat that are open: those that were asked while Finishes waited, and whose Return
-- did not come.
pub record Finishing : Type 0 where
  pub finishes : Finishes
  pub awaited : Map Awaited

abbrev pub finishing_code : Coded Finishing
finishing_code = code_by (Finishes × Map Awaited) (coded× finishes_row.the_row.coded questions_row.the_row.coded) (λ s. (s.finishes, s.awaited)) (λ p. record { finishes = p.0; awaited = p.1 }) (λ _. refl)

-- No Finish waits, and no question is open.
abbrev pub fresh : Finishing
fresh = record { finishes = AtOnce; awaited = finite.empty }

abbrev pub with_open : Finishing → QuestionId → Awaited → Finishing
with_open s q a = record s { awaited = finite.insert s.awaited q.0 a }

abbrev pub without_open : Finishing → QuestionId → Finishing
without_open s q = record s { awaited = finite.remove s.awaited q.0 }

-- ---- what goes to the peer

-- What a message of the vat comes to: the state after it, and what is said to the peer.
pub record Going : Type 0 where
  pub state : Finishing
  pub said : Option Message

abbrev pub says : Finishing → PlainMessage → Going
says s m = record { state = s; said = Some (message.Plain m) }

abbrev pub asked_by : Finishes → Option Awaited → Finishing → QuestionId → Finishing
asked_by AtOnce was s q = s
asked_by AfterReturn (Some a) s q = s
asked_by AfterReturn None s q = with_open s q Asked

-- A question goes out: where Finishes wait, it is open from now on.
abbrev pub asked : Finishing → QuestionId → Finishing
asked s q = asked_by s.finishes (finite.get s.awaited q.0) s q

-- A Finish of a question goes: of an open one it is held back.
abbrev pub finishes : Finishing → Finish → Option Awaited → Going
finishes s f (Some Asked) = record { state = with_open s f.question (Finished f.release_result_caps); said = None }
finishes s f (Some (Finished flag)) = says s (plain.Finish f)
finishes s f None = says s (plain.Finish f)

abbrev pub goes_plain : Finishing → PlainMessage → Going
goes_plain s (plain.Bootstrap q) = says (asked s q) (plain.Bootstrap q)
goes_plain s (plain.Call c) = says (asked s c.question) (plain.Call c)
goes_plain s (plain.Finish f) = finishes s f (finite.get s.awaited f.question.0)
goes_plain s m = says s m

-- A message of the vat goes.
abbrev pub goes : Finishing → Message → Going
goes s (message.Plain m) = goes_plain s m
goes s (message.Unimplemented m) = record { state = s; said = Some (message.Unimplemented m) }

-- ---- what comes from the peer

-- What an envelope comes to: the state after it, and the Finish that the peer is told.
pub record Coming : Type 0 where
  pub state : Finishing
  pub told : Option Finish

abbrev pub finish_of : QuestionId → Option Awaited → Option Finish
finish_of q None = None
finish_of q (Some Asked) = None
finish_of q (Some (Finished flag)) = Some (record { question = q; release_result_caps = flag })

-- The Return of a question comes: the Finish that was held back goes behind it.
abbrev pub returns : Finishing → QuestionId → Coming
returns s q = record { state = without_open s q; told = finish_of q (finite.get s.awaited q.0) }

-- A question came back Unimplemented: it needs no Finish.
abbrev pub comes_back : Finishing → PlainMessage → Coming
comes_back s (plain.Bootstrap q) = record { state = without_open s q; told = None }
comes_back s (plain.Call c) = record { state = without_open s c.question; told = None }
comes_back s m = record { state = s; told = None }

abbrev pub comes_plain : Finishing → PlainMessage → Coming
comes_plain s (plain.Return r) = returns s r.answer
comes_plain s m = record { state = s; told = None }

abbrev pub comes_message : Finishing → Message → Coming
comes_message s (message.Plain m) = comes_plain s m
comes_message s (message.Unimplemented m) = comes_back s m

-- An envelope comes.
abbrev pub comes : Finishing → What → Coming
comes s (profile m) = comes_message s m
comes s (tail_call c) = record { state = s; told = None }
comes s (sent_elsewhere r) = returns s r.answer
comes s (taken_from_other r) = returns s r.answer
comes s (strange n original) = record { state = s; told = None }
