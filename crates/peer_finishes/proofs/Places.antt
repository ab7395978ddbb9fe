-- All but Finishes goes in its place; what goes behind an envelope is a Finish of the question that it returns.
use Rattle.std.proofs.Common.{◌≡◌, List, [], ◌∷◌, ◌++◌, Some, None, refl, ap, ◌∙◌}
use Rattle.std.specs.Prelude.{Option, option_to_list}
use Rattle.std.specs.FinMap as finite
use Rattle.rpc_msg.specs.declared.ids.QuestionId.{QuestionId}
use Rattle.rpc_msg.specs.declared.message.Finish.{Finish}
use Rattle.rpc_msg.specs.declared.message.PlainMessage.{PlainMessage}
use Rattle.rpc_msg.specs.declared.message.PlainMessage.TheVariants as plain
use Rattle.rpc_msg.specs.declared.message.Message.{Message}
use Rattle.rpc_msg.specs.declared.message.Message.TheVariants as message
use Rattle.rpc_codec.specs.Envelopes.{What, profile, tail_call, sent_elsewhere, taken_from_other, strange}
use Rattle.peer_finishes.specs.declared.questions.Awaited.{Awaited}
use Rattle.peer_finishes.specs.declared.questions.Awaited.TheVariants.{Asked, Finished}
use Rattle.peer_finishes.specs.Finishing.{Finishing, comes, finish_of, finishes, goes_plain}
use Rattle.peer_finishes.specs.Laws.{Event, Says, Hears, IsBehind, all_gone, all_said, others, returned_by, told}

told_none : (o : Option Finish) (ms : List Message) → others (told o ++ ms) ≡ others ms
told_none None ms = refl
told_none (Some f) ms = refl

finish_place : (s : Finishing) (f : Finish) (o : Option Awaited) (gone : List Message) → others (option_to_list (finishes s f o).said ++ gone) ≡ others gone
finish_place s f None gone = refl
finish_place s f (Some Asked) gone = refl
finish_place s f (Some (Finished flag)) gone = refl

plain_place : (s : Finishing) (m : PlainMessage) (gone said : List Message) → others gone ≡ others said → others (option_to_list (goes_plain s m).said ++ gone) ≡ others (message.Plain m ∷ said)
plain_place s (plain.Finish f) gone said same = finish_place s f (finite.get s.awaited f.question.0) gone ∙ same
plain_place s (plain.Abort x) gone said same = ap (λ ms. message.Plain (plain.Abort x) ∷ ms) same
plain_place s (plain.Bootstrap q) gone said same = ap (λ ms. message.Plain (plain.Bootstrap q) ∷ ms) same
plain_place s (plain.Call c) gone said same = ap (λ ms. message.Plain (plain.Call c) ∷ ms) same
plain_place s (plain.Return r) gone said same = ap (λ ms. message.Plain (plain.Return r) ∷ ms) same
plain_place s (plain.Resolve r) gone said same = ap (λ ms. message.Plain (plain.Resolve r) ∷ ms) same
plain_place s (plain.Release r) gone said same = ap (λ ms. message.Plain (plain.Release r) ∷ ms) same
plain_place s (plain.Disembargo d) gone said same = ap (λ ms. message.Plain (plain.Disembargo d) ∷ ms) same
plain_place s (plain.Other n) gone said same = ap (λ ms. message.Plain (plain.Other n) ∷ ms) same

pub in_place : (s : Finishing) (es : List Event) → others (all_gone s es) ≡ others (all_said es)
in_place s [] = refl
in_place s (Says (message.Plain m) ∷ es) = plain_place s m (all_gone (goes_plain s m).state es) (all_said es) (in_place (goes_plain s m).state es)
in_place s (Says (message.Unimplemented m) ∷ es) = ap (λ ms. message.Unimplemented m ∷ ms) (in_place s es)
in_place s (Hears w ∷ es) = told_none (comes s w).told (all_gone (comes s w).state es) ∙ in_place (comes s w).state es

returned : (w : What) (q : QuestionId) (o : Option Awaited) → returned_by w ≡ Some q → IsBehind w (finish_of q o)
returned w q None is = tt
returned w q (Some Asked) is = tt
returned w q (Some (Finished flag)) is = is

plain_behind : (s : Finishing) (m : PlainMessage) → IsBehind (profile (message.Plain m)) (comes s (profile (message.Plain m))).told
plain_behind s (plain.Return r) = returned (profile (message.Plain (plain.Return r))) r.answer (finite.get s.awaited r.answer.0) refl
plain_behind s (plain.Finish f) = tt
plain_behind s (plain.Abort x) = tt
plain_behind s (plain.Bootstrap q) = tt
plain_behind s (plain.Call c) = tt
plain_behind s (plain.Resolve r) = tt
plain_behind s (plain.Release r) = tt
plain_behind s (plain.Disembargo d) = tt
plain_behind s (plain.Other n) = tt

back_behind : (s : Finishing) (m : PlainMessage) → IsBehind (profile (message.Unimplemented m)) (comes s (profile (message.Unimplemented m))).told
back_behind s (plain.Return r) = tt
back_behind s (plain.Finish f) = tt
back_behind s (plain.Abort x) = tt
back_behind s (plain.Bootstrap q) = tt
back_behind s (plain.Call c) = tt
back_behind s (plain.Resolve r) = tt
back_behind s (plain.Release r) = tt
back_behind s (plain.Disembargo d) = tt
back_behind s (plain.Other n) = tt

pub behind : (s : Finishing) (w : What) → IsBehind w (comes s w).told
behind s (profile (message.Plain m)) = plain_behind s m
behind s (profile (message.Unimplemented m)) = back_behind s m
behind s (tail_call c) = tt
behind s (sent_elsewhere r) = returned (sent_elsewhere r) r.answer (finite.get s.awaited r.answer.0) refl
behind s (taken_from_other r) = returned (taken_from_other r) r.answer (finite.get s.awaited r.answer.0) refl
behind s (strange n original) = tt
