use Rattle.std.proofs.Common.{◌≡◌, [], ◌∷◌, Ok, refl, ap}
use Rattle.std.specs.Ordering.{nat_cmp}
use Rattle.std.specs.FinMap.{get-empty}
use Rattle.std.specs.Prelude.{Option}
use Rattle.rpc_msg.specs.declared.message.Message.{Message}
use Rattle.rpc_msg.specs.declared.message.Message.TheVariants as message
use Rattle.rpc_msg.specs.declared.message.PlainMessage.{PlainMessage}
use Rattle.rpc_msg.specs.declared.message.PlainMessage.TheVariants as plain
use Rattle.rpc_codec.specs.Envelopes.{profile}
use Rattle.peer_tail_calls.specs.declared.tails.Tail.{Tail}
use Rattle.peer_tail_calls.specs.Adapting.{Going, comes, finishes, fresh, gives, goes, hears}
use Rattle.peer_tail_calls.specs.Laws.{told_of}
use Rattle.peer_tail_calls.proofs.laws.stands_aside.Goals as goal

hears_plain : (m : PlainMessage) → comes fresh (profile (message.Plain m)) ≡ Ok (hears fresh (message.Plain m ∷ []))
hears_plain (plain.Finish f) = ap (λ (o : Option Tail). Ok (finishes fresh f o)) (get-empty nat_cmp f.question.0)
hears_plain (plain.Abort e) = refl
hears_plain (plain.Bootstrap q) = refl
hears_plain (plain.Call c) = refl
hears_plain (plain.Return r) = refl
hears_plain (plain.Resolve r) = refl
hears_plain (plain.Release r) = refl
hears_plain (plain.Disembargo d) = refl
hears_plain (plain.Other n) = refl

heard : (m : Message) → comes fresh (profile m) ≡ Ok (hears fresh (m ∷ []))
heard (message.Plain m) = hears_plain m
heard (message.Unimplemented m) = refl

gone : Message → Going
gone m = record { state = fresh; said = told_of m; heard = [] }

said_plain : (m : PlainMessage) → goes fresh (message.Plain m) ≡ gone (message.Plain m)
unfolding gone
said_plain (plain.Return r) = ap (λ (o : Option Tail). gives fresh r o) (get-empty nat_cmp r.answer.0)
said_plain (plain.Abort e) = refl
said_plain (plain.Bootstrap q) = refl
said_plain (plain.Call c) = refl
said_plain (plain.Finish f) = refl
said_plain (plain.Resolve r) = refl
said_plain (plain.Release r) = refl
said_plain (plain.Disembargo d) = refl
said_plain (plain.Other n) = refl

said_back : (m : PlainMessage) → goes fresh (message.Unimplemented m) ≡ gone (message.Unimplemented m)
unfolding gone
said_back (plain.Release r) = refl
said_back (plain.Return r) = refl
said_back (plain.Abort e) = refl
said_back (plain.Bootstrap q) = refl
said_back (plain.Call c) = refl
said_back (plain.Finish f) = refl
said_back (plain.Resolve r) = refl
said_back (plain.Disembargo d) = refl
said_back (plain.Other n) = refl

said : (m : Message) → goes fresh m ≡ gone m
said (message.Plain m) = said_plain m
said (message.Unimplemented m) = said_back m

pub returns : goal.returns
unfolding gone
returns c = record { heard = heard; said = said }
