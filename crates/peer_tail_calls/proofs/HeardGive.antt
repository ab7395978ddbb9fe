-- What messages give is what the vat hears that they give; what is turned gives nothing.
use Rattle.std.proofs.Common.{◌≡◌, ℕ, ◌+◌, List, [], ◌∷◌, Some, None, refl, ap, arith}
use Rattle.std.specs.Prelude.{Option, IfOk}
use Rattle.std.specs.FinMap as finite
use Rattle.capn_trees.specs.Trees.{Tree}
use Rattle.rpc_msg.specs.Op.{Op}
use Rattle.rpc_msg.specs.Payloads.{Contents, tree_of}
use Rattle.rpc_msg.specs.Messages.{descriptors_of_body, given}
use Rattle.rpc_msg.specs.declared.ids.ExportId.{ExportId}
use Rattle.rpc_msg.specs.declared.ids.QuestionId.{QuestionId}
use Rattle.rpc_msg.specs.declared.parts.Descriptor.{Descriptor}
use Rattle.rpc_msg.specs.declared.parts.Descriptor.TheVariants as descriptor
use Rattle.rpc_msg.specs.declared.message.ReturnBody.{ReturnBody}
use Rattle.rpc_msg.specs.declared.message.ReturnBody.TheVariants as body
use Rattle.rpc_msg.specs.declared.message.Finish.{Finish}
use Rattle.rpc_msg.specs.declared.message.Return.{Return}
use Rattle.rpc_msg.specs.declared.message.PlainMessage.{PlainMessage}
use Rattle.rpc_msg.specs.declared.message.PlainMessage.TheVariants as plain
use Rattle.rpc_msg.specs.declared.message.Message.{Message}
use Rattle.rpc_msg.specs.declared.message.Message.TheVariants as message
use Rattle.rpc_codec.specs.declared.envelope.TakenFromOther.{TakenFromOther}
use Rattle.rpc_codec.specs.Envelopes.{What, profile, tail_call, sent_elsewhere, taken_from_other, strange}
use Rattle.rpc_codec.specs.Carried.{gives, times}
use Rattle.peer_tail_calls.specs.declared.tails.Taker.{Taker}
use Rattle.peer_tail_calls.specs.declared.tails.Tail.{Tail}
use Rattle.peer_tail_calls.specs.declared.tails.Tail.TheVariants.{Asked, Taken, Finishing, Finished, Kept, Told}
use Rattle.peer_tail_calls.specs.Adapting.{Adapting, comes, finishes, gives as goes_as, goes, return_to, taker_of, takes}
use Rattle.peer_tail_calls.specs.Held.{all_give}
use Rattle.peer_tail_calls.specs.Paths.{path_to}
use Rattle.peer_tail_calls.specs.Turning.{put_first, turned, turned_all, turned_one, with_turned}

abbrev GiveNone : Option (List Descriptor) → Type 0
GiveNone None = Unit {0}
GiveNone (Some ds) = given ds ≡ []

first_none : (a : QuestionId) (o : Option (List Op)) (d : Descriptor) (r : Option (List Descriptor)) → GiveNone r → GiveNone (put_first (turned_one a o d) r)
first_none a (Some path) d None none = tt
first_none a (Some path) d (Some ds) none = none
first_none a None descriptor.None None none = tt
first_none a None descriptor.None (Some ds) none = none
first_none a None (descriptor.SenderHosted e) None none = tt
first_none a None (descriptor.SenderHosted e) (Some ds) none = none
first_none a None (descriptor.SenderPromise e) None none = tt
first_none a None (descriptor.SenderPromise e) (Some ds) none = none
first_none a None (descriptor.ReceiverHosted e) r none = tt
first_none a None (descriptor.ReceiverAnswer q path) r none = tt

all_none : (a : QuestionId) (t : Tree) (k : ℕ) (ds : List Descriptor) → GiveNone (turned_all a t k ds)
all_none a t k [] = refl
all_none a t k (d ∷ ds) = first_none a (path_to t k) d (turned_all a t (k + 1) ds) (all_none a t (k + 1) ds)

with_none : (p : Contents) (r : Option (List Descriptor)) → GiveNone r → given (descriptors_of_body (with_turned p r)) ≡ []
with_none p None none = refl
with_none p (Some ds) none = none

turned_give : (a : QuestionId) (b : ReturnBody) → given (descriptors_of_body (turned a b)) ≡ []
turned_give a (body.Results p ds) = with_none p (turned_all a (tree_of p) 0 ds) (all_none a (tree_of p) 0 ds)
turned_give a (body.Exception e) = refl
turned_give a body.Canceled = refl

module _ (e : ExportId) where
  pub turned_none : (taker : Taker) (a : QuestionId) (b : ReturnBody) → gives e (profile (return_to taker a b)) ≡ 0
  turned_none taker a b = ap (λ ns. times e ns) (turned_give a b)

  module _ (s : Adapting) where
    finish_heard : (f : Finish) (o : Option Tail) → gives e (profile (message.Plain (plain.Finish f))) ≡ all_give e (finishes s f o).heard
    finish_heard f None = refl
    finish_heard f (Some Asked) = refl
    finish_heard f (Some (Taken taker)) = refl
    finish_heard f (Some (Finishing taker)) = refl
    finish_heard f (Some Finished) = refl
    finish_heard f (Some (Kept b)) = refl
    finish_heard f (Some Told) = refl

    take_heard : (t : TakenFromOther) (o : Option Tail) → IfOk (takes s t o) (λ c. gives e (taken_from_other t) ≡ all_give e c.heard)
    take_heard t None = tt
    take_heard t (Some Asked) = refl
    take_heard t (Some (Taken taker)) = tt
    take_heard t (Some (Finishing taker)) = tt
    take_heard t (Some Finished) = tt
    take_heard t (Some (Kept b)) = let a = turned_none (taker_of t) t.question b in omega (arith, a)
    take_heard t (Some Told) = tt

    plain_heard : (m : PlainMessage) → IfOk (comes s (profile (message.Plain m))) (λ c. gives e (profile (message.Plain m)) ≡ all_give e c.heard)
    plain_heard (plain.Finish f) = finish_heard f (finite.get s.tails f.question.0)
    plain_heard (plain.Abort x) = refl
    plain_heard (plain.Bootstrap q) = refl
    plain_heard (plain.Call c) = omega arith
    plain_heard (plain.Return r) = omega arith
    plain_heard (plain.Resolve r) = omega arith
    plain_heard (plain.Release r) = refl
    plain_heard (plain.Disembargo d) = refl
    plain_heard (plain.Other n) = refl

    pub heard_same : (w : What) → IfOk (comes s w) (λ c. gives e w ≡ all_give e c.heard)
    heard_same (profile (message.Plain m)) = plain_heard m
    heard_same (profile (message.Unimplemented m)) = refl
    heard_same (tail_call c) = omega arith
    heard_same (sent_elsewhere t) = tt
    heard_same (taken_from_other t) = take_heard t (finite.get s.tails t.question.0)
    heard_same (strange n original) = refl

    return_beside : (r : Return) (o : Option Tail) → all_give e (goes_as s r o).heard ≡ 0
    return_beside r None = refl
    return_beside r (Some Asked) = refl
    return_beside r (Some (Taken taker)) = let a = turned_none taker r.answer r.body in omega (arith, a)
    return_beside r (Some (Finishing taker)) = let a = turned_none taker r.answer r.body in omega (arith, a)
    return_beside r (Some Finished) = refl
    return_beside r (Some (Kept b)) = refl
    return_beside r (Some Told) = refl

    plain_beside : (m : PlainMessage) → all_give e (goes s (message.Plain m)).heard ≡ 0
    plain_beside (plain.Return r) = return_beside r (finite.get s.tails r.answer.0)
    plain_beside (plain.Finish f) = refl
    plain_beside (plain.Abort x) = refl
    plain_beside (plain.Bootstrap q) = refl
    plain_beside (plain.Call c) = refl
    plain_beside (plain.Resolve r) = refl
    plain_beside (plain.Release r) = refl
    plain_beside (plain.Disembargo d) = refl
    plain_beside (plain.Other n) = refl

    back_beside : (m : PlainMessage) → all_give e (goes s (message.Unimplemented m)).heard ≡ 0
    back_beside (plain.Release r) = refl
    back_beside (plain.Return r) = refl
    back_beside (plain.Finish f) = refl
    back_beside (plain.Abort x) = refl
    back_beside (plain.Bootstrap q) = refl
    back_beside (plain.Call c) = refl
    back_beside (plain.Resolve r) = refl
    back_beside (plain.Disembargo d) = refl
    back_beside (plain.Other n) = refl

    pub none_beside : (m : Message) → all_give e (goes s m).heard ≡ 0
    none_beside (message.Plain m) = plain_beside m
    none_beside (message.Unimplemented m) = back_beside m
