-- Where the peer made no tail call, the vat hears what came and the peer is told what the vat says. Each count is given once and given
-- back once.
use Rattle.std.specs.Prelude.{◌≡◌, ◌+◌, IfOk, [], ◌∷◌, Option, Some, None, Ok}
use Rattle.std.specs.FinMap as finite
use Rattle.rpc_msg.specs.declared.ids.ExportId.{ExportId}
use Rattle.rpc_msg.specs.declared.ids.QuestionId.{QuestionId}
use Rattle.rpc_msg.specs.declared.message.Message.{Message}
use Rattle.rpc_msg.specs.declared.message.Message.TheVariants as message
use Rattle.rpc_msg.specs.declared.message.PlainMessage.{PlainMessage}
use Rattle.rpc_msg.specs.declared.message.PlainMessage.TheVariants as plain
use Rattle.rpc_codec.specs.Envelopes.{What, profile, tail_call}
use Rattle.rpc_codec.specs.Carried.{gives}
use Rattle.peer_tail_calls.specs.declared.tails.Tail.{Tail}
use Rattle.peer_tail_calls.specs.declared.tails.Tail.TheVariants.{Asked, Taken, Finishing, Finished, Kept, Told}
use Rattle.peer_tail_calls.specs.declared.heard.Said.{Said}
use Rattle.peer_tail_calls.specs.declared.heard.Said.TheVariants as said
use Rattle.peer_tail_calls.specs.Nulling.{nulled_call, nulled_return}
use Rattle.peer_tail_calls.specs.Adapting.{Adapting, Coming, Going, comes, fresh, goes, hears}
use Rattle.peer_tail_calls.specs.Back.{all_give_back, came_gives_back, gives_back, times_call, told_gives_back, waiting}
use Rattle.peer_tail_calls.specs.Held.{Agrees, FlagsAreTrue, Held, after, all_give, gives_late, held_of, held_with, takes_off, told_gives}

-- what the peer is told of a message: not of a Release that is sent back, and null of each capability that is not there
abbrev pub told_plain : PlainMessage → PlainMessage
told_plain (plain.Call c) = plain.Call (nulled_call c)
told_plain (plain.Return r) = plain.Return (nulled_return r)
told_plain m = m

abbrev pub told_of : Message → Option Said
told_of (message.Plain m) = Some (said.Message (message.Plain (told_plain m)))
told_of (message.Unimplemented (plain.Release r)) = None
told_of (message.Unimplemented m) = Some (said.Message (message.Unimplemented m))

pub record StandsAside : Type 0 where
  pub heard : (m : Message) → comes fresh (profile m) ≡ Ok (hears fresh (m ∷ []))
  pub said : (m : Message) → goes fresh m ≡ record { state = fresh; said = told_of m; heard = [] }

-- No tail call is open under the id of one that comes. Of an id in use the vat goes down.
abbrev pub IsNew : Adapting → What → Type 0
IsNew s (tail_call c) = finite.get s.tails c.question.0 ≡ None
IsNew s w = Unit {0}

-- An envelope comes to this, where that is held.
pub record CameOnce (h : Held) (s : Adapting) (w : What) (c : Coming) : Type 0 where
  -- of each export: what was held is what is held then, and what the vat hears to be taken off
  pub counts : (e : ExportId) → held_of e h ≡ held_of e (after h c.heard) + takes_off e h c.heard
  -- all of what was held of an answer comes back
  pub flags : FlagsAreTrue h c.heard
  pub agrees : IsNew s w → Agrees (after h c.heard) c.state

-- A message of the vat goes, where that is held.
pub record WentOnce (h : Held) (s : Adapting) (m : Message) (g : Going) : Type 0 where
  -- of each export: what the message gives and what was held is what the peer is told, what is held then, and what the vat hears to be
  -- taken off, save what is given by a Return that comes after its Finish
  pub counts : (e : ExportId)
      → gives e (profile m) + held_of e h
      ≡ told_gives e g.said + (held_of e (after (held_with h s m) g.heard) + takes_off e (held_with h s m) g.heard) + gives_late e s m
  pub flags : FlagsAreTrue (held_with h s m) g.heard
  pub agrees : Agrees (after (held_with h s m) g.heard) g.state

pub record CountsOnce : Type 0 where
  -- Of each export of the peer: what a message gave is what the vat hears that it gave. What it hears beside gives nothing.
  pub heard : (s : Adapting) (w : What) (e : ExportId) → IfOk (comes s w) (λ c. gives e w ≡ all_give e c.heard)
  pub heard_beside : (s : Adapting) (m : Message) (e : ExportId) → all_give e (goes s m).heard ≡ 0
  -- Of each export of the vat: what it gave the peer was told, or it is held until the vat hears it to be taken off.
  pub first : Agrees finite.empty fresh
  pub came : (h : Held) (s : Adapting) (w : What) → Agrees h s → IfOk (comes s w) (λ c. CameOnce h s w c)
  pub went : (h : Held) (s : Adapting) (m : Message) → Agrees h s → WentOnce h s m (goes s m)

-- ---- what is given back

-- It is no Finish of a tail call.
abbrev pub IsNoTailPlain : Adapting → PlainMessage → Type 0
IsNoTailPlain s (plain.Finish f) = finite.get s.tails f.question.0 ≡ None
IsNoTailPlain s m = Unit {0}

abbrev pub IsNoTail : Adapting → Message → Type 0
IsNoTail s (message.Plain m) = IsNoTailPlain s m
IsNoTail s (message.Unimplemented m) = Unit {0}

-- No Finish of it is held.
abbrev pub IsNotHeld : Option Tail → Type 0
IsNotHeld None = Unit {0}
IsNotHeld (Some Asked) = Unit {0}
IsNotHeld (Some (Taken taker)) = Unit {0}
IsNotHeld (Some (Finishing taker)) = ⊥
IsNotHeld (Some Finished) = Unit {0}
IsNotHeld (Some (Kept b)) = Unit {0}
IsNotHeld (Some Told) = Unit {0}

abbrev pub IsFirstPlain : Adapting → PlainMessage → Type 0
IsFirstPlain s (plain.Finish f) = IsNotHeld (finite.get s.tails f.question.0)
IsFirstPlain s m = Unit {0}

-- Where the Finish of a tail call is held, it is no second one: at that the vat goes down.
abbrev pub IsFirst : Adapting → What → Type 0
IsFirst s (profile (message.Plain m)) = IsFirstPlain s m
IsFirst s w = Unit {0}

pub record GivesBackOnce : Type 0 where
  -- Of exports of the peer: the peer is told of just what the vat gives back.
  pub told : (s : Adapting) (m : Message) → told_gives_back (goes s m).said ≡ gives_back m
  -- Of exports of the vat: the vat hears of just what the peer gives back. What it hears of the Finish of a tail call is in `CountsOnce`.
  pub heard : (s : Adapting) (m : Message) → IsNoTail s m → IfOk (comes s (profile m)) (λ c. all_give_back c.heard ≡ gives_back m)
  -- What a call of the vat gave is given back by the Return for it once, be it heard as it comes or when the results that it takes are
  -- there.
  pub came : (s : Adapting) (w : What) (q : QuestionId) → IsNew s w → IsFirst s w
      → IfOk (comes s w) (λ c. times_call q (came_gives_back w) + waiting q s ≡ times_call q (all_give_back c.heard) + waiting q c.state)
  pub went : (s : Adapting) (m : Message) (q : QuestionId)
      → waiting q s ≡ times_call q (all_give_back (goes s m).heard) + waiting q (goes s m).state
