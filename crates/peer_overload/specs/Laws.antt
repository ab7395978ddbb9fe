-- Where no question was refused and the vat has room, it hears what came as it came. Each count is given once.
use Rattle.std.specs.Prelude.{◌≡◌, ℕ, ◌+◌, ◌==◌, Bool, true, false, if◌then◌else◌, IfOk, [], Ok}
use Rattle.rpc_msg.specs.Messages.{descriptors_of, given}
use Rattle.rpc_msg.specs.declared.ids.ExportId.{ExportId}
use Rattle.rpc_msg.specs.declared.ids.QuestionId.{QuestionId}
use Rattle.rpc_msg.specs.declared.message.PlainMessage.{PlainMessage}
use Rattle.rpc_msg.specs.declared.message.PlainMessage.TheVariants as plain
use Rattle.rpc_msg.specs.declared.message.Message.{Message}
use Rattle.rpc_msg.specs.declared.message.Message.TheVariants as message
use Rattle.rpc_codec.specs.Envelopes.{What, profile, tail_call, sent_elsewhere, taken_from_other, strange}
use Rattle.rpc_codec.specs.Carried.{gives}
use Rattle.peer_overload.specs.Overloading.{Outcome, Overloading, admits, admitted, comes, fresh, nothing, overloaded, refused, refused_tail}

abbrev pub StandsAside : Type 0
StandsAside = (w : What) → comes fresh false w ≡ Ok (admits fresh w)

-- ---- counts

-- what the vat hears that it gave
abbrev pub heard_gives : ExportId → Outcome → ℕ
heard_gives e (admitted w) = gives e w
heard_gives e (refused q) = 0
heard_gives e (refused_tail q) = 0
heard_gives e nothing = 0

-- It is a question, by this id.
abbrev pub asks_plain : QuestionId → PlainMessage → Bool
asks_plain q (plain.Bootstrap p) = p.0 == q.0
asks_plain q (plain.Call c) = c.question.0 == q.0
asks_plain q m = false

abbrev pub is_question : QuestionId → What → Bool
is_question q (profile (message.Plain m)) = asks_plain q m
is_question q (profile (message.Unimplemented m)) = false
is_question q (tail_call c) = c.question.0 == q.0
is_question q (sent_elsewhere t) = false
is_question q (taken_from_other t) = false
is_question q (strange n original) = false

-- What a Return gives back by its flag: all that the descriptors of its question gave, if what came is that question.
abbrev pub flag_gives_back : ExportId → What → QuestionId → Bool → ℕ
flag_gives_back e w a flag = if flag then (if is_question a w then gives e w else 0) else 0

abbrev pub plain_gives_back : ExportId → What → PlainMessage → ℕ
plain_gives_back e w (plain.Return r) = flag_gives_back e w r.answer r.release_param_caps
plain_gives_back e w m = 0

abbrev pub gives_back : ExportId → What → Message → ℕ
gives_back e w (message.Plain m) = plain_gives_back e w m
gives_back e w (message.Unimplemented m) = 0

-- What the peer is told at once gives back: of a refused tail call it is told by a Return with a true flag, too.
abbrev pub given_back : ExportId → What → Outcome → ℕ
given_back e w (admitted heard) = 0
given_back e w (refused q) = gives_back e w (overloaded q)
given_back e w (refused_tail q) = flag_gives_back e w q true
given_back e w nothing = 0

pub record CountsOnce : Type 0 where
  -- of each export of the peer: what it gave is what the vat hears that it gave, and what is given back to it
  pub came : (s : Overloading) (is_full : Bool) (w : What) (e : ExportId)
      → IfOk (comes s is_full w) (λ c. gives e w ≡ heard_gives e c.outcome + given_back e w c.outcome)
  -- a refusal gives nothing
  pub refused : (q : QuestionId) → given (descriptors_of (overloaded q)) ≡ []
