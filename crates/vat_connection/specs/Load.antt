-- How much of what the peer sent a connection holds, in words (docs/embedding.md, "How much a peer makes a vat hold").
use Rattle.std.specs.Prelude.{ℕ, ◌+◌, ◌-◌, max, Bool, not, nat_lt, ◌&&◌, List, [], ◌∷◌, Option, Some, None, refl}
use Rattle.std.specs.Coded.{Coded, code_by, coded×, coded_ℕ}
use Rattle.std.specs.FinMap as map
use Rattle.std.specs.Ordering.{nat_cmp}
use Rattle.rpc_msg.specs.declared.ids.QuestionId.{QuestionId}
use Rattle.rpc_msg.specs.declared.message.Message.{Message}
use Rattle.rpc_msg.specs.declared.message.Message.TheVariants as message
use Rattle.rpc_msg.specs.declared.message.PlainMessage.TheVariants as plain
use Rattle.peer_large.specs.Contents.{content_words}
use Rattle.peer_large.specs.Opening.{Came}
use Rattle.vat_connection.specs.declared.load.Limits.{Limits}

-- What was heard: how many frames; the words of each Call for which no Return was said, by its question; the words that are counted,
-- of these Calls and of other frames; and those of the other frames, which are counted until all events were told.
pub record Intake : Type 0 where
  pub frames : ℕ
  pub calls : map.FinMap nat_cmp ℕ
  pub words : ℕ
  pub others : ℕ

abbrev pub intake_code : Coded Intake
intake_code =
    code_by ((ℕ × map.FinMap nat_cmp ℕ) × (ℕ × ℕ))
    (coded× (coded× coded_ℕ (map.code coded_ℕ coded_ℕ)) (coded× coded_ℕ coded_ℕ))
    (λ i. ((i.frames, i.calls), (i.words, i.others)))
    (λ p. record { frames = p.0.0; calls = p.0.1; words = p.1.0; others = p.1.1 })
    (λ _. refl)

-- What is held of a frame of so many words that says this: these words, or those of its contents where these are more.
abbrev pub held_words : ℕ → Came → ℕ
held_words words came = max words (content_words came)

abbrev pub nothing_heard : Intake
nothing_heard = record { frames = 0; calls = map.empty; words = 0; others = 0 }

-- the question of the first Call of these messages, if one is there
abbrev pub question_of : Message → Option QuestionId
question_of (message.Plain (plain.Call c)) = Some c.question
question_of m = None

abbrev pub or_in : Option QuestionId → Option QuestionId → Option QuestionId
or_in (Some question) others = Some question
or_in None others = others

abbrev pub question_in : List Message → Option QuestionId
question_in [] = None
question_in (m ∷ ms) = or_in (question_of m) (question_in ms)

abbrev pub words_of : Option ℕ → ℕ
words_of (Some n) = n
words_of None = 0

-- So many words came, with a Call of that question or without one.
abbrev pub weighed : Option QuestionId → ℕ → Intake → Intake
weighed (Some question) words i = record i { calls = map.insert i.calls question.0 words; words = (i.words - words_of (map.get i.calls question.0)) + words }
weighed None words i = record i { words = i.words + words; others = i.others + words }

-- One more frame was heard, of which so many words are held, with a Call of that question or without one.
abbrev pub counted : Option QuestionId → ℕ → Intake → Intake
counted question words i = record (weighed question words i) { frames = i.frames + 1 }

-- A frame was heard of which so many words are held, and of which the vat is given these messages.
abbrev pub with_frame : List Message → ℕ → Intake → Intake
with_frame ms = counted (question_in ms)

abbrev pub without_question : ℕ → Intake → Intake
without_question question i = record i { calls = map.remove i.calls question; words = i.words - words_of (map.get i.calls question) }

-- A message is said: a Return ends the load of its Call.
abbrev pub without_call : Message → Intake → Intake
without_call (message.Plain (plain.Return r)) i = without_question r.answer.0 i
without_call m i = i

-- All events were told.
abbrev pub all_told : Intake → Intake
all_told i = record i { words = i.words - i.others; others = 0 }

-- ---- what is allowed

-- the greatest number that a count says
abbrev pub greatest : ℕ
greatest = 18446744073709551615

abbrev pub no_limits : Limits
no_limits = record { words = greatest; bytes = greatest }

-- Neither is above its limit.
abbrev pub is_within : Limits → ℕ → ℕ → Bool
is_within l words bytes = not (nat_lt l.words words) && not (nat_lt l.bytes bytes)
