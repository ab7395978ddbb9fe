-- What stands between a vat and its peer leaves no question without a Return, and adds none (docs/messages.md, "Peers of other make").
use Rattle.std.specs.Prelude.{◌≡◌, ℕ, ◌+◌, nat_eq, Option, None, Some, IfOk}
use Rattle.rpc_msg.specs.declared.message.Message.{Message}
use Rattle.rpc_codec.specs.Envelopes.{What, profile, tail_call, sent_elsewhere, taken_from_other, strange}
use Rattle.peer_tail_calls.specs.declared.heard.Said.{Said}
use Rattle.peer_tail_calls.specs.declared.heard.Said.TheVariants as said
use Rattle.peer_adapter.specs.Peering.{Besides, Coming, Going, Peering, Tables, comes, goes}
use Rattle.peer_adapter.specs.Peering.Besides.{Tells, Keeps}
use Rattle.laws_nodes.specs.Ones.{one_if}
use Rattle.laws_returns.specs.Counts.{asks, asks_in, returns}

-- Once, if the envelope asks the question with that id. A tail call asks, too.
abbrev pub asked_by : ℕ → What → ℕ
asked_by q (profile m) = asks q m
asked_by q (tail_call c) = one_if (nat_eq q c.question.0)
asked_by q (sent_elsewhere x) = 0
asked_by q (taken_from_other x) = 0
asked_by q (strange n original) = 0

-- Once, if the peer is told the Return of that question: its outcome, or that it is kept here.
abbrev pub told_by : ℕ → Option Said → ℕ
told_by q None = 0
told_by q (Some (said.Message m)) = returns q m
told_by q (Some (said.SentElsewhere x)) = one_if (nat_eq q x.answer.0)

abbrev pub told_besides : ℕ → Besides → ℕ
told_besides q (Tells told) = told_by q told.said
told_besides q (Keeps original) = 0

-- A question that comes is one that the vat hears, or the peer is told its Return at once.
abbrev pub IsHeardOrTold : ℕ → What → Coming → Type 0
IsHeardOrTold q w c = asked_by q w ≡ asks_in q c.heard + told_besides q c.besides

-- A Return of the vat is told, and the vat hears no question beside it.
abbrev pub IsTold : ℕ → Message → Going → Type 0
IsTold q m g = (returns q m ≡ told_by q g.told.said) × (asks_in q g.heard ≡ 0)

pub record AdapterReturns : Type 0 where
  pub came : (t : Tables) (s : Peering) (w : What) (q : ℕ) → IfOk (comes t s w) (IsHeardOrTold q w)
  pub went : (s : Peering) (m : Message) (q : ℕ) → IsTold q m (goes s m)
