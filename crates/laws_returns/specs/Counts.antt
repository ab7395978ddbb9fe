-- Questions and Returns among what is heard and said (rpc.capnp, Bootstrap, Call and Return).
use Rattle.std.specs.Prelude.{ℕ, ◌+◌, nat_eq, List, [], ◌∷◌}
use Rattle.rpc_msg.specs.declared.message.PlainMessage.{PlainMessage}
use Rattle.rpc_msg.specs.declared.message.PlainMessage.TheVariants as plain
use Rattle.rpc_msg.specs.declared.message.Message.{Message}
use Rattle.rpc_msg.specs.declared.message.Message.TheVariants as message
use Rattle.laws_nodes.specs.Ones.{one_if}

-- ---- Questions

-- Once, if it asks the question with that id.
abbrev pub asks_plain : ℕ → PlainMessage → ℕ
asks_plain q (plain.Abort exception) = 0
asks_plain q (plain.Bootstrap p) = one_if (nat_eq q p.0)
asks_plain q (plain.Call c) = one_if (nat_eq q c.question.0)
asks_plain q (plain.Return r) = 0
asks_plain q (plain.Finish f) = 0
asks_plain q (plain.Resolve r) = 0
asks_plain q (plain.Release r) = 0
asks_plain q (plain.Disembargo d) = 0
asks_plain q (plain.Other n) = 0

abbrev pub asks : ℕ → Message → ℕ
asks q (message.Plain m) = asks_plain q m
asks q (message.Unimplemented m) = 0

-- how often these messages ask it
abbrev pub asks_in : ℕ → List Message → ℕ
asks_in q [] = 0
asks_in q (m ∷ ms) = asks q m + asks_in q ms

-- ---- Returns

-- Once, if it returns the question with that id.
abbrev pub returns_plain : ℕ → PlainMessage → ℕ
returns_plain q (plain.Abort exception) = 0
returns_plain q (plain.Bootstrap p) = 0
returns_plain q (plain.Call c) = 0
returns_plain q (plain.Return r) = one_if (nat_eq q r.answer.0)
returns_plain q (plain.Finish f) = 0
returns_plain q (plain.Resolve r) = 0
returns_plain q (plain.Release r) = 0
returns_plain q (plain.Disembargo d) = 0
returns_plain q (plain.Other n) = 0

abbrev pub returns : ℕ → Message → ℕ
returns q (message.Plain m) = returns_plain q m
returns q (message.Unimplemented m) = 0

-- how often these messages return it
abbrev pub returns_in : ℕ → List Message → ℕ
returns_in q [] = 0
returns_in q (m ∷ ms) = returns q m + returns_in q ms
