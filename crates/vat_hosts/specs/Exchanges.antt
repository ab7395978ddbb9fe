-- To exchange messages is to hand them over.
use Rattle.std.specs.Prelude.{ℕ, List, []}
use Rattle.vat_host.specs.Hosting.{Hosted}
use Rattle.vat_host.specs.Exchanging.{Exchanges}
use Rattle.vat_hosts.specs.Hosts.{Act, ActsAll, Hosts}

-- no message is in hand
abbrev pub between : Hosted → Hosted → Hosts
between a b = record { a = record { host = a; in_hand = [] }; b = record { host = b; in_hand = [] } }

-- What `exchange` does is so many messages taken and handed over.
abbrev pub ExchangesHand : Type 0
ExchangesHand = (rounds : ℕ) (a b a_new b_new : Hosted) → Exchanges rounds a b a_new b_new → (xs : List Act) × ActsAll (between a b) xs (between a_new b_new)
