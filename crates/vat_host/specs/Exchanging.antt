-- Two hosts exchange their messages.
use Rattle.std.specs.Prelude.{◌≡◌, ℕ, zero, suc, List, [], ◌∷◌}
use Rattle.rpc_msg.specs.declared.message.Message.{Message}
use Rattle.vat_host.specs.Hosting.{Hosted, Hears}

-- A host receives messages in order.
abbrev pub HearsAll : Hosted → List Message → Hosted → Type 0
HearsAll old [] new = new ≡ old
HearsAll old (m ∷ ms) new = (mid : Hosted) × Hears old m mid × HearsAll mid ms new

-- All messages of the one go to the other.
abbrev pub Carries : Hosted → Hosted → Hosted → Hosted → Type 0
Carries from to from_new to_new = (from_new ≡ record from { messages = [] }) × HearsAll to from.messages to_new

-- So many rounds, in each of which all messages of the first go to the second, and then all of the second to the first.
abbrev pub Exchanges : ℕ → Hosted → Hosted → Hosted → Hosted → Type 0
Exchanges zero a b a_new b_new = (a_new ≡ a) × (b_new ≡ b)
Exchanges (suc n) a b a_new b_new =
    (a_sent : Hosted) × (b_heard : Hosted) × (b_sent : Hosted) × (a_heard : Hosted)
    × Carries a b a_sent b_heard × Carries b_heard a_sent b_sent a_heard × Exchanges n a_heard b_sent a_new b_new
