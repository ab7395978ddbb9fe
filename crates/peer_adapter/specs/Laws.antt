-- Of a peer that makes no tail call, names each export in one kind and names no broken promise, a vat that has room for its calls
-- hears what came, and it is told what the vat says. Each count that a peer gives is heard, owed or given back.
use Rattle.std.specs.Prelude.{◌≡◌, ℕ, ◌+◌, false, IfOk, [], ◌∷◌, Option, Some, None, Ok}
use Rattle.std.specs.FinMap as finite
use Rattle.rpc_msg.specs.declared.ids.ExportId.{ExportId}
use Rattle.rpc_msg.specs.declared.message.PlainMessage.{PlainMessage}
use Rattle.rpc_msg.specs.declared.message.PlainMessage.TheVariants as plain
use Rattle.rpc_msg.specs.declared.message.Message.{Message}
use Rattle.rpc_msg.specs.declared.message.Message.TheVariants as message
use Rattle.rpc_codec.specs.Envelopes.{What, profile}
use Rattle.rpc_codec.specs.Carried.{gives}
use Rattle.peer_overload.specs.Laws.{flag_gives_back, gives_back}
use Rattle.peer_kinds.specs.Laws.{NamesAlike}
use Rattle.peer_broken.specs.Naming.{Naming, flagged, names_of, owed_under}
use Rattle.peer_broken.specs.Laws.{owed, times}
use Rattle.peer_tail_calls.specs.declared.heard.Said.{Said}
use Rattle.peer_tail_calls.specs.declared.heard.Said.TheVariants as said
use Rattle.peer_tail_calls.specs.Adapting as tails
use Rattle.peer_tail_calls.specs.Held.{Agrees, Held, all_give}
use Rattle.peer_tail_calls.specs.Laws.{told_of}
use Rattle.peer_tail_calls.specs.Laws as tail_laws
use Rattle.peer_adapter.specs.Peering.{Besides, Coming, Going, Peering, Tables, comes, fresh, goes}
use Rattle.peer_adapter.specs.Peering.Besides.{Tells, Keeps}

pub record StandsAside : Type 0 where
  pub heard : (t : Tables) (m : Message) → t.is_full ≡ false → NamesAlike t.standing (profile m) → names_of t.broken (profile m) ≡ []
      → comes t fresh (profile m) ≡ Ok (record { state = fresh; besides = Tells (record { given_back = []; said = None }); heard = m ∷ [] })
  pub said : (m : Message) → goes fresh m ≡ record { state = fresh; told = record { given_back = []; said = told_of m }; heard = [] }

-- ---- counts of exports of the peer

-- What the flag of a Return gives back that the peer is told of what came at once: all that the descriptors of its call gave.
abbrev pub said_gives_back : ExportId → What → Option Said → ℕ
said_gives_back e w None = 0
said_gives_back e w (Some (said.Message m)) = gives_back e w m
said_gives_back e w (Some (said.SentElsewhere x)) = flag_gives_back e w x.answer x.release_param_caps

-- what is given back at once, by Releases of one and by that flag
abbrev pub besides_give_back : ExportId → What → Besides → ℕ
besides_give_back e w (Tells told) = times e told.given_back + said_gives_back e w told.said
besides_give_back e w (Keeps original) = 0

-- Of an export: what came and was owed is what the vat hears, is owed then, and is given back at once.
abbrev pub CameOnce : ExportId → Peering → What → Coming → Type 0
CameOnce e s w c = gives e w + owed e s.names ≡ all_give e c.heard + (owed e c.state.names + besides_give_back e w c.besides)

-- What was owed and is given back by the flag of a Return or a Finish that the peer is told.
abbrev pub plain_owes : ExportId → Naming → PlainMessage → ℕ
plain_owes e s (plain.Return r) = times e (flagged r.release_param_caps (owed_under s.by_answer r.answer))
plain_owes e s (plain.Finish f) = times e (flagged f.release_result_caps (owed_under s.by_question f.question))
plain_owes e s m = 0

abbrev pub message_owes : ExportId → Naming → Message → ℕ
message_owes e s (message.Plain m) = plain_owes e s m
message_owes e s (message.Unimplemented m) = 0

abbrev pub flag_owes : ExportId → Naming → Option Said → ℕ
flag_owes e s None = 0
flag_owes e s (Some (said.Message m)) = message_owes e s m
flag_owes e s (Some (said.SentElsewhere x)) = times e (flagged x.release_param_caps (owed_under s.by_answer x.answer))

-- Of an export: what the vat hears gives nothing; what was owed is owed then, or is given back by Releases or by a flag.
abbrev pub WentOnce : ExportId → Peering → Going → Type 0
WentOnce e s g = owed e s.names ≡ all_give e g.heard + (owed e g.state.names + (times e g.told.given_back + flag_owes e s.names g.told.said))

-- ---- counts of exports of the vat

-- What comes and goes, as its part of tail calls is.
abbrev pub tails_come : Coming → tails.Coming
tails_come c = record { state = c.state.tails; heard = c.heard; unknown = None }

abbrev pub tails_go : Going → tails.Going
tails_go g = record { state = g.state.tails; said = g.told.said; heard = g.heard }

pub record CountsOnce : Type 0 where
  -- of exports of the peer
  pub came : (t : Tables) (s : Peering) (w : What) (e : ExportId) → IfOk (comes t s w) (λ c. CameOnce e s w c)
  pub went : (s : Peering) (m : Message) (e : ExportId) → WentOnce e s (goes s m)
  -- of exports of the vat: refusals and names change nothing of what is held of tail calls
  pub first : Agrees finite.empty fresh.tails
  pub came_held : (h : Held) (t : Tables) (s : Peering) (w : What) → Agrees h s.tails → IfOk (comes t s w) (λ c. tail_laws.CameOnce h s.tails w (tails_come c))
  pub went_held : (h : Held) (s : Peering) (m : Message) → Agrees h s.tails → tail_laws.WentOnce h s.tails m (tails_go (goes s m))
