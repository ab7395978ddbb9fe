-- What a vat has to say goes out, message by message.
use Rattle.std.proofs.Common.{◌≡◌, Bool, true, false, List, [], ◌∷◌, length, ◌<◌, ◌==◌, not, arith, refl, sym, ap, subst, ◌∙◌}
use Rattle.std.proofs.Math.Dec.{eqb-suc-zero}
use Rattle.rpc_msg.specs.declared.message.Message.{Message}
use Rattle.vat_host.specs.Hosting.{Hosted, is_abort}
use Rattle.peer_tail_calls.specs.Adapting.{messages_in}
use Rattle.peer_tail_calls.specs.Nulling.{IsLaidOut}
use Rattle.peer_adapter.specs.declared.told.Outbound.{Outbound}
use Rattle.peer_large.specs.Sparing.{Sparing, Going, goes, seen_outbound}
use Rattle.rpc_outgoing.specs.Outflows.{Outflow}
use Rattle.vat_connection.specs.Load.{Intake, without_call}
use Rattle.vat_connection.specs.Speaking.{Speaking, Breaks, Goes, HearsAll, IsTold, Passes, PassesAll, PassesOne, Says, SaysTo, Shuts, Turns, want_of_room, without}
use Rattle.vat_connection.specs.Speaking.SaysTo.{Nothing, Oldest, Broken}

abbrev pub speaking : Hosted → Outflow → Sparing → Intake → Speaking
speaking host out adapter heard = record { host = host; out = out; adapter = adapter; heard = heard }

-- ---- an Abort alone

-- An Abort is tried.
pub abort_tried : (m : Message) (old new : Outflow) (goes : Bool) → is_abort m ≡ true → Goes goes old m new → PassesOne (is_abort m) old m new
abort_tried m old new goes is put = subst (λ (b : Bool). PassesOne b old m new) (sym is) (goes, put)

-- Nothing else is.
pub not_tried : (m : Message) (out : Outflow) → is_abort m ≡ false → PassesOne (is_abort m) out m out
not_tried m out is = subst (λ (b : Bool). PassesOne b out m out) (sym is) refl

pub one_passes : (host next : Hosted) (out out_next : Outflow) (adapter : Sparing) (heard : Intake) (m : Message) (new : Speaking) → host ≡ record next { messages = m ∷ next.messages }
    → PassesOne (is_abort m) out m out_next → Passes (speaking next out_next adapter heard) new → Passes (speaking host out adapter heard) new
one_passes host next out out_next adapter heard m new is one more =
    subst (λ (h : Hosted). Passes (speaking h out adapter heard) new) (sym is) ((out_next, one, more.0), more.1)

pub none_passes : (host next : Hosted) (out : Outflow) (adapter : Sparing) (heard : Intake) → host.messages ≡ [] → next ≡ host → Passes (speaking host out adapter heard) (speaking next out adapter heard)
none_passes host next out adapter heard none same = (
  subst (λ (ms : List Message). PassesAll out ms out) (sym none) refl,
  ap (λ (h : Hosted). speaking h out adapter heard) same ∙ ap (λ (ms : List Message). speaking (without host ms) out adapter heard) none,
)

pub fewer : (host next : Hosted) (m : Message) → host ≡ record next { messages = m ∷ next.messages } → length next.messages < length host.messages
fewer host next m is = let e = ap (λ (h : Hosted). length h.messages) is in omega (arith, e)

-- No message is there.
pub none_there : (ms : List Message) (b : Bool) → b ≡ not (length ms == 0) → b ≡ false → ms ≡ []
none_there [] b is none = refl
none_there (m ∷ ms) b is none = absurd (let k : ◌≡◌ {A = Bool} true false = sym (ap not (eqb-suc-zero (length ms))) ∙ sym is ∙ none in cc)

-- ---- all

module _ (host next : Hosted) (out : Outflow) (adapter : Sparing) (heard : Intake) where
  pub broken_off : (new : Speaking) → Shuts host want_of_room next → Passes (speaking next out adapter heard) new → Breaks (speaking host out adapter heard) new
  broken_off new shuts passes = (speaking next out adapter heard, (adapter, heard, (shuts, refl)), passes)

  pub none_said : host.messages ≡ [] → next ≡ host → Says (speaking host out adapter heard) (speaking next out adapter heard)
  none_said none same = Nothing none (ap (λ (h : Hosted). speaking h out adapter heard) same)

  module _ (m : Message) (new : Speaking) (is : host ≡ record next { messages = m ∷ next.messages }) where
    pub one_said : (mid : Speaking) → IsLaidOut m → Turns (speaking next out adapter (without_call m heard)) (goes adapter m) mid → Says mid new → Says (speaking host out adapter heard) new
    one_said mid laid turns more = subst (λ (h : Hosted). SaysTo new (speaking h out adapter heard)) (sym is) (Oldest m next.messages refl laid turns more)

    -- whatever the adapter took
    pub breaks : (a : Sparing) → Breaks (speaking next out a (without_call m heard)) new → Says (speaking host out adapter heard) new
    breaks a (mid, (b, h, falls), passes) = subst (λ (h : Hosted). SaysTo new (speaking h out adapter heard)) (sym is) (Broken m next.messages refl (mid, (b, h, falls), passes))

-- All went out that a vat had to say.
pub says_all : (new old : Speaking) → SaysTo new old → new.host.messages ≡ []
says_all new old (Nothing none same) = ap (λ (s : Speaking). s.host.messages) same ∙ none
says_all new old (Oldest {s} {mid} m ms is laid turns more) = says_all new mid more
says_all new old (Broken m ms is (mid, lacks, passes)) = ap (λ (s : Speaking). s.host.messages) passes.1

-- What the adapter says of a message is done.
pub turns : (host next : Hosted) (out sent : Outflow) (adapter after : Sparing) (heard : Intake) (m : Message) (o : Outbound) → goes adapter m ≡ seen_outbound after o → IsTold out o.told sent → HearsAll host (messages_in o.heard) next
    → Turns (speaking host out adapter heard) (goes adapter m) (speaking next sent after heard)
turns host next out sent adapter after heard m o is told all =
    subst (λ (g : Going). Turns (speaking host out adapter heard) g (speaking next sent after heard)) (sym is) (sent, told, (next, all, refl))
