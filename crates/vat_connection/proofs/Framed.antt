-- What a vat hears of a frame, by what the frame says.
use Rattle.std.proofs.Common.{◌≡◌, ℕ, zero, suc, ◌==◌, Bool, true, false, not, List, Result, Ok, Err, inl, inr, refl, sym, ap, subst, ◌∙◌}
use Rattle.std.proofs.Math.Dec.{eqb-suc-zero}
use Rattle.vat_host.specs.Hosting.{Hosted}
use Rattle.capn_fronts.specs.Parts.{Part}
use Rattle.rpc_msg.specs.declared.ids.Stamp.{Stamp}
use Rattle.rpc_codec.specs.Decoding as codec
use Rattle.peer_tail_calls.specs.Adapting.{messages_in}
use Rattle.peer_adapter.specs.declared.errors.PeerFault.{PeerFault}
use Rattle.peer_adapter.specs.declared.told.Inbound.{Inbound}
use Rattle.peer_adapter.specs.Peering.{seen_aside}
use Rattle.peer_large.specs.declared.opening.Opened.{Opened}
use Rattle.peer_large.specs.Opening.{Came, came_at, came_in, seen}
use Rattle.peer_large.specs.Sparing.{Sparing, Coming, comes}
use Rattle.rpc_outgoing.specs.Outflows.{Outflow}
use Rattle.vat_connection.specs.Load.{Intake, held_words, with_frame}
use Rattle.vat_connection.specs.Speaking.{Speaking, Fails, Falls, HearsAll, HearsCame, HearsComing, HearsUp, IsAside, Shuts, came_by, came_of, stamp_of, tables_of, want_of_room, words_in}
use Rattle.vat_connection.specs.Framing.{HearsOpened, HearsInbound, IsFault, IsRefused, Opens, Turned}
use Rattle.vat_connection.proofs.Saying.{speaking}

-- ---- what is kept of a frame

pub came_large : (stamp : Stamp) (p : Part) (bytes : List ℕ) → not (p.dropped == 0) ≡ true → bytes ≡ p.kept → came_in bytes ≡ came_of stamp p
came_large stamp p bytes large same = by p.dropped large
  where
    by : (d : ℕ) → not (d == 0) ≡ true → came_in bytes ≡ came_by d stamp p.kept
    by zero large = absurd (let e : ◌≡◌ {A = Bool} false true = large in cc)
    by (suc d) large = ap came_in same

pub came_small : (stamp : Stamp) (p : Part) (bytes : List ℕ) → not (p.dropped == 0) ≡ false → bytes ≡ p.kept → came_at stamp bytes ≡ came_of stamp p
came_small stamp p bytes small same = by p.dropped small
  where
    by : (d : ℕ) → not (d == 0) ≡ false → came_at stamp bytes ≡ came_by d stamp p.kept
    by zero small = ap (λ (b : List ℕ). came_at stamp b) same
    by (suc d) small = absurd (let e : ◌≡◌ {A = Bool} true false = sym (ap not (eqb-suc-zero d)) ∙ small in cc)

module _ (host : Hosted) (out : Outflow) (adapter : Sparing) (heard : Intake) where
  abbrev start : Speaking
  start = speaking host out adapter heard

  -- ---- what the adapter said

  module _ (words : ℕ) (i : Inbound) where
    -- Memory is wanting, and nothing was put.
    pub inbound_lacks : (put : Outflow) (h : Intake) (next : Hosted) → put ≡ out → Shuts host want_of_room next → HearsInbound start words i (speaking next put adapter h)
    inbound_lacks put h next same shuts = subst (λ (o : Outflow). HearsInbound start words i (speaking next o adapter h)) (sym same) (inr (adapter, h, (shuts, refl)))

    pub inbound_hears : (put : Outflow) (next : Hosted) (count : Intake) → IsAside out (seen_aside i.aside) put → HearsAll host (messages_in i.heard) next → count ≡ with_frame (messages_in i.heard) words heard
        → HearsInbound start words i (speaking next put adapter count)
    inbound_hears put next count puts all is = subst (λ (k : Intake). HearsInbound start words i (speaking next put adapter k)) (sym is) (inl (put, puts, (next, all, refl)))

  -- ---- what a frame says

  module _ (words : ℕ) (e : Opened) where
    abbrev coming : Result Coming PeerFault
    coming = comes (tables_of host.core) adapter (seen e)

    refused_by : (c : Result Coming PeerFault) (n : ℕ) (next : Hosted) (a : Sparing) → IsRefused c n → Shuts host n next → HearsComing start words c (speaking next out a heard)
    refused_by (Ok c) n next a is shuts = absurd is
    refused_by (Err f) n next a is shuts = subst (λ (k : ℕ). Fails start k (speaking next out a heard)) is (a, heard, (shuts, refl))

    pub refused : (n : ℕ) (next : Hosted) (a : Sparing) → Turned coming (Err n) a → Shuts host n next → HearsOpened start words e (speaking next out a heard)
    refused n next a (inl is) shuts = inl (refused_by coming n next a is shuts)
    refused n next a (inr is) shuts = inr (a, heard, (subst (λ (k : ℕ). Shuts host k next) is shuts, refl))

    pub turned : (i : Inbound) (a : Sparing) (new : Speaking) → Turned coming (Ok i) a → HearsInbound (speaking host out a heard) words i new → HearsOpened start words e new
    turned i a new is (inl hears) = inl (subst (λ (c : Result Coming PeerFault). HearsComing start words c new) (sym is) hears)
    turned i a new is (inr (b, h, falls)) = inr (b, h, falls)

  -- ---- a frame

  module _ (frame : Part) where
    abbrev came : codec.Came Came
    came = came_of (stamp_of start) frame

    fault_by : (c : codec.Came Came) (n : ℕ) (next : Hosted) → IsFault c n → Shuts host n next → HearsCame start (words_in frame) c (speaking next out adapter heard)
    fault_by (Ok w) n next is shuts = absurd is
    fault_by (Err f) n next is shuts = subst (λ (k : ℕ). Falls start k (speaking next out adapter heard)) is (shuts, refl)

    pub not_opened : (n : ℕ) (next : Hosted) → Opens came (Err n) → Shuts host n next → HearsUp start frame (speaking next out adapter heard)
    not_opened n next (inl is) shuts = inl (fault_by came n next is shuts)
    not_opened n next (inr is) shuts = inr (adapter, heard, (subst (λ (k : ℕ). Shuts host k next) is shuts, refl))

    pub opened : (e : Opened) (new : Speaking) → Opens came (Ok e) → HearsOpened start (held_words (words_in frame) (seen e)) e new → HearsUp start frame new
    opened e new is (inl hears) = inl (subst (λ (c : codec.Came Came). HearsCame start (words_in frame) c new) (sym is) hears)
    opened e new is (inr lacks) = inr lacks
