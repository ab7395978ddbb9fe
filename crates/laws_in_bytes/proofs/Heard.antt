-- What comes to a vat is what the other said.
use Rattle.std.proofs.Common.{◌≡◌, inl, inr, ℕ, true, false, List, [], ◌∷◌, ◌++◌, append_assoc, flat_map, Option, None, Some, IsSome, Result, Ok, refl, sym, ap, subst, ◌∙◌}
use Rattle.std.specs.List.{concat}
use Rattle.rpc_msg.specs.declared.exception.Exception.{Exception}
use Rattle.rpc_msg.specs.declared.ids.ObjectId.{ObjectId}
use Rattle.rpc_msg.specs.declared.ids.Vat.{Vat}
use Rattle.rpc_msg.specs.declared.ids.Vat.TheVariants.{A, B}
use Rattle.rpc_msg.specs.declared.message.PlainMessage.{PlainMessage}
use Rattle.rpc_msg.specs.declared.message.PlainMessage.TheVariants as plain
use Rattle.rpc_msg.specs.declared.message.Message.{Message}
use Rattle.rpc_msg.specs.declared.message.Message.TheVariants as message
use Rattle.rpc_machine.specs.declared.command.Effects.{Effects}
use Rattle.rpc_machine.specs.declared.command.Level.{Level}
use Rattle.rpc_machine.specs.declared.command.Level.TheVariants.{Zero, One}
use Rattle.rpc_machine.specs.Down.{falling, fallen, silent, ShutsFrom}
use Rattle.rpc_machine.specs.Faults.{is_foreign, unless_foreign}
use Rattle.rpc_machine.specs.Laws.{OfEachStep}
use Rattle.rpc_machine.specs.Numbers.{peer_abort}
use Rattle.rpc_machine.specs.State.{State}
use Rattle.rpc_machine.specs.Steps.{Receives}
use Rattle.rpc_machine.specs.Steps.Receives.{WasDown, FaultsBy, LacksRoom, IsHandled}
use Rattle.rpc_machine.specs.World.{core, inbox}
use Rattle.rpc_msg.specs.declared.ids.Stamp.{Stamp}
use Rattle.rpc_codec.specs.Envelopes.{What, profile}
use Rattle.rpc_codec.specs.Decoding as codec
use Rattle.rpc_outgoing.specs.Outflows.{Outflow}
use Rattle.capn_fronts.specs.Laws.{AreKept, IsKept}
use Rattle.capn_fronts.specs.Parts.{Part}
use Rattle.peer_adapter.specs.declared.errors.PeerFault.{PeerFault}
use Rattle.peer_large.specs.Fronts.{large_in}
use Rattle.peer_large.specs.Opening.{Came, came_at, envelope, opened_by}
use Rattle.peer_large.specs.Sparing.{Coming, Sparing, comes, fresh}
use Rattle.laws_ends.specs.Names.{KeepsNames}
use Rattle.laws_peers.specs.Alike.{FittingNamesAreAlike}
use Rattle.laws_scenes.specs.Refused.{RunsRefuseNothing}
use Rattle.laws_understood.specs.Understood.{EveryRunIsUnderstood}
use Rattle.laws_wired.specs.Wires.{IsHeard, AsSaid, OfCall, OfResults, WiredRunsAreRuns}
use Rattle.laws_read_back.specs.ReadBack.{ReadsBack}
use Rattle.vat_host.specs.Hosting.{Hosted, is_abort}
use Rattle.vat_host.specs.Watching.{known_by}
use Rattle.vat_hosts.specs.Calls.{calls_told, of_calls}
use Rattle.vat_hosts.proofs.Calls.{known_no_call, more_calls}
use Rattle.vat_connection.specs.declared.load.Limits.{Limits}
use Rattle.vat_connection.specs.Load.{held_words}
use Rattle.vat_connection.specs.Speaking.{Speaking, HearsCame, HearsComing, HearsUp, Lacks, came_by, came_of, stamp_of, tables_of, want_of_room, words_in}
use Rattle.vat_connection.specs.Hearing.{HearsInTurn}
use Rattle.vat_connection.specs.Hearing.HearsInTurn.{All, Saying, Above, Down, Lacking, Oldest as OldestHeard}
use Rattle.laws_in_bytes.proofs.Aside.{HasRoom, StandAside, as_it_came, heard_aside}
use Rattle.laws_in_bytes.proofs.Counting.{has_room}
use Rattle.laws_in_bytes.proofs.Honest.{IsNewQuestion, Plainly, heard_well, names_none, oldest_well}
use Rattle.laws_in_bytes.proofs.Streams.{not_empty, same_kept}
use Rattle.laws_in_bytes.proofs.Viewing.{Reached, View, delivered, hears, stepped_view, world_of}
use Rattle.laws_in_bytes.proofs.Tied.{not_down, AllAborts, Clean, Happens2, IsPlainly, Link, Lost, Tied, fallen_down, falls, nothing2, one2, retie, shut2, step_ties, then2, told_elsewhere, told_here}
use Rattle.laws_in_bytes.proofs.Said.{says}
use Rattle.laws_in_bytes.proofs.Within.{HasSmallIds, IsFew, fallen_small, heard_few, message_keeps, shut_keeps}

-- ---- one message is heard

record Took (me new : Speaking) (x : Message) : Type 0 where
  effects : Effects
  step : Receives me.host.core x effects new.host.core
  messages : new.host.messages ≡ me.host.messages ++ effects.sends
  calls : flat_map of_calls new.host.events ≡ flat_map of_calls me.host.events ++ calls_told effects
  out : new.out ≡ me.out
  adapter : new.adapter ≡ fresh

adapter_up : (me : Speaking) → me.host.core.down ≡ None → IsPlainly me → me.adapter ≡ fresh
adapter_up me up (inl f) = f
adapter_up me up (inr a) = absurd (not_down me.host.core.down up a.0)

took_so : (me new : Speaking) (words : ℕ) (x : Message) → HearsComing me words (as_it_came x) new → Took me new x
took_so me new words x (out, (before, given_back, sends), (host, (first, (mid, (kept, noted, mid_is), (e, receives, is)), last), new_is)) =
    let host_is : new.host ≡ first = ap (λ (s : Speaking). s.host) new_is ∙ last in
    record {
      effects = e;
      step = subst (λ (s : State). Receives s x e new.host.core) (ap (λ (h : Hosted). h.core) mid_is) (subst (λ (h : Hosted). Receives mid.core x e h.core) (sym host_is) receives);
      messages = ap (λ (h : Hosted). h.messages) (host_is ∙ is) ∙ ap (λ (h : Hosted). h.messages ++ e.sends) mid_is;
      calls = ap (λ (h : Hosted). flat_map of_calls h.events) (host_is ∙ is)
          ∙ more_calls mid.events e (known_by x mid.core first.core) (known_no_call x mid.core first.core)
          ∙ ap (λ (h : Hosted). flat_map of_calls h.events ++ calls_told e) mid_is;
      out = ap (λ (s : Speaking). s.out) new_is ∙ sends ∙ given_back;
      adapter = ap (λ (s : Speaking). s.adapter) new_is;
    }

-- ---- there is room for it

-- The ids of a vat's answers are fewer than it may have, and that of a new one is not among them.
room_for : (s : State) (p : PlainMessage) → HasSmallIds s → IsFew (message.Plain p) → IsNewQuestion s p → HasRoom s p
room_for s (plain.Abort e) small few new = tt
room_for s (plain.Bootstrap q) small few new = has_room s.answers q.0 small.0 few.0 new
room_for s (plain.Call c) small few new = has_room s.answers c.question.0 small.0 few.0 new
room_for s (plain.Return r) small few new = tt
room_for s (plain.Finish f) small few new = tt
room_for s (plain.Resolve r) small few new = tt
room_for s (plain.Release r) small few new = tt
room_for s (plain.Disembargo d) small few new = tt
room_for s (plain.Other n) small few new = tt

room_of : (s : State) (x : Message) → HasSmallIds s → IsFew x → (pl : Plainly s x) → HasRoom s pl.0
room_of s x small few (p, is, w) = room_for s p small (subst IsFew is few) w.asks

-- ---- an Abort is heard

level_abort : (l : Level) (e : Exception) → unless_foreign (is_foreign l (plain.Abort e)) (Some peer_abort) ≡ Some 34
level_abort Zero e = refl
level_abort One e = refl

not_none : (k : ℕ) → Some k ≡ None → ⊥
not_none k e = cc

abort_received : (s : State) (e : Exception) (effects : Effects) (t : State) → s.down ≡ None → Receives s (message.Plain (plain.Abort e)) effects t → (effects ≡ silent 34) × (t ≡ fallen s 34)
abort_received s e effects t up (WasDown d u) = absurd (not_down s.down up d)
abort_received s e effects t up (FaultsBy n d f a u) =
    let k : Some 34 ≡ Some n = sym (level_abort s.level e) ∙ f in
    let i : n ≡ 34 = cc in
    (a ∙ ap silent i, u ∙ ap (fallen s) i)
abort_received s e effects t up (LacksRoom d l u) = absurd l
abort_received s e effects t up (IsHandled d f h w) = absurd (not_none 34 (sym (level_abort s.level e) ∙ f))

the_abort : (m : Message) → is_abort m ≡ true → (e : Exception) × (m ≡ message.Plain (plain.Abort e))
the_abort (message.Plain (plain.Abort e)) a = (e, refl)
the_abort (message.Plain (plain.Bootstrap q)) a = cc
the_abort (message.Plain (plain.Call c)) a = cc
the_abort (message.Plain (plain.Return r)) a = cc
the_abort (message.Plain (plain.Finish f)) a = cc
the_abort (message.Plain (plain.Resolve r)) a = cc
the_abort (message.Plain (plain.Release r)) a = cc
the_abort (message.Plain (plain.Disembargo d)) a = cc
the_abort (message.Plain (plain.Other k)) a = cc
the_abort (message.Unimplemented m) a = cc

heard_abort : (m x : Message) → is_abort m ≡ true → IsHeard m x → (e : Exception) × (x ≡ message.Plain (plain.Abort e))
heard_abort m x a (AsSaid is) = let k = the_abort m a in (k.0, is ∙ k.1)
heard_abort m x a (OfCall c stamp p h said is) = absurd (let b : false ≡ true = sym (ap is_abort said) ∙ a in cc)
heard_abort m x a (OfResults q flag ds p r h said is) = absurd (let b : false ≡ true = sym (ap is_abort said) ∙ a in cc)

abbrev came_as : What → codec.Came Came
came_as w = Ok (envelope w)

-- What is kept of a frame is all of it, and says what the frame says.
all_kept : (stamp : Stamp) (part : Part) (frame : List ℕ) → part.kept ≡ frame → part.dropped ≡ 0 → came_of stamp part ≡ came_at stamp frame
all_kept stamp part frame kept none = (λ i. came_by (none i) stamp (kept i))

-- A message of the profile breaks no limit.
profile_came : (stamp : Stamp) (frame : List ℕ) (x : Message) → codec.envelope_at stamp frame ≡ Ok (profile x) → came_at stamp frame ≡ Ok (envelope (profile x))
profile_came stamp frame x e = ap (opened_by (large_in frame)) e

-- The frames that are left, of those of which this is kept.
abbrev pub left_of : {l : Limits} {new : Speaking} {left : List Part} {s : Speaking} {parts : List Part} → HearsInTurn l new left s parts → (frames : List (List ℕ)) → AreKept frames parts → (fs : List (List ℕ)) × AreKept fs left
left_of (All is none) frames kept = ([], subst (λ (ps : List Part). AreKept [] ps) (sym none) tt)
left_of (Saying part parts up says more) frames kept = left_of more frames kept
left_of (OldestHeard part parts up none may whole heard more) [] kept = absurd kept
left_of (OldestHeard part parts up none may whole heard more) (f ∷ fs) kept = left_of more fs kept.1
left_of (Above part parts up none above is rest) frames kept = (frames, subst (λ (ps : List Part). AreKept frames ps) (sym rest) kept)
left_of (Down part parts down is none) frames kept = ([], subst (λ (ps : List Part). AreKept [] ps) (sym none) tt)
left_of (Lacking part parts up fell none) frames kept = ([], subst (λ (ps : List Part). AreKept [] ps) (sym none) tt)

mine_core : (v : Vat) (w : View) → core (world_of v w) v ≡ w.mine
mine_core A w = refl
mine_core B w = refl

mine_inbox : (v : Vat) (w : View) → inbox (world_of v w) v ≡ w.to_me
mine_inbox A w = refl
mine_inbox B w = refl

module _ (aside : StandAside) (alike : FittingNamesAreAlike) (runs : WiredRunsAreRuns) (refuse : RunsRefuseNothing) (understood : EveryRunIsUnderstood) (names : OfEachStep KeepsNames) (letters : Vat → Vat) (root_a root_b : Option ObjectId) where
  -- A frame says a message that names well, and for which there is room.
  took : (me new : Speaking) (words : ℕ) (came : codec.Came Came) (x : Message) → me.adapter ≡ fresh → came ≡ Ok (envelope (profile x)) → (pl : Plainly me.host.core x) → HasRoom me.host.core pl.0 → HearsCame me words came new → Took me new x
  took me new words came x f e (p, is, w) room h =
      let c = heard_aside aside me.host.core p room (alike me.host.core p w.first w.none) (names_none me.host.core p w) in
      let a : HearsComing me (held_words words (envelope (profile x))) (comes (tables_of me.host.core) me.adapter (envelope (profile x))) new = subst (λ (c : codec.Came Came). HearsCame me words c new) e h in
      let b : HearsComing me (held_words words (envelope (profile x))) (comes (tables_of me.host.core) fresh (envelope (profile (message.Plain p)))) new =
      subst (λ (m : Message). HearsComing me (held_words words (envelope (profile x))) (comes (tables_of me.host.core) fresh (envelope (profile m))) new) is
      (subst (λ (s : Sparing). HearsComing me (held_words words (envelope (profile x))) (comes (tables_of me.host.core) s (envelope (profile x))) new) f a) in
      subst (Took me new) (sym is) (took_so me new (held_words words (envelope (profile x))) (message.Plain p) (subst (λ (r : Result Coming PeerFault). HearsComing me (held_words words (envelope (profile x))) r new) c b))

  module _ (v : Vat) (peer new : Speaking) (more to_them : List ℕ) where
    -- The oldest message is heard, of which this is a frame.
    delivers : (me : Speaking) (part : Part) (frame to_me : List ℕ) (w : View) (m : Message) (ms : List Message) → me.host.core.down ≡ None → ReadsBack m frame → part.kept ≡ frame → part.dropped ≡ 0
        → w.to_me ≡ m ∷ ms → HearsCame me (words_in part) (came_of (stamp_of me) part) new → Reached letters root_a root_b (world_of v w) → Tied me peer to_me to_them w
        → Link ms peer.host.messages peer.host.core.down (more ++ peer.out.bytes) → Happens2 v w me.host new.host (Tied new peer more to_them)
    delivers me part frame to_me w m ms up r kept none there h reached t l =
        let x = r.says (stamp_of me) in
        let came : came_of (stamp_of me) part ≡ Ok (envelope (profile x.0)) = all_kept (stamp_of me) part frame kept none ∙ profile_came (stamp_of me) frame x.0 x.2 in
        let c : core (world_of v w) v ≡ me.host.core = mine_core v w ∙ t.mine in
        let well = subst (λ (s : State). Plainly s m) c
        (oldest_well runs refuse understood letters root_a root_b (world_of v w) v m ms reached (ap (λ (s : State). s.down) c ∙ up) (ap (λ (s : State). s.level) c ∙ t.own.level) (mine_inbox v w ∙ there)) in
        let pl = heard_well me.host.core m x.0 x.1 well in
        let few = heard_few m x.0 x.1 (r.asks, r.names) in
        let k = took me new (words_in part) (came_of (stamp_of me) part) x.0 (adapter_up me up t.own.plainly) came pl (room_of me.host.core x.0 t.own.small few pl) h in
        let step : Receives w.mine x.0 k.effects new.host.core = subst (λ (s : State). Receives s x.0 k.effects new.host.core) (sym t.mine) k.step in
        one2 v w (record (stepped_view w k.effects new.host.core) { to_me = ms }) me.host new.host (delivered v k.effects) k.effects (Tied new peer more to_them)
        (world_of v (record (stepped_view w k.effects new.host.core) { to_me = ms }), hears v w m x.0 ms k.effects new.host.core (ap (λ (s : State). s.down) t.mine ∙ up) there x.1 step, refl)
        refl (told_here v (calls_told k.effects)) (told_elsewhere v (calls_told k.effects)) k.calls
        (step_ties me peer new to_me to_them more w k.effects ms t up k.messages k.out (inl k.adapter) ((names.messages me.host.core x.0 k.effects new.host.core k.step).level ∙ t.own.level)
        (message_keeps me.host.core x.0 k.effects new.host.core few.0 few.1 k.step t.own.small) (λ u. l))

    -- An Abort is heard behind which others were lost: the vat is shut with 34.
    aborts : (me : Speaking) (part : Part) (frame to_me : List ℕ) (w : View) (m : Message) → me.host.core.down ≡ None → ReadsBack m frame → part.kept ≡ frame → part.dropped ≡ 0 → is_abort m ≡ true
        → IsSome peer.host.core.down → HearsCame me (words_in part) (came_of (stamp_of me) part) new → Tied me peer to_me to_them w → Happens2 v w me.host new.host (Tied new peer more to_them)
    aborts me part frame to_me w m up r kept none is d h t =
        let x = r.says (stamp_of me) in
        let came : came_of (stamp_of me) part ≡ Ok (envelope (profile x.0)) = all_kept (stamp_of me) part frame kept none ∙ profile_came (stamp_of me) frame x.0 x.2 in
        let a = heard_abort m x.0 is x.1 in
        let k = took me new (words_in part) (came_of (stamp_of me) part) x.0 (adapter_up me up t.own.plainly) came (plain.Abort a.0, a.1, record { first = tt; none = tt; asks = tt }) tt h in
        let got = abort_received me.host.core a.0 k.effects new.host.core up (subst (λ (y : Message). Receives me.host.core y k.effects new.host.core) a.1 k.step) in
        shut2 v w me.host new.host 34 (falling 34) new.host.core (Tied new peer more to_them) t.mine up
        (subst (λ (o : Option ℕ). ShutsFrom me.host.core 34 o (falling 34) new.host.core) (sym up) (record { effects_are = refl; new_is = got.1 }))
        (k.calls ∙ ap (λ (x : Effects). flat_map of_calls me.host.events ++ calls_told x) got.0)
        (record {
          mine = refl;
          theirs = t.theirs;
          own = record {
            echoes = ap (λ (o : Outflow). o.echoes) k.out ∙ t.own.echoes;
            plainly = inl k.adapter;
            level = ap (λ (s : State). s.level) got.1 ∙ t.own.level;
            small = subst HasSmallIds (sym got.1) (fallen_small me.host.core 34);
          };
          own_theirs = t.own_theirs;
          link = λ u. absurd (not_down new.host.core.down u (fallen_down me.host.core new.host.core 34 got.1));
          link_theirs = λ u. absurd (not_down peer.host.core.down u d);
        })

    -- A frame is heard of which this is kept.
    comes_by : (me : Speaking) (part : Part) (frame : List ℕ) (w : View) → me.host.core.down ≡ None → IsKept frame part → HearsCame me (words_in part) (came_of (stamp_of me) part) new
        → Reached letters root_a root_b (world_of v w) → Tied me peer (frame ++ more) to_them w → Link w.to_me peer.host.messages peer.host.core.down ((frame ++ more) ++ peer.out.bytes)
        → Happens2 v w me.host new.host (Tied new peer more to_them)
    comes_by me part frame w up kept h reached t (Clean [] [] f i b) = absurd (not_empty frame (more ++ peer.out.bytes) part kept (sym (append_assoc frame more peer.out.bytes) ∙ b))
    comes_by me part frame w up kept h reached t (Clean (m ∷ ms) [] f i b) = absurd f
    comes_by me part frame w up kept h reached t (Clean [] (g ∷ gs) f i b) = absurd f
    comes_by me part frame w up kept h reached t (Clean (m ∷ ms) (g ∷ gs) f i b) =
        let s = same_kept frame g (more ++ peer.out.bytes) (concat gs) part kept f.0.whole (sym (append_assoc frame more peer.out.bytes) ∙ b) in
        delivers me part g (frame ++ more) w m (ms ++ peer.host.messages) up f.0 s.kept s.whole i h reached t (Clean ms gs f.1 refl s.behind)
    comes_by me part frame w up kept h reached t (Lost [] lost [] [] [] f g a i b n d) = absurd (not_empty frame (more ++ peer.out.bytes) part kept (sym (append_assoc frame more peer.out.bytes) ∙ b))
    comes_by me part frame w up kept h reached t (Lost [] lost (x ∷ xs) [] [] f g a i b n d) = absurd g
    comes_by me part frame w up kept h reached t (Lost [] lost [] [] (y ∷ ys) f g a i b n d) = absurd g
    comes_by me part frame w up kept h reached t (Lost [] lost (x ∷ xs) [] (y ∷ ys) f g a i b n d) =
        let s = same_kept frame y (more ++ peer.out.bytes) (concat ys) part kept g.0.whole (sym (append_assoc frame more peer.out.bytes) ∙ b) in
        aborts me part y (frame ++ more) w x up g.0 s.kept s.whole a.0 d h t
    comes_by me part frame w up kept h reached t (Lost (m ∷ ms) lost xs [] gs f g a i b n d) = absurd f
    comes_by me part frame w up kept h reached t (Lost [] lost xs (z ∷ zs) gs f g a i b n d) = absurd f
    comes_by me part frame w up kept h reached t (Lost (m ∷ ms) lost xs (z ∷ zs) gs f g a i b n d) =
        let s = same_kept frame z (more ++ peer.out.bytes) (concat zs ++ concat gs) part kept f.0.whole (sym (append_assoc frame more peer.out.bytes) ∙ b ∙ append_assoc z (concat zs) (concat gs)) in
        delivers me part z (frame ++ more) w m (ms ++ lost) up f.0 s.kept s.whole i h reached t (Lost ms lost xs zs gs f.1 g a refl s.behind n d)

    -- Memory is wanting for it.
    lacks : (me : Speaking) (to_me : List ℕ) (w : View) → Lacks me new → Tied me peer to_me to_them w → me.host.core.down ≡ None → me.host.messages ≡ [] → Happens2 v w me.host new.host (Tied new peer more to_them)
    lacks me to_me w (adapter, heard, ((effects, from, host_is), is)) t up none =
        let s : ShutsFrom me.host.core want_of_room None effects new.host.core = subst (λ (o : Option ℕ). ShutsFrom me.host.core want_of_room o effects new.host.core) up from in
        let gone = fallen_down me.host.core new.host.core want_of_room s.new_is in
        let said : new.host.messages ≡ [] ++ (falling want_of_room).sends = ap (λ (x : Hosted). x.messages) host_is ∙ (λ i. none i ++ (s.effects_are i).sends) in
        shut2 v w me.host new.host want_of_room effects new.host.core (Tied new peer more to_them) t.mine up from (ap (λ (x : Hosted). flat_map of_calls x.events) host_is ∙ more_calls me.host.events effects None refl)
        (step_ties me peer new to_me to_them more w effects w.to_me t up (ap (λ (x : Hosted). x.messages) host_is) (ap (λ (x : Speaking). x.out) is)
        (inr (gone, subst AllAborts (sym said) (refl, tt))) (ap (λ (x : State). x.level) s.new_is ∙ t.own.level) (shut_keeps me.host.core want_of_room None effects new.host.core s t.own.small) (λ u. absurd (not_down new.host.core.down u gone)))

    hears_up : (me : Speaking) (part : Part) (frame : List ℕ) (w : View) → me.host.core.down ≡ None → me.host.messages ≡ [] → IsKept frame part → HearsUp me part new
        → Reached letters root_a root_b (world_of v w) → Tied me peer (frame ++ more) to_them w → Happens2 v w me.host new.host (Tied new peer more to_them)
    hears_up me part frame w up none kept (inl h) reached t = comes_by me part frame w up kept h reached t (t.link up)
    hears_up me part frame w up none kept (inr h) reached t = lacks me (frame ++ more) w h t up none

  -- ---- frames are heard in turn

  pub in_turn : (v : Vat) (l : Limits) (peer new : Speaking) (left : List Part) (r to_them : List ℕ) (s : Speaking) (parts : List Part) (w : View) (h : HearsInTurn l new left s parts)
      (frames : List (List ℕ)) (kept : AreKept frames parts) → Reached letters root_a root_b (world_of v w) → Tied s peer (concat frames ++ r) to_them w
      → Happens2 v w s.host new.host (Tied new peer (concat (left_of h frames kept).0 ++ r) to_them)
  in_turn v l peer new left r to_them _ _ w (All {s = s} is none) [] kept reached t =
      nothing2 v w s.host new.host (Tied new peer ([] ++ r) to_them) (ap (λ (x : Speaking). x.host.events) is) (subst (λ (x : Speaking). Tied x peer ([] ++ r) to_them w) (sym is) t)
  in_turn v l peer new left r to_them _ _ w (All {s = s} is none) (f ∷ fs) kept reached t = absurd kept
  in_turn v l peer new left r to_them _ _ w (Saying {s = s} {said = said} part parts up said_so more) frames kept reached t =
      then2 letters root_a root_b v w s.host said.host new.host (Tied said peer (concat frames ++ r) to_them) (Tied new peer (concat (left_of more frames kept).0 ++ r) to_them) reached
      (says aside runs refuse understood letters root_a root_b v said peer (concat frames ++ r) to_them w s said_so reached t)
      (λ u reached_u k. in_turn v l peer new left r to_them said (part ∷ parts) u more frames kept reached_u k)
  in_turn v l peer new left r to_them _ _ w (OldestHeard {s = s} {mid = mid} part parts up none may whole heard more) [] kept reached t = absurd kept
  in_turn v l peer new left r to_them _ _ w (OldestHeard {s = s} {mid = mid} part parts up none may whole heard more) (f ∷ fs) kept reached t =
      then2 letters root_a root_b v w s.host mid.host new.host (Tied mid peer (concat fs ++ r) to_them) (Tied new peer (concat (left_of more fs kept.1).0 ++ r) to_them) reached
      (hears_up v peer mid (concat fs ++ r) to_them s part f w up none kept.0 heard reached (subst (λ (x : List ℕ). Tied s peer x to_them w) (append_assoc f (concat fs) r) t))
      (λ u reached_u k. in_turn v l peer new left r to_them mid parts u more fs kept.1 reached_u k)
  in_turn v l peer new left r to_them _ _ w (Above {s = s} part parts up none above is rest) frames kept reached t =
      nothing2 v w s.host new.host (Tied new peer (concat frames ++ r) to_them) (ap (λ (x : Speaking). x.host.events) is) (subst (λ (x : Speaking). Tied x peer (concat frames ++ r) to_them w) (sym is) t)
  in_turn v l peer new left r to_them _ _ w (Down {s = s} part parts down is none) frames kept reached t =
      nothing2 v w s.host new.host (Tied new peer ([] ++ r) to_them) (ap (λ (x : Speaking). x.host.events) is)
      (subst (λ (x : Speaking). Tied x peer ([] ++ r) to_them w) (sym is) (retie s peer (concat frames ++ r) to_them ([] ++ r) w down t))
  in_turn v l peer new left r to_them _ _ w (Lacking {s = s} part parts up fell none) frames kept reached t =
      falls v s peer new want_of_room (concat frames ++ r) to_them ([] ++ r) w t fell
