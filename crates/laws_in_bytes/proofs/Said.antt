-- What a vat says goes out as frames that read back.
use Rattle.std.proofs.Common.{◌≡◌, inl, inr, ℕ, Bool, true, false, List, [], ◌∷◌, ◌++◌, append-nil, append_assoc, flat_map, Option, None, Some, IsSome, Ok, Err, refl, sym, ap, subst, ◌∙◌}
use Rattle.std.specs.List.{concat}
use Rattle.rpc_msg.specs.Payloads.{Contents}
use Rattle.rpc_msg.specs.declared.ids.ObjectId.{ObjectId}
use Rattle.rpc_msg.specs.declared.ids.Vat.{Vat}
use Rattle.rpc_msg.specs.declared.ids.Vat.TheVariants.{A, B}
use Rattle.rpc_msg.specs.declared.message.PlainMessage.TheVariants as plain
use Rattle.rpc_msg.specs.declared.message.Message.{Message}
use Rattle.rpc_msg.specs.declared.message.Message.TheVariants as message
use Rattle.rpc_machine.specs.declared.command.Effects.{Effects}
use Rattle.rpc_machine.specs.State.{State}
use Rattle.rpc_machine.specs.Down.{fallen, ShutsFrom}
use Rattle.rpc_codec.specs.declared.envelope.SentElsewhere.{SentElsewhere}
use Rattle.rpc_codec.specs.Frames.{Written, message_frame, sent_elsewhere_frame}
use Rattle.rpc_outgoing.specs.Outflows.{Outflow, Framing, framed, frame_by, is_alone, IsSayable, Put, PutBy}
use Rattle.peer_tail_calls.specs.declared.heard.Said.{Said}
use Rattle.peer_tail_calls.specs.declared.heard.Said.TheVariants as said
use Rattle.peer_tail_calls.specs.Laws.{told_of}
use Rattle.peer_tail_calls.specs.Nulling.{IsLaidOut}
use Rattle.peer_large.specs.Sparing.{Going, Sparing, goes}
use Rattle.vat_host.specs.declared.event.Event.{Event}
use Rattle.vat_host.specs.Hosting.{Hosted, is_abort}
use Rattle.vat_host.specs.Queues.{told}
use Rattle.vat_hosts.specs.Calls.{of_calls}
use Rattle.vat_hosts.specs.Worlds.{told_in}
use Rattle.vat_hosts.proofs.Calls.{more_calls}
use Rattle.vat_connection.specs.Speaking.{Speaking, Breaks, PassesAll, PassesOne, SaysTo, Sends, Turns, saying, want_of_room}
use Rattle.vat_connection.specs.Speaking.SaysTo.{Nothing, Oldest, Broken}
use Rattle.laws_scenes.specs.Refused.{RunsRefuseNothing}
use Rattle.laws_understood.specs.Understood.{IsUnderstood, EveryRunIsUnderstood}
use Rattle.laws_wired.specs.Wires.{WiredRunsAreRuns}
use Rattle.laws_read_back.specs.ReadBack.{FramesReadBack, ReadsBack}
use Rattle.laws_in_bytes.proofs.Aside.{StandAside, abort_aside, aside_of, said_aside}
use Rattle.laws_in_bytes.proofs.Honest.{AreUnderstood, on_way}
use Rattle.laws_in_bytes.proofs.Streams.{concat_append}
use Rattle.laws_in_bytes.proofs.Within.{HasSmallIds, shut_keeps}
use Rattle.laws_in_bytes.proofs.Viewing.{Reached, View, world_of}
use Rattle.laws_in_bytes.proofs.Tied.{not_down, some_down, AllAborts, AreFrames, Clean, Happens2, IsPlainly, Link, Lost, Own, Tied, fallen_down, frames_append, nothing2, shut2}

-- ---- a frame goes out

-- These bytes are what goes out of what the peer is told.
abbrev pub IsSaid : Option Said → List ℕ → Type 0
IsSaid None bytes = bytes ≡ []
IsSaid (Some (said.Message n)) bytes = (frame : Contents) × (message_frame n ≡ Ok frame) × (bytes ≡ frame.bytes) × IsSayable n
IsSaid (Some (said.SentElsewhere s)) bytes = Unit {0}

record Added (old new : Outflow) (o : Option Said) : Type 0 where
  more : List ℕ
  said : IsSaid o more
  bytes : new.bytes ≡ old.bytes ++ more
  echoes : new.echoes ≡ []

put_so : (old new : Outflow) (n : Message) (w : Written Contents) → message_frame n ≡ w → IsSayable n → PutBy old (framed [] w) new → Added old new (Some (said.Message n))
put_so old new n (Ok frame) e sayable h = record { more = frame.bytes; said = (frame, e, refl, sayable); bytes = ap (λ (x : Outflow). x.bytes) h; echoes = ap (λ (x : Outflow). x.echoes) h }
put_so old new n (Err f) e sayable h = absurd h

alone_or_not : (n : Message) (b : Bool) → frame_by b [] n ≡ framed [] (message_frame n)
alone_or_not n true = refl
alone_or_not n false = refl

added : (old new : Outflow) (n : Message) → old.echoes ≡ [] → Put old n new → Added old new (Some (said.Message n))
added old new n none h =
    put_so old new n (message_frame n) refl h.0
    (subst (λ (x : Framing). PutBy old x new) (alone_or_not n (is_alone n)) (subst (λ (es : List Contents). PutBy old (frame_by (is_alone n) es n) new) none h.1))

elsewhere_so : (old new : Outflow) (s : SentElsewhere) (es : List Contents) (w : Written Contents) → es ≡ [] → PutBy old (framed es w) new → Added old new (Some (said.SentElsewhere s))
elsewhere_so old new s es (Ok frame) none h = record { more = frame.bytes; said = tt; bytes = ap (λ (x : Outflow). x.bytes) h; echoes = ap (λ (x : Outflow). x.echoes) h ∙ none }
elsewhere_so old new s es (Err f) none h = absurd h

sent : (old new : Outflow) (o : Option Said) → old.echoes ≡ [] → Sends old o new → Added old new o
sent old new None none h = record { more = []; said = refl; bytes = ap (λ (x : Outflow). x.bytes) h ∙ sym (append-nil old.bytes); echoes = ap (λ (x : Outflow). x.echoes) h ∙ none }
sent old new (Some (said.Message n)) none h = added old new n none h
sent old new (Some (said.SentElsewhere s)) none h = elsewhere_so old new s old.echoes (sent_elsewhere_frame s) none h

-- It reads back, if the message is understood.
readable : FramesReadBack → (m : Message) (more : List ℕ) → IsUnderstood m → IsLaidOut m → IsSaid (told_of m) more → ReadsBack m more
readable reads (message.Plain p) more u laid (frame, e, is, sayable) = subst (ReadsBack (message.Plain p)) (sym is) (reads p frame e sayable laid)
readable reads (message.Unimplemented p) more u laid said = absurd u

not_abort : false ≡ true → ⊥
not_abort e = cc

-- So does an Abort, of which the peer is told as it is.
read_of : FramesReadBack → (m : Message) (frame : Contents) → is_abort m ≡ true → message_frame m ≡ Ok frame → IsSayable m → ReadsBack m frame.bytes
read_of reads (message.Plain (plain.Abort x)) frame is e sayable = reads (plain.Abort x) frame e sayable tt
read_of reads (message.Plain (plain.Bootstrap q)) frame is e sayable = absurd (not_abort is)
read_of reads (message.Plain (plain.Call c)) frame is e sayable = absurd (not_abort is)
read_of reads (message.Plain (plain.Return r)) frame is e sayable = absurd (not_abort is)
read_of reads (message.Plain (plain.Finish f)) frame is e sayable = absurd (not_abort is)
read_of reads (message.Plain (plain.Resolve r)) frame is e sayable = absurd (not_abort is)
read_of reads (message.Plain (plain.Release r)) frame is e sayable = absurd (not_abort is)
read_of reads (message.Plain (plain.Disembargo d)) frame is e sayable = absurd (not_abort is)
read_of reads (message.Plain (plain.Other k)) frame is e sayable = absurd (not_abort is)
read_of reads (message.Unimplemented m) frame is e sayable = absurd (not_abort is)

-- ---- it breaks off

record Passed (old new : Outflow) : Type 0 where
  aborts : List Message
  frames : List (List ℕ)
  are : AreFrames aborts frames
  all : AllAborts aborts
  bytes : new.bytes ≡ old.bytes ++ concat frames
  echoes : new.echoes ≡ []

pass_on : FramesReadBack → (old new mid : Outflow) (m : Message) (b : Bool) → is_abort m ≡ b → old.echoes ≡ [] → PassesOne b old m mid → ((x : Outflow) → x ≡ mid → x.echoes ≡ [] → Passed x new) → Passed old new
pass_on reads old new mid m false i n k f = f old (sym k) n
pass_on reads old new mid m true i n (false, g) f = f old (sym g) n
pass_on reads old new mid m true i n (true, g) f =
    let a = added old mid m n g in
    let r = f mid refl a.echoes in
    record {
      aborts = m ∷ r.aborts;
      frames = a.said.0.bytes ∷ r.frames;
      are = (read_of reads m a.said.0 i a.said.1 a.said.3, r.are);
      all = (i, r.all);
      bytes = r.bytes ∙ ap (λ (x : List ℕ). x ++ concat r.frames) (a.bytes ∙ ap (λ (x : List ℕ). old.bytes ++ x) a.said.2) ∙ append_assoc old.bytes a.said.0.bytes (concat r.frames);
      echoes = r.echoes;
    }

passes : FramesReadBack → (old new : Outflow) (ms : List Message) → old.echoes ≡ [] → PassesAll old ms new → Passed old new
passes reads old new [] n h = record { aborts = []; frames = []; are = tt; all = tt; bytes = ap (λ (x : Outflow). x.bytes) h ∙ sym (append-nil old.bytes); echoes = ap (λ (x : Outflow). x.echoes) h ∙ n }
passes reads old new (m ∷ ms) n h =
    pass_on reads old new h.0 m (is_abort m) refl n h.1 (λ x e z. passes reads x new ms z (subst (λ (y : Outflow). PassesAll y ms new) (sym e) h.2))

link_lost : (inbox unsaid rest : List Message) (m : Message) (ms : List Message) (down later : Option ℕ) (bytes : List ℕ) (aborts : List Message) (gs : List (List ℕ)) → unsaid ≡ m ∷ ms → AreFrames aborts gs → AllAborts aborts → IsSome later
    → Link inbox unsaid down bytes → Link (inbox ++ rest) [] later (bytes ++ concat gs)
link_lost inbox unsaid rest m ms down later bytes aborts gs e are all d (Clean told fs f i b) =
    Lost told (unsaid ++ rest) aborts fs gs f are all (ap (λ (xs : List Message). xs ++ rest) i ∙ append_assoc told unsaid rest) (ap (λ (xs : List ℕ). xs ++ concat gs) b) refl d
link_lost inbox unsaid rest m ms down later bytes aborts gs e are all d (Lost told lost others fs hs f g a i b n k) = absurd (let bad : m ∷ ms ≡ [] = sym e ∙ n in cc)

tied_broken : (me peer new : Speaking) (to_me to_them : List ℕ) (w : View) (m : Message) (ms : List Message) (rest : List Message) (s : State) → me.host.messages ≡ m ∷ ms → (p : Passed me.out new.out)
    → new.host.messages ≡ [] → s ≡ new.host.core → s.level ≡ me.host.core.level → HasSmallIds s → IsSome new.host.core.down → Tied me peer to_me to_them w → Tied new peer to_me to_them (record w { mine = s; to_them = w.to_them ++ rest })
tied_broken me peer new to_me to_them w m ms rest s e p gone is level small d t = record {
  mine = is;
  theirs = t.theirs;
  own = record { echoes = p.echoes; plainly = inr (d, subst AllAborts (sym gone) tt); level = ap (λ (x : State). x.level) (sym is) ∙ level ∙ t.own.level; small = subst HasSmallIds is small };
  own_theirs = t.own_theirs;
  link = λ up. absurd (not_down new.host.core.down up d);
  link_theirs = λ up. subst (λ (x : List ℕ). Link (w.to_them ++ rest) new.host.messages new.host.core.down x)
      (append_assoc to_them me.out.bytes (concat p.frames) ∙ ap (λ (x : List ℕ). to_them ++ x) (sym p.bytes))
      (subst (λ (x : List Message). Link (w.to_them ++ rest) x new.host.core.down ((to_them ++ me.out.bytes) ++ concat p.frames)) (sym gone)
      (link_lost w.to_them me.host.messages rest m ms me.host.core.down new.host.core.down (to_them ++ me.out.bytes) p.aborts p.frames e p.are p.all d (t.link_theirs up)));
}

-- A vat goes down with 33 as it speaks.
broken : FramesReadBack → (v : Vat) (me peer new : Speaking) (to_me to_them : List ℕ) (w : View) (m : Message) (ms : List Message) → me.host.messages ≡ m ∷ ms → Breaks (saying me m ms) new
    → Tied me peer to_me to_them w → Happens2 v w me.host new.host (Tied new peer to_me to_them)
broken reads v me peer new to_me to_them w m ms e (mid, (adapter, heard, ((effects, from, host_is), mid_is)), (all, new_is)) t =
    by me.host.core.down refl from
  where
    out_is : mid.out ≡ me.out
    out_is = ap (λ (x : Speaking). x.out) mid_is

    gone : new.host.messages ≡ []
    gone = ap (λ (x : Speaking). x.host.messages) new_is

    passed : Passed me.out new.out
    passed = subst (λ (o : Outflow). Passed o new.out) out_is (passes reads mid.out new.out mid.host.messages (ap (λ (o : Outflow). o.echoes) out_is ∙ t.own.echoes) all)

    core_is : new.host.core ≡ mid.host.core
    core_is = ap (λ (x : Speaking). x.host.core) new_is

    events_are : new.host.events ≡ mid.host.events
    events_are = ap (λ (x : Speaking). x.host.events) new_is

    by : (o : Option ℕ) → me.host.core.down ≡ o → ShutsFrom me.host.core want_of_room o effects mid.host.core → Happens2 v w me.host new.host (Tied new peer to_me to_them)
    by (Some k) d s =
        let c : new.host.core ≡ me.host.core = core_is ∙ s.new_is in
        let down : IsSome new.host.core.down = some_down new.host.core.down k (ap (λ (x : State). x.down) c ∙ d) in
        let still : mid.host.events ≡ me.host.events = ap (λ (h : Hosted). h.events) host_is ∙ ap (λ (x : Effects). me.host.events ++ told x None) s.effects_are ∙ append-nil me.host.events in
        nothing2 v w me.host new.host (Tied new peer to_me to_them) (events_are ∙ still)
        (subst (λ (xs : List Message). Tied new peer to_me to_them (record w { to_them = xs })) (append-nil w.to_them)
        (tied_broken me peer new to_me to_them w m ms [] w.mine e passed gone (t.mine ∙ sym c) (ap (λ (x : State). x.level) t.mine) (subst HasSmallIds (sym t.mine) t.own.small) down t))
    by None d s =
        let c : new.host.core ≡ fallen me.host.core want_of_room = core_is ∙ s.new_is in
        let down = fallen_down me.host.core new.host.core want_of_room c in
        shut2 v w me.host new.host want_of_room effects mid.host.core (Tied new peer to_me to_them) t.mine d (subst (λ (o : Option ℕ). ShutsFrom me.host.core want_of_room o effects mid.host.core) (sym d) s)
        (ap (λ (es : List Event). flat_map of_calls es) (events_are ∙ ap (λ (h : Hosted). h.events) host_is) ∙ more_calls me.host.events effects None refl)
        (tied_broken me peer new to_me to_them w m ms effects.sends mid.host.core e passed gone (sym core_is) (ap (λ (x : State). x.level) s.new_is) (shut_keeps me.host.core want_of_room None effects mid.host.core s t.own.small) down t)

-- ---- the adapter stands aside

-- A message went out.
record Turned (me mid : Speaking) (m : Message) (ms : List Message) : Type 0 where
  went : Added me.out mid.out (told_of m)
  messages : mid.host.messages ≡ ms
  core : mid.host.core ≡ me.host.core
  events : mid.host.events ≡ me.host.events
  adapter : mid.adapter ≡ me.adapter

one_of : (told : List Message) (m : Message) (ms : List Message) → AreUnderstood (told ++ m ∷ ms) → IsUnderstood m
one_of [] m ms u = u.0
one_of (n ∷ told) m ms u = one_of told m ms u.1

link_said : FramesReadBack → (inbox : List Message) (unsaid : List Message) (m : Message) (ms : List Message) (down : Option ℕ) (bytes more : List ℕ) → unsaid ≡ m ∷ ms → AreUnderstood inbox → IsLaidOut m → IsSaid (told_of m) more
    → Link inbox unsaid down bytes → Link inbox ms down (bytes ++ more)
link_said reads inbox unsaid m ms down bytes more e u laid said (Clean told fs f i b) =
    let there : inbox ≡ told ++ (m ∷ ms) = i ∙ ap (λ (xs : List Message). told ++ xs) e in
    Clean (told ++ m ∷ []) (fs ++ more ∷ []) (frames_append told fs m more f (readable reads m more (one_of told m ms (subst AreUnderstood there u)) laid said))
    (there ∙ sym (append_assoc told (m ∷ []) ms))
    (ap (λ (xs : List ℕ). xs ++ more) b ∙ ap (λ (xs : List ℕ). concat fs ++ xs) (sym (append-nil more)) ∙ sym (concat_append fs (more ∷ [])))
link_said reads inbox unsaid m ms down bytes more e u laid said (Lost told lost aborts fs gs f g a i b n d) = absurd (let bad : m ∷ ms ≡ [] = sym e ∙ n in cc)

tied_said : FramesReadBack → (me peer mid : Speaking) (to_me to_them : List ℕ) (w : View) (m : Message) (ms : List Message) → me.host.messages ≡ m ∷ ms → AreUnderstood w.to_them → IsLaidOut m → Turned me mid m ms
    → Tied me peer to_me to_them w → Tied mid peer to_me to_them w
tied_said reads me peer mid to_me to_them w m ms e u laid k t =
    let c = ap (λ (x : State). x.down) k.core in
    record {
      mine = t.mine ∙ sym k.core;
      theirs = t.theirs;
      own = record { echoes = k.went.echoes; plainly = owns t.own.plainly; level = ap (λ (x : State). x.level) k.core ∙ t.own.level; small = subst HasSmallIds (sym k.core) t.own.small };
      own_theirs = t.own_theirs;
      link = λ up. t.link (sym c ∙ up);
      link_theirs = λ p. subst (λ (x : List ℕ). Link w.to_them mid.host.messages mid.host.core.down x) (append_assoc to_them me.out.bytes k.went.more ∙ ap (λ (x : List ℕ). to_them ++ x) (sym k.went.bytes))
          (subst (λ (x : Option ℕ). Link w.to_them mid.host.messages x ((to_them ++ me.out.bytes) ++ k.went.more)) (sym c)
          (subst (λ (x : List Message). Link w.to_them x me.host.core.down ((to_them ++ me.out.bytes) ++ k.went.more)) (sym k.messages)
          (link_said reads w.to_them me.host.messages m ms me.host.core.down (to_them ++ me.out.bytes) k.went.more e u laid k.went.said (t.link_theirs p))));
    }
  where
    owns : IsPlainly me → IsPlainly mid
    owns (inl f) = inl (k.adapter ∙ f)
    owns (inr a) = inr (subst (λ (x : State). IsSome x.down) (sym k.core) a.0, subst AllAborts (sym k.messages) (let b : AllAborts (m ∷ ms) = subst AllAborts e a.1 in b.1))

module _ (aside : StandAside) (runs : WiredRunsAreRuns) (refuse : RunsRefuseNothing) (understood : EveryRunIsUnderstood) (letters : Vat → Vat) (root_a root_b : Option ObjectId) where
  stands : (s : Speaking) (m : Message) (ms : List Message) → s.host.messages ≡ m ∷ ms → IsPlainly s → goes s.adapter m ≡ aside_of s.adapter m
  stands s m ms e (inl f) = subst (λ (x : Sparing). goes x m ≡ aside_of x m) (sym f) (said_aside aside m)
  stands s m ms e (inr a) = abort_aside s.adapter m (let b : AllAborts (m ∷ ms) = subst AllAborts e a.1 in b.0)

  turned : (me mid : Speaking) (m : Message) (ms : List Message) → me.host.messages ≡ m ∷ ms → Own me → Turns (saying me m ms) (goes me.adapter m) mid → Turned me mid m ms
  turned me mid m ms e own h = by (subst (λ (g : Going). Turns (saying me m ms) g mid) (stands me m ms e own.plainly) h)
    where
      by : Turns (saying me m ms) (aside_of me.adapter m) mid → Turned me mid m ms
      by (out, (before, given_back, sends), (host, hears, is)) =
          let a = sent me.out out (told_of m) own.echoes (subst (λ (x : Outflow). Sends x (told_of m) out) given_back sends) in
          let o : mid.out ≡ out = ap (λ (x : Speaking). x.out) is in
          record {
            went = record { more = a.more; said = a.said; bytes = ap (λ (x : Outflow). x.bytes) o ∙ a.bytes; echoes = ap (λ (x : Outflow). x.echoes) o ∙ a.echoes };
            messages = ap (λ (x : Speaking). x.host.messages) is ∙ ap (λ (x : Hosted). x.messages) hears;
            core = ap (λ (x : Speaking). x.host.core) is ∙ ap (λ (x : Hosted). x.core) hears;
            events = ap (λ (x : Speaking). x.host.events) is ∙ ap (λ (x : Hosted). x.events) hears;
            adapter = ap (λ (x : Speaking). x.adapter) is;
          }

  to_them_understood : (v : Vat) (w : View) → Reached letters root_a root_b (world_of v w) → AreUnderstood w.to_them
  to_them_understood A w r = on_way runs refuse understood letters root_a root_b (world_of A w) B r
  to_them_understood B w r = on_way runs refuse understood letters root_a root_b (world_of B w) A r

  -- All goes out that it has to say.
  pub says : (v : Vat) (new peer : Speaking) (to_me to_them : List ℕ) (w : View) (me : Speaking) → SaysTo new me → Reached letters root_a root_b (world_of v w) → Tied me peer to_me to_them w
      → Happens2 v w me.host new.host (Tied new peer to_me to_them)
  says v new peer to_me to_them w _ (Nothing {s = me} e f) r t = nothing2 v w me.host new.host (Tied new peer to_me to_them) (ap (λ (x : Speaking). x.host.events) f) (subst (λ (x : Speaking). Tied x peer to_me to_them w) (sym f) t)
  says v new peer to_me to_them w _ (Oldest {s = me} {mid = mid} m ms e laid h rest) r t =
      let k = turned me mid m ms e t.own h in
      let n = says v new peer to_me to_them w mid rest r (tied_said aside.reads me peer mid to_me to_them w m ms e (to_them_understood v w r) laid k t) in
      record {
        happened = n.happened;
        view = n.view;
        ran = n.ran;
        undone = n.undone;
        elsewhere = n.elsewhere;
        calls = n.calls ∙ ap (λ (es : List Event). flat_map of_calls es ++ flat_map (told_in v) n.happened) k.events;
        holds = n.holds;
      }
  says v new peer to_me to_them w _ (Broken {s = me} m ms e h) r t = broken aside.reads v me peer new to_me to_them w m ms e h t
