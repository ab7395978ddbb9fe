-- The words of what is held.
use Rattle.std.proofs.Common.{◌≡◌, ℕ, zero, suc, ◌+◌, ◌*◌, ◌≤◌, Bool, true, false, List, [], ◌∷◌, ◌++◌, length, sum, Option, Some, None, Result, Ok, Err, inl, inr, IsSome, refl, sym, ap, subst, ◌∙◌, arith}
use Rattle.std.specs.Prelude.{IfOk}
use Rattle.std.proofs.lemmas.Bool.Decides.{nat_tests}
use Rattle.rpc_msg.specs.declared.ids.QuestionId.{QuestionId}
use Rattle.rpc_msg.specs.declared.message.Message.{Message}
use Rattle.rpc_msg.specs.declared.message.Message.TheVariants as message
use Rattle.rpc_msg.specs.declared.message.PlainMessage.TheVariants as plain
use Rattle.rpc_machine.specs.declared.command.Effects.{Effects}
use Rattle.rpc_machine.specs.Down.{ShutsFrom}
use Rattle.rpc_machine.specs.State.{State}
use Rattle.rpc_machine.specs.Steps.{Receives}
use Rattle.rpc_machine.specs.Steps.Receives.{WasDown, FaultsBy, LacksRoom, IsHandled}
use Rattle.vat_host.specs.Hosting.{Hosted}
use Rattle.capn_trees.specs.declared.faults.PayloadFault.TheVariants.{TooLarge}
use Rattle.rpc_msg.specs.declared.ids.Stamp.{Stamp}
use Rattle.rpc_codec_parts.specs.declared.faults.EnvelopeFault.{EnvelopeFault}
use Rattle.rpc_codec_parts.specs.declared.faults.EnvelopeFault.TheVariants.{Encoding}
use Rattle.rpc_codec.specs.Decoding as codec
use Rattle.peer_adapter.specs.declared.errors.PeerFault.{PeerFault}
use Rattle.peer_large.specs.declared.front.Large.{Large}
use Rattle.peer_large.specs.declared.limit.Limit.{Limit}
use Rattle.peer_large.specs.declared.limit.Limit.TheVariants as limit
use Rattle.peer_large.specs.Contents.{content_words, most_content_words}
use Rattle.peer_large.specs.Fronts.{large_in}
use Rattle.peer_large.specs.Laws.{ContentsAreSmall}
use Rattle.peer_large.specs.Opening.{Came, came_at, spared_or}
use Rattle.peer_large.specs.Sparing.{Coming, comes}
use Rattle.capn_reading.specs.Framing.{segment_count, sizes}
use Rattle.capn_stream.specs.declared.front.Front.TheVariants as front
use Rattle.capn_fronts.specs.Parts.{IsWhole, Part, front_at, front_of, keeps_at, keeps_of, nothing}
use Rattle.vat_connection.specs.declared.load.Limits.{Limits}
use Rattle.vat_connection.specs.Load.{Intake, held_words, question_in, weighed, without_call}
use Rattle.vat_connection.specs.Speaking.{Speaking, Breaks, Falls, Fails, HearsCame, HearsAll, HearsComing, HearsUp, Says, SaysTo, saying, came_by, came_of, stamp_of, tables_of, without, words_in}
use Rattle.vat_connection.specs.Speaking.SaysTo.{Nothing, Oldest, Broken}
use Rattle.vat_connection.specs.Hearing.{Ends, EndsUp, FollowsBy, HearsInTurn, Inflow, IsOver, Leaves, Proceeds, Rests, may_hear}
use Rattle.vat_connection.specs.Hearing.HearsInTurn.{All, Saying, Above, Down, Lacking, Oldest as OldestHeard}
use Rattle.vat_connection.specs.Connecting.{Connected, WorksOn, down}
use Rattle.vat_connection.specs.Laws.{LoadIsBounded, most_frame_words}

abbrev words : Speaking → ℕ
words s = s.heard.words

-- ---- a vat that fell is down

shut_down : (s new : State) (n : ℕ) (d : Option ℕ) (effects : Effects) → s.down ≡ d → ShutsFrom s n d effects new → IsSome new.down
shut_down s new n None effects is shuts = subst (λ (t : State). IsSome t.down) (sym shuts.new_is) refl
shut_down s new n (Some m) effects is shuts = subst (λ (t : State). IsSome t.down) (sym shuts.new_is) (subst (λ (d : Option ℕ). IsSome d) (sym is) refl)

fell : (old new : Speaking) (n : ℕ) → Falls old n new → IsSome new.host.core.down
fell old new n falls = shut_down old.host.core new.host.core n old.host.core.down falls.0.0 refl falls.0.1

failed : (old new : Speaking) (n : ℕ) → Fails old n new → IsSome new.host.core.down
failed old new n (a, h, falls) = fell (record old { adapter = a; heard = h }) new n falls

none_up : {A : Type 0} (d : Option ℕ) → d ≡ None → IsSome d → A
none_up None up is = absurd (let e : ◌≡◌ {A = Bool} false true = is in cc)
none_up (Some n) up is = absurd (let e : ◌≡◌ {A = Option ℕ} None (Some n) = sym up in cc)

broke : (old new : Speaking) → Breaks old new → IsSome new.host.core.down
broke old new (mid, lacks, passes) = subst (λ (s : Speaking). IsSome s.host.core.down) (sym passes.1) (failed old mid 33 lacks)

-- ---- what is said

less_without : (m : Message) (i : Intake) → (without_call m i).words ≤ i.words
less_without (message.Plain (plain.Return r)) i = omega arith
less_without (message.Plain (plain.Abort x)) i = omega arith
less_without (message.Plain (plain.Bootstrap x)) i = omega arith
less_without (message.Plain (plain.Call x)) i = omega arith
less_without (message.Plain (plain.Finish x)) i = omega arith
less_without (message.Plain (plain.Resolve x)) i = omega arith
less_without (message.Plain (plain.Release x)) i = omega arith
less_without (message.Plain (plain.Disembargo x)) i = omega arith
less_without (message.Plain (plain.Other x)) i = omega arith
less_without (message.Unimplemented x) i = omega arith

says_less : (new old : Speaking) → SaysTo new old → new.host.core.down ≡ None → words new ≤ words old
says_less new old (Nothing none same) up = let e = ap words same in omega (arith, e)
says_less new old (Oldest {s} {mid} m ms is laid (out, told, (host, hears, mid_is)) more) up =
    let later = says_less new mid more up in
    let e = ap words mid_is in
    let less = less_without m old.heard in
    omega (arith, later, e, less)
says_less new old (Broken m ms is breaks) up = none_up new.host.core.down up (broke (saying old m ms) new breaks)

-- ---- a vat that is down stays so

receives_down : (s new : State) (m : Message) (effects : Effects) → Receives s m effects new → IsSome s.down → IsSome new.down
receives_down s new m effects (WasDown d same) down = subst (λ (t : State). IsSome t.down) (sym same.new_is) down
receives_down s new m effects (FaultsBy n up fault e is) down = none_up s.down up down
receives_down s new m effects (LacksRoom up may falls) down = none_up s.down up down
receives_down s new m effects (IsHandled up fault does within) down = none_up s.down up down

hears_down : (old new : Hosted) (ms : List Message) → HearsAll old ms new → IsSome old.core.down → IsSome new.core.down
hears_down old new [] same down = subst (λ (h : Hosted). IsSome h.core.down) (sym same) down
hears_down old new (m ∷ ms) (mid, (noted, notes, (effects, receives, is)), more) down =
    hears_down mid new ms more
    (receives_down noted.core mid.core m effects receives (subst (λ (h : Hosted). IsSome h.core.down) (sym notes.2) down))

says_down : (new old : Speaking) → SaysTo new old → IsSome old.host.core.down → IsSome new.host.core.down
says_down new old (Nothing none same) down = subst (λ (s : Speaking). IsSome s.host.core.down) (sym same) down
says_down new old (Oldest {s} {mid} m ms is laid (out, told, (host, hears, mid_is)) more) down =
    says_down new mid more (subst (λ (s : Speaking). IsSome s.host.core.down) (sym mid_is) (hears_down (without old.host ms) host _ hears down))
says_down new old (Broken m ms is breaks) is_down = broke (saying old m ms) new breaks

was_up : (d : Option ℕ) → (IsSome d → ⊥) → d ≡ None
was_up None h = refl
was_up (Some n) h = absurd (h refl)

-- ---- what is heard

less_weighed : (q : Option QuestionId) (n : ℕ) (i : Intake) → (weighed q n i).words ≤ i.words + n
less_weighed (Some q) n i = omega arith
less_weighed None n i = omega arith

coming_less : (s mid : Speaking) (n : ℕ) (c : Result Coming PeerFault) → HearsComing s n c mid → mid.host.core.down ≡ None → words mid ≤ words s + n
coming_less s mid n (Ok c) (out, aside, (host, hears, is)) up = let e = ap words is in let less = less_weighed (question_in c.heard) n s.heard in omega (arith, e, less)
coming_less s mid n (Err f) fails up = none_up mid.host.core.down up (failed s mid _ fails)

came_less : (s mid : Speaking) (n most : ℕ) (c : codec.Came Came) → n ≤ most → IfOk c (λ w. content_words w ≤ most) → HearsCame s n c mid → mid.host.core.down ≡ None → words mid ≤ words s + most
came_less s mid n most (Ok w) few small hears up = let less = coming_less s mid (held_words n w) (comes (tables_of s.host.core) s.adapter w) hears up in omega (arith, less, few, small)
came_less s mid n most (Err f) few small falls up = none_up mid.host.core.down up (fell s mid _ falls)

-- the contents of a frame are no larger than a message may be
module _ (small : ContentsAreSmall) where
  few_or_none : (broken : Limit) (l : Option Large) (f : EnvelopeFault) → IfOk (spared_or broken l (Err f)) (λ w. content_words w ≤ most_frame_words)
  few_or_none broken (Some l) f = omega arith
  few_or_none broken None f = tt

  most_or_less : (c : codec.Came Came) → IfOk c (λ w. content_words w ≤ most_content_words) → IfOk c (λ w. content_words w ≤ most_frame_words)
  most_or_less (Ok w) h = omega (arith, h)
  most_or_less (Err f) h = tt

  few_by : (dropped : ℕ) (stamp : Stamp) (bytes : List ℕ) → IfOk (came_by dropped stamp bytes) (λ w. content_words w ≤ most_frame_words)
  few_by zero stamp bytes = most_or_less (came_at stamp bytes) (small stamp bytes)
  few_by (suc n) stamp bytes = few_or_none limit.Words (large_in bytes) (Encoding TooLarge)

  hears_less : (s mid : Speaking) (frame : Part) → words_in frame ≤ most_frame_words → HearsUp s frame mid → mid.host.core.down ≡ None → words mid ≤ words s + most_frame_words
  hears_less s mid frame few (inl came) up = came_less s mid (words_in frame) most_frame_words (came_of (stamp_of s) frame) few (few_by frame.dropped (stamp_of s) frame.kept) came up
  hears_less s mid frame few (inr lacks) up = none_up mid.host.core.down up (failed s mid _ lacks)

-- ---- a frame

few_segments : (len n words : ℕ) → front_at len n words ≡ front.Complete len → n ≤ 16
few_segments len n words is = grind (arith, nat_tests)

frame_by : (kept len n words : ℕ) → n ≤ 16 → kept ≤ keeps_at len n words → kept ≤ 8 * 65545
frame_by kept len n words few within = grind (arith, nat_tests)

frame_less : (frame : Part) → IsWhole frame → words_in frame ≤ most_frame_words
unfolding front_of keeps_of
frame_less frame whole =
    let len = length frame.kept + frame.dropped in
    let few = few_segments len (segment_count frame.kept) (sum (sizes frame.kept)) whole.whole in
    let most = frame_by (length frame.kept) len (segment_count frame.kept) (sum (sizes frame.kept)) few whole.few in
    omega (arith, most)

-- ---- in turn

within : (l : Limits) (s : Speaking) → may_hear l s ≡ true → words s ≤ l.words
within l s may = grind (arith, nat_tests, may)

module _ (small : ContentsAreSmall) (l : Limits) (bound : ℕ) (fits : l.words + most_frame_words ≤ bound) where
  turn_less : (new : Speaking) (left : List Part) (s : Speaking) (frames : List Part) → HearsInTurn l new left s frames → words s ≤ bound → new.host.core.down ≡ None → words new ≤ bound
  turn_less new left s [] (All same none) here up = let e = ap words same in omega (arith, e, here)
  turn_less new left s (f ∷ fs) (Saying {said = said} frame frames is_up says more) here up =
      turn_less new left said (frame ∷ frames) more (said_less said says (still_up said more)) up
    where
      still_up : (said : Speaking) → HearsInTurn l new left said (frame ∷ frames) → said.host.core.down ≡ None
      still_up said (Saying f fs is_up says more) = is_up
      still_up said (OldestHeard f fs is_up silent may whole hears more) = is_up
      still_up said (Above f fs is_up silent above same is) = is_up
      still_up said (Down f fs is_down same none) = none_up new.host.core.down up (subst (λ (x : Speaking). IsSome x.host.core.down) (sym same) is_down)
      still_up said (Lacking f fs is_up falls none) = is_up

      said_less : (said : Speaking) → Says s said → said.host.core.down ≡ None → words said ≤ bound
      said_less said says still = let less = says_less said s says still in omega (arith, less, here)
  turn_less new left s (f ∷ fs) (OldestHeard {mid = mid} frame frames is_up silent may whole hears more) here up =
      let one = hears_less small s mid frame (frame_less frame whole) hears (mid_up frames mid more) in
      let low = within l s may in
      turn_less new left mid frames more (omega (arith, one, low, fits)) up
    where
      mid_up : (fs : List Part) (mid : Speaking) → HearsInTurn l new left mid fs → mid.host.core.down ≡ None
      mid_up [] mid (All same none) = ap (λ (x : Speaking). x.host.core.down) (sym same) ∙ up
      mid_up (g ∷ gs) mid (Saying f fs is_up says more) = is_up
      mid_up (g ∷ gs) mid (OldestHeard f fs is_up silent may whole hears more) = is_up
      mid_up (g ∷ gs) mid (Above f fs is_up silent above same is) = is_up
      mid_up (g ∷ gs) mid (Down f fs is_down same none) = none_up new.host.core.down up (subst (λ (x : Speaking). IsSome x.host.core.down) (sym same) is_down)
      mid_up (g ∷ gs) mid (Lacking f fs is_up falls none) = is_up
  turn_less new left s (f ∷ fs) (Above frame frames is_up silent above same is) here up = let e = ap words same in omega (arith, e, here)
  turn_less new left s (f ∷ fs) (Down frame frames is_down same none) here up = let e = ap words same in omega (arith, e, here)
  turn_less new left s (f ∷ fs) (Lacking frame frames is_up falls none) here up = none_up new.host.core.down up (fell s new _ falls)

  over_less : (mid new : Speaking) (left : List Part) (waiting : Part) (n : ℕ) (later : Inflow) → IsOver mid left waiting n new later → new.host.core.down ≡ None → new ≡ mid
  over_less mid new [] waiting n later over up = none_up new.host.core.down up (fell mid new n over.0)
  over_less mid new (frame ∷ frames) waiting n later over up = over.0

  rests_less : (mid new : Speaking) (left : List Part) (waiting : Part) (over : Option ℕ) (later : Inflow) → Rests mid left waiting over new later → new.host.core.down ≡ None → new ≡ mid
  rests_less mid new left waiting None later rests up = rests.0
  rests_less mid new left waiting (Some n) later rests up = over_less mid new left waiting n later rests up

  leaves_less : (d : Option ℕ) (mid new : Speaking) (left : List Part) (waiting : Part) (over : Option ℕ) (later : Inflow) → Leaves d mid left waiting over new later → new.host.core.down ≡ None → new ≡ mid
  leaves_less (Some n) mid new left waiting over later leaves up = leaves.0
  leaves_less None mid new left waiting over later leaves up = rests_less mid new left waiting over later leaves up

  proceeds_less : (s new : Speaking) (i later : Inflow) → Proceeds l s i new later → words s ≤ bound → new.host.core.down ≡ None → words new ≤ bound
  proceeds_less s new i later (mid, left, turn, leaves) here up =
      let same = leaves_less mid.host.core.down mid new left i.waiting i.over later leaves up in
      let less = turn_less mid left s i.unheard turn here (ap (λ (x : Speaking). x.host.core.down) (sym same) ∙ up) in
      subst (λ (x : Speaking). words x ≤ bound) (sym same) less

  ends_by : (mid new : Speaking) (left : List Part) (rest : List ℕ) (later : Inflow) → EndsUp mid left rest new later → new.host.core.down ≡ None → new ≡ mid
  ends_by mid new left rest later (inl (waiting, begun, rests)) up = rests.0
  ends_by mid new left rest later (inr (f, none, over)) up = over_less mid new left nothing _ later over up

  ends_less : (d : Option ℕ) (mid new : Speaking) (left : List Part) (rest : List ℕ) (later : Inflow) → Ends d mid left rest new later → new.host.core.down ≡ None → new ≡ mid
  ends_less (Some n) mid new left rest later ends up = ends.0
  ends_less None mid new left rest later (inl ends) up = ends_by mid new left rest later ends up
  ends_less None mid new left rest later (inr falls) up = none_up new.host.core.down up (fell mid new _ falls.0)

  follows_less : (d o : Option ℕ) (s new : Speaking) (i later : Inflow) (bytes : List ℕ) → FollowsBy d o l s i bytes new later → words s ≤ bound → new.host.core.down ≡ None → words new ≤ bound
  follows_less (Some n) o s new i later bytes follows here up = let e = ap words follows.0 in omega (arith, e, here)
  follows_less None (Some n) s new i later bytes follows here up = let e = ap words follows.0 in omega (arith, e, here)
  follows_less None None s new i later bytes ((came, begun), behind) here up =
      let (frames, kept, rest, split, (mid, left, turn, ends)) = behind came begun in
      let same = ends_less mid.host.core.down mid new left rest later ends up in
      let less = turn_less mid left s (i.unheard ++ kept) turn here (ap (λ (x : Speaking). x.host.core.down) (sym same) ∙ up) in
      subst (λ (x : Speaking). words x ≤ bound) (sym same) less

works_less : (small : ContentsAreSmall) (bound : ℕ) (old new : Connected) → old.limits.words + most_frame_words ≤ bound → words old.speaker ≤ bound → WorksOn old new → down new ≡ None → words new.speaker ≤ bound
works_less small bound old new fits here (mid, inflow, proceeds, (said, says, is)) up =
    let said_up : said.host.core.down ≡ None = ap (λ (c : Connected). down c) (sym is) ∙ up in
    let less = says_less said mid says said_up in
    let e = ap (λ (c : Connected). words c.speaker) is in
    let mid_up : mid.host.core.down ≡ None = was_up mid.host.core.down (λ down. none_up said.host.core.down said_up (says_down said mid says down)) in
    let mid_less = proceeds_less small old.limits bound fits old.speaker mid old.inflow inflow proceeds here mid_up in
    omega (arith, less, e, mid_less)

pub load_is_bounded : ContentsAreSmall → LoadIsBounded
load_is_bounded small bound bytes old new fits here (inl receives) up = follows_less small old.limits bound fits (down old) old.inflow.over old.speaker new.speaker old.inflow new.inflow bytes receives.0 here up
load_is_bounded small bound bytes old new fits here (inr works) up = works_less small bound old new fits here works up
