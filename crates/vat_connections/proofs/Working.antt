-- What a connection does by itself is acts of its host: it hears messages, messages are taken out to be sent, and it goes down.
use Rattle.std.proofs.Common.{◌≡◌, ℕ, List, [], ◌∷◌, ◌++◌, append-nil, flat_map, Option, None, Some, Result, Ok, Err, inl, inr, refl, sym, ap, subst, ◌∙◌}
use Rattle.std.proofs.lemmas.Grind.{flat_map-append}
use Rattle.rpc_msg.specs.declared.message.Message.{Message}
use Rattle.rpc_machine.specs.declared.command.Command.{Command}
use Rattle.rpc_machine.specs.declared.command.Command.TheVariants as command
use Rattle.rpc_machine.specs.declared.command.Granted.TheVariants as granted
use Rattle.rpc_machine.specs.Steps.Obeys.{Shuts}
use Rattle.rpc_codec.specs.Decoding as codec
use Rattle.rpc_codec_parts.specs.Numbers.{number_of}
use Rattle.capn_fronts.specs.Parts.{Part, nothing as no_part}
use Rattle.capn_trees.specs.Numbers.{number_of as number_of_stream}
use Rattle.peer_adapter.specs.declared.errors.PeerFault.{PeerFault}
use Rattle.peer_adapter.specs.Numbers.{number_of as number_of_peer}
use Rattle.peer_large.specs.Opening.{Came}
use Rattle.peer_large.specs.Sparing.{Coming, Going, comes, goes}
use Rattle.vat_host.specs.declared.event.Event.{Event}
use Rattle.vat_host.specs.Hosting.{Hosted, Hears}
use Rattle.vat_hosts.specs.OneHost.{Act, ActsAll, Happening, happened_by, told_by}
use Rattle.vat_hosts.specs.OneHost.Act.{Commands, Takes, Receives}
use Rattle.vat_connection.specs.declared.load.Limits.{Limits}
use Rattle.vat_connection.specs.Load.{held_words}
use Rattle.vat_connection.specs.Speaking.{Speaking, Breaks, Falls, Fails, HearsAll, HearsCame, HearsComing, HearsUp, Passes, SaysTo, Turns, saying, came_of, stamp_of, tables_of, want_of_room, without, words_in}
use Rattle.vat_connection.specs.Speaking.SaysTo.{Nothing, Oldest, Broken}
use Rattle.vat_connection.specs.Hearing.{Comes, Ends, EndsUp, FollowsBy, HearsInTurn, Inflow, IsOver, Leaves, Proceeds, Rests}
use Rattle.vat_connection.specs.Hearing.HearsInTurn.{All, Saying, Above, Down, Lacking, Oldest as OldestHeard}
use Rattle.vat_connection.specs.Connecting.{Connected, EndsStream, WorksOn}
use Rattle.vat_connections.specs.OneConnection.{command_of}

-- Such acts lead from the one to the other: no command but shuts is done, and nothing is told.
pub record Works (h k : Hosted) : Type 0 where
  pub acts : List Act
  pub lead : ActsAll h acts k
  pub commands : flat_map command_of (flat_map happened_by acts) ≡ []
  pub tells : flat_map told_by acts ≡ []

pub acts_on : (h : Hosted) (xs : List Act) (k : Hosted) (ys : List Act) (l : Hosted) → ActsAll h xs k → ActsAll k ys l → ActsAll h (xs ++ ys) l
acts_on h [] k ys l same more = subst (λ (j : Hosted). ActsAll j ys l) same more
acts_on h (x ∷ xs) k ys l (mid, first, rest) more = (mid, first, acts_on mid xs k ys l rest more)

pub commands-append : (xs ys : List Act) → flat_map command_of (flat_map happened_by (xs ++ ys)) ≡ flat_map command_of (flat_map happened_by xs) ++ flat_map command_of (flat_map happened_by ys)
commands-append xs ys = ap (λ (l : List Happening). flat_map command_of l) (flat_map-append happened_by xs ys) ∙ flat_map-append command_of (flat_map happened_by xs) (flat_map happened_by ys)

pub rests : (h : Hosted) → Works h h
rests h = record { acts = []; lead = refl; commands = refl; tells = refl }

pub then : (h k l : Hosted) → Works h k → Works k l → Works h l
then h k l first more = record {
  acts = first.acts ++ more.acts;
  lead = acts_on h first.acts k more.acts l first.lead more.lead;
  commands =
      commands-append first.acts more.acts
      ∙ ap (λ (cs : List Command). cs ++ flat_map command_of (flat_map happened_by more.acts)) first.commands
      ∙ more.commands;
  tells = flat_map-append told_by first.acts more.acts ∙ ap (λ (es : List Event). es ++ flat_map told_by more.acts) first.tells ∙ more.tells;
}

-- ---- single acts

takes : (h : Hosted) (ms left : List Message) → h.messages ≡ ms ++ left → Works h (record h { messages = left })
takes h ms left is = record { acts = Takes ms ∷ []; lead = (record h { messages = left }, (left, is, refl), refl); commands = refl; tells = refl }

hears : (h k : Hosted) (m : Message) → Hears h m k → Works h k
hears h k m heard = record { acts = Receives m ∷ []; lead = (k, heard, refl); commands = refl; tells = refl }

pub falls : (s t : Speaking) (n : ℕ) → Falls s n t → Works s.host t.host
falls s t n ((e, shuts, is), same) =
    record { acts = Commands (command.Shut n) (Ok granted.Done) ∷ []; lead = (t.host, (e, Shuts n refl refl shuts, is), refl); commands = refl; tells = refl }

fails : (s t : Speaking) (n : ℕ) → Fails s n t → Works s.host t.host
fails s t n (adapter, heard, fell) = falls (record s { adapter = adapter; heard = heard }) t n fell

hears_all : (ms : List Message) (h k : Hosted) → HearsAll h ms k → Works h k
hears_all [] h k same = subst (λ (j : Hosted). Works h j) (sym same) (rests h)
hears_all (m ∷ ms) h k (mid, first, more) = then h mid k (hears h mid m first) (hears_all ms mid k more)

-- An equal vat.
stays : (s t : Speaking) → t ≡ s → Works s.host t.host
stays s t is = subst (λ (u : Speaking). Works s.host u.host) (sym is) (rests s.host)

-- ---- what it says

passes : (s t : Speaking) → Passes s t → Works s.host t.host
passes s t (all, is) = subst (λ (u : Speaking). Works s.host u.host) (sym is) (takes s.host s.host.messages [] (sym (append-nil s.host.messages)))

breaks : (s t : Speaking) → Breaks s t → Works s.host t.host
breaks s t (mid, lacks, passed) = then s.host mid.host t.host (fails s mid want_of_room lacks) (passes mid t passed)

turns : (s t : Speaking) (g : Going) → Turns s g t → Works s.host t.host
turns s t g (out, told, (host, heard, is)) = subst (λ (u : Speaking). Works s.host u.host) (sym is) (hears_all g.heard s.host host heard)

pub says : (t s : Speaking) → SaysTo t s → Works s.host t.host
says t _ (Nothing {s = s} none is) = stays s t is
says t _ (Oldest {s = s} {mid = mid} m ms is laid turned more) =
    then s.host (without s.host ms) t.host (takes s.host (m ∷ []) ms is) (then (without s.host ms) mid.host t.host (turns (saying s m ms) mid (goes s.adapter m) turned) (says t mid more))
says t _ (Broken {s = s} m ms is broke) = then s.host (without s.host ms) t.host (takes s.host (m ∷ []) ms is) (breaks (saying s m ms) t broke)

-- ---- what it hears

comes_one : (s t : Speaking) (words : ℕ) (r : Result Coming PeerFault) → HearsComing s words r t → Works s.host t.host
comes_one s t words (Ok c) (out, aside, (host, heard, is)) = subst (λ (u : Speaking). Works s.host u.host) (sym is) (hears_all c.heard s.host host heard)
comes_one s t words (Err f) failed = fails s t (number_of_peer f) failed

came_one : (s t : Speaking) (words : ℕ) (r : codec.Came Came) → HearsCame s words r t → Works s.host t.host
came_one s t words (Ok w) heard = comes_one s t (held_words words w) (comes (tables_of s.host.core) s.adapter w) heard
came_one s t words (Err f) fell = falls s t (number_of f) fell

hears_up : (s t : Speaking) (frame : Part) → HearsUp s frame t → Works s.host t.host
hears_up s t frame (inl heard) = came_one s t (words_in frame) (came_of (stamp_of s) frame) heard
hears_up s t frame (inr lacks) = fails s t want_of_room lacks

in_turn : (l : Limits) (t : Speaking) (left : List Part) (s : Speaking) (frames : List Part) → HearsInTurn l t left s frames → Works s.host t.host
in_turn l t left _ _ (All {s = s} is none) = stays s t is
in_turn l t left _ _ (Saying {s = s} {said = said} frame frames up said_so more) = then s.host said.host t.host (says said s said_so) (in_turn l t left said (frame ∷ frames) more)
in_turn l t left _ _ (OldestHeard {s = s} {mid = mid} frame frames up none may is_frame heard more) = then s.host mid.host t.host (hears_up s mid frame heard) (in_turn l t left mid frames more)
in_turn l t left _ _ (Above {s = s} frame frames up none above is rest) = stays s t is
in_turn l t left _ _ (Down {s = s} frame frames down is none) = stays s t is
in_turn l t left _ _ (Lacking {s = s} frame frames up fell none) = falls s t want_of_room fell

over : (mid t : Speaking) (left : List Part) (waiting : Part) (n : ℕ) (later : Inflow) → IsOver mid left waiting n t later → Works mid.host t.host
over mid t [] waiting n later (fell, nothing) = falls mid t n fell
over mid t (frame ∷ frames) waiting n later (is, rest) = stays mid t is

rests_by : (mid t : Speaking) (left : List Part) (waiting : Part) (end : Option ℕ) (later : Inflow) → Rests mid left waiting end t later → Works mid.host t.host
rests_by mid t left waiting None later (is, rest) = stays mid t is
rests_by mid t left waiting (Some n) later ended = over mid t left waiting n later ended

leaves : (d : Option ℕ) (mid t : Speaking) (left : List Part) (waiting : Part) (end : Option ℕ) (later : Inflow) → Leaves d mid left waiting end t later → Works mid.host t.host
leaves (Some n) mid t left waiting end later (is, nothing) = stays mid t is
leaves None mid t left waiting end later rested = rests_by mid t left waiting end later rested

proceeds : (l : Limits) (s t : Speaking) (inflow later : Inflow) → Proceeds l s inflow t later → Works s.host t.host
proceeds l s t inflow later (mid, left, turn, left_so) =
    then s.host mid.host t.host (in_turn l mid left s inflow.unheard turn) (leaves mid.host.core.down mid t left inflow.waiting inflow.over later left_so)

ends_by : (mid t : Speaking) (left : List Part) (rest : List ℕ) (later : Inflow) → EndsUp mid left rest t later → Works mid.host t.host
ends_by mid t left rest later (inl (waiting, begun, rested)) = rests_by mid t left waiting None later rested
ends_by mid t left rest later (inr (f, none, ended)) = over mid t left no_part (number_of_stream f) later ended

ends : (d : Option ℕ) (mid t : Speaking) (left : List Part) (rest : List ℕ) (later : Inflow) → Ends d mid left rest t later → Works mid.host t.host
ends (Some n) mid t left rest later (is, nothing) = stays mid t is
ends None mid t left rest later (inl ended) = ends_by mid t left rest later ended
ends None mid t left rest later (inr (fell, nothing)) = falls mid t want_of_room fell

comes_behind : (l : Limits) (s t : Speaking) (unheard : List Part) (bytes : List ℕ) (later : Inflow) → Comes l s unheard bytes t later → Works s.host t.host
comes_behind l s t unheard bytes later (frames, kept, rest, split, (mid, left, turn, ended)) =
    then s.host mid.host t.host (in_turn l mid left s (unheard ++ kept) turn) (ends mid.host.core.down mid t left rest later ended)

pub follows : (d over : Option ℕ) (l : Limits) (s t : Speaking) (inflow later : Inflow) (bytes : List ℕ) → FollowsBy d over l s inflow bytes t later → Works s.host t.host
follows (Some n) over l s t inflow later bytes (is, same) = stays s t is
follows None (Some n) l s t inflow later bytes (is, same) = stays s t is
follows None None l s t inflow later bytes ((came, begun), behind) = comes_behind l s t inflow.unheard (came ++ bytes) later (behind came begun)

-- ---- a connection

pub ends_stream : (d end : Option ℕ) (c k : Connected) → EndsStream d end c k → Works c.speaker.host k.speaker.host
ends_stream (Some n) end c k is = stays c.speaker k.speaker (ap (λ (x : Connected). x.speaker) is)
ends_stream None (Some n) c k is = stays c.speaker k.speaker (ap (λ (x : Connected). x.speaker) is)
ends_stream None None c k (ended, is) = over c.speaker k.speaker c.inflow.unheard no_part _ k.inflow ended

pub works_on : (c k : Connected) → WorksOn c k → Works c.speaker.host k.speaker.host
works_on c k (speaker, inflow, proceeded, (said, said_so, is)) =
    subst (λ (x : Connected). Works c.speaker.host x.speaker.host) (sym is)
    (then c.speaker.host speaker.host said.host (proceeds c.limits c.speaker speaker c.inflow inflow proceeded) (says said speaker said_so))
