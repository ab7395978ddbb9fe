-- From what two joined connections do to what is promised of one world.
use Rattle.std.proofs.Common.{◌≡◌, Bool, true, false, cond, Some, None, Ok, Err, List, [], ◌∷◌, ◌++◌, append-nil, length, map, flat_map, refl, sym, ap, subst, ◌∙◌}
use Rattle.std.proofs.lemmas.Grind.{flat_map-append}
use Rattle.rpc_msg.specs.declared.ids.Vat.{Vat}
use Rattle.rpc_journal.specs.History.{same_vat}
use Rattle.rpc_journal.specs.Meaning.{History}
use Rattle.rpc_machine.specs.declared.command.Command.{Command}
use Rattle.rpc_machine.specs.declared.command.Granted.{Granted}
use Rattle.rpc_machine.specs.Refusals.{is_shut}
use Rattle.rpc_machine.specs.World.{World, core, new_world, was_shut}
use Rattle.rpc_machine.specs.Journal.{journal}
use Rattle.rpc_machine.specs.Claims.{IsReached as LedTo, IsSound}
use Rattle.laws_sound.specs.Promised.{BootstrapsStay, WorldsAreSound, WorldsKeepPromises, events_of}
use Rattle.laws_wired.specs.Wires.{happening_at}
use Rattle.vat_host.specs.declared.event.Event.{Event}
use Rattle.vat_hosts.specs.Calls.{of_calls}
use Rattle.vat_hosts.specs.Hosts.{Done}
use Rattle.vat_hosts.specs.Worlds.{told_in}
use Rattle.vat_connections.specs.OneConnection.{Act, told_by as told_by_act}
use Rattle.vat_connections.specs.OneConnection.Act.{Commands, Receives, Ends, Shuts, Gives, Asks, SetsLimits, SetsFinishes}
use Rattle.laws_in_bytes.specs.Joined.{Doing, end}
use Rattle.laws_in_bytes.specs.Wired.{done_by, done_by_act, told_by}
use Rattle.laws_joined.specs.Sound.{AreSoundInBytes, JoinedRunsAreSound}
use Rattle.vat_joined.specs.declared.entry.JoinedEntry.{JoinedEntry}
use Rattle.vat_joined.specs.declared.entry.JoinedEntry.TheVariants as entry
use Rattle.vat_joined.specs.Recorded.{IsReached, Recorded, entries_by, entries_by_act}
use Rattle.vat_joined.specs.Promised.{AreToldInOrder, IsOneWorld, IsPromisedIn, IsToldAlike, JoinedKeepPromises, command_of, journal_in, told_of, told_to, world_in}
use Rattle.vat_joined.proofs.Journals.{none_counts}
use Rattle.vat_joined.proofs.Serving.{before, so_far, told_are_delivered}

-- ---- the journal says what was done and told

one_commanded : (b : Bool) (d : Done) (e : JoinedEntry) → command_of e ≡ d ∷ [] → cond b [] (d ∷ []) ≡ flat_map command_of (cond b [] (e ∷ []))
one_commanded true d e k = refl
one_commanded false d e k = ap (λ (l : List Done). l ++ []) (sym k)

commanded_so : (v : Vat) (x : Act) → done_by_act v x ≡ flat_map command_of (entries_by_act v x)
commanded_so v (Commands c (Ok g)) = one_commanded (is_shut c) (record { vat = v; command = c; granted = g }) _ refl
commanded_so v (Commands c (Err r)) = refl
commanded_so v (Receives bytes) = refl
commanded_so v Ends = refl
commanded_so v (Shuts n) = refl
commanded_so v (Gives bytes) = refl
commanded_so v (Asks (Some e)) = refl
commanded_so v (Asks None) = refl
commanded_so v (SetsLimits limits) = refl
commanded_so v (SetsFinishes finishes) = refl

all_commanded : (xs : List Doing) → flat_map done_by xs ≡ flat_map command_of (flat_map entries_by xs)
all_commanded [] = refl
all_commanded (x ∷ xs) =
    let one = commanded_so x.vat x.act in
    let rest = all_commanded xs in
    (λ i. one i ++ rest i) ∙ sym (flat_map-append command_of (entries_by x) (flat_map entries_by xs))

abbrev nil : List Event
nil = []

nothing : (b : Bool) → cond b nil nil ≡ nil
nothing true = refl
nothing false = refl

one_told : (b : Bool) (es : List Event) → cond b es [] ≡ cond b es [] ++ []
one_told b es = sym (append-nil (cond b es []))

nothing_commanded : (v u : Vat) (b : Bool) (c : Command) (g : Granted) → [] ≡ flat_map (told_of v) (cond b [] (entry.Commanded u c g ∷ []))
nothing_commanded v u true c g = refl
nothing_commanded v u false c g = refl

told_so : (v u : Vat) (x : Act) → cond (same_vat v u) (told_by_act x) [] ≡ flat_map (told_of v) (entries_by_act u x)
told_so v u (Commands c (Ok g)) = nothing (same_vat v u) ∙ nothing_commanded v u (is_shut c) c g
told_so v u (Commands c (Err r)) = nothing (same_vat v u)
told_so v u (Receives bytes) = nothing (same_vat v u)
told_so v u Ends = nothing (same_vat v u)
told_so v u (Shuts n) = nothing (same_vat v u)
told_so v u (Gives bytes) = nothing (same_vat v u)
told_so v u (Asks (Some e)) = one_told (same_vat v u) (of_calls e)
told_so v u (Asks None) = nothing (same_vat v u)
told_so v u (SetsLimits limits) = nothing (same_vat v u)
told_so v u (SetsFinishes finishes) = nothing (same_vat v u)

all_told : (v : Vat) (xs : List Doing) → flat_map (told_by v) xs ≡ flat_map (told_of v) (flat_map entries_by xs)
all_told v [] = refl
all_told v (x ∷ xs) =
    let one = told_so v x.vat x.act in
    let rest = all_told v xs in
    (λ i. one i ++ rest i) ∙ sym (flat_map-append (told_of v) (entries_by x) (flat_map entries_by xs))

-- ---- one world

pub one_world : JoinedRunsAreSound → (w : Recorded) → IsReached w → IsOneWorld w
one_world sound w r =
    let s = sound r.letters r.root_a r.root_b r.done w.joined r.ran r.at_once in
    let there = s.sound.there in
    record {
      root_a = r.root_a;
      root_b = r.root_b;
      happened = map (happening_at true) there.happened;
      worlds = there.worlds;
      ran = there.ran;
      commands = s.done ∙ all_commanded r.done ∙ ap (λ (h : List JoinedEntry). flat_map command_of h) (sym r.noted);
      told = λ v. told_alike v s;
      cores = λ v. ap (λ (z : World). core z v) (sym there.leads) ∙ s.wires.cores v;
    }
  where
    told_alike : (v : Vat) (s : AreSoundInBytes r.letters r.root_a r.root_b r.done w.joined) → IsToldAlike (told_to w v) (flat_map (told_in v) (map (happening_at true) s.sound.there.happened))
    told_alike v s =
        let so = s.wires.told v in
        let alike = s.told v in
        record {
          both = alike.told;
          cut = so.cut;
          cut_off = so.cut_off;
          is = ap (λ (l : List Event). l ++ flat_map of_calls (end w.joined v).speaker.host.events) (ap (λ (h : List JoinedEntry). flat_map (told_of v) h) r.noted ∙ sym (all_told v r.done))
              ∙ so.is ∙ ap (λ (l : List Event). l ++ so.cut) alike.over_is;
          run_is = alike.there_is;
        }

-- ---- what is promised of it

abbrev reached_in : {w : Recorded} (one : IsOneWorld w) → LedTo (record { world = world_in one; journal = events_of (journal_in one) })
reached_in one = record { root_a = one.root_a; root_b = one.root_b; happened = one.happened; ran = one.ran; told = none_counts one.happened }

promised_in : WorldsKeepPromises → {w : Recorded} (one : IsOneWorld w) → IsPromisedIn one
promised_in worlds one = worlds (journal_in one) (λ v. was_shut v one.happened) (world_in one) (reached_in one) (λ v. refl)

as_told : WorldsKeepPromises → {w : Recorded} (one : IsOneWorld w) → AreToldInOrder one
as_told worlds {w} one r v =
    let p = promised_in worlds one in
    let es = flat_map (told_in v) one.happened in
    before _ _ _ (so_far r (length (flat_map (told_of v) w.journal)) es)
    (before _ _ _ (told_are_delivered r v (new_world one.root_a one.root_b) one.happened (world_in one) one.ran (p.at_one r)) (p.in_order r))

pub joined_keep_promises : JoinedRunsAreSound → WorldsKeepPromises → WorldsAreSound → BootstrapsStay → JoinedKeepPromises
joined_keep_promises joined worlds sound stay w r = record {
  one_world = one_world joined w r;
  promised = λ one. promised_in worlds one;
  sound = λ one.
      subst (λ (h : History). IsSound h one.happened (world_in one)) (stay (journal_in one) (world_in one) (reached_in one)) (sound (journal_in one) (world_in one) (reached_in one));
  as_told = λ one. as_told worlds one;
}
