-- A step of a command in a scene, put together: before it, with its own entry, through it, and with what its effects write.
use Rattle.std.proofs.Common.{◌≡◌, ◌⊎◌, inl, inr, true, false, Option, List, [], ◌∷◌, ◌++◌, append_assoc, refl, sym, subst, ◌∙◌}
use Rattle.rpc_msg.specs.declared.ids.Vat.{Vat}
use Rattle.rpc_msg.specs.declared.ids.Vat.TheVariants.{A, B}
use Rattle.rpc_msg.specs.declared.ids.ObjectId.{ObjectId}
use Rattle.rpc_msg.specs.declared.message.Message.{Message}
use Rattle.rpc_journal.specs.declared.entry.JournalEntry.{JournalEntry}
use Rattle.rpc_journal.specs.declared.entry.JournalEntry.TheVariants as entry
use Rattle.rpc_machine.specs.declared.command.CallCommand.{CallCommand}
use Rattle.rpc_machine.specs.declared.command.Command.{Command}
use Rattle.rpc_machine.specs.declared.command.Command.TheVariants as command
use Rattle.rpc_machine.specs.declared.command.Granted.{Granted}
use Rattle.rpc_machine.specs.declared.command.Granted.TheVariants as granted
use Rattle.rpc_machine.specs.declared.command.Effects.{Effects}
use Rattle.rpc_machine.specs.State.{State}
use Rattle.rpc_machine.specs.Progress.{quiet}
use Rattle.rpc_machine.specs.Steps.{Does}
use Rattle.rpc_machine.specs.World.{core, put_inbox, after}
use Rattle.rpc_machine.specs.Journal.{effect_entries, granted_entries}
use Rattle.rpc_machine.specs.Claims.{history}
use Rattle.laws_steps.specs.NodesThere.{IsReached, NodesAreThere}
use Rattle.laws_nodes.specs.Embargoes.{EmbargoesArePaired}
use Rattle.laws_nodes.specs.Questions.{EachEndsInTime}
use Rattle.laws_nodes.specs.Sources.{EachHasOneSource}
use Rattle.laws_runs.specs.Scenes as scenes
use Rattle.laws_runs.specs.Scenes.{Scene, IsScene, begins}
use Rattle.laws_runs.proofs.KeptCounts.{IsNoCall, does, does_call, handles}
use Rattle.laws_runs.proofs.MakesNone.{call_or_not}
use Rattle.laws_meanings.specs.CommandMeanings.{OpensNothing, IsWritten, IsWrittenOpen}
use Rattle.laws_meanings.specs.NewReferences.{GivenAreNew}
use Rattle.laws_meanings.specs.NodeLabels.{Labels, Places, AreLed, EndsAreLed}
use Rattle.laws_meanings.specs.StepMeanings.{ScenesCommandsKeep, LastWordsAreLed}
use Rattle.laws_meanings.specs.WrittenCommands.{Opens, CommandsAreWritten}
use Rattle.laws_meanings.proofs.Entries.{each-append, upto, is_effect, granted_always}
use Rattle.laws_meanings.proofs.Walked.{in_each}
use Rattle.laws_meanings.proofs.OfCallsScenes.{reached_at, both_reached}
use Rattle.laws_meanings.proofs.CommandsMean.{commands_mean}
use Rattle.laws_meanings.proofs.OpensMean.{openings_mean}
use Rattle.laws_meanings.proofs.Lasts.{places_last}
use Rattle.laws_meanings.proofs.Written.{effects_are_written, IsLed, each_led}
use Rattle.laws_runs.proofs.FallsInRuns.{leads_more}

-- ---- Which vat it is

vat_still : (s : State) (c : Command) (g : Granted) (x : Effects) (t : State) → Does s c g x t → t.vat ≡ s.vat
vat_still s c g x t d = by (call_or_not c)
  where
    by : IsNoCall c ⊎ ((k : CallCommand) × (c ≡ command.Call k)) → t.vat ≡ s.vat
    by (inl i) = (does s c g x t i d).2
    by (inr k) = let z = does_call s k.0 g x t (subst (λ (b : Command). Does s b g x t) k.1 d) in z.3.2

abbrev Both : Scene → Type 0
Both x = (x.world.a.core.vat ≡ A) × (x.world.b.core.vat ≡ B)

put : (v : Vat) (x : Scene) (told : Effects) (t : State) (es : List JournalEntry) → t.vat ≡ (core x.world v).vat → Both x → Both (scenes.goes_on x (after x.world v told t) es)
put A x told t es e k = (e ∙ k.0, k.1)
put B x told t es e k = (k.0, e ∙ k.1)

took : (v : Vat) (x : Scene) (ms : List Message) (told : Effects) (t : State) (es : List JournalEntry) → t.vat ≡ (core x.world v).vat → Both x → Both (scenes.goes_on x (after (put_inbox x.world v ms) v told t) es)
took A x ms told t es e k = (e ∙ k.0, k.1)
took B x ms told t es e k = (k.0, e ∙ k.1)

stopped : (v : Vat) (x : Scene) (es : List JournalEntry) → Both x → Both (scenes.stopped x v es)
stopped A x es k = k
stopped B x es k = k

stepped : (x mid : Scene) → scenes.Steps x mid → Both x → Both mid
stepped x mid (scenes.Commanded v c g told s o up r d w e) k = rw e (put v x told s (granted_entries x.journal v c g ++ effect_entries v told) (vat_still (core x.world v) c g told s d) k)
stepped x mid (scenes.Received v m ms told s o up j f d w e) k = rw e (took v x ms told s (entry.Got v ∷ [] ++ effect_entries v told) (handles (core x.world v) m told s f d).2 k)
stepped x mid (scenes.GivesUp v c o r f e) k = rw e (stopped v x (granted_entries x.journal v c granted.Done) k)
stepped x mid (scenes.Stops v o e) k = rw e (stopped v x [] k)

its_vat : (a b : Option ObjectId) (x : Scene) → IsScene a b x → (v : Vat) → (core x.world v).vat ≡ v
its_vat a b x k v = by v (in_each a b Both (λ y mid i t p. stepped y mid t p) (refl, refl) x k)
  where
    by : (v : Vat) → Both x → (core x.world v).vat ≡ v
    by A g = g.0
    by B g = g.1

-- ---- The step

pub opens_or_not : (c : Command) → OpensNothing c ⊎ Opens c
opens_or_not command.Bootstrap = inr tt
opens_or_not (command.Call k) = inr tt
opens_or_not command.Promise = inr tt
opens_or_not (command.Host o) = inl tt
opens_or_not (command.CloneRef r) = inl tt
opens_or_not (command.DropRef r) = inl tt
opens_or_not (command.Field c path) = inl tt
opens_or_not (command.Resolve p r) = inl tt
opens_or_not (command.Reject p why) = inl tt
opens_or_not (command.Answer t payload refs) = inl tt
opens_or_not (command.Fail t why) = inl tt
opens_or_not (command.Finish c) = inl tt
opens_or_not (command.Advance r) = inl tt
opens_or_not (command.Shut n) = inl tt

no_effect : (a b : Option ObjectId) (v : Vat) (h : List JournalEntry) (e : JournalEntry) → is_effect e ≡ false → IsLed a b v h e
no_effect a b v h (entry.Delivered u d) f = let bad : true ≡ false = f in cc
no_effect a b v h (entry.Ended u x) f = let bad : true ≡ false = f in cc
no_effect a b v h e f = (tt, tt)

pub last_words_led : LastWordsAreLed
last_words_led a b h v c first rest y f = upto (IsLed a b v) h (granted_entries h v c granted.Done) first rest y (granted_always (IsLed a b v) (no_effect a b v) v h h c granted.Done) f

pub scenes_commands_keep : GivenAreNew → CommandsAreWritten → NodesAreThere → EachHasOneSource → EachEndsInTime → EmbargoesArePaired → ScenesCommandsKeep
scenes_commands_keep new written whole one ends paired a b x v l c g e t k over up r d within i =
    let own = granted_entries x.journal v c g in
    let es = effect_entries v e in
    let s = core x.world v in
    let reached = reached_at a b v x (both_reached a b x k) in
    let w = written a b x v c g e t k over r d in
    let before = places_last (history a b x.journal) own v l quiet s i in
    let z = by s (x.journal ++ own) (its_vat a b x k v) (opens_or_not c) w reached before d in
    let m = z.0 in
    let mid = scenes.goes_on x (after x.world v e t) (own ++ es) in
    let is_scene : IsScene a b mid = leads_more x mid (begins a b) k (scenes.Commanded v c g e t over up r d within refl) in (
      (m, effects_are_written new a b mid (x.journal ++ own) v m e t is_scene (sym (append_assoc x.journal own es)) z.1),
      λ first rest y f. upto (IsLed a b v) x.journal (own ++ es) first rest y (each-append (IsLed a b v) x.journal own es (granted_always (IsLed a b v) (no_effect a b v) v x.journal x.journal c g) (each_led a b v (x.journal ++ own) e z.2 z.3)) f,
    )
  where
    by : (s : State) (h : List JournalEntry) → s.vat ≡ v → OpensNothing c ⊎ Opens c → IsWritten (history a b h) v s c × (Opens c → IsWrittenOpen (history a b h) v s c) → IsReached s → Places (history a b h) v l quiet s → Does s c g e t → (m : Labels) × Places (history a b h) v m e t × AreLed (history a b h) v e.deliveries × EndsAreLed (history a b h) v e.answers
    by s h f (inl o) w j p q = let z = commands_mean (history a b h) v l s c g e t o w.0 (ends s j) p q in (record l { promise = z.0 }, z.1, z.2, z.3)
    by s h f (inr o) w j p q =
        subst (λ (u : Vat). (m : Labels) × Places (history a b h) u m e t × AreLed (history a b h) u e.deliveries × EndsAreLed (history a b h) u e.answers) f
        (openings_mean (history a b h) l s c g e t (subst (λ (u : Vat). IsWrittenOpen (history a b h) u s c) (sym f) (w.1 o)) (whole s j) (one s j) (ends s j) (paired s j) (subst (λ (u : Vat). Places (history a b h) u l quiet s) (sym f) p) q)
