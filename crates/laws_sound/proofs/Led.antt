-- In each scene the entries of each step are as what leads to an object, or to broken, says.
use Rattle.std.proofs.Common.{◌≡◌, true, Ok, None, Option, List, [], ◌∷◌, ◌++◌, append_assoc, append-nil, refl, sym, subst}
use Rattle.rpc_msg.specs.declared.ids.Vat.{Vat}
use Rattle.rpc_msg.specs.declared.ids.Vat.TheVariants.{A, B}
use Rattle.rpc_msg.specs.declared.ids.ObjectId.{ObjectId}
use Rattle.rpc_msg.specs.declared.message.Message.{Message}
use Rattle.rpc_msg.specs.Vats.{other_vat}
use Rattle.rpc_journal.specs.declared.entry.JournalEntry.{JournalEntry}
use Rattle.rpc_journal.specs.declared.entry.JournalEntry.TheVariants as entry
use Rattle.rpc_machine.specs.declared.command.Effects.{Effects}
use Rattle.rpc_machine.specs.declared.command.Granted.TheVariants as granted
use Rattle.rpc_machine.specs.State.{State}
use Rattle.rpc_machine.specs.Claims.{Upto, history}
use Rattle.rpc_machine.specs.Faults.{fault_of}
use Rattle.rpc_machine.specs.Journal.{command_entries, effect_entries, granted_entries}
use Rattle.rpc_machine.specs.Progress.{quiet}
use Rattle.rpc_machine.specs.Steps.{Handles}
use Rattle.rpc_machine.specs.World.{Answered, core, inbox}
use Rattle.laws_runs.specs.Scenes as scenes
use Rattle.laws_runs.specs.Scenes.{Scene, IsScene, begins}
use Rattle.laws_meanings.specs.FitCores.{CoresAreFit}
use Rattle.laws_meanings.specs.MessageMeanings.{IsHeard, MessagesKeepMeanings, with_imports}
use Rattle.laws_meanings.specs.NodeMeanings.{IfLedToObject, IfLedToBroken}
use Rattle.laws_meanings.specs.NodeLabels.{AreLed, EndsAreLed, Places}
use Rattle.laws_meanings.specs.StepMeanings.{AllLed, LastWordsAreLed, ScenesCommandsKeep}
use Rattle.laws_runs.proofs.Extends.{extends}
use Rattle.laws_meanings.proofs.Entries.{EachAfter, each-append, upto}
use Rattle.laws_meanings.proofs.Lasts.{ends_still, led_still}
use Rattle.laws_meanings.proofs.Walked.{in_each}
use Rattle.laws_meanings.proofs.Written.{IsLed, each_led}
use Rattle.laws_sound.specs.OldestHeard.{OldestAreHeard, exports_mean}
use Rattle.laws_sound.specs.ScenesMean.{Means, ScenesAreLed, ScenesMean}

module _ (a b : Option ObjectId) where
  abbrev Led : List JournalEntry → JournalEntry → Type 0
  Led = IsLed a b A

  one_by_one : (h es : List JournalEntry) → AllLed a b h es → EachAfter Led h es
  one_by_one h [] k = tt
  one_by_one h (y ∷ ys) k = (
    subst (λ (j : List JournalEntry). Led j y) (append-nil h) (k [] ys y refl),
    one_by_one (h ++ y ∷ []) ys (λ before behind z e. subst (λ (j : List JournalEntry). Led j z) (sym (append_assoc h (y ∷ []) before)) (k (y ∷ before) behind z (let g : y ∷ ys ≡ y ∷ (before ++ z ∷ behind) = (rw e refl) in g))),
  )

  module _ (heard : OldestAreHeard) (fit : CoresAreFit) (messages : MessagesKeepMeanings) (commands : ScenesCommandsKeep) (last : LastWordsAreLed) (means : (x : Scene) → IsScene a b x → Means a b x) where
    received : (x : Scene) (v : Vat) (m : Message) (ms : List Message) (told : Effects) (t : State) → IsScene a b x → inbox x.world v ≡ m ∷ ms → fault_of (core x.world v) m ≡ None → Handles (core x.world v) m told t → EachAfter Led x.journal (entry.Got v ∷ effect_entries v told)
    received x v m ms told t scene i f d =
        let h = history a b x.journal in
        let s = core x.world v in
        let z = means x scene in
        let l = z.0 v in
        let is = exports_mean h x.world z.0 (other_vat v) in
        let y = heard a b x z.0 v m ms scene i f z.1 in
        let ready = fit a b x scene v in
        let r = messages h l s is m told t y.0 (subst (λ (u : Vat). IsHeard h u (with_imports l is) s m) (sym ready.vat) y.1) ready.whole ready.one_source ready.questions (subst (λ (u : Vat). Places h u l quiet s) (sym ready.vat) (z.1.places v)) f d in
        let led : AreLed h v told.deliveries = subst (λ (u : Vat). AreLed h u told.deliveries) ready.vat r.4 in
        let ends : EndsAreLed h v told.answers = subst (λ (u : Vat). EndsAreLed h u told.answers) ready.vat r.5 in
        let more = entry.Got v ∷ [] in
        let k = history a b (x.journal ++ more) in
        ((tt, tt), each_led a b v (x.journal ++ more) told (led_still h k (extends h more) v told.deliveries led) (ends_still h k (extends h more) v told.answers ends))

    abbrev IsGood : Scene → Type 0
    IsGood x = EachAfter Led [] x.journal

    put : (x : Scene) (es : List JournalEntry) → IsGood x → EachAfter Led x.journal es → EachAfter Led [] (x.journal ++ es)
    put x es i k = each-append Led [] x.journal es i k

    stepped : (x mid : Scene) → IsScene a b x → scenes.Steps x mid → IsGood x → IsGood mid
    stepped x mid j (scenes.Commanded v c g told s o up r d w e) i =
        let z = means x j in
        let es = command_entries x.journal v c true (Answered (Ok g) told) in
        rw e (put x es i (one_by_one x.journal es (commands a b x v (z.0 v) c g told s j o up r d w (z.1.places v)).1))
    stepped x mid j (scenes.Received v m ms told s o up p f d w e) i = rw e (put x (entry.Got v ∷ effect_entries v told) i (received x v m ms told s j p f d))
    stepped x mid j (scenes.GivesUp A c o r f e) i = rw e (put x (granted_entries x.journal A c granted.Done) i (one_by_one x.journal _ (last a b x.journal A c)))
    stepped x mid j (scenes.GivesUp B c o r f e) i = rw e (put x (granted_entries x.journal B c granted.Done) i (one_by_one x.journal _ (last a b x.journal B c)))
    stepped x mid j (scenes.Stops A o e) i = rw e (put x [] i tt)
    stepped x mid j (scenes.Stops B o e) i = rw e (put x [] i tt)

    good : (x : Scene) → IsScene a b x → IsGood x
    good x k = in_each a b IsGood stepped tt x k

    pub led : (x : Scene) → IsScene a b x → Upto IfLedToObject (history a b x.journal) × Upto IfLedToBroken (history a b x.journal)
    led x k = (λ before behind e f. (upto Led [] x.journal before behind e (good x k) f).0, λ before behind e f. (upto Led [] x.journal before behind e (good x k) f).1)

pub scenes_led : OldestAreHeard → CoresAreFit → MessagesKeepMeanings → ScenesCommandsKeep → LastWordsAreLed → ScenesMean → ScenesAreLed
scenes_led heard fit messages commands last means a b x k = led a b heard fit messages commands last (means a b) x k
