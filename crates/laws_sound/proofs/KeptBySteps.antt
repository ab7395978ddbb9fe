-- Both vats behind a step: the one that took it, and the other.
use Rattle.std.proofs.Common.{◌≡◌, Option, List, [], ◌∷◌, ◌++◌, append_assoc, refl, sym, ap, ◌∙◌, subst}
use Rattle.rpc_msg.specs.declared.ids.Vat.{Vat}
use Rattle.rpc_msg.specs.declared.ids.Vat.TheVariants.{A, B}
use Rattle.rpc_msg.specs.declared.ids.ObjectId.{ObjectId}
use Rattle.rpc_msg.specs.declared.message.Message.{Message}
use Rattle.rpc_msg.specs.Vats.{other_vat}
use Rattle.rpc_journal.specs.declared.entry.JournalEntry.{JournalEntry}
use Rattle.rpc_journal.specs.declared.entry.JournalEntry.TheVariants as entry
use Rattle.rpc_machine.specs.declared.command.Effects.{Effects}
use Rattle.rpc_machine.specs.State.{State}
use Rattle.rpc_machine.specs.Claims.{history}
use Rattle.rpc_machine.specs.Journal.{effect_entries, granted_entries}
use Rattle.rpc_machine.specs.Progress.{quiet}
use Rattle.rpc_machine.specs.World.{World, after, core, inbox, put_inbox}
use Rattle.laws_runs.specs.Scenes as scenes
use Rattle.laws_runs.specs.Scenes.{Scene, IsScene, begins}
use Rattle.laws_meanings.specs.LastingMeanings.{PlacesLast}
use Rattle.laws_meanings.specs.NodeLabels.{Labels, Places}
use Rattle.laws_wires.specs.StepWires.{WiresLive}
use Rattle.laws_wires.specs.Wires.{WiresMean, WorldMeans}
use Rattle.laws_sound.specs.ScenesMean.{GoesOn, Means, MeaningsAreKept}
use Rattle.laws_sound.specs.StepsInScenes.{CommandsStep, MessagesStep}
use Rattle.laws_sound.specs.WiresKept.{BothMean, WiresAreKept, WiresAreKeptInScenes}
use Rattle.laws_runs.proofs.FallsInRuns.{leads_more}

-- With these labels of one vat.
abbrev with_labels : (Vat → Labels) → Vat → Labels → Vat → Labels
with_labels l A m A = m
with_labels l A m B = l B
with_labels l B m A = l A
with_labels l B m B = m

module _ (places : PlacesLast) (wires : WiresLive) (a b : Option ObjectId) (x : Scene) (l : Vat → Labels) (own effects : List JournalEntry) (told : Effects) (t : State) (m : Labels) where
  abbrev h : List JournalEntry
  h = x.journal ++ own

  together : (v : Vat) (ms : List Message) → WorldMeans (history a b x.journal) x.world l → Places (history a b (h ++ effects)) v m quiet t → BothMean (history a b h) x.world l v t m (inbox x.world (other_vat v) ++ told.sends) ms
      → WorldMeans (history a b (h ++ effects)) (after (put_inbox x.world v ms) v told t) (with_labels l v m)
  together A ms i mine both = record { places = held; wires = stand }
    where
      held : (u : Vat) → Places (history a b (h ++ effects)) u (with_labels l A m u) quiet (core (after (put_inbox x.world A ms) A told t) u)
      held A = mine
      held B = subst (λ (j : List JournalEntry). Places (history a b j) B (l B) quiet x.world.b.core) (sym (append_assoc x.journal own effects)) (places (history a b x.journal) (own ++ effects) B (l B) quiet x.world.b.core (i.places B))

      stand : (u : Vat) → WiresMean (history a b (h ++ effects)) u (core (after (put_inbox x.world A ms) A told t) u) (with_labels l A m u) (other_vat u) (core (after (put_inbox x.world A ms) A told t) (other_vat u)) (with_labels l A m (other_vat u)) (inbox (after (put_inbox x.world A ms) A told t) (other_vat u))
      stand A = wires (history a b h) effects A t m B x.world.b.core (l B) (x.world.b.inbox ++ told.sends) both.0
      stand B = wires (history a b h) effects B x.world.b.core (l B) A t m ms both.1
  together B ms i mine both = record { places = held; wires = stand }
    where
      held : (u : Vat) → Places (history a b (h ++ effects)) u (with_labels l B m u) quiet (core (after (put_inbox x.world B ms) B told t) u)
      held A = subst (λ (j : List JournalEntry). Places (history a b j) A (l A) quiet x.world.a.core) (sym (append_assoc x.journal own effects)) (places (history a b x.journal) (own ++ effects) A (l A) quiet x.world.a.core (i.places A))
      held B = mine

      stand : (u : Vat) → WiresMean (history a b (h ++ effects)) u (core (after (put_inbox x.world B ms) B told t) u) (with_labels l B m u) (other_vat u) (core (after (put_inbox x.world B ms) B told t) (other_vat u)) (with_labels l B m (other_vat u)) (inbox (after (put_inbox x.world B ms) B told t) (other_vat u))
      stand A = wires (history a b h) effects A x.world.a.core (l A) B t m ms both.1
      stand B = wires (history a b h) effects B t m A x.world.a.core (l A) (x.world.a.inbox ++ told.sends) both.0

-- A world in which nothing was taken from an inbox.
as_it_was : (w : World) (v : Vat) → put_inbox w v (inbox w v) ≡ w
as_it_was w A = refl
as_it_was w B = refl

pub meanings_kept : CommandsStep → MessagesStep → PlacesLast → WiresLive → WiresAreKeptInScenes → MeaningsAreKept
meanings_kept commands messages places wires kept a b x new t go scene i = by t go
  where
    arrives : (v : Vat) (ms : List Message) (own effects es : List JournalEntry) (told : Effects) (s : State) (m : Labels) (w : World) → w ≡ put_inbox x.world v ms → new ≡ scenes.goes_on x (after w v told s) es → x.journal ++ es ≡ (x.journal ++ own) ++ effects
        → Places (history a b new.journal) v m quiet s → BothMean (history a b (x.journal ++ own)) x.world i.0 v s m (inbox x.world (other_vat v) ++ told.sends) ms → Means a b new
    arrives v ms own effects es told s m w f e g mine both =
        let journal : new.journal ≡ (x.journal ++ own) ++ effects = ap (λ (y : Scene). y.journal) e ∙ g in
        let world : new.world ≡ after (put_inbox x.world v ms) v told s = ap (λ (y : Scene). y.world) e ∙ ap (λ (z : World). after z v told s) f in
        let z = together places wires a b x i.0 own effects told s m v ms i.1 (subst (λ (j : List JournalEntry). Places (history a b j) v m quiet s) journal mine) both in
        (with_labels i.0 v m, subst (λ (j : List JournalEntry). WorldMeans (history a b j) new.world (with_labels i.0 v m)) (sym journal) (subst (λ (y : World). WorldMeans (history a b ((x.journal ++ own) ++ effects)) y (with_labels i.0 v m)) (sym world) z))

    meant : WiresAreKept a b
    meant = kept a b

    by : (t : scenes.Steps x new) → GoesOn x new t → Means a b new
    by (scenes.Commanded v c g told s o up r d w e) go =
        let own = granted_entries x.journal v c g in
        let effects = effect_entries v told in
        let parts = sym (append_assoc x.journal own effects) in
        let z = commands a b x new i.0 v c g told s scene (leads_more x new (begins a b) scene (scenes.Commanded v c g told s o up r d w e)) i.1 o r d (ap (λ (y : Scene). y.journal) e ∙ parts) in
        let m = z.2.0 in
        let both = meant.commands x i.0 v c g told s m z.0 scene i.1 o r d z.1 z.2.1 z.2.3 in
        arrives v (inbox x.world v) own effects (own ++ effects) told s m x.world (sym (as_it_was x.world v)) e parts z.2.2 both
    by (scenes.Received v y ms told s o up p f d w e) go =
        let own = entry.Got v ∷ [] in
        let effects = effect_entries v told in
        let parts = sym (append_assoc x.journal own effects) in
        let z = messages a b x new i.0 v y ms told s scene (leads_more x new (begins a b) scene (scenes.Received v y ms told s o up p f d w e)) i.1 p f d (ap (λ (k : Scene). k.journal) e ∙ parts) in
        let m = z.2.0 in
        let both = meant.messages x i.0 v y ms told s m z.0 scene i.1 p f d z.1 z.2.1 z.2.2 z.2.4 in
        arrives v ms own effects (own ++ effects) told s m (put_inbox x.world v ms) refl e parts z.2.3 both
    by (scenes.GivesUp v c o r f e) go = absurd go
    by (scenes.Stops v o e) go = absurd go
