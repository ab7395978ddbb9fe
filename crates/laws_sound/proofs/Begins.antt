-- Each step of a scene begins with what means what the history says.
use Rattle.std.proofs.Common.{◌≡◌, ◌⊎◌, inl, inr, Option, List, ◌∷◌, [], ◌++◌, append_assoc, sym, ap, ◌∙◌}
use Rattle.rpc_msg.specs.declared.ids.Vat.TheVariants.{A, B}
use Rattle.rpc_msg.specs.declared.ids.ObjectId.{ObjectId}
use Rattle.rpc_msg.specs.Vats.{other_vat}
use Rattle.rpc_journal.specs.declared.entry.JournalEntry.{JournalEntry}
use Rattle.rpc_journal.specs.declared.entry.JournalEntry.TheVariants as entry
use Rattle.rpc_journal.specs.Meaning.{History}
use Rattle.rpc_machine.specs.declared.command.Command.{Command}
use Rattle.rpc_machine.specs.declared.command.Command.TheVariants as command
use Rattle.rpc_machine.specs.declared.command.Granted.TheVariants as granted
use Rattle.rpc_machine.specs.State.{State}
use Rattle.rpc_msg.specs.declared.ids.Vat.{Vat}
use Rattle.rpc_machine.specs.Claims.{history}
use Rattle.rpc_machine.specs.Journal.{effect_entries, granted_entries}
use Rattle.rpc_machine.specs.Progress.{quiet}
use Rattle.rpc_machine.specs.World.{core}
use Rattle.laws_runs.specs.Scenes as scenes
use Rattle.laws_runs.specs.Scenes.{Scene, IsScene}
use Rattle.laws_meanings.specs.CommandMeanings.{OpensNothing, IsWritten, IsWrittenOpen}
use Rattle.laws_meanings.specs.FirstActs.{FirstActsFollow, IsReady}
use Rattle.laws_meanings.specs.LastingMeanings.{PlacesLast}
use Rattle.laws_meanings.specs.WrittenCommands.{CommandsAreWritten, Opens}
use Rattle.laws_sound.specs.OldestHeard.{OldestAreHeard, exports_mean}
use Rattle.laws_sound.specs.ScenesMean.{BeginningsFollow, Means, ScenesMean}
use Rattle.laws_meanings.proofs.StepsMean.{opens_or_not}

pub written_either : (h : History) (v : Vat) (s : State) (c : Command) → OpensNothing c ⊎ Opens c → IsWritten h v s c → (Opens c → IsWrittenOpen h v s c) → (OpensNothing c × IsWritten h v s c) ⊎ IsWrittenOpen h v s c
written_either h v s c (inl o) w f = inl (o, w)
written_either h v s c (inr o) w f = inr (f o)

module _ (a b : Option ObjectId) (heard : OldestAreHeard) (written : CommandsAreWritten) (places : PlacesLast) (means : (x : Scene) → IsScene a b x → Means a b x) where
  abbrev Ready : (x new : Scene) → scenes.Steps x new → Type 0
  Ready x new t = (es : List JournalEntry) × (more : List JournalEntry) × (new.journal ≡ es ++ more) × IsReady (history a b es) x new t

  ready : (x new : Scene) (t : scenes.Steps x new) → IsScene a b x → Ready x new t
  ready x new (scenes.Commanded v c g told s o up r d w e) j =
      let z = means x j in
      let own = granted_entries x.journal v c g in
      let k = written a b x v c g told s j o r d in (
        x.journal ++ own,
        effect_entries v told,
        ap (λ (y : Scene). y.journal) e ∙ sym (append_assoc x.journal own (effect_entries v told)),
        (z.0 v, places (history a b x.journal) own v (z.0 v) quiet (core x.world v) (z.1.places v), written_either (history a b (x.journal ++ own)) v (core x.world v) c (opens_or_not c) k.0 k.1),
      )
  ready x new (scenes.Received v m ms told s o up p f d w e) j =
      let z = means x j in
      let y = heard a b x z.0 v m ms j p f z.1 in
      (x.journal, entry.Got v ∷ effect_entries v told, ap (λ (y : Scene). y.journal) e, (z.0 v, z.1.places v, (exports_mean (history a b x.journal) x.world z.0 (other_vat v), y.0, y.1)))
  ready x new (scenes.GivesUp A c o r f e) j = (x.journal, granted_entries x.journal A c granted.Done, ap (λ (y : Scene). y.journal) e, tt)
  ready x new (scenes.GivesUp B c o r f e) j = (x.journal, granted_entries x.journal B c granted.Done, ap (λ (y : Scene). y.journal) e, tt)
  ready x new (scenes.Stops A o e) j = (x.journal, [], ap (λ (y : Scene). y.journal) e, tt)
  ready x new (scenes.Stops B o e) j = (x.journal, [], ap (λ (y : Scene). y.journal) e, tt)

pub beginnings_follow : OldestAreHeard → CommandsAreWritten → PlacesLast → FirstActsFollow → ScenesMean → BeginningsFollow
beginnings_follow heard written places follow means a b = follow a b (λ x new t j na nb. ready a b heard written places (means a b) x new t j)
