-- The core of each vat is its own in each scene; all else holds of each state to which a vat comes.
use Rattle.std.proofs.Common.{◌≡◌, ◌⊎◌, inl, inr, List, [], ◌∷◌, ◌++◌, refl, ◌∙◌, subst}
use Rattle.rpc_msg.specs.declared.ids.Vat.{Vat}
use Rattle.rpc_msg.specs.declared.ids.Vat.TheVariants.{A, B}
use Rattle.rpc_msg.specs.declared.message.Message.{Message}
use Rattle.rpc_journal.specs.declared.entry.JournalEntry.{JournalEntry}
use Rattle.rpc_journal.specs.declared.entry.JournalEntry.TheVariants as entry
use Rattle.rpc_machine.specs.declared.command.CallCommand.{CallCommand}
use Rattle.rpc_machine.specs.declared.command.Command.{Command}
use Rattle.rpc_machine.specs.declared.command.Command.TheVariants as command
use Rattle.rpc_machine.specs.declared.command.Effects.{Effects}
use Rattle.rpc_machine.specs.declared.command.Granted.{Granted}
use Rattle.rpc_machine.specs.declared.command.Granted.TheVariants as granted
use Rattle.rpc_machine.specs.State.{State}
use Rattle.rpc_machine.specs.Steps.{Does}
use Rattle.rpc_machine.specs.World.{core, put_inbox, after}
use Rattle.rpc_machine.specs.Journal.{effect_entries, granted_entries}
use Rattle.laws_steps.specs.NodesThere.{NodesAreThere}
use Rattle.laws_nodes.specs.Embargoes.{EmbargoesArePaired}
use Rattle.laws_nodes.specs.Questions.{EachEndsInTime}
use Rattle.laws_nodes.specs.Sources.{EachHasOneSource}
use Rattle.laws_runs.specs.Scenes as scenes
use Rattle.laws_runs.specs.Scenes.{Scene, IsScene}
use Rattle.laws_runs.proofs.KeptCounts as counts
use Rattle.laws_runs.proofs.MakesNone.{call_or_not}
use Rattle.laws_meanings.specs.FitCores.{CoresAreFit}
use Rattle.laws_meanings.proofs.OfCallsScenes.{both_reached, reached_at}
use Rattle.laws_meanings.proofs.Walked.{in_each}

vat_stays : (s t : State) (c : Command) (g : Granted) (x : Effects) → Does s c g x t → t.vat ≡ s.vat
vat_stays s t c g x d = by (call_or_not c)
  where
    by : (counts.IsNoCall c ⊎ ((y : CallCommand) × (c ≡ command.Call y))) → t.vat ≡ s.vat
    by (inl i) = (counts.does s c g x t i d).2
    by (inr y) = (counts.does_call s y.0 g x t (subst (λ (b : Command). Does s b g x t) y.1 d)).3.2

abbrev AtTheirs : Scene → Type 0
AtTheirs x = (x.world.a.core.vat ≡ A) × (x.world.b.core.vat ≡ B)

at : (x : Scene) (v : Vat) → AtTheirs x → (core x.world v).vat ≡ v
at x A k = k.0
at x B k = k.1

went_on : (x : Scene) (v : Vat) (told : Effects) (t : State) (es : List JournalEntry) → t.vat ≡ v → AtTheirs x → AtTheirs (scenes.goes_on x (after x.world v told t) es)
went_on x A told t es e k = (e, k.1)
went_on x B told t es e k = (k.0, e)

took : (x : Scene) (v : Vat) (ms : List Message) (told : Effects) (t : State) (es : List JournalEntry) → t.vat ≡ v → AtTheirs x → AtTheirs (scenes.goes_on x (after (put_inbox x.world v ms) v told t) es)
took x A ms told t es e k = (e, k.1)
took x B ms told t es e k = (k.0, e)

ended : (x : Scene) (v : Vat) (es : List JournalEntry) → AtTheirs x → AtTheirs (scenes.stopped x v es)
ended x A es k = k
ended x B es k = k

stepped : (x new : Scene) → scenes.Steps x new → AtTheirs x → AtTheirs new
stepped x new (scenes.Commanded v c g told s o up r d w e) k = rw e (went_on x v told s (granted_entries x.journal v c g ++ effect_entries v told) (vat_stays (core x.world v) s c g told d ∙ at x v k) k)
stepped x new (scenes.Received v m ms told s o up j f d w e) k = rw e (took x v ms told s (entry.Got v ∷ effect_entries v told) ((counts.handles (core x.world v) m told s f d).2 ∙ at x v k) k)
stepped x new (scenes.GivesUp v c o r f e) k = rw e (ended x v (granted_entries x.journal v c granted.Done) k)
stepped x new (scenes.Stops v o e) k = rw e (ended x v [] k)

pub cores_fit : NodesAreThere → EachHasOneSource → EachEndsInTime → EmbargoesArePaired → CoresAreFit
cores_fit whole one ends paired a b x i v =
    let s = core x.world v in
    let r = reached_at a b v x (both_reached a b x i) in
    record {
      vat = at x v (in_each a b AtTheirs (λ y mid j t k. stepped y mid t k) (refl, refl) x i);
      whole = whole s r;
      one_source = one s r;
      questions = ends s r;
      paired = paired s r;
    }
