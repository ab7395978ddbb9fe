-- The wires behind a step in a scene, from what it leaves of them.
use Rattle.std.specs.FinMap as map
use Rattle.std.proofs.Common.{◌≡◌, ℕ, false, true, Option, None, List, [], ◌∷◌, ◌++◌, refl, sym, ap, ◌∙◌, subst}
use Rattle.rpc_msg.specs.declared.ids.Vat.{Vat}
use Rattle.rpc_msg.specs.declared.ids.Vat.TheVariants.{A, B}
use Rattle.rpc_msg.specs.declared.ids.ObjectId.{ObjectId}
use Rattle.rpc_msg.specs.declared.message.Message.{Message}
use Rattle.rpc_msg.specs.declared.message.Message.TheVariants as message
use Rattle.rpc_msg.specs.declared.message.PlainMessage.{PlainMessage}
use Rattle.rpc_msg.specs.Messages.{descriptors_of}
use Rattle.rpc_msg.specs.Vats.{other_vat}
use Rattle.rpc_journal.specs.declared.entry.JournalEntry.{JournalEntry}
use Rattle.rpc_journal.specs.declared.entry.JournalEntry.TheVariants as entry
use Rattle.rpc_journal.specs.Meaning.{History}
use Rattle.rpc_machine.specs.declared.command.Effects.{Effects}
use Rattle.rpc_machine.specs.State.{State}
use Rattle.rpc_machine.specs.Claims.{history}
use Rattle.rpc_machine.specs.Faults.{fault_of}
use Rattle.rpc_machine.specs.Journal.{granted_entries}
use Rattle.rpc_machine.specs.Steps.{Handles}
use Rattle.rpc_machine.specs.World.{World, core, inbox}
use Rattle.laws_acts.specs.Moments.{Moment, beginning}
use Rattle.laws_acts.specs.MessageActs.{Consumes}
use Rattle.laws_messages.proofs.About.{levels}
use Rattle.laws_runs.specs.Meanings.{with_more}
use Rattle.laws_runs.specs.Scenes.{Scene, IsScene}
use Rattle.laws_routes.specs.Midway.{Midway}
use Rattle.laws_routes.specs.Sayings.{has_behind, has_of}
use Rattle.laws_routes.proofs.SayingsCarried.{each_return}
use Rattle.laws_routes.proofs.SayingsTaken.{all_taken}
use Rattle.laws_scenes.specs.Walked.{ScenesAreBetweenSteps}
use Rattle.laws_runs.specs.Between.{HoldsIn}
use Rattle.laws_runs.specs.SceneSessions.{CountsOfScenes}
use Rattle.laws_runs.specs.Views.{IsReady}
use Rattle.laws_runs.specs.Worlds.{Stand}
use Rattle.laws_meanings.specs.FitCores.{CoresAreFit, IsFit}
use Rattle.laws_meanings.specs.MessageMeanings.{AnswersOf}
use Rattle.laws_meanings.specs.NodeLabels.{Labels}
use Rattle.laws_meanings.proofs.OfCallsScenes.{both_reached, reached_at}
use Rattle.laws_wires.specs.SceneWires.{has_taken}
use Rattle.laws_wires.specs.StepWires.{Around, BackIsLeft, BackMeans, OnTheWay, OutIsLeft, WiresLive}
use Rattle.laws_wires.specs.WireLaws.{LinksAreFewer}
use Rattle.laws_wires.specs.Wires.{WiresMean, WorldMeans, export_label, past_one, reader, sessions_at}
use Rattle.laws_sound.specs.OldestHeard.{exports_mean}
use Rattle.laws_sound.specs.StepsInScenes.{HasStepped}
use Rattle.laws_sound.specs.WiresKept.{BothMean, CommandsKeepWires, MessagesKeepWires, WiresAreKeptInScenes}
use Rattle.laws_sound.specs.WiresLeft.{AreBeside, CommandsLeaveWires, LeavesWires, MessagesLeaveWires, at_command, behind_message}

-- The vat that steps, and the other.
abbrev around : World → (Vat → Labels) → Vat → State → Labels → Around
around w l v t m = record { v = v; s = core w v; l = l v; t = t; m = m; u = other_vat v; z = core w (other_vat v); k = l (other_vat v) }

ready : (w : World) → HoldsIn Stand w → (v : Vat) → IsReady (core w v)
ready w k A = k.holds.ready_s
ready w k B = k.holds.ready_t

-- ---- The wires before the step, both ways

record BothWays (h : History) (w : Around) (out back : List Message) : Type 0 where
  going : WiresMean h w.v w.s w.l w.u w.z w.k out
  coming : WiresMean h w.u w.z w.k w.v w.s w.l back

module _ (live : WiresLive) (a b : Option ObjectId) (x : Scene) (l : Vat → Labels) (own : List JournalEntry) (i : WorldMeans (history a b x.journal) x.world l) where
  both_ways : (v : Vat) (t : State) (m : Labels) → BothWays (history a b (x.journal ++ own)) (around x.world l v t m) (inbox x.world (other_vat v)) (inbox x.world v)
  both_ways A t m = record {
    going = live (history a b x.journal) own A (core x.world A) (l A) B (core x.world B) (l B) (inbox x.world B) (i.wires A);
    coming = live (history a b x.journal) own B (core x.world B) (l B) A (core x.world A) (l A) (inbox x.world A) (i.wires B);
  }
  both_ways B t m = record {
    going = live (history a b x.journal) own B (core x.world B) (l B) A (core x.world A) (l A) (inbox x.world A) (i.wires B);
    coming = live (history a b x.journal) own A (core x.world A) (l A) B (core x.world B) (l B) (inbox x.world B) (i.wires A);
  }

module _ (between : ScenesAreBetweenSteps) (fits : CoresAreFit) (counts : CountsOfScenes) (a b : Option ObjectId) (x : Scene) (scene : IsScene a b x) (l : Vat → Labels) where
  midway_back : (v : Vat) → Midway (core x.world (other_vat v)) (core x.world v) (inbox x.world v) (inbox x.world (other_vat v))
  midway_back A = let k = between a b x scene in k.midway B
  midway_back B = let k = between a b x scene in k.midway A

  beside : (v : Vat) (t : State) (m : Labels) → AreBeside (around x.world l v t m) (inbox x.world (other_vat v)) (inbox x.world v)
  beside v t m = let k = between a b x scene in record {
    midway = k.midway v;
    midway_back = midway_back v;
    fit = fits a b x scene v;
    fit_other = fits a b x scene (other_vat v);
    reached = reached_at a b v x (both_reached a b x scene);
    reached_other = reached_at a b (other_vat v) x (both_reached a b x scene);
    ready = ready x.world (counts.sessions a b x scene) v;
    ready_other = ready x.world (counts.sessions a b x scene) (other_vat v);
    level = levels x.world (counts.sessions a b x scene) v;
    level_other = levels x.world (counts.sessions a b x scene) (other_vat v);
  }

-- ---- Behind it

module _ (left : BackIsLeft) (sent : OutIsLeft) (h : History) (w : Around) (x : OnTheWay) (told : Effects) where
  both_left : LeavesWires h w x told → WiresMean h w.v w.s w.l w.u w.z w.k x.out → BackMeans h w x
      → WiresMean h w.v w.t w.m w.u w.z w.k (x.out ++ told.sends) × WiresMean h w.u w.z w.k w.v w.t w.m x.back
  both_left k out back = (sent h w x told.sends k.kept k.named k.out out, left h w x k.kept k.named k.back back)

back_at_command : (h : History) (w : Around) (out back : List Message) → WiresMean h w.u w.z w.k w.v w.s w.l back → BackMeans h w (at_command w out back)
back_at_command h w out back i = record { imports = i.imports; questions = i.questions; link = i.link }

-- What the vat has behind descriptors that it took, it had, or it comes with them.
back_behind : LinksAreFewer → (h : History) (w : Around) (out rest : List Message) (p : PlainMessage) → WiresMean h w.u w.z w.k w.v w.s w.l (message.Plain p ∷ rest) → BackMeans h w (behind_message w out p rest)
back_behind fewer h w out rest p i =
    let ds = descriptors_of (message.Plain p) in
    let had = has_of [] w.s.imports w.s.questions in
    record {
      imports = i.imports;
      questions = i.questions;
      link = fewer h w.u (reader h w.u w.z w.k w.v w.s w.l) (has_behind had ds) (has_taken w.s ds) (past_one w.u (sessions_at w.l w.s.answers) (message.Plain p)) rest (all_taken w.s.level w.s ds) (each_return _ rest (λ q e. e)) i.link.1;
    }

-- ---- In a scene

module _ (between : ScenesAreBetweenSteps) (fits : CoresAreFit) (counts : CountsOfScenes) (live : WiresLive) (left : BackIsLeft) (sent : OutIsLeft) (fewer : LinksAreFewer) (commands : CommandsLeaveWires) (messages : MessagesLeaveWires) where
  pub commands_keep : (a b : Option ObjectId) → CommandsKeepWires a b
  commands_keep a b x l v c g told t m d scene i over r does starts imports stepped =
      let own = granted_entries x.journal v c g in
      let h = history a b (x.journal ++ own) in
      let w = around x.world l v t m in
      let out = inbox x.world (other_vat v) in
      let back = inbox x.world v in
      let ways = both_ways live a b x l own i v t m in
      let near = beside between fits counts a b x scene l v t m in
      let leaves = commands h w out back c g told d near ways.going ways.coming r does starts imports stepped in
      both_left left sent h w (at_command w out back) told leaves ways.going (back_at_command h w out back ways.coming)

  pub messages_keep : (a b : Option ObjectId) → MessagesKeepWires a b
  messages_keep a b x l v y ms told t m d scene i e free handles consumes imports answers stepped =
      let p = counts.oldest a b x scene v y ms e in
      plain p.0 (subst (λ (n : Message). inbox x.world v ≡ n ∷ ms) p.1 e) (subst (λ (n : Message). fault_of (core x.world v) n ≡ None) p.1 free) (subst (λ (n : Message). Handles (core x.world v) n told t) p.1 handles)
      (subst (λ (n : Message). Consumes (beginning (core x.world v)) n d) p.1 consumes) (subst (λ (n : Message). AnswersOf m.outcome (other_vat v) d.state n) p.1 answers)
      (subst (λ (n : Message). HasStepped (history a b (x.journal ++ entry.Got v ∷ [])) v (l v) (core x.world v) d.state (past_one (other_vat v) (sessions_at (l v) (core x.world v).answers) n) told t m) p.1 stepped)
    where
      own : List JournalEntry
      own = entry.Got v ∷ []

      h : History
      h = history a b (x.journal ++ own)

      w : Around
      w = around x.world l v t m

      out : List Message
      out = inbox x.world (other_vat v)

      plain : (p : PlainMessage) → inbox x.world v ≡ message.Plain p ∷ ms → fault_of (core x.world v) (message.Plain p) ≡ None → Handles (core x.world v) (message.Plain p) told t → Consumes (beginning (core x.world v)) (message.Plain p) d
          → AnswersOf m.outcome (other_vat v) d.state (message.Plain p) → HasStepped h v (l v) (core x.world v) d.state (past_one (other_vat v) (sessions_at (l v) (core x.world v).answers) (message.Plain p)) told t m
          → BothMean h x.world l v t m (out ++ told.sends) ms
      plain p f free handles consumes answers stepped =
          let ways = subst (λ (n : List Message). BothWays h w out n) f (both_ways live a b x l own i v t m) in
          let near = subst (λ (n : List Message). AreBeside w out n) f (beside between fits counts a b x scene l v t m) in
          let scene_is = between a b x scene in
          let leaves = messages h w out ms p told d near (scene_is.met v p ms f) ways.going ways.coming free handles consumes imports answers stepped in
          both_left left sent h w (behind_message w out p ms) told leaves ways.going (back_behind fewer h w out ms p ways.coming)

  pub wires_kept : WiresAreKeptInScenes
  wires_kept a b = record { commands = commands_keep a b; messages = messages_keep a b }
