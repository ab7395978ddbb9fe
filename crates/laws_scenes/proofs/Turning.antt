-- In each scene the target of a Disembargo that is to turn back settles to a wire.
use Rattle.std.proofs.Common.{◌≡◌, true, List, ◌∷◌, subst}
use Rattle.rpc_msg.specs.declared.ids.EmbargoId.{EmbargoId}
use Rattle.rpc_msg.specs.declared.ids.Vat.{Vat}
use Rattle.rpc_msg.specs.declared.message.DisembargoContext.TheVariants.{SenderLoopback}
use Rattle.rpc_msg.specs.declared.message.Message.{Message}
use Rattle.rpc_msg.specs.declared.message.Message.TheVariants as message
use Rattle.rpc_msg.specs.declared.message.PlainMessage.{PlainMessage}
use Rattle.rpc_msg.specs.declared.message.PlainMessage.TheVariants as plain
use Rattle.rpc_msg.specs.declared.parts.Target.{Target}
use Rattle.rpc_msg.specs.declared.parts.Target.TheVariants.{ImportedCap, PromisedAnswer}
use Rattle.rpc_msg.specs.Vats.{other_vat}
use Rattle.rpc_machine.specs.State.{State}
use Rattle.rpc_machine.specs.Faults.{target_node}
use Rattle.rpc_machine.specs.Nodes.{is_wire, settle}
use Rattle.rpc_machine.specs.Progress.{begin}
use Rattle.rpc_machine.specs.World.{core, inbox}
use Rattle.laws_messages.specs.Named.{FindsTarget, FindsTargets, NamedAnswersAreThere}
use Rattle.laws_messages.specs.Taken.{IsOldest}
use Rattle.laws_routes.specs.ChainLaws.{VatsStayTied}
use Rattle.laws_routes.specs.Laws.{with_back}
use Rattle.laws_routes.specs.Midway.{LinksRestFollows}
use Rattle.laws_routes.specs.PairLaws.{StartIsTied}
use Rattle.laws_routes.specs.StepLaws.{TiedAt}
use Rattle.laws_routes.specs.TakingLaws.{DisembargoMeetsWire, IsAnswered, MayBounce}
use Rattle.laws_routes.proofs.MessagesTaken.{target_held}
use Rattle.laws_scenes.specs.Refused.{DisembargosTurn}
use Rattle.laws_scenes.specs.Walked.{ScenesAreBetweenSteps, all_told, seen}
use Rattle.laws_scenes.proofs.TiedScenes.{tied_in}

is_answered : (s : State) (t : Target) → FindsTarget s t → IsAnswered s t
is_answered s (ImportedCap e) h = tt
is_answered s (PromisedAnswer q path) h = h

pub turns : ScenesAreBetweenSteps → StartIsTied → VatsStayTied → LinksRestFollows → NamedAnswersAreThere → DisembargoMeetsWire → DisembargosTurn
turns between starts stay rests named meets a b x i = record { turns = turn }
  where
    turn : (v : Vat) (t : Target) (e : EmbargoId) → IsOldest x.world v (plain.Disembargo (record { target = t; context = SenderLoopback e })) → is_wire (settle (core x.world v) (target_node (core x.world v) t)) ≡ true
    turn v t e o =
        let k = between a b x i in
        let s = core x.world v in
        let other = core x.world (other_vat v) in
        let out = inbox x.world (other_vat v) in
        let m = plain.Disembargo (record { target = t; context = SenderLoopback e }) in
        let w = seen x.world k.made (all_told x.journal) v in
        let y = tied_in starts stay a b x k v in
        let tied : TiedAt (with_back w (message.Plain m ∷ o.0)) s y.ghosts y.net = subst (λ (ms : List Message). TiedAt (with_back w ms) s y.ghosts y.net) o.1 y.tied in
        let mid = k.midway v in
        let found = named a b x i v (message.Plain m) o.0 o.1 in
        let same : found.0 ≡ m = (let f : message.Plain m ≡ message.Plain found.0 = found.1 in cc) in
        let answered : FindsTargets s m = subst (λ (p : PlainMessage). FindsTargets s p) same found.2 in
        let held = target_held s other out (inbox x.world v) mid t in
        let may : MayBounce w s t = record { answered = is_answered s t answered; own = λ j c f. (let n = mid.exports j c f in n.0); rest = rests s other out (inbox x.world v) mid; there = held.0 } in
        meets w (begin s) y.ghosts y.net e t o.0 tied y.holds may
