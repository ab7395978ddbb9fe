-- What a step leaves of the wires, part by part.
use Rattle.std.specs.FinMap as map
use Rattle.std.proofs.Common.{◌≡◌, ◌⊎◌, ℕ, List, ◌∷◌}
use Rattle.rpc_msg.specs.declared.message.Message.{Message}
use Rattle.rpc_msg.specs.declared.message.Message.TheVariants as message
use Rattle.rpc_msg.specs.declared.message.PlainMessage.{PlainMessage}
use Rattle.rpc_machine.specs.declared.command.Effects.{Effects}
use Rattle.laws_routes.specs.QuietLaws.{MayClose}
use Rattle.laws_wires.specs.BackHeld.{BackIsHeld, CommandsHoldBack, MessagesHoldBack, RolesAreKept}
use Rattle.laws_wires.specs.SceneOut.{CommandsMeetOut, MessagesMeetOut}
use Rattle.laws_wires.specs.SceneSessions.{CommandsLeaveSessions, MessagesLeaveSessions}
use Rattle.laws_wires.specs.SceneWires.{CommandsKeepNamed, MessagesKeepNamed}
use Rattle.laws_wires.specs.StepWires.{Around, BackIsMet, OnTheWay, then}
use Rattle.laws_wires.specs.Wires.{past_one, sessions_at}
use Rattle.laws_sound.specs.WiresLeft.{AreBeside, CommandsLeaveWires, MessagesLeaveWires, at_command, behind_message}

met : (w : Around) (x : OnTheWay) → BackIsHeld w x → ((q : ℕ) → (then w q ≡ x.now q) ⊎ MayClose w.z x.back q) → BackIsMet w x
met w x k s = record { imports = k.imports; questions = k.questions; asked = k.asked; sessions = s }

pub commands_leave : RolesAreKept → CommandsKeepNamed → CommandsHoldBack → CommandsLeaveSessions → CommandsMeetOut → CommandsLeaveWires
commands_leave roles named back sessions out h w ms ns c g told d near going coming free does starts imports stepped =
    let now = sessions_at w.l w.s.answers in
    let fit = near.fit in
    let same = roles w.l w.m w.s fit.one_source fit.questions stepped.outcomes stepped.questions in
    record {
      kept = w.s.exports;
      named = named h w ms ns now c g d near.midway near.midway_back starts stepped.exports;
      back = met w (at_command w ms ns) (back w ms ns now c g told near.midway same does) (sessions w ms ns c g d near.reached near.midway starts stepped.outcomes stepped.answers);
      out = out h w ms ns now c g told near.reached near.ready near.midway does same imports stepped.asked going.imports going.questions coming.questions stepped.sent;
    }

pub messages_leave : RolesAreKept → MessagesKeepNamed → MessagesHoldBack → MessagesLeaveSessions → MessagesMeetOut → MessagesLeaveWires
messages_leave roles named back sessions out h w ms rest p told d near is_met going coming free handles consumes imports answers stepped =
    let now = past_one w.u (sessions_at w.l w.s.answers) (message.Plain p) in
    let fit = near.fit in
    let same = roles w.l w.m w.s fit.one_source fit.questions stepped.outcomes stepped.questions in
    record {
      kept = d.state.exports;
      named = named h w ms rest now p d near.midway near.midway_back near.level is_met consumes stepped.exports;
      back = met w (behind_message w ms p rest) (back w ms rest now p told near.midway near.level is_met same free handles) (sessions w ms rest p d near.reached near.midway near.level is_met consumes stepped.outcomes answers stepped.answers);
      out = out h w ms rest now p told near.reached near.ready near.midway near.level is_met free handles same imports stepped.asked going.questions coming.questions stepped.sent;
    }
