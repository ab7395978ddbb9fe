-- What the laws of whole steps take as known of the oldest message on its way.
use Rattle.std.specs.FinMap as map
use Rattle.std.proofs.Common.{◌≡◌, false, List, ◌∷◌, Option, None, Some, refl, ap, ◌∙◌}
use Rattle.rpc_msg.specs.declared.ids.EmbargoId.{EmbargoId}
use Rattle.rpc_msg.specs.declared.ids.Vat.{Vat}
use Rattle.rpc_msg.specs.Vats.{other_vat}
use Rattle.rpc_msg.specs.declared.message.DisembargoContext.{DisembargoContext}
use Rattle.rpc_msg.specs.declared.message.DisembargoContext.TheVariants.{SenderLoopback, ReceiverLoopback}
use Rattle.rpc_msg.specs.declared.message.Message.{Message}
use Rattle.rpc_msg.specs.declared.message.Message.TheVariants as message
use Rattle.rpc_msg.specs.declared.message.PlainMessage.{PlainMessage}
use Rattle.rpc_msg.specs.declared.message.PlainMessage.TheVariants as plain
use Rattle.rpc_msg.specs.Messages.{descriptors_of_body}
use Rattle.rpc_machine.specs.declared.entries.AnswerEntry.{AnswerEntry}
use Rattle.rpc_machine.specs.declared.entries.Embargo.{Embargo}
use Rattle.rpc_machine.specs.declared.entries.Question.{Question}
use Rattle.rpc_machine.specs.Descriptors.{take_all}
use Rattle.rpc_machine.specs.Faults.{gave}
use Rattle.rpc_machine.specs.Flags.{obey}
use Rattle.rpc_machine.specs.Nodes.{is_wire}
use Rattle.rpc_machine.specs.Progress.{numbers}
use Rattle.rpc_machine.specs.Sweeping.{IsNotSent}
use Rattle.rpc_machine.specs.World.{World, core, inbox}
use Rattle.laws_messages.specs.Loopbacks.{OneIsAbout}
use Rattle.laws_routes.specs.Premises.{IsLastLoop, IsOnlyEmbargo}
use Rattle.laws_routes.specs.QuietLaws.{MayLower}
use Rattle.laws_routes.specs.Received.{IfAnswer, IfEmbargo, IfQuestion, IsMet, LoopIsMet}
use Rattle.laws_routes.specs.SayingLaws.{IsNotCanceled}
use Rattle.laws_scenes.specs.Meeting.{IfThere, IsLastOfIts, IsLeft, LoopIsLeft, LetsGoWell, OfOldest}
use Rattle.laws_scenes.proofs.Loops.{last_of}

module _ (w : World) (about : OneIsAbout w) (last : OfOldest (λ s other out rest x. IsLastOfIts other out rest x) w) (lets : OfOldest LetsGoWell w) (v : Vat) (rest : List Message) where
  met : (x : PlainMessage) → inbox w v ≡ message.Plain x ∷ rest → IsLeft (core w v) x → IsMet (core w v) (core w (other_vat v)) (inbox w (other_vat v)) rest x
  met (plain.Abort exception) e i = tt
  met (plain.Bootstrap q) e i = last v (plain.Bootstrap q) rest e
  met (plain.Call c) e i = last v (plain.Call c) rest e
  met (plain.Return r) e i = by (map.get (core w v).questions r.answer.0) i (lets v (plain.Return r) rest e) (last v (plain.Return r) rest e)
    where
      by : (o : Option Question) → IfThere (λ (x : Question). IsNotSent x.finish → IsNotCanceled r.body) o
          → IfThere (λ (x : Question). MayLower (obey (take_all (core w v) (descriptors_of_body r.body)) r.release_param_caps (numbers x.given)) (core w (other_vat v)) (inbox w (other_vat v)) rest) o
          → IsLastOfIts (core w (other_vat v)) (inbox w (other_vat v)) rest (plain.Return r) → IfQuestion (core w v) (core w (other_vat v)) (inbox w (other_vat v)) rest r o
      by None i l k = tt
      by (Some x) i l k = record { lowers = l; whole = i; not_open = k.0; once = k.1 }
  met (plain.Finish f) e i = by (map.get (core w v).answers f.question.0) (lets v (plain.Finish f) rest e) (last v (plain.Finish f) rest e)
    where
      by : (o : Option AnswerEntry) → IfThere (λ (a : AnswerEntry). MayLower (obey (core w v) f.release_result_caps (gave a.returned)) (core w (other_vat v)) (inbox w (other_vat v)) rest) o
          → IsLastOfIts (core w (other_vat v)) (inbox w (other_vat v)) rest (plain.Finish f) → IfAnswer (core w v) (core w (other_vat v)) (inbox w (other_vat v)) rest f o
      by None l k = tt
      by (Some a) l k = record { lowers = l; closes = k }
  met (plain.Resolve r) e i = tt
  met (plain.Release r) e i = lets v (plain.Release r) rest e
  met (plain.Disembargo d) e i = loop d.context (λ x f. last_of w about v d.target x rest (e ∙ ap (λ (c : DisembargoContext). message.Plain (plain.Disembargo (record { target = d.target; context = c })) ∷ rest) f)) i
    where
      echo : (x : EmbargoId) (o : Option Embargo) → IsLastLoop x.0 (inbox w (other_vat v)) rest → IfThere (λ (b : Embargo). IsOnlyEmbargo (core w v) x.0 b.reference.0 × (is_wire b.node ≡ false)) o → IfEmbargo (core w v) (inbox w (other_vat v)) rest x.0 o
      echo x None l i = tt
      echo x (Some b) l i = record { only = i.0; last = l; own = i.1 }

      loop : (c : DisembargoContext) → ((x : EmbargoId) → c ≡ ReceiverLoopback x → IsLastLoop x.0 (inbox w (other_vat v)) rest) → LoopIsLeft (core w v) c → LoopIsMet (core w v) (inbox w (other_vat v)) rest c
      loop (SenderLoopback x) f i = tt
      loop (ReceiverLoopback x) f i = echo x (map.get (core w v).embargoes x.0) (f x refl) i
  met (plain.Other n) e i = tt

pub in_world : (w : World) → OneIsAbout w → OfOldest (λ s other out rest x. IsLastOfIts other out rest x) w → OfOldest LetsGoWell w → OfOldest (λ s other out rest x. IsLeft s x → IsMet s other out rest x) w
in_world w about last lets v x rest e i = met w about last lets v rest x e i
