use Rattle.std.proofs.Common.{◌≡◌, Bool, [], Option, Some, None, Result, refl, ap, ◌∙◌}
use Rattle.rpc_msg.specs.declared.message.Message.{Message}
use Rattle.rpc_msg.specs.declared.message.Message.TheVariants as message
use Rattle.rpc_msg.specs.declared.message.PlainMessage.{PlainMessage}
use Rattle.rpc_msg.specs.declared.message.PlainMessage.TheVariants as plain
use Rattle.rpc_codec.specs.Envelopes.{profile}
use Rattle.peer_overload.specs.declared.errors.OverloadFault.{OverloadFault}
use Rattle.peer_overload.specs.Overloading as overload
use Rattle.peer_broken.specs.Laws.{StandsAside as NamesNone}
use Rattle.peer_broken.specs.Naming.{nothing_owed}
use Rattle.peer_broken.specs.Naming as names
use Rattle.peer_tail_calls.specs.declared.errors.AdapterFault.{AdapterFault}
use Rattle.peer_tail_calls.specs.declared.heard.Said.{Said}
use Rattle.peer_tail_calls.specs.declared.heard.Said.TheVariants as said
use Rattle.peer_tail_calls.specs.Laws.{told_of}
use Rattle.peer_tail_calls.specs.Adapting as tails
use Rattle.peer_kinds.specs.Kinds as kinds
use Rattle.peer_finishes.specs.Finishing as finishes
use Rattle.peer_adapter.specs.Peering.{admits_by, comes_by, finished_by, fresh, gives, gives_message, gives_plain, gives_with, goes_by, heard_by, kinds_by, names_by, owes_still, says_by}
use Rattle.peer_adapter.proofs.laws.stands_aside.Goals as goal

-- Where nothing is owed nothing is due.
plain_due : NamesNone → (m : PlainMessage) → gives_plain nothing_owed m ≡ owes_still nothing_owed
plain_due law (plain.Return r) = law.returned r.answer r.release_param_caps
plain_due law (plain.Finish f) = law.finished f.question f.release_result_caps
plain_due law (plain.Abort e) = refl
plain_due law (plain.Bootstrap q) = refl
plain_due law (plain.Call c) = refl
plain_due law (plain.Resolve r) = refl
plain_due law (plain.Release r) = refl
plain_due law (plain.Disembargo d) = refl
plain_due law (plain.Other n) = refl

message_due : NamesNone → (m : Message) → gives_message nothing_owed m ≡ owes_still nothing_owed
message_due law (message.Plain m) = plain_due law m
message_due law (message.Unimplemented m) = refl

none_due : NamesNone → (o : Option Said) → gives nothing_owed o ≡ owes_still nothing_owed
none_due law None = refl
none_due law (Some (said.Message m)) = message_due law m
none_due law (Some (said.SentElsewhere x)) = law.returned x.answer x.release_param_caps

pub returns : goal.returns
returns c = record {
  heard =
      λ t m room alike none.
      ap (λ (f : finishes.Coming). comes_by t fresh (profile m) f) (c.stands_aside-5.ensures.comes (profile m))
      ∙ ap (λ (full : Bool). finished_by None (admits_by t fresh (overload.comes overload.fresh full (profile m)))) room
      ∙ ap (λ (r : Result overload.Coming OverloadFault). finished_by None (admits_by t fresh r)) (c.stands_aside.ensures (profile m))
      ∙ ap (λ (o : kinds.Outcome). finished_by None (kinds_by t fresh o)) (c.stands_aside-4.ensures t.standing (profile m) alike)
      ∙ ap (λ (n : names.Coming). finished_by None (names_by fresh n)) (c.stands_aside-2.ensures.handed_on t.broken t.finished nothing_owed (profile m) none)
      ∙ ap (λ (r : Result tails.Coming AdapterFault). finished_by None (heard_by fresh [] r)) (c.stands_aside-3.ensures.heard m);
  said =
      λ m.
      ap (λ (g : finishes.Going). goes_by fresh g) (c.stands_aside-5.ensures.goes m)
      ∙ ap (λ (g : tails.Going). says_by fresh g) (c.stands_aside-3.ensures.said m)
      ∙ ap (λ (due : names.Going). gives_with fresh (record { state = tails.fresh; said = told_of m; heard = [] }) due) (none_due c.stands_aside-2.ensures (told_of m));
}
