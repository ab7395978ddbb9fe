use Rattle.std.proofs.Common.{inl, inr, ap, refl, rules, subst, ◌∙◌}
use Rattle.rpc_machine.specs.Steps.{Receives}
use Rattle.vat_host.specs.Hosting.{Hosted, HearsSilently}
use Rattle.vat_host.specs.Unanswered.{Unanswered, heard_at}
use Rattle.vat_host.proofs.Doing.{heard, hosted, noted, placed}
use Rattle.vat_host.proofs.Knowing.{by_message}
use Rattle.vat_host.proofs.host.Host.receive.Goals as goal

pub returns-in_default : goal.returns-in_default
returns-in_default c = (
  c.note_reason.new.self,
  ((c.note_reason.ensures.0, c.args.self.now.unanswered), (c.note_reason.ensures.1, inr (c.receive_last.ensures.down, refl)), c.note_reason.ensures.2),
  subst (λ (h : Hosted). HearsSilently h c.args.message c.receive_last.new.self)
      (placed c.note_reason.new.self c.self.inside.core c.self.inside.kept.messages.0 c.make_place.new.self.messages.0 c.self.inside.kept.events.0 c.make_place.new.self.events.0 c.self.inside.objects c.self.inside.unanswered c.self.inside.down_notice
      c.self.view_is c.make_place.ensures.messages c.make_place.ensures.events)
      c.receive_last.ensures.heard,
)

pub returns-in_default-hear : goal.returns-in_default-hear
returns-in_default-hear c = (
  c.note_reason.new.self,
  ((c.note_reason.ensures.0, c.args.self.now.unanswered), (c.note_reason.ensures.1, inr (c.receive_last-in_default-hear.ensures.down, refl)), c.note_reason.ensures.2),
  subst (λ (h : Hosted). HearsSilently h c.args.message c.receive_last-in_default-hear.new.self)
      (ap (λ (u : Unanswered). hosted c.self.inside.core c.make_place.new.self.messages.0 c.make_place.new.self.events.0 c.self.inside.objects u c.self.inside.down_notice) c.in_default-hear.ensures.err
      ∙ placed c.note_reason.new.self c.self.inside.core c.self.inside.kept.messages.0 c.make_place.new.self.messages.0 c.self.inside.kept.events.0 c.make_place.new.self.events.0 c.self.inside.objects c.self.inside.unanswered c.self.inside.down_notice
      c.self.view_is c.make_place.ensures.messages c.make_place.ensures.events)
      c.receive_last-in_default-hear.ensures.heard,
)

pub returns : goal.returns
returns c = (
  record c.note_reason.new.self { unanswered = heard_at c.note_reason.new.self.core c.args.message c.note_reason.new.self.unanswered },
  (
    (c.note_reason.ensures.0, heard_at c.args.self.now.core c.args.message c.args.self.now.unanswered),
    (c.note_reason.ensures.1, inl refl),
    ap (λ (h : Hosted). record h { unanswered = heard_at h.core c.args.message h.unanswered }) c.note_reason.ensures.2,
  ),
  (
    c.receive-effects.result,
    subst (λ (h : Hosted). Receives h.core c.args.message c.receive-effects.result c.receive-effects.new.self) c.self.view_is c.receive-effects.ensures.steps,
    heard (record c.note_reason.new.self { unanswered = heard_at c.note_reason.new.self.core c.args.message c.note_reason.new.self.unanswered })
        c.self.inside.core c.receive-effects.new.self c.args.message c.receive-effects.result c.by-watched.result c.made_known.result
        c.self.inside.kept.messages.0 c.make_place.new.self.messages.0 c.keep.new.self.messages.0
        c.self.inside.kept.events.0 c.make_place.new.self.events.0 c.keep.new.self.events.0 c.self.inside.objects c.hear.new.self c.follow.new.self c.self.inside.down_notice
        (noted c.note_reason.new.self c.self.inside.core c.args.message c.self.inside.kept.messages.0 c.self.inside.kept.events.0 c.self.inside.objects c.self.inside.unanswered c.hear.new.self c.self.inside.down_notice
        c.self.view_is c.in-Ok-hear.ensures.ok)
        c.make_place.ensures.messages c.make_place.ensures.events c.keep.ensures.messages c.keep.ensures.events c.follow.ensures c.by-watched.ensures c.made_known.ensures,
  ),
)

pub invariant_of-self-2 : goal.invariant_of-self-2
invariant_of-self-2 c = (search rules, by_message c.self.inside.core c.args.message c.receive-effects.result c.receive-effects.new.self c.self.inside.objects c.receive-effects.ensures.steps c.self.invariant.1)
