use Rattle.std.proofs.Common.{◌≡◌, Some, sym, ap, ◌∙◌}
use Rattle.lovendak_c_desk.specs.Telling.{TellsNext}
use Rattle.lovendak_c.proofs.Full.{full_asks}
use Rattle.lovendak_c.proofs.events.lovendak_next_event.Goals as goal

pub returns : goal.returns
returns c =
    full_asks c.args.vat.now.raw.desk c.of.result.raw.desk c.deref_mut.result.now c.next_event-told.new.self c.done.result
    ((c.next_event-told.new.notice ≡ c.args.event.now) × (c.next_event-told.new.bytes ≡ c.args.payload.now) × (c.next_event-told.new.refs ≡ c.args.refs.now))
    (λ old answer new. TellsNext old (record { notice = c.args.event.now; bytes = c.args.payload.now; refs = c.args.refs.now }) answer (record { notice = c.next_event-told.new.notice; bytes = c.next_event-told.new.bytes; refs = c.next_event-told.new.refs }) new)
    c.next_event-told.result (c.in-Some.ensures.taken ∙ ap Some (sym c.deref_mut.ensures.value)) c.of.ensures c.next_event-told.ensures c.done.ensures
