use Rattle.std.proofs.Common.{◌≡◌, Some, sym, ap, ◌∙◌}
use Rattle.lovendak_c_desk.specs.Desks.{HandsOut}
use Rattle.lovendak_c.proofs.Full.{full_hands}
use Rattle.lovendak_c.proofs.streams.lovendak_outgoing.Goals as goal

pub returns : goal.returns
returns c =
    full_hands c.args.vat.now.raw.desk c.of.result.raw.desk c.deref_mut.result.now c.outgoing.new.self ((c.outgoing.new.out ≡ c.args.out.now) × (c.outgoing.result ≡ c.args.len.now))
    (λ old new. HandsOut old c.args.out.now c.outgoing.result c.outgoing.new.out new) (c.in-Some.ensures.taken ∙ ap Some (sym c.deref_mut.ensures.value)) c.of.ensures c.outgoing.ensures
