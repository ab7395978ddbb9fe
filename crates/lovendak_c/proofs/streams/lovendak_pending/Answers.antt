use Rattle.std.proofs.Common.{◌≡◌, Bool, Some, sym, ap, ◌∙◌}
use Rattle.lovendak_c_desk.specs.Desks.{Awaits}
use Rattle.lovendak_c.specs.Codes.{bit}
use Rattle.lovendak_c.proofs.Full.{full_hands}
use Rattle.lovendak_c.proofs.streams.lovendak_pending.Goals as goal

pub returns : goal.returns
returns c =
    full_hands c.args.vat.now.raw.desk c.of.result.raw.desk c.deref_mut.result.now c.pending-waiting.new.self ((c.pending-waiting.result.0 ≡ c.args.bytes.now) × (c.bit.result ≡ c.args.has_event.now))
    (λ old new. (has : Bool) × Awaits old c.pending-waiting.result.0 has new × (c.bit.result ≡ bit has)) (c.in-Some.ensures.taken ∙ ap Some (sym c.deref_mut.ensures.value)) c.of.ensures
    (c.pending-waiting.result.1, c.pending-waiting.ensures, c.bit.ensures)
