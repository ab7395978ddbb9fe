use Rattle.std.proofs.Common.{List, ℕ, length, take, ap, ◌∙◌}
use Rattle.rpc_outgoing.specs.Outflows.{Outflow}
use Rattle.vat_connection.proofs.Telling.{cut_back}
use Rattle.vat_connection.proofs.departures.tell.Goals as goal

pub returns-then-not-give_back : goal.returns-then-not-give_back
returns-then-not-give_back c =
    c.cut.ensures ∙ cut_back c.args.out.now c.give_back.new.out c.give_back.ensures.longer _ (ap (λ (bytes : List ℕ). length bytes) c.bytes-len.ensures)

pub returns-then-not-send : goal.returns-then-not-send
returns-then-not-send c =
    c.cut-then-not-send.ensures ∙ ap (λ (o : Outflow). record o { bytes = take (length c.bytes-len.result.now) o.bytes }) c.if-not-send.ensures
    ∙ cut_back c.args.out.now c.give_back.new.out c.give_back.ensures.longer _ (ap (λ (bytes : List ℕ). length bytes) c.bytes-len.ensures)
