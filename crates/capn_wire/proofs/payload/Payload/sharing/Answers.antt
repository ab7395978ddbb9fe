use Rattle.std.proofs.Common.{ℕ, ap}
use Rattle.std.proofs.lemmas.Result.{err_from_is_err_and}
use Rattle.std.specs.Global.{Vec}
use Rattle.capn_wire.specs.Payloads.{Contents}
use Rattle.capn_wire.proofs.payload.Payload.sharing.Goals as goal

pub returns-in_err-bytes : goal.returns-in_err-bytes
returns-in_err-bytes c = rw (err_from_is_err_and c.from_residual.result c.from_residual.ensures.1).1 tt

pub returns : goal.returns
returns c =
    let contents : Vec ℕ → Contents = λ v. record { bytes = v.items; caps = c.args.caps } in
    ap contents c.in_ok-bytes.ensures.ok
