use Rattle.std.proofs.Common.{[], ◌∷◌, ◌++◌, ap, sym, subst, not}
use Rattle.rpc_check.specs.Kept.{WaysFor}
use Rattle.rpc_check.proofs.Moving.{is_still, ways_stay}
use Rattle.rpc_check.proofs.ways.Ways.take.Goals as goal

pub returns-in_default : goal.returns-in_default
returns-in_default c =
    let still = is_still c.args.entry.now c.in_default.not-Sent c.in_default.not-Got in
    record {
      matched = λ h now. ap not (sym (still.gets h));
      rest = λ kept h now. ways_stay c.args.self.now h c.args.entry.now still now;
    }

pub returns-in_ok-send-in-Sent-clause-rest : goal.returns-in_ok-send-in-Sent-clause-rest
returns-in_ok-send-in-Sent-clause-rest c = λ kept h now. subst (λ x. WaysFor c.send.new.self (h ++ x ∷ [])) (sym c.in-Sent.is) (c.in_ok-send-in-Sent.ensures h now)

pub returns-in_ok-kept-in-Got-clause-rest : goal.returns-in_ok-kept-in-Got-clause-rest
returns-in_ok-kept-in-Got-clause-rest c = λ kept h now. subst (λ x. WaysFor c.receive.new.self (h ++ x ∷ [])) (sym c.in-Got.is) (c.in_ok-kept-in-Got.ensures.rest kept h now)
