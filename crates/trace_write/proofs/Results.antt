-- Facts of a call that hold whatever it returns.
use Rattle.std.proofs.Common.{Result, Ok, Err, OnOk}

pub on_ok : {T E P : Type 0} (r : Result T E) → P → OnOk r P
on_ok (Ok x) p = p
on_ok (Err e) p = tt

pub both_on_ok : {T E P : Type 0} (Q : Type 0) (r : Result T E) → P → OnOk r Q → OnOk r (P × Q)
both_on_ok Q (Ok x) p q = (p, q)
both_on_ok Q (Err e) p q = tt
