-- Two joined connections go on by each act.
use Rattle.std.proofs.Common.{◌≡◌, List, [], ◌∷◌, ◌++◌, Option, refl, sym, ap, subst, ◌∙◌}
use Rattle.rpc_msg.specs.declared.ids.ObjectId.{ObjectId}
use Rattle.laws_in_bytes.specs.Joined.{Doing, Does, FinishAtOnce, Joined, JoinedRun, new_joined}
use Rattle.vat_joined.specs.declared.entry.JoinedEntry.{JoinedEntry}
use Rattle.vat_joined.specs.Recorded.{DoesNoted, IsReached, Recorded, entries_by, new_recorded}
use Rattle.vat_joined.proofs.Lists.{flat_more}

run_more : (j : Joined) (xs : List Doing) (mid : Joined) (x : Doing) (new : Joined) → JoinedRun j xs mid → Does mid x new → JoinedRun j (xs ++ x ∷ []) new
run_more j [] mid x new ran d = (new, subst (λ (k : Joined). Does k x new) ran d, refl)
run_more j (y ∷ ys) mid x new ran d = (ran.0, ran.1, run_more ran.0 ys mid x new ran.2 d)

once_more : (xs : List Doing) (x : Doing) → FinishAtOnce xs → FinishAtOnce (x ∷ []) → FinishAtOnce (xs ++ x ∷ [])
once_more [] x k h = h
once_more (y ∷ ys) x k h = (k.0, once_more ys x k.1 h)

pub goes_on : {old new : Recorded} (x : Doing) → FinishAtOnce (x ∷ []) → IsReached old → DoesNoted old x new → IsReached new
goes_on {old = old} {new = new} x once r d = record {
  letters = r.letters;
  root_a = r.root_a;
  root_b = r.root_b;
  done = r.done ++ x ∷ [];
  ran = run_more (new_joined r.letters r.root_a r.root_b) r.done old.joined x new.joined r.ran d.does;
  at_once = once_more r.done x r.at_once once;
  noted = d.noted ∙ ap (λ (l : List JoinedEntry). l ++ entries_by x) r.noted ∙ sym (flat_more entries_by r.done x);
}

pub begins : (w : Recorded) (root_a root_b : Option ObjectId) → w ≡ new_recorded root_a root_b → IsReached w
begins w root_a root_b e = subst IsReached (sym e) (record { letters = λ v. v; root_a = root_a; root_b = root_b; done = []; ran = refl; at_once = tt; noted = refl })
