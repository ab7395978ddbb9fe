-- How often a call stands among those that are open.
use Rattle.std.proofs.Common.{◌≡◌, ℕ, ◌+◌, ◌≤◌, Bool, true, false, not, cond, ◌==◌, nat_eq, List, [], ◌∷◌, ◌++◌, flat_map, None, Some, inl, inr, refl, sym, ap, subst, arith}
use Rattle.std.proofs.lemmas.Bool.Decides.{nat_tests}
use Rattle.rpc_msg.specs.declared.ids.CallId.{CallId}
use Rattle.laws_nodes.specs.Ones.{one_if}
use Rattle.vat_host.specs.declared.event.Event.TheVariants as event
use Rattle.vat_hosts.specs.Served.{times_told}
use Rattle.vat_hosts.proofs.Served.{times-append}
use Rattle.vat_connection.specs.OwnCalls.{without}
use Rattle.vat_connections.specs.OneConnection.{Act, told_by}
use Rattle.vat_connections.specs.OneConnection.Act.{Commands, Receives, Ends, Shuts, Gives, Asks, SetsLimits, SetsFinishes}
use Rattle.vat_connections.specs.Served.{Did, IsToldEnded}

abbrev pub times_open : ℕ → List CallId → ℕ
times_open k [] = 0
times_open k (c ∷ cs) = one_if (nat_eq k c.0) + times_open k cs

pub open-append : (k : ℕ) (cs ds : List CallId) → times_open k (cs ++ ds) ≡ times_open k cs + times_open k ds
open-append k [] ds = omega arith
open-append k (c ∷ cs) ds = let e = open-append k cs ds in omega arith

abbrev Kept : CallId → CallId → List CallId → Bool → List CallId
Kept id c cs b = cond (not b) (c ∷ without id cs) (without id cs)

-- None is added by taking one out.
pub open_without : (k : ℕ) (id : CallId) (cs : List CallId) → times_open k (without id cs) ≤ times_open k cs
open_without k id [] = omega arith
open_without k id (c ∷ cs) = by (open_without k id cs) (c.0 == id.0)
  where
    by : times_open k (without id cs) ≤ times_open k cs → (b : Bool) → times_open k (Kept id c cs b) ≤ times_open k (c ∷ cs)
    by le true = omega arith
    by le false = omega arith

-- It is taken out wherever it stands.
pub none_without : (id : CallId) (cs : List CallId) → times_open id.0 (without id cs) ≡ 0
none_without id [] = refl
none_without id (c ∷ cs) = by (none_without id cs) (c.0 == id.0) refl
  where
    by : times_open id.0 (without id cs) ≡ 0 → (b : Bool) → (c.0 == id.0) ≡ b → times_open id.0 (Kept id c cs (c.0 == id.0)) ≡ 0
    by none true e = subst (λ (b : Bool). times_open id.0 (Kept id c cs b) ≡ 0) (sym e) none
    by none false e = subst (λ (b : Bool). times_open id.0 (Kept id c cs b) ≡ 0) (sym e) (let f : nat_eq id.0 c.0 ≡ false = grind (arith, nat_tests, e) in rw f (omega arith))

-- ---- what was told

is_once : (k : ℕ) → one_if (nat_eq k k) ≡ 1
is_once k = by (nat_eq k k) refl
  where
    by : (b : Bool) → nat_eq k k ≡ b → one_if b ≡ 1
    by true e = refl
    by false e = absurd (grind (arith, nat_tests, e))

of_act : (id : CallId) (x : Act) → IsToldEnded id x → 1 ≤ times_told id.0 (told_by x)
of_act id (Asks (Some (event.Ended x))) is = let e = is_once id.0 in let f : x.call.0 ≡ id.0 = ap (λ (c : CallId). c.0) is in rw f (omega arith)
of_act id (Asks (Some (event.Served y))) is = absurd is
of_act id (Asks (Some (event.Resolved p))) is = absurd is
of_act id (Asks (Some (event.Lifted r))) is = absurd is
of_act id (Asks (Some (event.Cancelled t))) is = absurd is
of_act id (Asks (Some (event.Released o))) is = absurd is
of_act id (Asks (Some (event.Down n reason))) is = absurd is
of_act id (Asks None) is = absurd is
of_act id (Commands c answer) is = absurd is
of_act id (Receives bytes) is = absurd is
of_act id Ends is = absurd is
of_act id (Shuts n) is = absurd is
of_act id (Gives bytes) is = absurd is
of_act id (SetsLimits limits) is = absurd is
of_act id (SetsFinishes finishes) is = absurd is

pub told_counts : (id : CallId) (xs : List Act) → Did (IsToldEnded id) xs → 1 ≤ times_told id.0 (flat_map told_by xs)
told_counts id [] d = absurd d
told_counts id (x ∷ xs) (inl is) = let e = of_act id x is in let a = times-append id.0 (told_by x) (flat_map told_by xs) in omega arith
told_counts id (x ∷ xs) (inr d) = let e = told_counts id xs d in let a = times-append id.0 (told_by x) (flat_map told_by xs) in omega arith
