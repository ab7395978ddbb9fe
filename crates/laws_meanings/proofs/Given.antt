-- How often entries give a reference of a vat; what gives none says nothing of where it comes from.
use Rattle.std.proofs.Common.{◌≡◌, ◌≢◌, ◌⊎◌, inl, inr, ℕ, suc, ◌+◌, ◌≤◌, ◌<◌, Bool, true, false, cond, ◌&&◌, nat_eq, Option, None, Some, List, [], ◌∷◌, ◌++◌, map, length, refl, sym, ap, ◌∙◌, arith}
use Rattle.std.specs.List.{All}
use Rattle.std.proofs.lemmas.List.Elements.{All-nil, All-cons}
use Rattle.finite_maps.proofs.Tested.{equal, itself}
use Rattle.rpc_msg.specs.declared.ids.Vat.{Vat}
use Rattle.rpc_msg.specs.declared.ids.RefId.{RefId}
use Rattle.rpc_msg.specs.declared.ids.Stamp.{Stamp}
use Rattle.rpc_msg.specs.declared.message.Message.{Message}
use Rattle.rpc_journal.specs.declared.report.Delivery.{Delivery}
use Rattle.rpc_journal.specs.declared.report.Ended.{Ended}
use Rattle.rpc_journal.specs.declared.entry.JournalEntry.{JournalEntry}
use Rattle.rpc_journal.specs.declared.entry.JournalEntry.TheVariants as entry
use Rattle.rpc_journal.specs.History.{Ref, same_vat, or_rest, if_so, refs_at}
use Rattle.rpc_journal.specs.Sources.{Source, source_of_origin, place_from, sent_with, ended_with, at_vat, source_one, source}
use Rattle.rpc_machine.specs.declared.node.Node.{Node}
use Rattle.rpc_machine.specs.declared.command.Effects.{Effects}
use Rattle.rpc_machine.specs.Progress.{new_refs}
use Rattle.rpc_machine.specs.Journal.{went_down, effect_entries}
use Rattle.rpc_machine.specs.Claims.{AreNew}

-- ---- How often

abbrev pub one : Bool → ℕ
one true = 1
one false = 0

abbrev pub times : ℕ → List RefId → ℕ
times k [] = 0
times k (r ∷ rs) = one (nat_eq k r.0) + times k rs

abbrev pub given_one : Vat → ℕ → JournalEntry → ℕ
given_one v k (entry.Born u r o) = one (same_vat v u && nat_eq k r.0)
given_one v k (entry.Delivered u d) = cond (same_vat v u) (times k d.refs) 0
given_one v k (entry.Ended u x) = cond (same_vat v u) (times k x.refs) 0
given_one v k e = 0

abbrev pub given : Vat → ℕ → List JournalEntry → ℕ
given v k [] = 0
given v k (e ∷ es) = given_one v k e + given v k es

abbrev pub in_deliveries : ℕ → List Delivery → ℕ
in_deliveries k [] = 0
in_deliveries k (d ∷ ds) = times k d.refs + in_deliveries k ds

abbrev pub in_ends : ℕ → List Ended → ℕ
in_ends k [] = 0
in_ends k (x ∷ xs) = times k x.refs + in_ends k xs

pub given-append : (v : Vat) (k : ℕ) (xs ys : List JournalEntry) → given v k (xs ++ ys) ≡ given v k xs + given v k ys
given-append v k [] ys = omega arith
given-append v k (x ∷ xs) ys = let e = given-append v k xs ys in omega arith

pub deliveries-append : (k : ℕ) (xs ys : List Delivery) → in_deliveries k (xs ++ ys) ≡ in_deliveries k xs + in_deliveries k ys
deliveries-append k [] ys = omega arith
deliveries-append k (x ∷ xs) ys = let e = deliveries-append k xs ys in omega arith

pub ends-append : (k : ℕ) (xs ys : List Ended) → in_ends k (xs ++ ys) ≡ in_ends k xs + in_ends k ys
ends-append k [] ys = omega arith
ends-append k (x ∷ xs) ys = let e = ends-append k xs ys in omega arith

-- What effects write gives what their deliveries and ends do.
given_sends : (u v : Vat) (k : ℕ) (ms : List Message) → given u k (map (entry.Sent v) ms) ≡ 0
given_sends u v k [] = refl
given_sends u v k (m ∷ ms) = let e = given_sends u v k ms in omega arith

given_deliveries : (u v : Vat) (k : ℕ) (ds : List Delivery) → given u k (map (entry.Delivered v) ds) ≡ cond (same_vat u v) (in_deliveries k ds) 0
given_deliveries u v k [] = by (same_vat u v)
  where
    by : (b : Bool) → ◌≡◌ {A = ℕ} 0 (cond b 0 0)
    by true = refl
    by false = refl
given_deliveries u v k (d ∷ ds) = by (same_vat u v) (given u k (map (entry.Delivered v) ds)) (given_deliveries u v k ds)
  where
    by : (b : Bool) (n : ℕ) → n ≡ cond b (in_deliveries k ds) 0 → cond b (times k d.refs) 0 + n ≡ cond b (in_deliveries k (d ∷ ds)) 0
    by true n e = omega arith
    by false n e = omega arith

given_ends : (u v : Vat) (k : ℕ) (xs : List Ended) → given u k (map (entry.Ended v) xs) ≡ cond (same_vat u v) (in_ends k xs) 0
given_ends u v k [] = by (same_vat u v)
  where
    by : (b : Bool) → ◌≡◌ {A = ℕ} 0 (cond b 0 0)
    by true = refl
    by false = refl
given_ends u v k (x ∷ xs) = by (same_vat u v) (given u k (map (entry.Ended v) xs)) (given_ends u v k xs)
  where
    by : (b : Bool) (n : ℕ) → n ≡ cond b (in_ends k xs) 0 → cond b (times k x.refs) 0 + n ≡ cond b (in_ends k (x ∷ xs)) 0
    by true n e = omega arith
    by false n e = omega arith

given_down : (u v : Vat) (k : ℕ) (o : Option ℕ) → given u k (went_down v o) ≡ 0
given_down u v k None = refl
given_down u v k (Some n) = refl

pub given_effects : (u v : Vat) (k : ℕ) (x : Effects) → given u k (effect_entries v x) ≡ cond (same_vat u v) (in_deliveries k x.deliveries + in_ends k x.answers) 0
given_effects u v k x = by (same_vat u v) (given_deliveries u v k x.deliveries) (given_ends u v k x.answers)
  where
    whole : given u k (effect_entries v x) ≡ given u k (map (entry.Delivered v) x.deliveries) + given u k (map (entry.Ended v) x.answers)
    whole =
        let ms = map (entry.Sent v) x.sends in
        let ds = map (entry.Delivered v) x.deliveries in
        let es = map (entry.Ended v) x.answers in
        let a = given-append u k (ms ++ ds ++ es) (went_down v x.down) in
        let b = given-append u k (ms ++ ds) es in
        let c = given-append u k ms ds in
        let d = given_down u v k x.down in
        let e = given_sends u v k x.sends in
        omega arith

    by : (b : Bool) → given u k (map (entry.Delivered v) x.deliveries) ≡ cond b (in_deliveries k x.deliveries) 0 → given u k (map (entry.Ended v) x.answers) ≡ cond b (in_ends k x.answers) 0 → given u k (effect_entries v x) ≡ cond b (in_deliveries k x.deliveries + in_ends k x.answers) 0
    by true e f = let w = whole in omega arith
    by false e f = let w = whole in omega arith

-- ---- New numbers

-- Once, and then it is from there to here.
abbrev pub OnceFrom : ℕ → ℕ → ℕ → ℕ → Type 0
OnceFrom start next k n = (n ≡ 0) ⊎ ((n ≡ 1) × (start ≤ k) × (k < next))

pub in_new_refs : (start : ℕ) (ns : List Node) (k : ℕ) → OnceFrom start (start + length ns) k (times k (new_refs start ns))
in_new_refs start [] k = inl refl
in_new_refs start (n ∷ ns) k = by (nat_eq k start) refl (in_new_refs (start + 1) ns k)
  where
    by : (b : Bool) → nat_eq k start ≡ b → OnceFrom (start + 1) (start + 1 + length ns) k (times k (new_refs (start + 1) ns)) → OnceFrom start (start + suc (length ns)) k (one b + times k (new_refs (start + 1) ns))
    by true e (inl z) = let i = equal k start e in inr (omega arith, omega arith, omega arith)
    by true e (inr z) = let i = equal k start e in let y = z.1 in absurd (omega arith)
    by false e (inl z) = inl (omega arith)
    by false e (inr z) = let a = z.0 in let b = z.1 in let c = z.2 in inr (omega arith, omega arith, omega arith)

-- ---- Where it comes from

one_none : {X : Type 0} (b : Bool) (x : X) → one b ≡ 0 → if_so b x ≡ None
one_none true x e = absurd (omega arith)
one_none false x e = refl

not_placed : (i k : ℕ) (rs : List RefId) → times k rs ≡ 0 → place_from i k rs ≡ None
not_placed i k [] e = refl
not_placed i k (r ∷ rs) e = by (nat_eq k r.0) (not_placed (i + 1) k rs) e
  where
    by : (b : Bool) → (times k rs ≡ 0 → place_from (i + 1) k rs ≡ None) → one b + times k rs ≡ 0 → cond b (Some i) (place_from (i + 1) k rs) ≡ None
    by true g e = absurd (omega arith)
    by false g e = g (omega arith)

sent_none : (b : Bool) (s : Stamp) (k : ℕ) (rs : List RefId) → cond b (times k rs) 0 ≡ 0 → at_vat b (sent_with s (place_from 0 k rs)) ≡ None
sent_none true s k rs e = ap (sent_with s) (not_placed 0 k rs e)
sent_none false s k rs e = refl

ended_none : (b : Bool) (c k : ℕ) (rs : List RefId) → cond b (times k rs) 0 ≡ 0 → at_vat b (ended_with c (place_from 0 k rs)) ≡ None
ended_none true c k rs e = ap (ended_with c) (not_placed 0 k rs e)
ended_none false c k rs e = refl

says_none : (v : Vat) (k : ℕ) (e : JournalEntry) → given_one v k e ≡ 0 → source_one (record { vat = v; number = k }) e ≡ None
says_none v k (entry.Born u r o) g = one_none (same_vat v u && nat_eq k r.0) (source_of_origin o) g
says_none v k (entry.Delivered u d) g = sent_none (same_vat v u) d.stamp k d.refs g
says_none v k (entry.Ended u x) g = ended_none (same_vat v u) x.call.0 k x.refs g
says_none v k e g = refl

pub from_nowhere : (v : Vat) (k : ℕ) (h : List JournalEntry) → given v k h ≡ 0 → source h (record { vat = v; number = k }) ≡ None
from_nowhere v k [] g = refl
from_nowhere v k (e ∷ es) g =
    ap (λ (o : Option Source). or_rest o (source es (record { vat = v; number = k }))) (says_none v k e (omega arith)) ∙ from_nowhere v k es (omega arith)

abbrev Apart : Vat → ℕ → Ref → Type 0
Apart v k q = q ≢ record { vat = v; number = k }

differs : (k n : ℕ) → one (nat_eq k n) ≡ 0 → k ≢ n
differs k n e i = let j : nat_eq k n ≡ true = grind arith in let z : one (nat_eq k n) ≡ 1 = ap one j in absurd (omega arith)

others : (v : Vat) (k : ℕ) (rs : List RefId) → times k rs ≡ 0 → All (Apart v k) (refs_at v rs)
others v k [] e = All-nil (Apart v k)
others v k (r ∷ rs) e =
    All-cons (Apart v k) (record { vat = v; number = r.0 }) (refs_at v rs) (λ f. differs k r.0 (omega arith) (ap (λ (q : Ref). q.number) (sym f))) (others v k rs (omega arith))

-- What is given once, here and before, is new.
pub are_new : (v : Vat) (h : List JournalEntry) (rs : List RefId) → ((k : ℕ) → given v k h + times k rs ≤ 1) → AreNew h (refs_at v rs)
are_new v h [] f = tt
are_new v h (r ∷ rs) f =
    let a = f r.0 in
    let b : one (nat_eq r.0 r.0) ≡ 1 = ap one (itself r.0) in
    (from_nowhere v r.0 h (omega arith), others v r.0 rs (omega arith), are_new v h rs (λ k. let c = f k in omega arith))
