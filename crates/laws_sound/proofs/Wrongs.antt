-- What is wrong in each of those journals.
use Rattle.std.proofs.Common.{nat_cmp, ◌≡◌, ◌∙◌, sym, length, ℕ, zero, suc, true, false, Option, None, Some, List, All, [], ◌∷◌, ◌++◌, refl, ap, arith}
use Rattle.std.specs.FinMap as map
use Rattle.rpc_msg.specs.declared.ids.Vat.{Vat}
use Rattle.rpc_msg.specs.declared.ids.Vat.TheVariants.{A, B}
use Rattle.rpc_msg.specs.declared.ids.Stamp.{Stamp}
use Rattle.rpc_msg.specs.Payloads.{null_payload}
use Rattle.rpc_journal.specs.declared.report.Outcome.TheVariants as outcome
use Rattle.rpc_journal.specs.declared.entry.JournalEntry.{JournalEntry}
use Rattle.rpc_journal.specs.declared.entry.JournalEntry.TheVariants as entry
use Rattle.rpc_journal.specs.declared.entry.MadeCall.{MadeCall}
use Rattle.rpc_journal.specs.History.{DeliveredAt, Ref, made_with}
use Rattle.rpc_journal.specs.Meaning.{ObjectAt, Broken, within}
use Rattle.rpc_machine.specs.Claims.{IsTo}
use Rattle.rpc_machine.specs.Routing.{failed}
use Rattle.rpc_machine.specs.Lists.{from_each, of_map}
use Rattle.rpc_machine.specs.Pending.{pending, through}
use Rattle.rpc_machine.specs.Queries.{stamps_at_outcome, stamps_at_promise, stamps_under, waiting}
use Rattle.rpc_machine.specs.World.{core}
use Rattle.rpc_machine.specs.Numbers.{peer_abort}
use Rattle.laws_sound.specs.Promised.{GoesDownFor, ItsShut, WantOfRoom, TheLimit, TheOther, history_of}
use Rattle.laws_scenes.specs.Ordered.{IsWhere}
use Rattle.laws_sound.specs.Wrong.{delivery, makes, delivers, hosts, answers, ends, elsewhere, idle_world, WrongJournals}

abbrev ours : Ref
ours = record { vat = A; number = 0 }

abbrev first_index : List Stamp → ℕ
first_index [] = 0
first_index (s ∷ ss) = s.index

none_behind : (s : Stamp) (ss rest : List Stamp) → (s ∷ ss) ++ rest ≡ [] → ⊥
none_behind s ss rest e = cc

abbrev tail : List Stamp → List Stamp
tail [] = []
tail (s ∷ ss) = ss

abbrev at : ℕ → ℕ → DeliveredAt
at i object = record { vat = B; delivery = delivery i object }

not_refused : GoesDownFor false [] A 22 → ⊥
not_refused (ItsShut e) = absurd (let f : false ≡ true = e in cc)
not_refused (WantOfRoom e f) = omega (arith, f)
not_refused (TheLimit e f) = omega (arith, f)
not_refused (TheOther e f g) = omega (arith, f)

not_by_nobody : GoesDownFor false [] A peer_abort → ⊥
not_by_nobody (ItsShut e) = absurd (let f : false ≡ true = e in cc)
not_by_nobody (WantOfRoom e f) = omega (arith, f)
not_by_nobody (TheLimit e f) = omega (arith, f)
not_by_nobody (TheOther e f g) = absurd (let k : false ≡ true = g in cc)

-- The reference stands for the object that it is of, and for nothing else.
not_theirs : (es : List JournalEntry) (n : ℕ) → within n (history_of (hosts 3 ∷ es) idle_world) ours ≡ Some (ObjectAt B 3) → ⊥
not_theirs es zero e = cc
not_theirs es (suc n) e = let f : Some (ObjectAt A 3) ≡ Some (ObjectAt B 3) = e in cc

not_broken : (es : List JournalEntry) (n : ℕ) → within n (history_of (hosts 3 ∷ es) idle_world) ours ≡ Some Broken → ⊥
not_broken es zero e = cc
not_broken es (suc n) e = let f : Some (ObjectAt A 3) ≡ Some Broken = e in cc

abbrev method_of : Option MadeCall → ℕ
method_of None = 0
method_of (Some m) = m.method

of_one_method : (m : MadeCall) → made_with (hosts 3 ∷ makes 0 ∷ []) (delivery 0 3).stamp ≡ Some m → 2 ≡ m.method → ⊥
of_one_method m e f = let g : 1 ≡ m.method = ap method_of e in omega (arith, f, g)

-- ---- Nothing is pending in new vats

no_length : {X : Type 0} (xs : List (ℕ × X)) → length xs ≡ 0 → xs ≡ []
no_length [] e = refl
no_length (x ∷ xs) e = absurd (omega (arith, e))

none_of : {X : Type 0} (f : ℕ → X → List Stamp) → of_map f map.empty ≡ []
none_of {X} f = ap (λ (xs : List (ℕ × X)). from_each f xs) (no_length _ (sym (map.len-entries (map.empty {X = X} {R = nat_cmp})) ∙ map.len-empty nat_cmp X))

none_kept : of_map stamps_at_promise map.empty ++ of_map stamps_at_outcome map.empty ++ of_map stamps_under map.empty ≡ []
none_kept =
    ap (λ (xs : List Stamp). xs ++ of_map stamps_at_outcome map.empty ++ of_map stamps_under map.empty) (none_of stamps_at_promise)
    ∙ ap (λ (xs : List Stamp). xs ++ of_map stamps_under map.empty) (none_of stamps_at_outcome) ∙ none_of stamps_under

none_waits : (v : Vat) → waiting (core idle_world v) ≡ []
none_waits A = none_kept
none_waits B = none_kept

idle : pending idle_world ours ≡ []
idle =
    ap (λ (xs : List Stamp). through ours (xs ++ waiting idle_world.b.core ++ [] ++ [])) (none_waits A)
    ∙ ap (λ (xs : List Stamp). through ours (xs ++ [] ++ [])) (none_waits B)

pub wrong : WrongJournals
wrong = record {
  overtaken_not = λ k. let e : 1 ≡ 0 = ap first_index (k ours).1 in omega (arith, e);
  left_out_not = λ k. let e : 1 ≡ 0 = ap first_index (k ours).1 in omega (arith, e);
  repeated_not = λ k. let x = k ours in none_behind _ [] x.0 (ap tail x.1);
  invented_not = λ k. let x = k ours in none_behind _ [] x.0 x.1;
  astray_not = λ k. let x : All (IsWhere (at 0 0)) (at 1 1 ∷ []) = k ours in let e : 1 ≡ 0 = (x 0 (at 0 0) (omega arith)).1 in omega (arith, e);
  too_late_not = λ k. let e : delivers 0 0 ∷ [] ≡ [] = k B peer_abort (makes 0 ∷ entry.Down A 7 ∷ []) (delivers 0 0 ∷ []) refl in cc;
  refused_not = λ k. not_refused (k.each A 22 [] [] refl).why;
  by_nobody_not = λ k. not_by_nobody (k.each A peer_abort [] [] refl).why;
  elsewhere_not = λ k. let x : All (IsTo (history_of elsewhere idle_world) ours) (at 0 3 ∷ []) = k ours in let y = x 0 (at 0 3) (omega arith) in not_theirs (makes 0 ∷ delivers 0 3 ∷ []) y.0 y.1;
  altered_not = λ k. let x = k (hosts 3 ∷ makes 0 ∷ []) [] (entry.Delivered A (record (delivery 0 3) { method = 2 })) refl in of_one_method x.call x.was_made x.method;
  lost_not = λ k. let e : [] ≡ (delivery 0 3).stamp ∷ [] = k ours A 3 (1, refl) (refl, refl) idle in cc;
  unanswered_not = λ k. let x = (k (hosts 3 ∷ makes 0 ∷ []) [] ends refl).so in not_broken (makes 0 ∷ []) x.0.0 x.0.1;
  misread_not = λ k. let x = (k (hosts 3 ∷ makes 0 ∷ entry.Delivered A (delivery 0 3) ∷ answers ∷ []) [] ends refl).so in let e : outcome.Exception (failed []) ≡ outcome.Results null_payload = x.0 in cc;
  ended_twice_not = λ k. let e : true ≡ false = (k (hosts 3 ∷ makes 0 ∷ ends ∷ []) [] ends refl).once in cc;
}
