-- How often a call ended, by entries: as often as effects say that wrote them.
use Rattle.std.proofs.Common.{◌≡◌, ℕ, ◌+◌, Bool, true, false, cond, ◌&&◌, ◌||◌, nat_eq, Option, None, Some, List, [], ◌∷◌, ◌++◌, map, refl, ◌∙◌, arith}
use Rattle.std.specs.List.{list_any}
use Rattle.rpc_msg.specs.declared.ids.Vat.{Vat}
use Rattle.rpc_msg.specs.declared.message.Message.{Message}
use Rattle.rpc_journal.specs.declared.report.Delivery.{Delivery}
use Rattle.rpc_journal.specs.declared.report.Ended.{Ended}
use Rattle.rpc_journal.specs.declared.entry.JournalEntry.{JournalEntry}
use Rattle.rpc_journal.specs.declared.entry.JournalEntry.TheVariants as entry
use Rattle.rpc_journal.specs.History.{same_vat}
use Rattle.rpc_machine.specs.declared.command.Effects.{Effects}
use Rattle.rpc_machine.specs.Journal.{went_down, effect_entries}
use Rattle.rpc_machine.specs.Claims.{is_end_of}
use Rattle.laws_nodes.specs.Ones.{one_if}
use Rattle.laws_authority.specs.Once.{ends_in}

abbrev pub ended : Vat → ℕ → List JournalEntry → ℕ
ended v c [] = 0
ended v c (e ∷ es) = one_if (is_end_of v c e) + ended v c es

pub ended-append : (v : Vat) (c : ℕ) (xs ys : List JournalEntry) → ended v c (xs ++ ys) ≡ ended v c xs + ended v c ys
ended-append v c [] ys = omega arith
ended-append v c (x ∷ xs) ys = let e = ended-append v c xs ys in omega arith

ended_sends : (u v : Vat) (c : ℕ) (ms : List Message) → ended u c (map (entry.Sent v) ms) ≡ 0
ended_sends u v c [] = refl
ended_sends u v c (m ∷ ms) = let e = ended_sends u v c ms in omega arith

ended_deliveries : (u v : Vat) (c : ℕ) (ds : List Delivery) → ended u c (map (entry.Delivered v) ds) ≡ 0
ended_deliveries u v c [] = refl
ended_deliveries u v c (d ∷ ds) = let e = ended_deliveries u v c ds in omega arith

ended_answers : (u v : Vat) (c : ℕ) (xs : List Ended) → ended u c (map (entry.Ended v) xs) ≡ cond (same_vat u v) (ends_in c xs) 0
ended_answers u v c [] = by (same_vat u v)
  where
    by : (b : Bool) → ◌≡◌ {A = ℕ} 0 (cond b 0 0)
    by true = refl
    by false = refl
ended_answers u v c (x ∷ xs) = by (same_vat u v) (ended u c (map (entry.Ended v) xs)) (ended_answers u v c xs)
  where
    by : (b : Bool) (n : ℕ) → n ≡ cond b (ends_in c xs) 0 → one_if (b && nat_eq c x.call.0) + n ≡ cond b (ends_in c (x ∷ xs)) 0
    by true n e = omega arith
    by false n e = omega arith

ended_down : (u v : Vat) (c : ℕ) (o : Option ℕ) → ended u c (went_down v o) ≡ 0
ended_down u v c None = refl
ended_down u v c (Some n) = refl

pub ended_effects : (u v : Vat) (c : ℕ) (x : Effects) → ended u c (effect_entries v x) ≡ cond (same_vat u v) (ends_in c x.answers) 0
ended_effects u v c x =
    let ms = map (entry.Sent v) x.sends in
    let ds = map (entry.Delivered v) x.deliveries in
    let es = map (entry.Ended v) x.answers in
    let a = ended-append u c (ms ++ ds ++ es) (went_down v x.down) in
    let b = ended-append u c (ms ++ ds) es in
    let d = ended-append u c ms ds in
    let e = ended_down u v c x.down in
    let f = ended_sends u v c x.sends in
    let g = ended_deliveries u v c x.deliveries in
    let w : ended u c (effect_entries v x) ≡ ended u c es = omega arith in
    w ∙ ended_answers u v c x.answers

pub not_ended : (v : Vat) (c : ℕ) (h : List JournalEntry) → ended v c h ≡ 0 → list_any (is_end_of v c) h ≡ false
not_ended v c [] e = refl
not_ended v c (x ∷ xs) e = by (is_end_of v c x) (not_ended v c xs) e
  where
    by : (b : Bool) → (ended v c xs ≡ 0 → list_any (is_end_of v c) xs ≡ false) → one_if b + ended v c xs ≡ 0 → (b || list_any (is_end_of v c) xs) ≡ false
    by true g e = absurd (omega arith)
    by false g e = g (omega arith)
