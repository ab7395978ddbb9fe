-- Entries that tell nothing of the history: what refusals and falls write.
use Rattle.std.proofs.Common.{◌≡◌, ℕ, Bool, true, false, cond, List, [], ◌∷◌, ◌++◌, map, append-nil, Option, None, Some, refl, ap, ◌∙◌}
use Rattle.rpc_msg.specs.declared.ids.Vat.{Vat}
use Rattle.rpc_msg.specs.declared.message.Message.{Message}
use Rattle.rpc_journal.specs.declared.report.Delivery.{Delivery}
use Rattle.rpc_journal.specs.declared.report.Ended.{Ended}
use Rattle.rpc_journal.specs.declared.entry.JournalEntry.{JournalEntry}
use Rattle.rpc_journal.specs.declared.entry.JournalEntry.TheVariants as entry
use Rattle.rpc_machine.specs.declared.command.Refusal.{Refusal}
use Rattle.rpc_machine.specs.declared.command.Refusal.TheVariants as refusal
use Rattle.rpc_machine.specs.declared.command.Effects.{Effects}
use Rattle.rpc_machine.specs.Journal.{went_down, effect_entries, refused_entries}
use Rattle.laws_runs.specs.Telling.{tells, telling}

one_more : (b : Bool) (e : JournalEntry) (xs ys zs : List JournalEntry) → xs ≡ ys ++ zs → cond b (e ∷ xs) xs ≡ cond b (e ∷ ys) ys ++ zs
one_more true e xs ys zs h = ap (λ (l : List JournalEntry). e ∷ l) h
one_more false e xs ys zs h = h

pub telling-append : (xs ys : List JournalEntry) → telling (xs ++ ys) ≡ telling xs ++ telling ys
telling-append [] ys = refl
telling-append (x ∷ xs) ys = one_more (tells x) x (telling (xs ++ ys)) (telling xs) (telling ys) (telling-append xs ys)

abbrev pub Silent : List JournalEntry → Type 0
Silent es = telling es ≡ []

pub silent_behind : (h es : List JournalEntry) → Silent es → telling (h ++ es) ≡ telling h
silent_behind h es e = telling-append h es ∙ ap (λ (l : List JournalEntry). telling h ++ l) e ∙ append-nil (telling h)

pub both_silent : (xs ys : List JournalEntry) → Silent xs → Silent ys → Silent (xs ++ ys)
both_silent xs ys e f = telling-append xs ys ∙ ap (λ (l : List JournalEntry). l ++ telling ys) e ∙ f

silent_sends : (v : Vat) (ms : List Message) → Silent (map (entry.Sent v) ms)
silent_sends v [] = refl
silent_sends v (m ∷ ms) = silent_sends v ms

silent_down : (v : Vat) (o : Option ℕ) → Silent (went_down v o)
silent_down v None = refl
silent_down v (Some n) = refl

-- Effects without deliveries and ends.
pub silent_effects : (v : Vat) (x : Effects) → x.deliveries ≡ [] → x.answers ≡ [] → Silent (effect_entries v x)
silent_effects v x e f =
    let ms = map (entry.Sent v) x.sends in
    let ds = map (entry.Delivered v) x.deliveries in
    let es = map (entry.Ended v) x.answers in
    let d : Silent ds = ap (λ (l : List Delivery). telling (map (entry.Delivered v) l)) e in
    let a : Silent es = ap (λ (l : List Ended). telling (map (entry.Ended v) l)) f in
    both_silent (ms ++ ds ++ es) (went_down v x.down) (both_silent (ms ++ ds) es (both_silent ms ds (silent_sends v x.sends) d) a) (silent_down v x.down)

pub silent_refusal : (v : Vat) (r : Refusal) → Silent (refused_entries v r)
silent_refusal v refusal.Down = refl
silent_refusal v r = refl
