-- What is written behind what stood there.
use Rattle.std.proofs.Common.{◌≡◌, ℕ, Option, Some, List, [], ◌∷◌, ◌++◌, map, append-nil, append_assoc, sym, ap, subst, ◌∙◌}
use Rattle.rpc_msg.specs.declared.ids.Vat.{Vat}
use Rattle.rpc_msg.specs.declared.message.Message.{Message}
use Rattle.rpc_journal.specs.declared.entry.JournalEntry.{JournalEntry}
use Rattle.rpc_journal.specs.declared.entry.JournalEntry.TheVariants as entry
use Rattle.rpc_journal.specs.declared.report.Delivery.{Delivery}
use Rattle.rpc_journal.specs.declared.report.Ended.{Ended}
use Rattle.rpc_machine.specs.declared.command.Effects.{Effects}
use Rattle.rpc_machine.specs.Journal.{effect_entries, went_down}
use Rattle.core_telling.specs.Told.{Extends}

pub behind_nothing : (xs ys : List JournalEntry) → ys ≡ xs → Extends xs ys
behind_nothing xs ys e = ([], e ∙ sym (append-nil xs))

pub behind_more : (xs more ys zs : List JournalEntry) → ys ≡ xs ++ more → Extends ys zs → Extends xs zs
behind_more xs more ys zs e h = (more ++ h.0, h.1 ∙ ap (λ (l : List JournalEntry). l ++ h.0) e ∙ append_assoc xs more h.0)

-- ---- The entries of a step that took the vat down

pub all_written : (v : Vat) (e : Effects) (n : ℕ) (s : List Message) (d : List Delivery) (a : List Ended) (h j k l m : List JournalEntry)
    → e.down ≡ Some n → s ≡ e.sends → d ≡ e.deliveries → a ≡ e.answers
    → j ≡ h ++ map (entry.Sent v) s → k ≡ j ++ map (entry.Delivered v) d → l ≡ k ++ map (entry.Ended v) a → m ≡ l ++ entry.Down v n ∷ [] → m ≡ h ++ effect_entries v e
all_written v e n s d a h j k l m down es ed ea ej ek el em =
    subst (λ (o : Option ℕ). m ≡ h ++ (map (entry.Sent v) e.sends ++ map (entry.Delivered v) e.deliveries ++ map (entry.Ended v) e.answers ++ went_down v o)) (sym down)
    (em ∙ ap (λ (x : List JournalEntry). x ++ entry.Down v n ∷ []) (el ∙ ap (λ (x : List JournalEntry). x ++ map (entry.Ended v) a) (ek ∙ ap (λ (x : List JournalEntry). x ++ map (entry.Delivered v) d) ej))
    ∙ ap (λ (x : List Message). (((h ++ map (entry.Sent v) x) ++ map (entry.Delivered v) d) ++ map (entry.Ended v) a) ++ entry.Down v n ∷ []) es
    ∙ ap (λ (x : List Delivery). (((h ++ map (entry.Sent v) e.sends) ++ map (entry.Delivered v) x) ++ map (entry.Ended v) a) ++ entry.Down v n ∷ []) ed
    ∙ ap (λ (x : List Ended). (((h ++ map (entry.Sent v) e.sends) ++ map (entry.Delivered v) e.deliveries) ++ map (entry.Ended v) x) ++ entry.Down v n ∷ []) ea
    ∙ together h (map (entry.Sent v) e.sends) (map (entry.Delivered v) e.deliveries) (map (entry.Ended v) e.answers) (entry.Down v n ∷ []))
  where
    together : (h a b c d : List JournalEntry) → (((h ++ a) ++ b) ++ c) ++ d ≡ h ++ (a ++ b ++ c ++ d)
    together h a b c d = simp append_assoc
