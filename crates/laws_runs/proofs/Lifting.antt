-- What holds of each entry of a history, in the history up to it, holds of a history that tells the same.
use Rattle.std.proofs.Common.{◌≡◌, ℕ, Bool, true, false, cond, List, [], ◌∷◌, ◌++◌, Option, None, Some, refl, sym, ap, subst, ◌∙◌}
use Rattle.rpc_msg.specs.declared.ids.Vat.{Vat}
use Rattle.rpc_msg.specs.declared.ids.Stamp.{Stamp}
use Rattle.rpc_msg.specs.declared.ids.RefId.{RefId}
use Rattle.rpc_msg.specs.Vats.{other_vat}
use Rattle.rpc_journal.specs.declared.report.Delivery.{Delivery}
use Rattle.rpc_journal.specs.declared.report.Ended.{Ended}
use Rattle.rpc_journal.specs.declared.report.Outcome.{Outcome}
use Rattle.rpc_journal.specs.declared.entry.JournalEntry.{JournalEntry}
use Rattle.rpc_journal.specs.declared.entry.JournalEntry.TheVariants as entry
use Rattle.rpc_journal.specs.History.{Ref, Reply, caller, refs_at, answer_of}
use Rattle.rpc_journal.specs.Sources.{Asking, OfBootstrap, OfCall, asking}
use Rattle.rpc_journal.specs.Meaning.{History, ObjectAt, Broken}
use Rattle.rpc_machine.specs.Claims.{IsInTime, EndsAreSo, DeliversMade, EndsSo, EndsRoot, EndsCall, EndsAsked, AreNew}
use Rattle.laws_runs.specs.Telling.{tells, telling}
use Rattle.laws_runs.proofs.Silent.{telling-append}
use Rattle.laws_runs.proofs.ToldAlike.{SameRoots, same_root, same_source, same_asking, same_made_with, same_answer, same_ended, same_meaning}

-- A history that tells an entry has it, behind what is told before it.
abbrev Has : List JournalEntry → JournalEntry → List JournalEntry → Type 0
Has k e xs = (before : List JournalEntry) × (behind : List JournalEntry) × (k ≡ before ++ e ∷ behind) × (telling before ≡ xs)

no_entries : (xs ys : List JournalEntry) (e : JournalEntry) → [] ≡ xs ++ e ∷ ys → ⊥
no_entries [] ys e f = cc
no_entries (x ∷ xs) ys e f = cc

silent_first : (z : JournalEntry) (zs : List JournalEntry) (e : JournalEntry) (xs : List JournalEntry) → tells z ≡ false → Has zs e xs → Has (z ∷ zs) e xs
silent_first z zs e xs t h = (z ∷ h.0, h.1, ap (λ (l : List JournalEntry). z ∷ l) h.2, ap (λ (b : Bool). cond b (z ∷ telling h.0) (telling h.0)) t ∙ h.3)

told_first : (z : JournalEntry) (zs : List JournalEntry) (e : JournalEntry) (x : JournalEntry) (xs : List JournalEntry) → tells z ≡ true → z ≡ x → Has zs e xs → Has (z ∷ zs) e (x ∷ xs)
told_first z zs e x xs t i h = (z ∷ h.0, h.1, ap (λ (l : List JournalEntry). z ∷ l) h.2, ap (λ (b : Bool). cond b (z ∷ telling h.0) (telling h.0)) t ∙ ap (λ (l : List JournalEntry). z ∷ l) h.3 ∙ ap (λ (y : JournalEntry). y ∷ xs) i)

has_one : (b : Bool) (z : JournalEntry) (zs : List JournalEntry) (e : JournalEntry) (xs ys : List JournalEntry) → tells z ≡ b → ((us : List JournalEntry) → telling zs ≡ us ++ e ∷ ys → Has zs e us) → cond b (z ∷ telling zs) (telling zs) ≡ xs ++ e ∷ ys → Has (z ∷ zs) e xs
has_one false z zs e xs ys t ih f = silent_first z zs e xs t (ih xs f)
has_one true z zs e [] ys t ih f = let i : z ≡ e = cc in ([], zs, ap (λ (y : JournalEntry). y ∷ zs) i, refl)
has_one true z zs e (x ∷ xs) ys t ih f = let i : z ≡ x = cc in let j : telling zs ≡ xs ++ e ∷ ys = cc in told_first z zs e x xs t i (ih xs j)

has : (k : List JournalEntry) (e : JournalEntry) (xs ys : List JournalEntry) → telling k ≡ xs ++ e ∷ ys → Has k e xs
has [] e xs ys f = absurd (no_entries xs ys e f)
has (z ∷ zs) e xs ys f = has_one (tells z) z zs e xs ys refl (λ us g. has zs e us ys g) f

-- Where an entry that tells stands in one history, it stands in one that tells the same.
found : (h k : List JournalEntry) → telling h ≡ telling k → (before behind : List JournalEntry) (e : JournalEntry) → tells e ≡ true → h ≡ before ++ e ∷ behind → Has k e (telling before)
found h k t before behind e b f =
    has k e (telling before) (telling behind)
    (sym t ∙ ap telling f ∙ telling-append before (e ∷ behind) ∙ ap (λ (c : Bool). telling before ++ cond c (e ∷ telling behind) (telling behind)) b)

abbrev at : History → List JournalEntry → History
at h es = record h { journal = es }

new_so : (h k : List JournalEntry) → telling h ≡ telling k → (rs : List Ref) → AreNew k rs → AreNew h rs
new_so h k t [] n = tt
new_so h k t (r ∷ rs) n = (same_source h k t r ∙ n.0, n.1, new_so h k t rs n.2)

delivers_so : (h k : History) → telling h.journal ≡ telling k.journal → SameRoots h k → IsInTime k → (before behind : List JournalEntry) (v : Vat) (d : Delivery) → h.journal ≡ before ++ entry.Delivered v d ∷ behind → DeliversMade (at h before) v d
delivers_so h k t r i before behind v d e =
    let f = found h.journal k.journal t before behind (entry.Delivered v d) refl e in
    let m : DeliversMade (at k f.0) v d = i f.0 f.1 (entry.Delivered v d) f.2 in
    let s : telling before ≡ telling f.0 = sym f.3 in
    record {
      to_object = same_meaning (at h before) (at k f.0) s r (caller d.stamp) (ObjectAt v d.object.0) m.to_object;
      call = m.call;
      was_made = same_made_with before f.0 s d.stamp ∙ m.was_made;
      interface = m.interface;
      method = m.method;
      payload = m.payload;
      refs = m.refs;
      are_new = new_so before f.0 s (refs_at v d.refs) m.are_new;
    }

pub lift_delivers : (h k : History) → telling h.journal ≡ telling k.journal → SameRoots h k → IsInTime k → IsInTime h
lift_delivers h k same roots i before behind (entry.Delivered u d) e = delivers_so h k same roots i before behind u d e
lift_delivers h k same roots i before behind x e = tt

call_so : (h k : History) → telling h.journal ≡ telling k.journal → SameRoots h k → (s : Stamp) (o p : Option Reply) (x : Outcome) (refs : List RefId) → p ≡ o → EndsCall k s o x refs → EndsCall h s p x refs
call_so h k t r s o p x refs e c = subst (λ (q : Option Reply). EndsCall h s q x refs) (sym e) (by o c)
  where
    by : (o : Option Reply) → EndsCall k s o x refs → EndsCall h s o x refs
    by None c = (same_meaning h k t r (caller s) Broken c.0, c.1, c.2, c.3)
    by (Some a) c = c

asked_so : (h k : History) → telling h.journal ≡ telling k.journal → SameRoots h k → (v : Vat) (o p : Option Asking) (x : Outcome) (refs : List RefId) → p ≡ o → EndsAsked k v o x refs → EndsAsked h v p x refs
asked_so h k t r v o p x refs e c = subst (λ (q : Option Asking). EndsAsked h v q x refs) (sym e) (by o c)
  where
    by : (o : Option Asking) → EndsAsked k v o x refs → EndsAsked h v o x refs
    by None c = absurd c
    by (Some OfBootstrap) c = subst (λ (q : Option ℕ). EndsRoot q x refs) (same_root h k r (other_vat v)) c
    by (Some (OfCall s)) c = call_so h k t r s (answer_of k.journal s) (answer_of h.journal s) x refs (same_answer h.journal k.journal t s) c

ends_so : (h k : History) → telling h.journal ≡ telling k.journal → SameRoots h k → EndsAreSo k → (before behind : List JournalEntry) (v : Vat) (x : Ended) → h.journal ≡ before ++ entry.Ended v x ∷ behind → EndsSo (at h before) v x
ends_so h k t r i before behind v x e =
    let f = found h.journal k.journal t before behind (entry.Ended v x) refl e in
    let m : EndsSo (at k f.0) v x = i f.0 f.1 (entry.Ended v x) f.2 in
    let s : telling before ≡ telling f.0 = sym f.3 in
    record {
      once = same_ended before f.0 s v x.call.0 ∙ m.once;
      so = asked_so (at h before) (at k f.0) s r v (asking f.0 v x.call.0) (asking before v x.call.0) x.outcome x.refs (same_asking before f.0 s v x.call.0) m.so;
      are_new = new_so before f.0 s (refs_at v x.refs) m.are_new;
    }

pub lift_ends : (h k : History) → telling h.journal ≡ telling k.journal → SameRoots h k → EndsAreSo k → EndsAreSo h
lift_ends h k same roots i before behind (entry.Ended u x) e = ends_so h k same roots i before behind u x e
lift_ends h k same roots i before behind x e = tt
