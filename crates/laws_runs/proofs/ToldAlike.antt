-- What is read of two histories that tell the same is the same, and so is what a command writes of itself behind them.
use Rattle.std.proofs.Common.{◌≡◌, ◌⊎◌, inl, inr, ℕ, Bool, true, false, cond, ◌||◌, List, [], ◌∷◌, length, Option, None, Some, refl, sym, ap, subst, ◌∙◌, arith}
use Rattle.std.specs.List.{list_any}
use Rattle.rpc_msg.specs.declared.ids.Vat.{Vat}
use Rattle.rpc_msg.specs.declared.ids.Vat.TheVariants.{A, B}
use Rattle.rpc_msg.specs.declared.ids.Stamp.{Stamp}
use Rattle.rpc_journal.specs.declared.entry.JournalEntry.{JournalEntry}
use Rattle.rpc_journal.specs.declared.entry.JournalEntry.TheVariants as entry
use Rattle.rpc_journal.specs.History.{Ref, DeliveredAt, or_rest, first_that, in_front, all_that, made_stamp, made, made_one, made_with, delivery_one, delivered_one, stamps, delivered, reply_one, reply_to, answer_of}
use Rattle.rpc_journal.specs.Sources.{asking_one, asking, source_one, source, fate_one, fate}
use Rattle.rpc_journal.specs.Meaning.{History, Meaning, ObjectAt, Broken, root, within, StandsFor}
use Rattle.rpc_machine.specs.declared.command.CallCommand.{CallCommand}
use Rattle.rpc_machine.specs.declared.command.Command.{Command}
use Rattle.rpc_machine.specs.declared.command.Command.TheVariants as command
use Rattle.rpc_machine.specs.declared.command.Granted.{Granted}
use Rattle.rpc_machine.specs.declared.command.Granted.TheVariants as granted
use Rattle.rpc_machine.specs.Journal.{made_entries, granted_entries}
use Rattle.rpc_machine.specs.Claims.{is_end_of}
use Rattle.laws_runs.specs.Telling.{tells, telling}
use Rattle.laws_runs.proofs.Extends.{Extends}
use Rattle.laws_runs.proofs.Grows.{Grows, grows}

-- An entry that tells nothing.
record Silence (e : JournalEntry) : Type 0 where
  made : (r : Ref) → made_stamp r e ≡ None
  source : (r : Ref) → source_one r e ≡ None
  fate : (v : Vat) (p : ℕ) → fate_one v p e ≡ None
  asking : (v : Vat) (c : ℕ) → asking_one v c e ≡ None
  made_one : (s : Stamp) → made_one s e ≡ None
  delivery : (s : Stamp) → delivery_one s e ≡ None
  reply : (v : Vat) (t : ℕ) → reply_one v t e ≡ None
  delivered : (r : Ref) → delivered_one r e ≡ None
  is_end : (v : Vat) (c : ℕ) → is_end_of v c e ≡ false

told : {X : Type 0} → true ≡ false → X
told e = absurd (let f : true ≡ false = e in cc)

silence : (e : JournalEntry) → tells e ≡ false → Silence e
silence (entry.Born u r o) g = told g
silence (entry.Asked u c) g = told g
silence (entry.Made u m) g = told g
silence (entry.Delivered u d) g = told g
silence (entry.Answered u t o refs) g = told g
silence (entry.Ended u x) g = told g
silence (entry.Resolved u p r) g = told g
silence (entry.Rejected u p x) g = told g
silence e g = record { made = λ r. refl; source = λ r. refl; fate = λ v p. refl; asking = λ v c. refl; made_one = λ s. refl; delivery = λ s. refl; reply = λ v t. refl; delivered = λ r. refl; is_end = λ v c. refl }

all_telling : {X : Type 0} (f : JournalEntry → Option X) → ((e : JournalEntry) → tells e ≡ false → f e ≡ None) → (h : List JournalEntry) → all_that f (telling h) ≡ all_that f h
all_telling f n [] = refl
all_telling f n (e ∷ es) = by (tells e) refl (all_telling f n es)
  where
    by : (b : Bool) → tells e ≡ b → all_that f (telling es) ≡ all_that f es → all_that f (cond b (e ∷ telling es) (telling es)) ≡ in_front (f e) (all_that f es)
    by true g k = ap (λ (l : List _). in_front (f e) l) k
    by false g k = k ∙ ap (λ (o : Option _). in_front o (all_that f es)) (sym (n e g))

first_telling : {X : Type 0} (f : JournalEntry → Option X) → ((e : JournalEntry) → tells e ≡ false → f e ≡ None) → (h : List JournalEntry) → first_that f (telling h) ≡ first_that f h
first_telling f n [] = refl
first_telling f n (e ∷ es) = by (tells e) refl (first_telling f n es)
  where
    by : (b : Bool) → tells e ≡ b → first_that f (telling es) ≡ first_that f es → first_that f (cond b (e ∷ telling es) (telling es)) ≡ or_rest (f e) (first_that f es)
    by true g k = ap (λ (o : Option _). or_rest (f e) o) k
    by false g k = k ∙ ap (λ (o : Option _). or_rest o (first_that f es)) (sym (n e g))

any_telling : (f : JournalEntry → Bool) → ((e : JournalEntry) → tells e ≡ false → f e ≡ false) → (h : List JournalEntry) → list_any f (telling h) ≡ list_any f h
any_telling f n [] = refl
any_telling f n (e ∷ es) = by (tells e) refl (any_telling f n es)
  where
    by : (b : Bool) → tells e ≡ b → list_any f (telling es) ≡ list_any f es → list_any f (cond b (e ∷ telling es) (telling es)) ≡ (f e || list_any f es)
    by true g k = ap (λ (o : Bool). f e || o) k
    by false g k = k ∙ ap (λ (o : Bool). o || list_any f es) (sym (n e g))

same_first : {X : Type 0} (f : JournalEntry → Option X) → ((e : JournalEntry) → tells e ≡ false → f e ≡ None) → (h k : List JournalEntry) → telling h ≡ telling k → first_that f h ≡ first_that f k
same_first f n h k e = sym (first_telling f n h) ∙ ap (first_that f) e ∙ first_telling f n k

same_all : {X : Type 0} (f : JournalEntry → Option X) → ((e : JournalEntry) → tells e ≡ false → f e ≡ None) → (h k : List JournalEntry) → telling h ≡ telling k → all_that f h ≡ all_that f k
same_all f n h k e = sym (all_telling f n h) ∙ ap (all_that f) e ∙ all_telling f n k

-- ---- Two histories that tell the same

module _ (h k : List JournalEntry) (e : telling h ≡ telling k) where
  pub same_made : (r : Ref) → made h r ≡ made k r
  same_made r = same_all (made_stamp r) (λ x g. (silence x g).made r) h k e

  pub same_source : (r : Ref) → source h r ≡ source k r
  same_source r = same_first (source_one r) (λ x g. (silence x g).source r) h k e

  pub same_fate : (v : Vat) (p : ℕ) → fate h v p ≡ fate k v p
  same_fate v p = same_first (fate_one v p) (λ x g. (silence x g).fate v p) h k e

  pub same_asking : (v : Vat) (c : ℕ) → asking h v c ≡ asking k v c
  same_asking v c = same_first (asking_one v c) (λ x g. (silence x g).asking v c) h k e

  pub same_made_with : (s : Stamp) → made_with h s ≡ made_with k s
  same_made_with s = same_first (made_one s) (λ x g. (silence x g).made_one s) h k e

  same_reply : (o : Option DeliveredAt) → reply_to h o ≡ reply_to k o
  same_reply None = refl
  same_reply (Some d) = same_first (reply_one d.vat d.delivery.task.0) (λ x g. (silence x g).reply d.vat d.delivery.task.0) h k e

  pub same_answer : (s : Stamp) → answer_of h s ≡ answer_of k s
  same_answer s = ap (reply_to h) (same_first (delivery_one s) (λ x g. (silence x g).delivery s) h k e) ∙ same_reply (first_that (delivery_one s) k)

  pub same_delivered : (r : Ref) → delivered h r ≡ delivered k r
  same_delivered r = ap stamps (same_all (delivered_one r) (λ x g. (silence x g).delivered r) h k e)

  pub same_ended : (v : Vat) (c : ℕ) → list_any (is_end_of v c) h ≡ list_any (is_end_of v c) k
  same_ended v c = sym (any_telling (is_end_of v c) (λ x g. (silence x g).is_end v c) h) ∙ ap (list_any (is_end_of v c)) e ∙ any_telling (is_end_of v c) (λ x g. (silence x g).is_end v c) k

-- Of the same bootstrap objects.
abbrev pub SameRoots : History → History → Type 0
SameRoots h k = (h.root_a ≡ k.root_a) × (h.root_b ≡ k.root_b)

pub same_root : (h k : History) → SameRoots h k → (v : Vat) → root k v ≡ root h v
same_root h k r A = sym r.0
same_root h k r B = sym r.1

extends_alike : (h k : History) → telling h.journal ≡ telling k.journal → SameRoots h k → Extends h k
extends_alike h k e r = record {
  roots = same_root h k r;
  source = λ q s f. sym (same_source h.journal k.journal e q) ∙ f;
  fate = λ v p s f. sym (same_fate h.journal k.journal e v p) ∙ f;
  asking = λ v c s f. sym (same_asking h.journal k.journal e v c) ∙ f;
  made = λ s m f. sym (same_made_with h.journal k.journal e s) ∙ f;
  answer = λ s a f. sym (same_answer h.journal k.journal e s) ∙ f;
}

both_grow : (x y : Option Meaning) → Grows x y → Grows y x → x ≡ y
both_grow None None g i = refl
both_grow None (Some (ObjectAt v o)) g i = from_none v o i
  where
    from_none : (v : Vat) (o : ℕ) → ((◌≡◌ {A = Option Meaning} None (Some (ObjectAt v o))) ⊎ (◌≡◌ {A = Option Meaning} None (Some Broken))) → ◌≡◌ {A = Option Meaning} None (Some (ObjectAt v o))
    from_none v o (inl f) = f
    from_none v o (inr f) = cc
both_grow None (Some Broken) g i = i
both_grow (Some (ObjectAt v o)) y g i = by g i
  where
    by : ((y ≡ Some (ObjectAt v o)) ⊎ (y ≡ Some Broken)) → Grows y (Some (ObjectAt v o)) → Some (ObjectAt v o) ≡ y
    by (inl f) j = sym f
    by (inr f) j = let l : Some (ObjectAt v o) ≡ Some Broken = subst (λ (z : Option Meaning). Grows z (Some (ObjectAt v o))) f j in cc
both_grow (Some Broken) y g i = sym g

pub same_meaning : (h k : History) → telling h.journal ≡ telling k.journal → SameRoots h k → (r : Ref) (x : Meaning) → StandsFor k r x → StandsFor h r x
same_meaning h k e r q x s =
    let f = extends_alike h k e r in
    let g = extends_alike k h (sym e) (sym r.0, sym r.1) in
    (s.0, both_grow (within s.0 h q) (within s.0 k q) (grows h k f s.0 s.0 (omega arith) q) (grows k h g s.0 s.0 (omega arith) q) ∙ s.1)

-- ---- So a command writes the same

made_so : (h k : List JournalEntry) → telling h ≡ telling k → (v : Vat) (c : CallCommand) (g : Granted) → made_entries h v c g ≡ made_entries k v c g
made_so h k e v c (granted.Call id) =
    ap (λ (i : ℕ). entry.Made v (record { reference = c.reference; index = i; call = id; interface = c.interface; method = c.method; payload = c.payload; refs = c.refs }) ∷ [])
    (ap (λ (l : List Stamp). length l) (same_made h k e (record { vat = v; number = c.reference.0 })))
made_so h k e v c g = refl

pub written_so : (h k : List JournalEntry) → telling h ≡ telling k → (v : Vat) (c : Command) (g : Granted) → granted_entries h v c g ≡ granted_entries k v c g
written_so h k e v (command.Call c) g = made_so h k e v c g
written_so h k e v c g = refl
