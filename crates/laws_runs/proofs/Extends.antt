-- A history that says what another says, and more.
use Rattle.std.proofs.Common.{◌≡◌, ℕ, Option, None, Some, List, ◌++◌, refl, ap, ◌∙◌}
use Rattle.rpc_msg.specs.declared.ids.Vat.{Vat}
use Rattle.rpc_msg.specs.declared.ids.Vat.TheVariants.{A, B}
use Rattle.rpc_msg.specs.declared.ids.Stamp.{Stamp}
use Rattle.rpc_journal.specs.declared.entry.MadeCall.{MadeCall}
use Rattle.rpc_journal.specs.declared.entry.JournalEntry.{JournalEntry}
use Rattle.rpc_journal.specs.History.{Ref, DeliveredAt, Reply, first_that, made_one, made_with, delivery_one, reply_one, reply_to, answer_of}
use Rattle.rpc_journal.specs.Sources.{Asking, asking_one, asking, Source, source_one, source, Fate, fate_one, fate}
use Rattle.rpc_journal.specs.Meaning.{History, root}
use Rattle.laws_runs.specs.Meanings.{with_more}
use Rattle.laws_runs.proofs.Reading.{still_first}

pub record Extends (h k : History) : Type 0 where
  pub roots : (v : Vat) → root k v ≡ root h v
  pub source : (r : Ref) (s : Source) → source h.journal r ≡ Some s → source k.journal r ≡ Some s
  pub fate : (v : Vat) (p : ℕ) (f : Fate) → fate h.journal v p ≡ Some f → fate k.journal v p ≡ Some f
  pub asking : (v : Vat) (c : ℕ) (a : Asking) → asking h.journal v c ≡ Some a → asking k.journal v c ≡ Some a
  pub made : (s : Stamp) (m : MadeCall) → made_with h.journal s ≡ Some m → made_with k.journal s ≡ Some m
  pub answer : (s : Stamp) (a : Reply) → answer_of h.journal s ≡ Some a → answer_of k.journal s ≡ Some a

still_answered : (h more : List JournalEntry) (s : Stamp) (a : Reply) → answer_of h s ≡ Some a → answer_of (h ++ more) s ≡ Some a
still_answered h more s a e = by (first_that (delivery_one s) h) refl e
  where
    by : (o : Option DeliveredAt) → first_that (delivery_one s) h ≡ o → reply_to h o ≡ Some a → answer_of (h ++ more) s ≡ Some a
    by None f k = cc
    by (Some d) f k = ap (reply_to (h ++ more)) (still_first (delivery_one s) h more d f) ∙ still_first (reply_one d.vat d.delivery.task.0) h more a k

pub extends : (h : History) (more : List JournalEntry) → Extends h (with_more h more)
extends h more = record {
  roots = λ v. same v;
  source = λ r s e. still_first (source_one r) h.journal more s e;
  fate = λ v p f e. still_first (fate_one v p) h.journal more f e;
  asking = λ v c a e. still_first (asking_one v c) h.journal more a e;
  made = λ s m e. still_first (made_one s) h.journal more m e;
  answer = λ s a e. still_answered h.journal more s a e;
}
  where
    same : (v : Vat) → root (with_more h more) v ≡ root h v
    same A = refl
    same B = refl

pub extends_itself : (h : History) → Extends h h
extends_itself h = record { roots = λ v. refl; source = λ r s e. e; fate = λ v p f e. e; asking = λ v c a e. e; made = λ s m e. e; answer = λ s a e. e }
