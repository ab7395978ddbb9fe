-- What the last message of each id hands on, and the messages of a vat with those before them, after one more.
use Rattle.std.specs.Prelude.{◌≡◌, ℕ, Bool, true, false, cond, nat_eq, Option, None, Some, List, [], ◌∷◌, ◌++◌}
use Rattle.std.proofs.Common.{refl, sym, ◌∙◌, ap}
use Rattle.std.proofs.lemmas.List.{append-nil, append_assoc}
use Rattle.rpc_msg.specs.declared.ids.Vat.{Vat}
use Rattle.rpc_msg.specs.declared.ids.QuestionId.{QuestionId}
use Rattle.rpc_msg.specs.declared.message.Call.{Call}
use Rattle.rpc_msg.specs.declared.message.Return.{Return}
use Rattle.rpc_msg.specs.declared.message.PlainMessage.{PlainMessage}
use Rattle.rpc_msg.specs.declared.message.PlainMessage.TheVariants as plain
use Rattle.rpc_msg.specs.declared.message.Message.{Message}
use Rattle.rpc_msg.specs.declared.message.Message.TheVariants as message
use Rattle.rpc_msg.specs.Vats.{other_vat}
use Rattle.rpc_journal.specs.declared.entry.JournalEntry.{JournalEntry}
use Rattle.rpc_journal.specs.History.{if_so, or_rest, in_front}
use Rattle.rpc_check.specs.declared.said.Lasts.{Lasts}
use Rattle.rpc_check.specs.declared.said.Said.{Said}
use Rattle.rpc_check.specs.Breaches.{sent_one, sent, sending, sending_one, sendings_after, sendings}
use Rattle.rpc_check.specs.Counts.{CountsById, handed_on, is_question, is_answer, last_that, handed_on_by}
use Rattle.rpc_check.specs.Kept.{Grows, last_of, list_at, listed, IsSaid}
use Rattle.rpc_check.proofs.Growing.{in_front-append}
use Rattle.rpc_check.proofs.Releasing.{at_grows, at_choice}

-- ---- The last

or_assoc : (o p q : Option Message) → or_rest (or_rest o p) q ≡ or_rest o (or_rest p q)
or_assoc None p q = refl
or_assoc (Some m) p q = refl

none_last : (o : Option Message) → or_rest None o ≡ or_rest o None
none_last None = refl
none_last (Some m) = refl

last_more : (p : Message → Bool) (ms : List Message) (m : Message) → last_that p (ms ++ m ∷ []) ≡ or_rest (if_so (p m) m) (last_that p ms)
last_more p [] m = none_last (if_so (p m) m)
last_more p (x ∷ ms) m = ap (λ o. or_rest o (if_so (p x) x)) (last_more p ms m) ∙ or_assoc (if_so (p m) m) (last_that p ms) (if_so (p x) x)

handed_choice : (b : Bool) (m : Message) (o : Option Message) → handed_on_by (or_rest (if_so b m) o) ≡ cond b (handed_on m) (handed_on_by o)
handed_choice true m o = refl
handed_choice false m o = refl

pub handed_more : (p : Message → Bool) (b : Bool) (ms : List Message) (m : Message) → p m ≡ b → handed_on_by (last_that p (ms ++ m ∷ [])) ≡ cond b (handed_on m) (handed_on_by (last_that p ms))
handed_more p b ms m is =
    ap handed_on_by (last_more p ms m)
    ∙ ap (λ c. handed_on_by (or_rest (if_so c m) (last_that p ms))) is
    ∙ handed_choice b m (last_that p ms)

-- ---- What is said

pub no_question : (p : PlainMessage) → ((id : QuestionId) → p ≡ plain.Bootstrap id → ⊥) → ((call : Call) → p ≡ plain.Call call → ⊥) → (q : ℕ) → is_question q (message.Plain p) ≡ false
no_question (plain.Abort x) f g q = refl
no_question (plain.Bootstrap id) f g q = absurd (f id refl)
no_question (plain.Call call) f g q = absurd (g call refl)
no_question (plain.Return said) f g q = refl
no_question (plain.Finish x) f g q = refl
no_question (plain.Resolve x) f g q = refl
no_question (plain.Release x) f g q = refl
no_question (plain.Disembargo x) f g q = refl
no_question (plain.Other x) f g q = refl

pub no_answer : (p : PlainMessage) → ((said : Return) → p ≡ plain.Return said → ⊥) → (q : ℕ) → is_answer q (message.Plain p) ≡ false
no_answer (plain.Abort x) f q = refl
no_answer (plain.Bootstrap id) f q = refl
no_answer (plain.Call call) f q = refl
no_answer (plain.Return said) f q = absurd (f said refl)
no_answer (plain.Finish x) f q = refl
no_answer (plain.Resolve x) f q = refl
no_answer (plain.Release x) f q = refl
no_answer (plain.Disembargo x) f q = refl
no_answer (plain.Other x) f q = refl

-- ---- All that was said

module _ (s n : Said) (ms : List Message) (m : Message) (was : IsSaid s ms) where
  pub says_nothing : ((q : ℕ) → is_question q m ≡ false) → ((q : ℕ) → is_answer q m ≡ false) → n ≡ s → IsSaid n (ms ++ m ∷ [])
  says_nothing no_question no_answer same = record {
    questions = λ q. ap (λ (x : Said). listed x.lists.items x.questions q) same ∙ was.questions q ∙ ap (λ (x : CountsById). Some x) (sym (handed_more (is_question q) false ms m (no_question q)));
    answers = λ q. ap (λ (x : Said). listed x.lists.items x.answers q) same ∙ was.answers q ∙ ap (λ (x : CountsById). Some x) (sym (handed_more (is_answer q) false ms m (no_answer q)));
  }

  pub says_question : (id : ℕ) (list : Option ℕ) → ((q : ℕ) → is_question q m ≡ nat_eq q id) → ((q : ℕ) → is_answer q m ≡ false) → Grows s.lists.items n.lists.items
      → list_at n.lists.items list ≡ Some (handed_on m)
      → ((q : ℕ) → last_of n.questions q ≡ cond (nat_eq q id) list (last_of s.questions q)) → n.answers ≡ s.answers → IsSaid n (ms ++ m ∷ [])
  says_question id list question no_answer grows kept set same = record {
    questions = λ q. ap (list_at n.lists.items) (set q)
        ∙ at_choice n.lists.items (nat_eq q id) list (last_of s.questions q) (handed_on m) (handed_on_by (last_that (is_question q) ms)) kept (at_grows s.lists.items n.lists.items (last_of s.questions q) (handed_on_by (last_that (is_question q) ms)) grows (was.questions q))
        ∙ ap (λ (x : CountsById). Some x) (sym (handed_more (is_question q) (nat_eq q id) ms m (question q)));
    answers = λ q. ap (λ (l : Lasts). list_at n.lists.items (last_of l q)) same
        ∙ at_grows s.lists.items n.lists.items (last_of s.answers q) (handed_on_by (last_that (is_answer q) ms)) grows (was.answers q)
        ∙ ap (λ (x : CountsById). Some x) (sym (handed_more (is_answer q) false ms m (no_answer q)));
  }

  pub says_answer : (id : ℕ) (list : Option ℕ) → ((q : ℕ) → is_question q m ≡ false) → ((q : ℕ) → is_answer q m ≡ nat_eq q id) → Grows s.lists.items n.lists.items
      → list_at n.lists.items list ≡ Some (handed_on m)
      → ((q : ℕ) → last_of n.answers q ≡ cond (nat_eq q id) list (last_of s.answers q)) → n.questions ≡ s.questions → IsSaid n (ms ++ m ∷ [])
  says_answer id list no_question answer grows kept set same = record {
    questions = λ q. ap (λ (l : Lasts). list_at n.lists.items (last_of l q)) same
        ∙ at_grows s.lists.items n.lists.items (last_of s.questions q) (handed_on_by (last_that (is_question q) ms)) grows (was.questions q)
        ∙ ap (λ (x : CountsById). Some x) (sym (handed_more (is_question q) false ms m (no_question q)));
    answers = λ q. ap (list_at n.lists.items) (set q)
        ∙ at_choice n.lists.items (nat_eq q id) list (last_of s.answers q) (handed_on m) (handed_on_by (last_that (is_answer q) ms)) kept (at_grows s.lists.items n.lists.items (last_of s.answers q) (handed_on_by (last_that (is_answer q) ms)) grows (was.answers q))
        ∙ ap (λ (x : CountsById). Some x) (sym (handed_more (is_answer q) (nat_eq q id) ms m (answer q)));
  }

-- ---- The messages of a vat, with those before them

after_more : (b h : List JournalEntry) (e : JournalEntry) (v : Vat) → sendings_after b (h ++ e ∷ []) v ≡ sendings_after b h v ++ in_front (sending_one v (b ++ h) e) []
after_more b [] e v = ap (λ (x : List JournalEntry). in_front (sending_one v x e) []) (sym (append-nil b))
after_more b (x ∷ h) e v =
    ap (in_front (sending_one v b x)) (after_more (b ++ x ∷ []) h e v)
    ∙ in_front-append (sending_one v b x) (sendings_after (b ++ x ∷ []) h v) (in_front (sending_one v ((b ++ x ∷ []) ++ h) e) [])
    ∙ ap (λ (y : List JournalEntry). sendings_after b (x ∷ h) v ++ in_front (sending_one v y e) []) (append_assoc b (x ∷ []) h)

pub sendings_more : (h : List JournalEntry) (e : JournalEntry) (v : Vat) (m : Message) → sent_one v e ≡ Some m → sendings (h ++ e ∷ []) v ≡ sendings h v ++ record { message = m; before = sent h (other_vat v) } ∷ []
sendings_more h e v m one = after_more [] h e v ∙ ap (λ o. sendings h v ++ in_front (sending (sent h (other_vat v)) o) []) one

pub sendings_same : (h : List JournalEntry) (e : JournalEntry) (v : Vat) → sent_one v e ≡ None → sendings (h ++ e ∷ []) v ≡ sendings h v
sendings_same h e v none = after_more [] h e v ∙ ap (λ o. sendings h v ++ in_front (sending (sent h (other_vat v)) o) []) none ∙ append-nil (sendings h v)
