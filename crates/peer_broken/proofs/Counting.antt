-- Counts of an export: in a message, as it is heard, and in what is owed.
use Rattle.std.proofs.Common.{◌≡◌, ℕ, ◌+◌, true, false, List, [], ◌∷◌, map, Some, None, refl, sym, ap, ◌∙◌, arith}
use Rattle.std.specs.Prelude.{Option, Bool, if◌then◌else◌, ◌==◌, cond, unwrap_or}
use Rattle.std.specs.List.{cons_option, count_by, filter_map}
use Rattle.std.proofs.lemmas.List.Sums.{sum_by-cons}
use Rattle.std.specs.FinMap as finite
use Rattle.finite_maps.specs.Tally.{Map, tally, worth}
use Rattle.finite_maps.proofs.Tallies.{tally-insert, tally-remove}
use Rattle.rpc_msg.specs.Messages.{given}
use Rattle.rpc_msg.specs.declared.ids.ExportId.{ExportId}
use Rattle.rpc_msg.specs.declared.ids.QuestionId.{QuestionId}
use Rattle.rpc_msg.specs.declared.parts.Descriptor.{Descriptor}
use Rattle.rpc_msg.specs.declared.parts.Descriptor.TheVariants as descriptor
use Rattle.rpc_codec.specs.Envelopes.{What}
use Rattle.rpc_codec.specs.Carried.{descriptors_in, gives}
use Rattle.peer_descriptors.proofs.Replaced.{what_changed}
use Rattle.peer_broken.specs.declared.due.Due.{Due}
use Rattle.peer_broken.specs.declared.due.Due.TheVariants.{AtOnce, ByReturn, ByFinish}
use Rattle.peer_broken.specs.Naming.{Naming, broken_name, flagged, heard, heard_by, heard_descriptor, names_of, owed_under, owing, released}
use Rattle.peer_broken.specs.Laws.{owed, times}

both_more : (k a b t : ℕ) → a ≡ b + t → k + a ≡ (k + b) + t
both_more k a b t same = omega (arith, same)

last_more : (k a b t : ℕ) → a ≡ b + t → k + a ≡ b + (k + t)
last_more k a b t same = omega (arith, same)

module _ (e : ExportId) where
  -- what descriptors give
  abbrev all_give : List Descriptor → ℕ
  all_give ds = count_by (λ n. n == e.0) (given ds)

  one_given : (n : ℕ) (ns : List ℕ) → count_by (λ n. n == e.0) (n ∷ ns) ≡ cond (n == e.0) 1 0 + count_by (λ n. n == e.0) ns
  one_given n ns = sum_by-cons (λ n. cond (n == e.0) 1 0) n ns

  one_time : (x : ExportId) (es : List ExportId) → times e (x ∷ es) ≡ cond (x.0 == e.0) 1 0 + times e es
  one_time x es = sum_by-cons (λ (y : ExportId). cond (y.0 == e.0) 1 0) x es

  module _ (broken : ExportId → Bool) where
    hosted_gives : (n : ℕ) (ns ms : List ℕ) (t : ℕ) → count_by (λ n. n == e.0) ns ≡ count_by (λ n. n == e.0) ms + t → count_by (λ n. n == e.0) (n ∷ ns) ≡ count_by (λ n. n == e.0) (n ∷ ms) + t
    hosted_gives n ns ms t same = one_given n ns ∙ both_more (cond (n == e.0) 1 0) _ _ t same ∙ ap (λ k. k + t) (sym (one_given n ms))

    promise_gives : (x : ExportId) (b : Bool) (ds hs : List Descriptor) (es : List ExportId) → all_give ds ≡ all_give hs + times e es
        → all_give (descriptor.SenderPromise x ∷ ds) ≡ all_give (heard_by (if b then Some x else None) (descriptor.SenderPromise x) ∷ hs) + times e (cons_option (if b then Some x else None) es)
    promise_gives x true ds hs es same = one_given x.0 (given ds) ∙ last_more (cond (x.0 == e.0) 1 0) _ _ _ same ∙ ap (λ k. all_give hs + k) (sym (one_time x es))
    promise_gives x false ds hs es same = hosted_gives x.0 (given ds) (given hs) (times e es) same

    -- What descriptors give is what is heard of them, and the names.
    each_gives : (ds : List Descriptor) → all_give ds ≡ all_give (map (heard_descriptor broken) ds) + times e (filter_map (broken_name broken) ds)
    each_gives [] = refl
    each_gives (descriptor.None ∷ ds) = each_gives ds
    each_gives (descriptor.SenderHosted x ∷ ds) = hosted_gives x.0 (given ds) (given (map (heard_descriptor broken) ds)) (times e (filter_map (broken_name broken) ds)) (each_gives ds)
    each_gives (descriptor.SenderPromise x ∷ ds) = promise_gives x (broken x) ds (map (heard_descriptor broken) ds) (filter_map (broken_name broken) ds) (each_gives ds)
    each_gives (descriptor.ReceiverHosted x ∷ ds) = each_gives ds
    each_gives (descriptor.ReceiverAnswer q path ∷ ds) = each_gives ds

    pub message_gives : (w : What) → gives e w ≡ gives e (heard broken w) + times e (names_of broken w)
    message_gives w = each_gives (descriptors_in w) ∙ ap (λ (hs : List Descriptor). all_give hs + times e (names_of broken w)) (sym (what_changed (heard_descriptor broken) w))

  worth_under : (o : Option (List ExportId)) → worth (times e) o ≡ times e (unwrap_or o [])
  worth_under None = refl
  worth_under (Some es) = refl

  -- What is owed is what is owed under an id and under the others.
  pub under : (m : Map (List ExportId)) (q : QuestionId) → tally (times e) m ≡ times e (owed_under m q) + tally (times e) (finite.remove m q.0)
  under m q = tally-remove (times e) m q.0 ∙ ap (λ n. n + tally (times e) (finite.remove m q.0)) (worth_under (finite.get m q.0))

  put_under : (m : Map (List ExportId)) (q : QuestionId) (es : List ExportId) → times e es + tally (times e) m ≡ tally (times e) (finite.insert m q.0 es) + times e (owed_under m q)
  put_under m q es =
      let new = tally-insert (times e) m q.0 es in
      let old = under m q in
      omega (arith, new, old)

  pub owed_once : (s : Naming) (due : Due) (es : List ExportId) → times e es + owed e s ≡ owed e (owing s due es).0 + times e (owing s due es).1
  owed_once s due [] = omega arith
  owed_once s AtOnce (x ∷ es) = omega arith
  owed_once s (ByReturn a) (x ∷ es) = let one = put_under s.by_answer a (x ∷ es) in omega (arith, one)
  owed_once s (ByFinish q) (x ∷ es) = let one = put_under s.by_question q (x ∷ es) in omega (arith, one)

  pub once : (flag : Bool) (es : List ExportId) → times e es ≡ times e (flagged flag es) + times e (released flag es)
  once true es = omega arith
  once false es = omega arith
