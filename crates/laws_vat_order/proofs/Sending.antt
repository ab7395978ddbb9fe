-- What goes out in a step: the calls that are sent on, by their questions.
use Rattle.std.proofs.Common.{◌≡◌, ℕ, List, [], ◌∷◌, ◌++◌, append-nil, Option, None, Some, refl, sym, ap, subst, ◌∙◌}
use Rattle.std.specs.Ordering.{nat_cmp}
use Rattle.std.specs.FinMap as map
use Rattle.finite_maps.specs.Tally.{Map}
use Rattle.finite_maps.proofs.Tested.{at_put, at_cut}
use Rattle.rpc_msg.specs.declared.message.PlainMessage.{PlainMessage}
use Rattle.rpc_msg.specs.declared.message.PlainMessage.TheVariants as plain
use Rattle.rpc_msg.specs.declared.message.Message.{Message}
use Rattle.rpc_msg.specs.declared.message.Message.TheVariants as message
use Rattle.rpc_machine.specs.declared.entries.Question.{Question}
use Rattle.rpc_machine.specs.declared.entries.Returned.{Returned}
use Rattle.rpc_machine.specs.declared.entries.Finishing.TheVariants as finishing
use Rattle.rpc_machine.specs.Sweeping.{closed_map}
use Rattle.laws_acts.specs.SmallActs.{release_messages}
use Rattle.laws_vat_order.specs.Lines.{of_question, sent_on, Lacks}

-- The question is there, and has not returned.
abbrev pub IsUnanswered : Option Question → Type 0
IsUnanswered None = ⊥
IsUnanswered (Some x) = x.returned ≡ None

abbrev pub AskedOne : Map Question → PlainMessage → Type 0
AskedOne qs (plain.Call c) = IsUnanswered (map.get qs c.question.0)
AskedOne qs m = Unit {0}

-- So is that of each Call among these messages.
abbrev pub Asked : Map Question → List Message → Type 0
Asked qs [] = Unit {0}
Asked qs (message.Plain m ∷ ms) = AskedOne qs m × Asked qs ms
Asked qs (message.Unimplemented m ∷ ms) = Asked qs ms

pub asked_more : (qs : Map Question) (ms ns : List Message) → Asked qs ms → Asked qs ns → Asked qs (ms ++ ns)
asked_more qs [] ns h i = i
asked_more qs (message.Plain m ∷ ms) ns h i = (h.0, asked_more qs ms ns h.1 i)
asked_more qs (message.Unimplemented m ∷ ms) ns h i = asked_more qs ms ns h i

pub sent_more : (qs : Map Question) (ms ns : List Message) → sent_on qs (ms ++ ns) ≡ sent_on qs ms ++ sent_on qs ns
sent_more qs [] ns = refl
sent_more qs (message.Unimplemented m ∷ ms) ns = sent_more qs ms ns
sent_more qs (message.Plain (plain.Abort x) ∷ ms) ns = sent_more qs ms ns
sent_more qs (message.Plain (plain.Bootstrap q) ∷ ms) ns = sent_more qs ms ns
sent_more qs (message.Plain (plain.Call c) ∷ ms) ns = ap (λ (zs : List (Option ℕ)). of_question (map.get qs c.question.0) ∷ zs) (sent_more qs ms ns)
sent_more qs (message.Plain (plain.Return r) ∷ ms) ns = sent_more qs ms ns
sent_more qs (message.Plain (plain.Finish f) ∷ ms) ns = sent_more qs ms ns
sent_more qs (message.Plain (plain.Resolve r) ∷ ms) ns = sent_more qs ms ns
sent_more qs (message.Plain (plain.Release r) ∷ ms) ns = sent_more qs ms ns
sent_more qs (message.Plain (plain.Disembargo d) ∷ ms) ns = sent_more qs ms ns
sent_more qs (message.Plain (plain.Other n) ∷ ms) ns = sent_more qs ms ns

-- Messages that are no Calls.
pub sent_none : (qs : Map Question) (ms ns : List Message) → sent_on qs ns ≡ [] → sent_on qs (ms ++ ns) ≡ sent_on qs ms
sent_none qs ms ns e = sent_more qs ms ns ∙ ap (λ (zs : List (Option ℕ)). sent_on qs ms ++ zs) e ∙ append-nil (sent_on qs ms)

pub releases_sent : (qs : Map Question) (xs : List (ℕ × ℕ)) → sent_on qs (release_messages xs) ≡ []
releases_sent qs [] = refl
releases_sent qs (x ∷ xs) = releases_sent qs xs

pub releases_asked : (qs : Map Question) (xs : List (ℕ × ℕ)) → Asked qs (release_messages xs)
releases_asked qs [] = tt
releases_asked qs (x ∷ xs) = (tt, releases_asked qs xs)

-- ---- Questions change, and each that has not returned says the same

abbrev Says : Map Question → Map Question → Type 0
Says qs ps = (q : ℕ) → IsUnanswered (map.get qs q) → IsUnanswered (map.get ps q) × (of_question (map.get ps q) ≡ of_question (map.get qs q))

pub says_asked : (qs ps : Map Question) (ms : List Message) → Says qs ps → Asked qs ms → Asked ps ms × (sent_on ps ms ≡ sent_on qs ms)
says_asked qs ps [] f h = (tt, refl)
says_asked qs ps (message.Unimplemented m ∷ ms) f h = says_asked qs ps ms f h
says_asked qs ps (message.Plain (plain.Call c) ∷ ms) f h =
    let k = f c.question.0 h.0 in
    let i = says_asked qs ps ms f h.1 in
    ((k.0, i.0), ap (λ (z : Option ℕ). z ∷ sent_on ps ms) k.1 ∙ ap (λ (zs : List (Option ℕ)). of_question (map.get qs c.question.0) ∷ zs) i.1)
says_asked qs ps (message.Plain (plain.Abort x) ∷ ms) f h = let i = says_asked qs ps ms f h.1 in ((tt, i.0), i.1)
says_asked qs ps (message.Plain (plain.Bootstrap q) ∷ ms) f h = let i = says_asked qs ps ms f h.1 in ((tt, i.0), i.1)
says_asked qs ps (message.Plain (plain.Return r) ∷ ms) f h = let i = says_asked qs ps ms f h.1 in ((tt, i.0), i.1)
says_asked qs ps (message.Plain (plain.Finish x) ∷ ms) f h = let i = says_asked qs ps ms f h.1 in ((tt, i.0), i.1)
says_asked qs ps (message.Plain (plain.Resolve r) ∷ ms) f h = let i = says_asked qs ps ms f h.1 in ((tt, i.0), i.1)
says_asked qs ps (message.Plain (plain.Release r) ∷ ms) f h = let i = says_asked qs ps ms f h.1 in ((tt, i.0), i.1)
says_asked qs ps (message.Plain (plain.Disembargo d) ∷ ms) f h = let i = says_asked qs ps ms f h.1 in ((tt, i.0), i.1)
says_asked qs ps (message.Plain (plain.Other n) ∷ ms) f h = let i = says_asked qs ps ms f h.1 in ((tt, i.0), i.1)

-- A question with a free id.
pub says_new : (qs : Map Question) (q : ℕ) (x : Question) → map.get qs q ≡ None → Says qs (map.insert qs q x)
says_new qs q x e = at_put (λ j o. IsUnanswered (map.get qs j) → IsUnanswered o × (of_question o ≡ of_question (map.get qs j))) qs q x (λ h. absurd (subst IsUnanswered e h)) (λ j g h. (h, refl))

pub says_closed : (qs : Map Question) (q : ℕ) (x : Question) → map.get qs q ≡ Some x → Says qs (closed_map qs q x x.returned)
says_closed qs q x e = by x.returned refl
  where
    by : (o : Option Returned) → x.returned ≡ o → Says qs (closed_map qs q x o)
    by None f = at_put (λ j o. IsUnanswered (map.get qs j) → IsUnanswered o × (of_question o ≡ of_question (map.get qs j))) qs q (record x { finish = finishing.Sent }) (λ h. (f, sym (ap of_question e))) (λ j g h. (h, refl))
    by (Some said) f = at_cut (λ j o. IsUnanswered (map.get qs j) → IsUnanswered o × (of_question o ≡ of_question (map.get qs j))) qs q (λ h. (let w : x.returned ≡ None = subst IsUnanswered e h in let z : Some said ≡ None = sym f ∙ w in cc)) (λ j g h. (h, refl))

-- Where there are no questions.
pub none_asked : (b : ℕ) (ms : List Message) → Lacks b (sent_on map.empty ms)
none_asked b [] = tt
none_asked b (message.Unimplemented m ∷ ms) = none_asked b ms
none_asked b (message.Plain (plain.Call c) ∷ ms) = (λ h. absurd (let z : None ≡ Some b = sym (ap of_question (map.get-empty nat_cmp c.question.0)) ∙ h in cc), none_asked b ms)
none_asked b (message.Plain (plain.Abort x) ∷ ms) = none_asked b ms
none_asked b (message.Plain (plain.Bootstrap q) ∷ ms) = none_asked b ms
none_asked b (message.Plain (plain.Return r) ∷ ms) = none_asked b ms
none_asked b (message.Plain (plain.Finish f) ∷ ms) = none_asked b ms
none_asked b (message.Plain (plain.Resolve r) ∷ ms) = none_asked b ms
none_asked b (message.Plain (plain.Release r) ∷ ms) = none_asked b ms
none_asked b (message.Plain (plain.Disembargo d) ∷ ms) = none_asked b ms
none_asked b (message.Plain (plain.Other n) ∷ ms) = none_asked b ms
