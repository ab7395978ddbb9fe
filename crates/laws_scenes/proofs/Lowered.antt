-- What the oldest message lets go of exports.
use Rattle.std.specs.FinMap as map
use Rattle.std.proofs.Common.{◌≡◌, ◌⊎◌, inl, inr, ℕ, suc, ◌+◌, ◌-◌, ◌≤◌, Bool, nat_eq, nat_le, true, false, cond, is_some, List, [], ◌∷◌, Option, None, Some, IsSome, refl, sym, subst, ◌∙◌, arith}
use Rattle.std.proofs.lemmas.Bool.Decides.{nat_tests}
use Rattle.finite_maps.specs.Tally.{Map}
use Rattle.finite_maps.proofs.Tested.{at_cut, at_put, itself}
use Rattle.rpc_msg.specs.declared.ids.Vat.TheVariants.{A, B}
use Rattle.rpc_msg.specs.declared.message.Message.{Message}
use Rattle.rpc_msg.specs.declared.message.Message.TheVariants as message
use Rattle.rpc_msg.specs.declared.message.PlainMessage.{PlainMessage}
use Rattle.rpc_msg.specs.declared.message.PlainMessage.TheVariants as plain
use Rattle.rpc_msg.specs.Messages.{descriptors_of, descriptors_of_body}
use Rattle.rpc_machine.specs.declared.entries.AnswerEntry.{AnswerEntry}
use Rattle.rpc_machine.specs.declared.entries.Export.{Export}
use Rattle.rpc_machine.specs.declared.entries.Question.{Question}
use Rattle.rpc_machine.specs.State.{State}
use Rattle.rpc_machine.specs.World.{World}
use Rattle.rpc_machine.specs.Descriptors.{giving, take_all}
use Rattle.rpc_machine.specs.Faults.{gave}
use Rattle.rpc_machine.specs.Flags.{lower_by, lower_each, lowered, obey}
use Rattle.rpc_machine.specs.Laws.{given_out}
use Rattle.rpc_machine.specs.Limits.{export_count}
use Rattle.rpc_machine.specs.Lists.{how_many}
use Rattle.rpc_machine.specs.Progress.{numbers}
use Rattle.rpc_machine.specs.UnderWay.{call_gave, if_true, plain_takes, return_gave}
use Rattle.laws_acts.specs.Sent.{Noted, messages}
use Rattle.laws_runs.specs.Between.{HoldsIn}
use Rattle.laws_runs.specs.Exports.{Leaves}
use Rattle.laws_runs.specs.Imports.{count, lets_of, letting}
use Rattle.laws_runs.proofs.Flags.{reads, takes_first}
use Rattle.laws_messages.specs.Views.{backs_for}
use Rattle.laws_messages.proofs.Finding.{Found, rest_stands, turned_about}
use Rattle.laws_messages.proofs.Grown as grown
use Rattle.laws_routes.specs.Named.{AllMet, AllNamed}
use Rattle.laws_routes.specs.Premises.{EachTargetCap}
use Rattle.laws_routes.specs.QuietLaws.{MayLower, lowering}
use Rattle.laws_routes.specs.Sayings.{Has, has_behind}
use Rattle.laws_routes.proofs.MidwaySwept.{first}
use Rattle.laws_scenes.specs.Meeting.{IfThere, LetsGoWell, OfOldest}
use Rattle.laws_scenes.proofs.Exports.{AllOther, all_named, all_other, none_counted, none_mentioned, second, targets_there}

-- ---- Counts that fall

-- By how much one falls at most.
lowered_one : (m : Map Export) (e n : ℕ) (o : Option Export) → map.get m e ≡ o → (k : ℕ) → export_count (map.get m k) ≤ cond (nat_eq k e) n 0 + export_count (map.get (lowered m e n o) k)
lowered_one m e n None f = λ k. omega arith
lowered_one m e n (Some x) f = by (nat_le x.count n) refl
  where
    at : (c : ℕ) → x.count ≤ n + c → export_count (map.get m e) ≤ cond (nat_eq e e) n 0 + c
    at c l = subst (λ (b : Bool). export_count (map.get m e) ≤ cond b n 0 + c) (sym (itself e)) (subst (λ (o : Option Export). export_count o ≤ n + c) (sym f) l)

    by : (b : Bool) → nat_le x.count n ≡ b → (k : ℕ) → export_count (map.get m k) ≤ cond (nat_eq k e) n 0 + export_count (map.get (cond b (map.remove m e) (map.insert m e (record x { count = x.count - n }))) k)
    by true g = at_cut (λ k o. export_count (map.get m k) ≤ cond (nat_eq k e) n 0 + export_count o) m e (at 0 (grind (arith, nat_tests, g))) (λ k d. omega arith)
    by false g = at_put (λ k o. export_count (map.get m k) ≤ cond (nat_eq k e) n 0 + export_count o) m e (record x { count = x.count - n }) (at (x.count - n) (omega arith)) (λ k d. omega arith)

lowered_each : (ids : List ℕ) (m : Map Export) (k : ℕ) → export_count (map.get m k) ≤ how_many (nat_eq k) ids + export_count (map.get (lower_each m ids) k)
lowered_each [] m k = omega arith
lowered_each (e ∷ es) m k = by (nat_eq k e) (lowered_one m e 1 (map.get m e) refl k) (lowered_each es (lower_by m e 1) k)
  where
    by : (b : Bool) → export_count (map.get m k) ≤ cond b 1 0 + export_count (map.get (lower_by m e 1) k) → export_count (map.get (lower_by m e 1) k) ≤ how_many (nat_eq k) es + export_count (map.get (lower_each (lower_by m e 1) es) k)
        → export_count (map.get m k) ≤ cond b (suc (how_many (nat_eq k) es)) (how_many (nat_eq k) es) + export_count (map.get (lower_each (lower_by m e 1) es) k)
    by true a c = omega (arith, a, c)
    by false a c = omega (arith, a, c)

obeyed : (s : State) (flag : Bool) (ids : List ℕ) (k : ℕ) → given_out k s ≤ how_many (nat_eq k) (if_true flag ids) + export_count (map.get (obey s flag ids).exports k)
obeyed s true ids k = lowered_each ids s.exports k
obeyed s false ids k = omega arith

-- ---- Names without Resolves

named_alone : (E F : Map Export) (has : Has) (ms : List Message) → AllMet E F has ms → AllNamed E F ms
named_alone E F has [] h = tt
named_alone E F has (message.Plain m ∷ ms) h = (h.0, named_alone E F (has_behind has (descriptors_of (message.Plain m))) ms h.2)
named_alone E F has (message.Unimplemented m ∷ ms) h = named_alone E F has ms h

-- ---- Two vats

module _ (s t : State) (n : Noted) (to_s to_t : List Noted) (k : Found s (n ∷ to_s) t to_t) where
  takes : (e : ℕ) → plain_takes s e n.message ≡ lets_of e n.message n.lets
  takes e = let a = k.agree in let b = a.stand in takes_first s e n.message n.lets to_s (reads s t (n ∷ to_s) to_t b.of_s b.of_t)

  module _ (u : State) (falls : (e : ℕ) → given_out e s ≤ plain_takes s e n.message + export_count (map.get u.exports e)) where
    given_still : (e : ℕ) → IsSome (map.get u.exports e) ⊎ ((giving e (messages to_t) ≡ 0) × (is_some (map.get t.imports e) ≡ false))
    given_still e = by (map.get u.exports e) (falls e) (takes e) (let a = k.agree in a.of_s e)
      where
        by : (o : Option Export) → given_out e s ≤ plain_takes s e n.message + export_count o → plain_takes s e n.message ≡ lets_of e n.message n.lets → given_out e s ≡ count e t + (giving e (messages to_t) + (lets_of e n.message n.lets + letting e to_s))
            → IsSome o ⊎ ((giving e (messages to_t) ≡ 0) × (is_some (map.get t.imports e) ≡ false))
        by (Some x) f g h = inl refl
        by None f g h = inr (omega (arith, f, g, h), none_counted (map.get t.imports e) (let a = k.agree in let c = a.counted_t in c.imports e) (omega (arith, f, g, h)))

    named_still : (e : ℕ) → IsSome (map.get u.exports e) ⊎ (EachTargetCap (λ j. nat_eq j e ≡ false) (messages to_s) × AllOther e (messages to_s))
    named_still e = by (map.get u.exports e) (falls e) (takes e) (rest_stands e n to_s (given_out e s) (count e t + giving e (messages to_t)) (k.met_s e))
      where
        by : (o : Option Export) → given_out e s ≤ plain_takes s e n.message + export_count o → plain_takes s e n.message ≡ lets_of e n.message n.lets
            → (j : ℕ) × (given_out e s ≡ lets_of e n.message n.lets + j) × Leaves j (backs_for e to_s) (count e t + giving e (messages to_t))
            → IsSome o ⊎ (EachTargetCap (λ j. nat_eq j e ≡ false) (messages to_s) × AllOther e (messages to_s))
        by (Some x) f g h = inl refl
        by None f g h = let a = h.1 in inr (all_other e to_s (none_mentioned h.0 (backs_for e to_s) _ (omega (arith, f, g, a)) h.2))

    -- Of the other vat, whose exports are as they were.
    their_giving : (e : ℕ) → IsSome (map.get t.exports e) ⊎ ((giving e (messages to_s) ≡ 0) × (false ≡ false))
    their_giving e = by (map.get t.exports e) (let a = k.agree in a.of_t e)
      where
        by : (o : Option Export) → export_count o ≡ count e s + (giving e (messages (n ∷ to_s)) + letting e to_t) → IsSome o ⊎ ((giving e (messages to_s) ≡ 0) × (false ≡ false))
        by (Some x) h = inl refl
        by None h = inr (omega (arith, h), refl)

    their_names : (e : ℕ) → IsSome (map.get t.exports e) ⊎ AllOther e (messages to_t)
    their_names e = by (map.get t.exports e) (k.met_t e)
      where
        by : (o : Option Export) → Leaves (export_count o) (backs_for e to_t) (count e s + giving e (messages (n ∷ to_s))) → IsSome o ⊎ AllOther e (messages to_t)
        by (Some x) h = inl refl
        by None h = inr (let a = all_other e to_t (none_mentioned 0 (backs_for e to_t) _ refl h) in a.1)

    abbrev nothing : Has
    nothing = record { import = λ e. false; question = λ q. false }

    may_lower : MayLower u t (messages to_t) (messages to_s)
    may_lower = record {
      imported = λ e i. held e i (given_still e);
      met = targets_there (λ e. IsSome (map.get u.exports e)) (messages to_s) (λ e. first (named_still e));
      named = named_alone u.exports t.exports nothing (messages to_t) (all_named u.exports t.exports nothing (messages to_t) (λ e. alone e (given_still e)) their_names);
      named_back = named_alone t.exports u.exports nothing (messages to_s) (all_named t.exports u.exports nothing (messages to_s) their_giving (λ e. second (named_still e)));
    }
      where
        held : (e : ℕ) → IsSome (map.get t.imports e) → IsSome (map.get u.exports e) ⊎ ((giving e (messages to_t) ≡ 0) × (is_some (map.get t.imports e) ≡ false)) → IsSome (map.get u.exports e)
        held e i (inl a) = a
        held e i (inr h) = absurd (let bad : true ≡ false = sym i ∙ h.1 in cc)

        alone : (e : ℕ) → IsSome (map.get u.exports e) ⊎ ((giving e (messages to_t) ≡ 0) × (is_some (map.get t.imports e) ≡ false)) → IsSome (map.get u.exports e) ⊎ ((giving e (messages to_t) ≡ 0) × (false ≡ false))
        alone e (inl a) = inl a
        alone e (inr h) = inr (h.0, refl)

  lets_go : (x : PlainMessage) → n.message ≡ x → LetsGoWell s t (messages to_t) (messages to_s) x
  lets_go (plain.Abort exception) i = tt
  lets_go (plain.Bootstrap q) i = tt
  lets_go (plain.Call c) i = tt
  lets_go (plain.Return r) i = by (map.get s.questions r.answer.0) refl
    where
      by : (o : Option Question) → map.get s.questions r.answer.0 ≡ o → IfThere (λ (x : Question). MayLower (obey (take_all s (descriptors_of_body r.body)) r.release_param_caps (numbers x.given)) t (messages to_t) (messages to_s)) o
      by None e = tt
      by (Some x) e =
          let mid = take_all s (descriptors_of_body r.body) in
          let same = grown.takes s (descriptors_of_body r.body) in
          may_lower (obey mid r.release_param_caps (numbers x.given))
          (λ j. subst (λ (m : PlainMessage). given_out j s ≤ plain_takes s j m + export_count (map.get (obey mid r.release_param_caps (numbers x.given)).exports j)) (sym i)
          (subst (λ (o : Option Question). given_out j s ≤ how_many (nat_eq j) (if_true r.release_param_caps (call_gave o)) + export_count (map.get (obey mid r.release_param_caps (numbers x.given)).exports j)) (sym e)
          (subst (λ (E : Map Export). export_count (map.get E j) ≤ how_many (nat_eq j) (if_true r.release_param_caps (numbers x.given)) + export_count (map.get (obey mid r.release_param_caps (numbers x.given)).exports j)) same
          (obeyed mid r.release_param_caps (numbers x.given) j))))
  lets_go (plain.Finish f) i = by (map.get s.answers f.question.0) refl
    where
      by : (o : Option AnswerEntry) → map.get s.answers f.question.0 ≡ o → IfThere (λ (a : AnswerEntry). MayLower (obey s f.release_result_caps (gave a.returned)) t (messages to_t) (messages to_s)) o
      by None e = tt
      by (Some a) e =
          let u = obey s f.release_result_caps (gave a.returned) in
          may_lower u
          (λ j. subst (λ (m : PlainMessage). given_out j s ≤ plain_takes s j m + export_count (map.get u.exports j)) (sym i)
          (subst (λ (o : Option AnswerEntry). given_out j s ≤ how_many (nat_eq j) (if_true f.release_result_caps (return_gave o)) + export_count (map.get u.exports j)) (sym e)
          (obeyed s f.release_result_caps (gave a.returned) j)))
  lets_go (plain.Resolve r) i = tt
  lets_go (plain.Release r) i =
      may_lower (lowering s r.export.0 r.count)
      (λ j. subst (λ (m : PlainMessage). given_out j s ≤ plain_takes s j m + export_count (map.get (lower_by s.exports r.export.0 r.count) j)) (sym i) (lowered_one s.exports r.export.0 r.count (map.get s.exports r.export.0) refl j))
  lets_go (plain.Disembargo d) i = tt
  lets_go (plain.Other j) i = tt

oldest : (s t : State) (to_s to_t : List Noted) (x : PlainMessage) (rest out : List Message) → Found s to_s t to_t → message.Plain x ∷ rest ≡ messages to_s → out ≡ messages to_t → LetsGoWell s t out rest x
oldest s t [] to_t x rest out k e f = absurd (let bad : message.Plain x ∷ rest ≡ [] = e in cc)
oldest s t (n ∷ ns) to_t x rest out k e f =
    let first : message.Plain x ≡ message.Plain n.message = cc in
    let same : n.message ≡ x = cc in
    let others : rest ≡ messages ns = cc in
    subst (λ (ms : List Message). LetsGoWell s t ms rest x) (sym f) (subst (λ (ms : List Message). LetsGoWell s t (messages to_t) ms x) (sym others) (lets_go s t n ns to_t k x same))

pub in_world : (w : World) → HoldsIn Found w → OfOldest LetsGoWell w
in_world w h A x rest e = oldest w.a.core w.b.core h.to_a h.to_b x rest w.b.inbox h.holds (sym e ∙ h.is_a) h.is_b
in_world w h B x rest e = oldest w.b.core w.a.core h.to_b h.to_a x rest w.a.inbox (turned_about w.a.core w.b.core h.to_a h.to_b h.holds) (sym e ∙ h.is_b) h.is_a
