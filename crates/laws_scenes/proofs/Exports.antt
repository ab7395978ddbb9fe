-- Exports that the other vat holds, or that messages on the way name or are aimed at, are there.
use Rattle.std.specs.FinMap as map
use Rattle.std.proofs.Common.{◌≡◌, ◌⊎◌, inl, inr, ℕ, suc, ◌+◌, Bool, nat_eq, true, false, ◌||◌, cond, is_some, List, [], ◌∷◌, ◌++◌, Option, None, Some, IsSome, refl, sym, ap, ◌∙◌, arith}
use Rattle.finite_maps.specs.Tally.{Map}
use Rattle.finite_maps.proofs.Tested.{itself, sides}
use Rattle.rpc_msg.specs.declared.message.Message.{Message}
use Rattle.rpc_msg.specs.declared.message.Message.TheVariants as message
use Rattle.rpc_msg.specs.declared.message.PlainMessage.{PlainMessage}
use Rattle.rpc_msg.specs.declared.message.PlainMessage.TheVariants as plain
use Rattle.rpc_msg.specs.declared.parts.Descriptor.{Descriptor}
use Rattle.rpc_msg.specs.declared.parts.Descriptor.TheVariants as descriptor
use Rattle.rpc_msg.specs.declared.parts.Target.{Target}
use Rattle.rpc_msg.specs.declared.parts.Target.TheVariants.{ImportedCap, PromisedAnswer}
use Rattle.rpc_msg.specs.Messages.{descriptors_of_plain, given}
use Rattle.rpc_machine.specs.declared.entries.Export.{Export}
use Rattle.rpc_machine.specs.declared.entries.Import.{Import}
use Rattle.rpc_machine.specs.State.{State}
use Rattle.rpc_machine.specs.World.{World}
use Rattle.rpc_machine.specs.Descriptors.{giving}
use Rattle.rpc_machine.specs.Limits.{export_count, import_count}
use Rattle.rpc_machine.specs.Lists.{how_many}
use Rattle.laws_acts.specs.Sent.{Noted, messages}
use Rattle.laws_runs.specs.Between.{HoldsIn}
use Rattle.laws_runs.specs.Entries.{ImportCounts}
use Rattle.laws_runs.specs.Exports.{Back, Leaves, Mention, Take}
use Rattle.laws_runs.specs.Imports.{count, lets_of, letting}
use Rattle.laws_runs.specs.Views.{only}
use Rattle.laws_messages.specs.Views.{backs_for, named_in, take_of, target_in, targets_in}
use Rattle.laws_messages.proofs.Finding.{Found, turned_about}
use Rattle.laws_routes.specs.Named.{AllMet, EachMet, ResolveMet}
use Rattle.laws_routes.specs.Premises.{EachTargetCap, OfCap, TargetCap}
use Rattle.laws_routes.specs.Sayings.{Has, has_behind, has_of, is_among}
use Rattle.laws_routes.proofs.MidwaySwept.{first}
use Rattle.laws_scenes.specs.Meeting.{ExportsMeet, OfBoth}
use Rattle.laws_scenes.proofs.Both.{of_both}

never : {P : Type 0} (k : ℕ) → nat_eq k k ≡ false → P
never k e = absurd (let bad : true ≡ false = sym (itself k) ∙ e in cc)

-- ---- Nothing names an export that is not there

abbrev NoneMentioned : List Back → Type 0
NoneMentioned [] = Unit {0}
NoneMentioned (Mention ∷ bs) = ⊥
NoneMentioned (Take k ∷ bs) = NoneMentioned bs

pub none_mentioned : (n : ℕ) (bs : List Back) (m : ℕ) → n ≡ 0 → Leaves n bs m → NoneMentioned bs
none_mentioned n [] m e h = tt
none_mentioned n (Mention ∷ bs) m e h = let a = h.0 in absurd (omega (arith, a, e))
none_mentioned n (Take k ∷ bs) m e h = let a = h.1 in let b = h.2 in absurd (omega (arith, a, b, e))

split : (xs ys : List Back) → NoneMentioned (xs ++ ys) → NoneMentioned xs × NoneMentioned ys
split [] ys h = (tt, h)
split (Mention ∷ xs) ys h = absurd h
split (Take k ∷ xs) ys h = split xs ys h

module _ (e : ℕ) where
  abbrev IsOther : Descriptor → Type 0
  IsOther descriptor.None = Unit {0}
  IsOther (descriptor.SenderHosted i) = Unit {0}
  IsOther (descriptor.SenderPromise i) = Unit {0}
  IsOther (descriptor.ReceiverHosted i) = nat_eq i.0 e ≡ false
  IsOther (descriptor.ReceiverAnswer q path) = Unit {0}

  abbrev EachOther : List Descriptor → Type 0
  EachOther [] = Unit {0}
  EachOther (d ∷ ds) = IsOther d × EachOther ds

  abbrev pub AllOther : List Message → Type 0
  AllOther [] = Unit {0}
  AllOther (message.Plain m ∷ ms) = EachOther (descriptors_of_plain m) × AllOther ms
  AllOther (message.Unimplemented m ∷ ms) = AllOther ms

  only_other : (k : ℕ) (b : Bool) → nat_eq e k ≡ b → NoneMentioned (only b Mention) → nat_eq k e ≡ false
  only_other k true f h = absurd h
  only_other k false f h = sides k e ∙ f

  target_other : (t : Target) → NoneMentioned (target_in e t) → OfCap (λ k. nat_eq k e ≡ false) t
  target_other (ImportedCap i) h = only_other i.0 (nat_eq e i.0) refl h
  target_other (PromisedAnswer q path) h = tt

  targets_other : (m : PlainMessage) → NoneMentioned (targets_in e m) → TargetCap (λ k. nat_eq k e ≡ false) (message.Plain m)
  targets_other (plain.Abort exception) h = tt
  targets_other (plain.Bootstrap q) h = tt
  targets_other (plain.Call c) h = target_other c.target h
  targets_other (plain.Return r) h = tt
  targets_other (plain.Finish x) h = tt
  targets_other (plain.Resolve r) h = tt
  targets_other (plain.Release r) h = tt
  targets_other (plain.Disembargo x) h = target_other x.target h
  targets_other (plain.Other n) h = tt

  each_other : (ds : List Descriptor) → NoneMentioned (named_in e ds) → EachOther ds
  each_other [] h = tt
  each_other (descriptor.None ∷ ds) h = (tt, each_other ds h)
  each_other (descriptor.SenderHosted i ∷ ds) h = (tt, each_other ds h)
  each_other (descriptor.SenderPromise i ∷ ds) h = (tt, each_other ds h)
  each_other (descriptor.ReceiverHosted i ∷ ds) h = let a = split (only (nat_eq e i.0) Mention) (named_in e ds) h in (only_other i.0 (nat_eq e i.0) refl a.0, each_other ds a.1)
  each_other (descriptor.ReceiverAnswer q path ∷ ds) h = (tt, each_other ds h)

  pub all_other : (ns : List Noted) → NoneMentioned (backs_for e ns) → EachTargetCap (λ k. nat_eq k e ≡ false) (messages ns) × AllOther (messages ns)
  all_other [] h = (tt, tt)
  all_other (n ∷ ns) h =
      let m = n.message in
      let ds = descriptors_of_plain m in
      let taken = take_of (lets_of e m n.lets) in
      let one = split (targets_in e m) (named_in e ds ++ (taken ++ backs_for e ns)) h in
      let two = split (named_in e ds) (taken ++ backs_for e ns) one.1 in
      let three = split taken (backs_for e ns) two.1 in
      let rest = all_other ns three.1 in
      ((targets_other m one.0, rest.0), (each_other ds two.0, rest.1))

-- ---- What messages are aimed at

module _ (P : ℕ → Type 0) where
  abbrev Either : List Message → Type 0
  Either ms = (k : ℕ) → P k ⊎ EachTargetCap (λ j. nat_eq j k ≡ false) ms

  pub targets_there : (ms : List Message) → Either ms → EachTargetCap P ms
  targets_there [] f = tt
  targets_there (m ∷ ms) f = (one m f, targets_there ms (λ k. behind k (f k)))
    where
      behind : (k : ℕ) → P k ⊎ EachTargetCap (λ j. nat_eq j k ≡ false) (m ∷ ms) → P k ⊎ EachTargetCap (λ j. nat_eq j k ≡ false) ms
      behind k (inl p) = inl p
      behind k (inr g) = inr g.1

      here : {B : Type 0} (k : ℕ) → P k ⊎ ((nat_eq k k ≡ false) × B) → P k
      here k (inl p) = p
      here k (inr g) = never k g.0

      at_target : (t : Target) → ((k : ℕ) → P k ⊎ (OfCap (λ j. nat_eq j k ≡ false) t × EachTargetCap (λ j. nat_eq j k ≡ false) ms)) → OfCap P t
      at_target (ImportedCap i) f = here i.0 (f i.0)
      at_target (PromisedAnswer q path) f = tt

      one : (m : Message) → Either (m ∷ ms) → TargetCap P m
      one (message.Plain (plain.Abort exception)) f = tt
      one (message.Plain (plain.Bootstrap q)) f = tt
      one (message.Plain (plain.Call c)) f = at_target c.target f
      one (message.Plain (plain.Return r)) f = tt
      one (message.Plain (plain.Finish x)) f = tt
      one (message.Plain (plain.Resolve r)) f = tt
      one (message.Plain (plain.Release r)) f = tt
      one (message.Plain (plain.Disembargo x)) f = at_target x.target f
      one (message.Plain (plain.Other n)) f = tt
      one (message.Unimplemented m) f = tt

-- ---- What messages name

none_among : (e : ℕ) (is : List ℕ) → how_many (nat_eq e) is ≡ 0 → is_among e is ≡ false
none_among e [] h = refl
none_among e (i ∷ is) h = by (none_among e is) (nat_eq e i) h
  where
    by : (how_many (nat_eq e) is ≡ 0 → is_among e is ≡ false) → (b : Bool) → cond b (suc (how_many (nat_eq e) is)) (how_many (nat_eq e) is) ≡ 0 → (b || is_among e is) ≡ false
    by rest true h = absurd (omega (arith, h))
    by rest false h = rest h

module _ (E F : Map Export) where
  abbrev MayGive : List ℕ → Type 0
  MayGive is = (e : ℕ) → IsSome (map.get E e) ⊎ (how_many (nat_eq e) is ≡ 0)

  abbrev MayName : List Descriptor → Type 0
  MayName ds = (e : ℕ) → IsSome (map.get F e) ⊎ EachOther e ds

  gives : (i : ℕ) (is : List ℕ) → MayGive (i ∷ is) → IsSome (map.get E i)
  gives i is f = by (f i)
    where
      by : IsSome (map.get E i) ⊎ (how_many (nat_eq i) (i ∷ is) ≡ 0) → IsSome (map.get E i)
      by (inl a) = a
      by (inr e) = let bad : suc (how_many (nat_eq i) is) ≡ 0 = ap (λ (b : Bool). cond b (suc (how_many (nat_eq i) is)) (how_many (nat_eq i) is)) (sym (itself i)) ∙ e in absurd (omega (arith, bad))

  gives_later : (i : ℕ) (is : List ℕ) → MayGive (i ∷ is) → MayGive is
  gives_later i is f e = by (nat_eq e i) (f e)
    where
      by : (b : Bool) → IsSome (map.get E e) ⊎ (cond b (suc (how_many (nat_eq e) is)) (how_many (nat_eq e) is) ≡ 0) → IsSome (map.get E e) ⊎ (how_many (nat_eq e) is ≡ 0)
      by b (inl a) = inl a
      by true (inr h) = absurd (omega (arith, h))
      by false (inr h) = inr h

  names_later : (d : Descriptor) (ds : List Descriptor) → MayName (d ∷ ds) → MayName ds
  names_later d ds g e = by (g e)
    where
      by : IsSome (map.get F e) ⊎ EachOther e (d ∷ ds) → IsSome (map.get F e) ⊎ EachOther e ds
      by (inl a) = inl a
      by (inr h) = inr h.1

  each_met : (ds : List Descriptor) → MayGive (given ds) → MayName ds → EachMet E F ds
  each_met [] f g = tt
  each_met (descriptor.None ∷ ds) f g = (tt, each_met ds f (names_later descriptor.None ds g))
  each_met (descriptor.SenderHosted i ∷ ds) f g = (gives i.0 (given ds) f, each_met ds (gives_later i.0 (given ds) f) (names_later (descriptor.SenderHosted i) ds g))
  each_met (descriptor.SenderPromise i ∷ ds) f g = (gives i.0 (given ds) f, each_met ds (gives_later i.0 (given ds) f) (names_later (descriptor.SenderPromise i) ds g))
  each_met (descriptor.ReceiverHosted i ∷ ds) f g = (by (g i.0), each_met ds f (names_later (descriptor.ReceiverHosted i) ds g))
    where
      by : IsSome (map.get F i.0) ⊎ EachOther i.0 (descriptor.ReceiverHosted i ∷ ds) → IsSome (map.get F i.0)
      by (inl a) = a
      by (inr h) = never i.0 h.0
  each_met (descriptor.ReceiverAnswer q path ∷ ds) f g = (tt, each_met ds f (names_later (descriptor.ReceiverAnswer q path) ds g))

  abbrev Gives : Has → List Message → Type 0
  Gives has ms = (e : ℕ) → IsSome (map.get E e) ⊎ ((giving e ms ≡ 0) × (has.import e ≡ false))

  resolve_met : (has : Has) (m : PlainMessage) → ((e : ℕ) → IsSome (map.get E e) ⊎ (has.import e ≡ false)) → ResolveMet E has m
  resolve_met has (plain.Abort exception) f = tt
  resolve_met has (plain.Bootstrap q) f = tt
  resolve_met has (plain.Call c) f = tt
  resolve_met has (plain.Return r) f = tt
  resolve_met has (plain.Finish x) f = tt
  resolve_met has (plain.Resolve r) f = λ i. by (f r.promise.0) i
    where
      by : IsSome (map.get E r.promise.0) ⊎ (has.import r.promise.0 ≡ false) → has.import r.promise.0 ≡ true → IsSome (map.get E r.promise.0)
      by (inl a) i = a
      by (inr e) i = absurd (let bad : true ≡ false = sym i ∙ e in cc)
  resolve_met has (plain.Release r) f = tt
  resolve_met has (plain.Disembargo x) f = tt
  resolve_met has (plain.Other n) f = tt

  pub all_named : (has : Has) (ms : List Message) → Gives has ms → ((e : ℕ) → IsSome (map.get F e) ⊎ AllOther e ms) → AllMet E F has ms
  all_named has [] f g = tt
  all_named has (message.Unimplemented m ∷ ms) f g = all_named has ms (λ e. by e (f e)) g
    where
      by : (e : ℕ) → IsSome (map.get E e) ⊎ ((0 + giving e ms ≡ 0) × (has.import e ≡ false)) → IsSome (map.get E e) ⊎ ((giving e ms ≡ 0) × (has.import e ≡ false))
      by e (inl a) = inl a
      by e (inr h) = let a = h.0 in inr (omega (arith, a), h.1)
  all_named has (message.Plain m ∷ ms) f g = (
    each_met ds (λ e. gives_now e (f e)) (λ e. names_now e (g e)),
    resolve_met has m (λ e. had e (f e)),
    all_named (has_behind has ds) ms (λ e. gives_then e (f e)) (λ e. names_then e (g e)),
  )
    where
      ds : List Descriptor
      ds = descriptors_of_plain m

      gives_now : (e : ℕ) → IsSome (map.get E e) ⊎ ((giving e (message.Plain m ∷ ms) ≡ 0) × (has.import e ≡ false)) → IsSome (map.get E e) ⊎ (how_many (nat_eq e) (given ds) ≡ 0)
      gives_now e (inl a) = inl a
      gives_now e (inr h) = let a = h.0 in inr (omega (arith, a))

      had : (e : ℕ) → IsSome (map.get E e) ⊎ ((giving e (message.Plain m ∷ ms) ≡ 0) × (has.import e ≡ false)) → IsSome (map.get E e) ⊎ (has.import e ≡ false)
      had e (inl a) = inl a
      had e (inr h) = inr h.1

      gives_then : (e : ℕ) → IsSome (map.get E e) ⊎ ((giving e (message.Plain m ∷ ms) ≡ 0) × (has.import e ≡ false)) → IsSome (map.get E e) ⊎ ((giving e ms ≡ 0) × ((has_behind has ds).import e ≡ false))
      gives_then e (inl a) = inl a
      gives_then e (inr h) =
          let a = h.0 in
          let none : how_many (nat_eq e) (given ds) ≡ 0 = omega (arith, a) in
          inr (omega (arith, a), ap (λ (b : Bool). b || has.import e) (none_among e (given ds) none) ∙ h.1)

      names_now : (e : ℕ) → IsSome (map.get F e) ⊎ AllOther e (message.Plain m ∷ ms) → IsSome (map.get F e) ⊎ EachOther e ds
      names_now e (inl a) = inl a
      names_now e (inr h) = inr h.0

      names_then : (e : ℕ) → IsSome (map.get F e) ⊎ AllOther e (message.Plain m ∷ ms) → IsSome (map.get F e) ⊎ AllOther e ms
      names_then e (inl a) = inl a
      names_then e (inr h) = inr h.1

-- ---- Two vats

pub none_counted : (o : Option Import) → ImportCounts o → import_count o ≡ 0 → is_some o ≡ false
none_counted None h e = refl
none_counted (Some x) h e = absurd (omega (arith, h, e))

module _ (s t : State) (to_s to_t : List Noted) (k : Found s to_s t to_t) where
  -- An export of s that is not there is held by nobody, and none gives it.
  pub given_or_there : (e : ℕ) → IsSome (map.get s.exports e) ⊎ ((giving e (messages to_t) ≡ 0) × (is_some (map.get t.imports e) ≡ false))
  given_or_there e = by (map.get s.exports e) (let a = k.agree in a.of_s e)
    where
      by : (o : Option Export) → export_count o ≡ count e t + (giving e (messages to_t) + letting e to_s) → IsSome o ⊎ ((giving e (messages to_t) ≡ 0) × (is_some (map.get t.imports e) ≡ false))
      by (Some x) h = inl refl
      by None h = inr (omega (arith, h), none_counted (map.get t.imports e) (let a = k.agree in let c = a.counted_t in c.imports e) (omega (arith, h)))

  -- Nor is any message aimed at one, or gives one back.
  pub named_or_there : (e : ℕ) → IsSome (map.get s.exports e) ⊎ (EachTargetCap (λ j. nat_eq j e ≡ false) (messages to_s) × AllOther e (messages to_s))
  named_or_there e = by (map.get s.exports e) (k.met_s e)
    where
      by : (o : Option Export) → Leaves (export_count o) (backs_for e to_s) (count e t + giving e (messages to_t)) → IsSome o ⊎ (EachTargetCap (λ j. nat_eq j e ≡ false) (messages to_s) × AllOther e (messages to_s))
      by (Some x) h = inl refl
      by None h = inr (all_other e to_s (none_mentioned 0 (backs_for e to_s) _ refl h))

pub second : {A B C : Type 0} → A ⊎ (B × C) → A ⊎ C
second (inl a) = inl a
second (inr b) = inr b.1

pub link_met : (s t : State) (to_s to_t : List Noted) → Found s to_s t to_t → AllMet s.exports t.exports (has_of [] t.imports t.questions) (messages to_t)
link_met s t to_s to_t k = all_named s.exports t.exports (has_of [] t.imports t.questions) (messages to_t) (given_or_there s t to_s to_t k) (λ e. second (named_or_there t s to_t to_s (turned_about s t to_s to_t k) e))

pub meet : (s t : State) (to_s to_t : List Noted) → Found s to_s t to_t → ExportsMeet s t (messages to_t) (messages to_s)
meet s t to_s to_t k =
    let back = turned_about s t to_s to_t k in
    record {
      imported = λ e i. held e i (given_or_there t s to_t to_s back e);
      met = targets_there (λ e. IsSome (map.get s.exports e)) (messages to_s) (λ e. first (named_or_there s t to_s to_t k e));
      named = (link_met s t to_s to_t k, link_met t s to_t to_s back);
    }
  where
    held : (e : ℕ) → IsSome (map.get s.imports e) → IsSome (map.get t.exports e) ⊎ ((giving e (messages to_s) ≡ 0) × (is_some (map.get s.imports e) ≡ false)) → IsSome (map.get t.exports e)
    held e i (inl a) = a
    held e i (inr h) = absurd (let bad : true ≡ false = sym i ∙ h.1 in cc)

pub in_world : (w : World) → HoldsIn Found w → OfBoth ExportsMeet w
in_world w h = of_both ExportsMeet Found meet turned_about w h
