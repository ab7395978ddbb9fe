-- While neither vat gives up, each call that was made is at a place in each scene, or its reference leads to broken.
use Rattle.std.proofs.Common.{◌≡◌, ◌⊎◌, inl, inr, ℕ, ◌+◌, ◌≤◌, Bool, true, false, Option, None, Some, List, [], ◌∷◌, ◌++◌, map, refl, sym, ap, ◌∙◌, arith}
use Rattle.rpc_msg.specs.declared.ids.Vat.{Vat}
use Rattle.rpc_msg.specs.declared.ids.Vat.TheVariants.{A, B}
use Rattle.rpc_msg.specs.declared.ids.Stamp.{Stamp}
use Rattle.rpc_msg.specs.declared.ids.ObjectId.{ObjectId}
use Rattle.rpc_msg.specs.declared.message.Message.{Message}
use Rattle.rpc_journal.specs.declared.entry.MadeCall.{MadeCall}
use Rattle.rpc_journal.specs.declared.entry.JournalEntry.{JournalEntry}
use Rattle.rpc_journal.specs.declared.entry.JournalEntry.TheVariants as entry
use Rattle.rpc_journal.specs.History.{same_stamp, stamp_of, caller, or_rest, if_so, made_with}
use Rattle.rpc_journal.specs.Meaning.{History, Broken}
use Rattle.rpc_machine.specs.declared.command.Effects.{Effects}
use Rattle.rpc_machine.specs.declared.command.Granted.TheVariants as granted
use Rattle.rpc_machine.specs.State.{State}
use Rattle.rpc_machine.specs.World.{core, inbox, put_inbox, after}
use Rattle.rpc_machine.specs.Journal.{went_down, effect_entries, granted_entries}
use Rattle.rpc_machine.specs.Claims.{history}
use Rattle.laws_acts.specs.Moments.{Moment}
use Rattle.laws_runs.specs.Scenes as scenes
use Rattle.laws_runs.specs.Scenes.{Scene, IsScene, begins}
use Rattle.laws_runs.proofs.Counting.{scenes_count}
use Rattle.laws_meanings.specs.OnePlace.{counted, waiting, in_message, on_way, deliveries_of, places}
use Rattle.laws_meanings.specs.NodeMeanings.{Itself, OfRef}
use Rattle.laws_meanings.specs.NodeLabels.{Labels, MomentMeans}
use Rattle.laws_meanings.specs.NoneLost.{IsToBroken, BeginningsMean, CallsAreSomewhere}
use Rattle.laws_meanings.proofs.Links.{links_last}
use Rattle.laws_meanings.proofs.Losing.{commands, messages}
use Rattle.laws_meanings.proofs.Placed.{way-append, entries-append, of_effects, made_in, times_made, made-append}
use Rattle.laws_meanings.proofs.Placing.{Leaves, own_none, at_one_place}
use Rattle.laws_meanings.proofs.Walked.{in_each}

-- ---- What a step's effects write

module _ (k : Stamp) where
  each_none : {X : Type 0} (f : X → JournalEntry) → ((x : X) → made_in k (f x) ≡ 0) → (xs : List X) → times_made k (map f xs) ≡ 0
  each_none f g [] = refl
  each_none f g (x ∷ xs) = let a = g x in let b = each_none f g xs in omega arith

  none_down : (v : Vat) (o : Option ℕ) → times_made k (went_down v o) ≡ 0
  none_down v None = refl
  none_down v (Some n) = refl

  none_made : (v : Vat) (x : Effects) → times_made k (effect_entries v x) ≡ 0
  none_made v x =
      let ms = map (entry.Sent v) x.sends in
      let ds = map (entry.Delivered v) x.deliveries in
      let es = map (entry.Ended v) x.answers in
      let a = made-append k (ms ++ ds ++ es) (went_down v x.down) in
      let b = made-append k (ms ++ ds) es in
      let c = made-append k ms ds in
      let e = none_down v x.down in
      let f = each_none (entry.Sent v) (λ m. refl) x.sends in
      let g = each_none (entry.Delivered v) (λ m. refl) x.deliveries in
      let i = each_none (entry.Ended v) (λ m. refl) x.answers in
      omega arith

-- ---- Scenes

-- At as many places as it was made.
abbrev AllThere : Stamp → Scene → Type 0
AllThere k x = times_made k x.journal ≤ places k x

-- One vat has moved: it holds, sent and delivered no less than it held, called and received.
commanded : (k : Stamp) (x : Scene) (v : Vat) (told : Effects) (t : State) (own : List JournalEntry) → AllThere k x → deliveries_of k own ≡ 0
    → waiting k (core x.world v) + times_made k own ≤ Leaves k t told → times_made k (effect_entries v told) ≡ 0 → AllThere k (scenes.goes_on x (after x.world v told t) (own ++ effect_entries v told))
commanded k x A told t own p n l z =
    let d = entries-append k x.journal (own ++ effect_entries A told) in
    let e = entries-append k own (effect_entries A told) in
    let f = of_effects k A told in
    let g = made-append k x.journal (own ++ effect_entries A told) in
    let i = made-append k own (effect_entries A told) in
    let j = way-append k x.world.b.inbox told.sends in
    omega arith
commanded k x B told t own p n l z =
    let d = entries-append k x.journal (own ++ effect_entries B told) in
    let e = entries-append k own (effect_entries B told) in
    let f = of_effects k B told in
    let g = made-append k x.journal (own ++ effect_entries B told) in
    let i = made-append k own (effect_entries B told) in
    let j = way-append k x.world.a.inbox told.sends in
    omega arith

received : (k : Stamp) (x : Scene) (v : Vat) (m : Message) (ms : List Message) (told : Effects) (t : State) → AllThere k x → inbox x.world v ≡ m ∷ ms
    → waiting k (core x.world v) + in_message k m ≤ Leaves k t told → times_made k (effect_entries v told) ≡ 0 → AllThere k (scenes.goes_on x (after (put_inbox x.world v ms) v told t) (entry.Got v ∷ [] ++ effect_entries v told))
received k x A m ms told t p q l z =
    let c = ap (on_way k) q in
    let d = entries-append k x.journal (entry.Got A ∷ effect_entries A told) in
    let f = of_effects k A told in
    let g = made-append k x.journal (entry.Got A ∷ effect_entries A told) in
    let j = way-append k x.world.b.inbox told.sends in
    omega arith
received k x B m ms told t p q l z =
    let c = ap (on_way k) q in
    let d = entries-append k x.journal (entry.Got B ∷ effect_entries B told) in
    let f = of_effects k B told in
    let g = made-append k x.journal (entry.Got B ∷ effect_entries B told) in
    let j = way-append k x.world.a.inbox told.sends in
    omega arith

module _ (a b : Option ObjectId) (k : Stamp) where
  abbrev IsThere : Scene → Type 0
  IsThere x = AllThere k x ⊎ IsToBroken (history a b x.journal) k

  abbrev IfUp : Scene → Type 0
  IfUp x = x.over_a ≡ false → x.over_b ≡ false → IsThere x

  begun : IfUp (begins a b)
  begun p q = inl (omega arith)

  still_broken : (x new : Scene) (es : List JournalEntry) → new.journal ≡ x.journal ++ es → IsToBroken (history a b x.journal) k → IsToBroken (history a b new.journal) k
  still_broken x new es e i = rw e (links_last (history a b x.journal) es (Itself Broken) (OfRef (caller k)) i)

  from : (new : Scene) (v : Vat) (m : Moment) → (es : List JournalEntry) × (more : List JournalEntry) × (new.journal ≡ es ++ more) × (l : Labels) × MomentMeans (history a b es) v l m
      → (e : History) × (l : Labels) × MomentMeans e v l m × (IsToBroken e k → IsToBroken (history a b new.journal) k)
  from new v m z = (history a b z.0, z.3, z.4, λ i. rw z.2 (links_last (history a b z.0) z.1 (Itself Broken) (OfRef (caller k)) i))

  given_up : {P : Type 0} (x : Scene) (v : Vat) (es : List JournalEntry) → (let y = scenes.stopped x v es in y.over_a ≡ false) → (let y = scenes.stopped x v es in y.over_b ≡ false) → P
  given_up x A es p q = absurd (let bad : true ≡ false = p in cc)
  given_up x B es p q = absurd (let bad : true ≡ false = q in cc)

  stepped : BeginningsMean a b → (x new : Scene) → IsScene a b x → scenes.Steps x new → IfUp x → IfUp new
  stepped f x new i (scenes.GivesUp v c o r j e) w p q = given_up x v (granted_entries x.journal v c granted.Done) (sym (ap (λ (y : Scene). y.over_a) e) ∙ p) (sym (ap (λ (y : Scene). y.over_b) e) ∙ q)
  stepped f x new i (scenes.Stops v o e) w p q = given_up x v [] (sym (ap (λ (y : Scene). y.over_a) e) ∙ p) (sym (ap (λ (y : Scene). y.over_b) e) ∙ q)
  stepped f x new i (scenes.Commanded v c g told s o up r d z e) w p q =
      let pa : x.over_a ≡ false = sym (ap (λ (y : Scene). y.over_a) e) ∙ p in
      let pb : x.over_b ≡ false = sym (ap (λ (y : Scene). y.over_b) e) ∙ q in
      let es = granted_entries x.journal v c g ++ effect_entries v told in
      by (ap (λ (y : Scene). y.journal) e) (w pa pb) (commands (history a b new.journal) v k x.journal (core x.world v) c g told s (scenes_count a b x i v) (λ m y. from new v m (f x new (scenes.Commanded v c g told s o up r d z e) v m i pa pb (refl, y))) d)
    where
      by : new.journal ≡ x.journal ++ (granted_entries x.journal v c g ++ effect_entries v told) → IsThere x → (waiting k (core x.world v) + times_made k (granted_entries x.journal v c g) ≤ Leaves k s told) ⊎ IsToBroken (history a b new.journal) k → IsThere new
      by t (inr y) n = inr (still_broken x new _ t y)
      by t (inl y) (inr n) = inr n
      by t (inl y) (inl n) = inl (rw e (commanded k x v told s (granted_entries x.journal v c g) y (own_none k x.journal v c g) n (none_made k v told)))
  stepped f x new i (scenes.Received v m ms told s o up j g d z e) w p q =
      let pa : x.over_a ≡ false = sym (ap (λ (y : Scene). y.over_a) e) ∙ p in
      let pb : x.over_b ≡ false = sym (ap (λ (y : Scene). y.over_b) e) ∙ q in
      by (ap (λ (y : Scene). y.journal) e) (w pa pb) (messages (history a b new.journal) v k (core x.world v) m told s g (λ n y. from new v n (f x new (scenes.Received v m ms told s o up j g d z e) v n i pa pb (refl, y))) d)
    where
      by : new.journal ≡ x.journal ++ (entry.Got v ∷ effect_entries v told) → IsThere x → (waiting k (core x.world v) + in_message k m ≤ Leaves k s told) ⊎ IsToBroken (history a b new.journal) k → IsThere new
      by t (inr y) n = inr (still_broken x new _ t y)
      by t (inl y) (inr n) = inr n
      by t (inl y) (inl n) = inl (rw e (received k x v m ms told s y j n (none_made k v told)))

  pub there : BeginningsMean a b → (x : Scene) → IsScene a b x → IfUp x
  there f x i = in_each a b IfUp (λ y new j t. stepped f y new j t) begun x i

-- What was made with a stamp is counted.
pub was_made : (k : Stamp) (h : List JournalEntry) (m : MadeCall) → made_with h k ≡ Some m → 1 ≤ times_made k h
was_made k [] m e = cc
was_made k (entry.Made v x ∷ es) m e = by (same_stamp k (stamp_of v x)) (was_made k es m) e
  where
    by : (b : Bool) → (made_with es k ≡ Some m → 1 ≤ times_made k es) → or_rest (if_so b x) (made_with es k) ≡ Some m → 1 ≤ counted b + times_made k es
    by true f g = omega arith
    by false f g = let n = f g in omega arith
was_made k (x ∷ xs) m e = let n = was_made k xs m e in omega arith

pub somewhere : CallsAreSomewhere
somewhere a b x k m f i p q e = by (there a b k f x i p q)
  where
    by : IsThere a b k x → (places k x ≡ 1) ⊎ IsToBroken (history a b x.journal) k
    by (inl y) = let n = was_made k x.journal m e in let o = at_one_place a b x i k in inl (omega arith)
    by (inr y) = inr y
