-- What holds of lists that wait.
use Rattle.std.proofs.Common.{arith, ◌≡◌, ◌∙◌, ℕ, suc, Bool, true, false, ◌==◌, List, [], ◌∷◌, ◌++◌, map, length, Option, None, Some, is_some, is_none, refl, sym, ap, subst}
use Rattle.std.proofs.Math.Dec.{eqb-suc-zero}
use Rattle.std.proofs.lemmas.List.{map-append}
use Rattle.std.specs.List.{flat_map}
use Rattle.rpc_journal.specs.declared.report.Delivery.{Delivery}
use Rattle.rpc_journal.specs.declared.report.Ended.{Ended}
use Rattle.vat_host.specs.declared.event.Event.{Event}
use Rattle.vat_host.specs.declared.event.Event.TheVariants as event
use Rattle.vat_host.specs.declared.event_queue.StepEvents.{StepEvents}
use Rattle.vat_host.specs.Queues.{EachTells, NoneIsEmpty, listed, told_by, told_by_all, told_of}

pub one_more : {T : Type 0} (lists : List (List T)) (list : List T) → NoneIsEmpty lists → (length list == 0) ≡ false → NoneIsEmpty (lists ++ list ∷ [])
one_more [] [] n e = absurd (let f : ◌≡◌ {A = Bool} true false = e in cc)
one_more [] (x ∷ xs) n e = tt
one_more ([] ∷ lists) list n e = absurd n
one_more ((y ∷ ys) ∷ lists) list n e = one_more lists list n e

same_at_one : (m n : ℕ) → (suc m == 0) ≡ (suc n == 0)
same_at_one m n = eqb-suc-zero m ∙ sym (eqb-suc-zero n)

none_waits : {T : Type 0} (lists : List (List T)) → NoneIsEmpty lists → (length lists == 0) ≡ (length (flat_map (λ list. list) lists) == 0)
none_waits [] n = refl
none_waits ([] ∷ lists) n = absurd n
none_waits ((x ∷ xs) ∷ lists) n = same_at_one (length lists) (length (xs ++ flat_map (λ list. list) lists))

-- Nothing is left where nothing is left of the oldest list and no list waits.
pub nothing_left : {T : Type 0} (oldest : List T) (lists : List (List T)) (n : ℕ) → length oldest ≡ 0 → n ≡ length lists → NoneIsEmpty lists
    → (n == 0) ≡ (length (oldest ++ flat_map (λ list. list) lists) == 0)
nothing_left [] lists n e w h = ap (λ k. k == 0) w ∙ none_waits lists h
nothing_left (x ∷ xs) lists n e w h = absurd (omega (arith, e))

-- Something is left where something is of the oldest list.
pub something_left : {T : Type 0} (oldest more : List T) → (length oldest == 0) ≡ false → false ≡ (length (oldest ++ more) == 0)
something_left [] more e = let f : ◌≡◌ {A = Bool} true false = e in cc
something_left (x ∷ xs) more e = sym (eqb-suc-zero (length (xs ++ more)))

-- ---- events

-- One step more, that has something to tell.
pub one_more_tells : (steps : List StepEvents) (s : StepEvents) → EachTells steps → (length (told_by s) == 0) ≡ false → EachTells (steps ++ s ∷ [])
one_more_tells steps s h e = subst NoneIsEmpty (sym (map-append told_by steps (s ∷ []))) (one_more (map told_by steps) (told_by s) h e)

-- Something is told where a call is to be served.
pub serves : (ds : List Delivery) (es : List Ended) (k : Option Event) (more : List Event) → (length ds == 0) ≡ false → false ≡ (length (told_of ds es k ++ more) == 0)
serves [] es k more e = absurd (let f : ◌≡◌ {A = Bool} true false = e in cc)
serves (d ∷ ds) es k more e = sym (eqb-suc-zero (length (told_of ds es k ++ more)))

-- Something is told where a call ended.
pub ends : (ds : List Delivery) (es : List Ended) (k : Option Event) (more : List Event) → (length ds == 0) ≡ true → (length es == 0) ≡ false → false ≡ (length (told_of ds es k ++ more) == 0)
ends [] [] k more d e = absurd (let f : ◌≡◌ {A = Bool} true false = e in cc)
ends [] (x ∷ xs) k more d e = sym (eqb-suc-zero (length (map event.Ended xs ++ listed k ++ more)))
ends (y ∷ ys) es k more d e = absurd (let f : ◌≡◌ {A = Bool} true false = sym d ∙ eqb-suc-zero (length ys) in cc)

-- Something is told where a message made something known.
pub makes_known : (ds : List Delivery) (es : List Ended) (k : Option Event) (more : List Event) → (length ds == 0) ≡ true → (length es == 0) ≡ true → is_some k ≡ true → false ≡ (length (told_of ds es k ++ more) == 0)
makes_known [] [] None more d e s = absurd (let f : ◌≡◌ {A = Bool} false true = s in cc)
makes_known [] [] (Some event) more d e s = sym (eqb-suc-zero (length more))
makes_known [] (x ∷ xs) k more d e s = absurd (let f : ◌≡◌ {A = Bool} true false = sym e ∙ eqb-suc-zero (length xs) in cc)
makes_known (y ∷ ys) es k more d e s = absurd (let f : ◌≡◌ {A = Bool} true false = sym d ∙ eqb-suc-zero (length ys) in cc)

pub serves_one : (ds : List Delivery) (es : List Ended) (k : Option Event) → (length ds == 0) ≡ false → false ≡ (length (told_of ds es k) == 0)
serves_one [] es k e = absurd (let f : ◌≡◌ {A = Bool} true false = e in cc)
serves_one (d ∷ ds) es k e = sym (eqb-suc-zero (length (told_of ds es k)))

pub ends_one : (ds : List Delivery) (es : List Ended) (k : Option Event) → (length ds == 0) ≡ true → (length es == 0) ≡ false → false ≡ (length (told_of ds es k) == 0)
ends_one [] [] k d e = absurd (let f : ◌≡◌ {A = Bool} true false = e in cc)
ends_one [] (x ∷ xs) k d e = sym (eqb-suc-zero (length (map event.Ended xs ++ listed k)))
ends_one (y ∷ ys) es k d e = absurd (let f : ◌≡◌ {A = Bool} true false = sym d ∙ eqb-suc-zero (length ys) in cc)

-- No call is to be served, and none ended.
pub known_alone : (ds : List Delivery) (es : List Ended) (k : Option Event) → (length ds == 0) ≡ true → (length es == 0) ≡ true → is_none k ≡ (length (told_of ds es k) == 0)
known_alone [] [] None d e = refl
known_alone [] [] (Some event) d e = sym (eqb-suc-zero 0)
known_alone [] (x ∷ xs) k d e = absurd (let f : ◌≡◌ {A = Bool} true false = sym e ∙ eqb-suc-zero (length xs) in cc)
known_alone (y ∷ ys) es k d e = absurd (let f : ◌≡◌ {A = Bool} true false = sym d ∙ eqb-suc-zero (length ys) in cc)

first_tells : (events more : List Event) (lists : List (List Event)) (n : ℕ) → NoneIsEmpty (events ∷ lists) → (suc n == 0) ≡ (length (events ++ more) == 0)
first_tells [] more lists n h = absurd h
first_tells (e ∷ es) more lists n h = same_at_one n (length (es ++ more))

none_tell : (steps : List StepEvents) → EachTells steps → (length steps == 0) ≡ (length (told_by_all steps) == 0)
none_tell [] h = refl
none_tell (s ∷ steps) h = first_tells (told_by s) (told_by_all steps) (map told_by steps) (length steps) h

-- Nothing is left where nothing is of the oldest step and no step waits.
pub none_left : (ds : List Delivery) (es : List Ended) (k : Option Event) (steps : List StepEvents) (n : ℕ) → (length ds == 0) ≡ true → (length es == 0) ≡ true → is_some k ≡ false → n ≡ length steps → EachTells steps
    → (n == 0) ≡ (length (told_of ds es k ++ told_by_all steps) == 0)
none_left [] [] None steps n d e s w h = ap (λ k. k == 0) w ∙ none_tell steps h
none_left [] [] (Some event) steps n d e s w h = absurd (let f : ◌≡◌ {A = Bool} true false = s in cc)
none_left [] (x ∷ xs) k steps n d e s w h = absurd (let f : ◌≡◌ {A = Bool} true false = sym e ∙ eqb-suc-zero (length xs) in cc)
none_left (y ∷ ys) es k steps n d e s w h = absurd (let f : ◌≡◌ {A = Bool} true false = sym d ∙ eqb-suc-zero (length ys) in cc)
