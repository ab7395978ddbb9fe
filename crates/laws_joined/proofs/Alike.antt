-- What is done and told over wires is done and told in one world.
use Rattle.std.proofs.Common.{◌≡◌, Bool, true, false, cond, List, [], ◌∷◌, ◌++◌, map, flat_map, Ok, Err, refl, sym, ap, ◌∙◌}
use Rattle.rpc_msg.specs.declared.ids.Vat.{Vat}
use Rattle.rpc_journal.specs.History.{same_vat}
use Rattle.rpc_machine.specs.declared.event.Event.{Event as Happens}
use Rattle.rpc_machine.specs.declared.event.Event.TheVariants as happens
use Rattle.rpc_machine.specs.World.{Happening}
use Rattle.laws_wired.specs.Pairs.{TwoDeliveries, TwoEffects, TwoEnded, delivery_at, effects_at, ended_at}
use Rattle.laws_wired.specs.Wires.{TwoAnswers, Obeyed, Took, NoneThere, TwoHappenings, answer_at, happening_at}
use Rattle.laws_over_wires.specs.Sound.{WiredRunsAreSound}
use Rattle.vat_host.specs.declared.event.Event.{Event}
use Rattle.vat_host.specs.declared.event.Event.TheVariants as event
use Rattle.vat_hosts.specs.Calls.{calls_told}
use Rattle.vat_hosts.specs.Hosts.{Done}
use Rattle.vat_hosts.specs.Worlds.{done_by_answer, effects_of, told_in, vat_of}
use Rattle.laws_in_bytes.specs.Wired.{JoinedRunsAreWired, but_shut, done_of}
use Rattle.laws_joined.specs.Sound.{TwoTold, ServesBoth, EndsBoth, told_at, JoinedRunsAreSound}

-- ---- what is told

map_append : {X Y : Type 0} (f : X → Y) (xs ys : List X) → map f (xs ++ ys) ≡ map f xs ++ map f ys
map_append f [] ys = refl
map_append f (x ∷ xs) ys = ap (λ zs. f x ∷ zs) (map_append f xs ys)

abbrev told_of : TwoEffects → List TwoTold
told_of e = map ServesBoth e.deliveries ++ map EndsBoth e.answers

served_same : (b : Bool) (ds : List TwoDeliveries) → map event.Served (map (delivery_at b) ds) ≡ map (told_at b) (map ServesBoth ds)
served_same b [] = refl
served_same b (d ∷ ds) = ap (λ (es : List Event). event.Served (delivery_at b d) ∷ es) (served_same b ds)

ended_same : (b : Bool) (xs : List TwoEnded) → map event.Ended (map (ended_at b) xs) ≡ map (told_at b) (map EndsBoth xs)
ended_same b [] = refl
ended_same b (x ∷ xs) = ap (λ (es : List Event). event.Ended (ended_at b x) ∷ es) (ended_same b xs)

calls_same : (b : Bool) (e : TwoEffects) → calls_told (effects_at b e) ≡ map (told_at b) (told_of e)
calls_same b e =
    let d = served_same b e.deliveries in
    let x = ended_same b e.answers in
    (λ i. d i ++ x i) ∙ sym (map_append (told_at b) (map ServesBoth e.deliveries) (map EndsBoth e.answers))

abbrev told_by : TwoAnswers → List TwoTold
told_by (Obeyed answer e) = told_of e
told_by (Took e) = told_of e
told_by NoneThere = []

answer_same : (b : Bool) (a : TwoAnswers) → calls_told (effects_of (answer_at b a)) ≡ map (told_at b) (told_by a)
answer_same b (Obeyed answer e) = calls_same b e
answer_same b (Took e) = calls_same b e
answer_same b NoneThere = refl

abbrev told2 : Vat → TwoHappenings → List TwoTold
told2 v x = cond (same_vat v (vat_of x.event)) (told_by x.answer) []

cond_same : (b here : Bool) (es : List Event) (ts : List TwoTold) → es ≡ map (told_at b) ts → cond here es [] ≡ map (told_at b) (cond here ts [])
cond_same b true es ts e = e
cond_same b false es ts e = refl

one_same : (b : Bool) (v : Vat) (x : TwoHappenings) → told_in v (happening_at b x) ≡ map (told_at b) (told2 v x)
one_same b v x = cond_same b (same_vat v (vat_of x.event)) (calls_told (effects_of (answer_at b x.answer))) (told_by x.answer) (answer_same b x.answer)

all_same : (b : Bool) (v : Vat) (xs : List TwoHappenings) → flat_map (told_in v) (map (happening_at b) xs) ≡ map (told_at b) (flat_map (told2 v) xs)
all_same b v [] = refl
all_same b v (x ∷ xs) =
    let one = one_same b v x in
    let rest = all_same b v xs in
    (λ i. one i ++ rest i) ∙ sym (map_append (told_at b) (told2 v x) (flat_map (told2 v) xs))

-- ---- what is done

done_answer : (e : Happens) (a : TwoAnswers) → done_by_answer e (answer_at true a) ≡ done_by_answer e (answer_at false a)
done_answer (happens.Command v c) (Obeyed (Ok g) e) = refl
done_answer (happens.Command v c) (Obeyed (Err r) e) = refl
done_answer (happens.Command v c) (Took e) = refl
done_answer (happens.Command v c) NoneThere = refl
done_answer (happens.Deliver v) a = refl

done_same : (xs : List TwoHappenings) → flat_map done_of (map (happening_at true) xs) ≡ flat_map done_of (map (happening_at false) xs)
done_same [] = refl
done_same (x ∷ xs) =
    let one = ap (λ (ds : List Done). flat_map but_shut ds) (done_answer x.event x.answer) in
    let rest = done_same xs in
    λ i. one i ++ rest i

-- ---- both

pub joined_runs_are_sound : JoinedRunsAreWired → WiredRunsAreSound → JoinedRunsAreSound
joined_runs_are_sound wired sound letters root_a root_b xs j ran at_once =
    let w = wired letters root_a root_b xs j ran at_once in
    let s = sound letters root_a root_b w.happened w.world w.ran in
    let hs = s.there.happened in
    record {
      wires = w;
      sound = s;
      done = done_same hs ∙ ap (λ (l : List Happening). flat_map done_of l) (sym s.there.is) ∙ w.done;
      told = λ v. record {
        told = flat_map (told2 v) hs;
        over_is = ap (λ (l : List Happening). flat_map (told_in v) l) s.there.is ∙ all_same false v hs;
        there_is = all_same true v hs;
      };
    }
