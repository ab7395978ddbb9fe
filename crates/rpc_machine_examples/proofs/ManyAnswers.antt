-- As many Bootstraps are answered as the table of answers holds, one after the other.
use Rattle.std.proofs.Common.{◌≡◌, ℕ, zero, suc, ◌+◌, ◌≤◌, ◌<◌, Bool, true, false, cond, nat_eq, List, [], ◌∷◌, Option, None, Some, is_some, inl, length, refl, sym, ap, subst, ◌∙◌, arith}
use Rattle.std.specs.declared.cmp.Ordering.{Ordering}
use Rattle.std.specs.declared.cmp.Ordering.TheVariants.{Less, Equal, Greater}
use Rattle.std.specs.Ordering.{nat_cmp, eq_by_cmp}
use Rattle.std.specs.Cmp.{nat_cmp_total}
use Rattle.std.specs.FinMap as map
use Rattle.std.specs.FinMap.Entries.{put, by_order}
use Rattle.finite_maps.specs.Tally.{Map, tally, tally_of}
use Rattle.rpc_msg.specs.declared.message.ReturnBody.TheVariants as body
use Rattle.rpc_machine.specs.Payloads.{bootstrap_payload}
use Rattle.rpc_machine.specs.declared.node.Node.{Node}
use Rattle.rpc_machine.specs.declared.command.Effects.{Effects}
use Rattle.rpc_machine.specs.declared.calls.Caller.{Caller}
use Rattle.rpc_machine.specs.declared.calls.Caller.TheVariants as caller
use Rattle.rpc_machine.specs.declared.calls.KeptOutcome.{KeptOutcome}
use Rattle.rpc_machine.specs.declared.calls.Promise.{Promise}
use Rattle.rpc_machine.specs.declared.calls.Value.{Value}
use Rattle.rpc_machine.specs.declared.entries.AnswerEntry.{AnswerEntry}
use Rattle.rpc_machine.specs.declared.entries.Embargo.{Embargo}
use Rattle.rpc_machine.specs.declared.entries.Export.{Export}
use Rattle.rpc_machine.specs.declared.entries.Import.{Import}
use Rattle.rpc_machine.specs.declared.entries.Question.{Question}
use Rattle.rpc_machine.specs.declared.entries.Reference.{Reference}
use Rattle.rpc_machine.specs.State.{State}
use Rattle.rpc_machine.specs.Nodes.{is_field}
use Rattle.rpc_machine.specs.Limits.{IsWithin, held, table_limit, held_limit, count_limit, number_limit, held_for_promise, held_for_outcome, held_under, import_count, export_count, made_through}
use Rattle.rpc_machine.specs.Progress.{Progress, begin}
use Rattle.rpc_machine.specs.Collecting.{IsTight, IsLoosePromise, IsLooseImport, IsLooseOutcome, IsLooseValue, AnswerIsOther, CallerIsDone, Tight}
use Rattle.rpc_machine.specs.Descriptors.{IsOther, ExportedAs, Described}
use Rattle.rpc_machine.specs.Settling.{behind, TellsPeer, SettlesFrom, ResolvesEach, exports_where}
use Rattle.rpc_machine.specs.Sweeping.{IsToFinish}
use Rattle.rpc_machine.specs.Messages.{Takes}
use Rattle.rpc_machine.specs.Steps.{Receives, IsHandled}
use Rattle.rpc_machine_examples.specs.Given.{m, question_id, for_peer, bootstrap_message, sending}
use Rattle.rpc_machine_examples.specs.OneCall.{root_descriptor, object, root_value, b_new}
use Rattle.rpc_machine_examples.specs.FullAnswers.{up_to, answer, outcome, given_often, asked_often, root_return, FullAnswersFall}
use Rattle.rpc_machine_examples.proofs.GivenMaps.{look, found, AtEach, at_each, tied, entries_empty, entries_of, puts, progress, NothingOver, settles_here, quiet_ends}
use Rattle.rpc_machine_examples.proofs.StepTools.{below, leads_elsewhere}
use Rattle.rpc_machine_examples.proofs.TurningBack.{get_put_same}
use Rattle.rpc_machine_examples.proofs.FullAnswers.{no_fault, full_falls}
use Rattle.finite_maps.proofs.Tested.{get_put}

-- ---- Maps with the keys below a number

other : (k n : ℕ) → suc n ≤ k → eq_by_cmp nat_cmp k n ≡ false
other k n h = grind (arith)

unused : {X : Type 0} (f : ℕ → X) (n k : ℕ) → n ≤ k → look k (up_to f n) ≡ None
unused f zero k h = refl
unused f (suc n) k h = ap (λ b. cond b (Some (f n)) (look k (up_to f n))) (other k n h) ∙ unused f n k (omega arith)

is_free : {X : Type 0} (f : ℕ → X) (n : ℕ) → map.get (m (up_to f n)) n ≡ None
is_free f n = found (up_to f n) n ∙ unused f n n (omega arith)

many : {X : Type 0} (f : ℕ → X) (n : ℕ) → map.len (m (up_to f n)) ≡ n
many f zero = map.len-empty nat_cmp _
many f (suc n) =
    let r = many f n in
    map.len-insert nat_cmp_total (m (up_to f n)) n (f n) ∙ ap (λ o. cond (is_some o) (map.len (m (up_to f n))) (map.len (m (up_to f n)) + 1)) (is_free f n) ∙ omega arith

once : {A : Type 0} (b : Bool) (x y z : A) → cond b x (cond b y z) ≡ cond b x z
once true x y z = refl
once false x y z = refl

put_twice : {X : Type 0} (s : Map X) (k : ℕ) (x y : X) → map.insert (map.insert s k x) k y ≡ map.insert s k y
put_twice s k x y = map.same_map nat_cmp_total map.nat_cmp-IsAntisymmetric _ _ (λ q. get_put (map.insert s k x) k y q ∙ ap (cond (nat_eq q k) (Some y)) (get_put s k x q) ∙ once (nat_eq q k) (Some y) (Some x) (map.get s q) ∙ sym (get_put s k y q))

abbrev Each : {X : Type 0} → (X → Type 0) → List (ℕ × X) → Type 0
Each P [] = Unit {0}
Each P (e ∷ es) = P e.1 × Each P es

each_put : {X : Type 0} (P : X → Type 0) (k : ℕ) (v : X) (es : List (ℕ × X)) → P v → Each P es → Each P (put nat_cmp k v es)
each_put P k v [] h a = (h, tt)
each_put {X} P k v (e ∷ es) h a = by (nat_cmp k e.0) (each_put P k v es h a.1)
  where
    by : (o : Ordering) → Each P (put nat_cmp k v es) → Each P (by_order o ((k, v) ∷ e ∷ es) ((e.0, v) ∷ es) (e ∷ put nat_cmp k v es))
    by Less r = (h, a)
    by Equal r = (h, a.1)
    by Greater r = (a.0, r)

each_of : {X : Type 0} (P : X → Type 0) (f : ℕ → X) → ((k : ℕ) → P (f k)) → (n : ℕ) → Each P (puts (up_to f n))
each_of P f h zero = tt
each_of P f h (suc n) = each_put P n (f n) (puts (up_to f n)) (h n) (each_of P f h n)

-- ---- Nothing goes

-- The outcome is that of the answer with its own id.
abbrev Held : ℕ → Option AnswerEntry → Option KeptOutcome → Type 0
Held k a None = Unit {0}
Held k a (Some x) = (x.caller ≡ caller.Peer (question_id k)) × ¬ (AnswerIsOther k a)

held_more : (n k : ℕ) (a : AnswerEntry) → a.outcome ≡ n → Held k (look k (up_to answer n)) (look k (up_to outcome n)) → Held k (look k ((n, a) ∷ up_to answer n)) (look k ((n, outcome n) ∷ up_to outcome n))
held_more n k a e h =
    elim (eq_by_cmp nat_cmp k n) as (λ b. eq_by_cmp nat_cmp k n ≡ b → Held k (cond b (Some a) (look k (up_to answer n))) (cond b (Some (outcome n)) (look k (up_to outcome n)))) [
      | true ↦ λ t. subst (λ j. Held j (Some a) (Some (outcome n))) (tied k n t) (refl, λ d. d e)
      | false ↦ λ t. h
    ] refl

held_all : (n k : ℕ) → Held k (look k (up_to answer n)) (look k (up_to outcome n))
held_all zero k = tt
held_all (suc n) k = held_more n k (answer n) refl (held_all n k)

stays : (s : State) (k : ℕ) (x : Option KeptOutcome) → Held k (map.get s.answers k) x → ¬ (IsLooseOutcome s k x)
stays s k None h l = l
stays s k (Some x) h l = by x.value l
  where
    by : (v : Option Value) → IsLooseValue s k x v → ⊥
    by None l = l
    by (Some v) l = h.1 (subst (λ (c : Caller). CallerIsDone s k c) h.0 l.1)

tight_by : (s : State) (ans : List (ℕ × AnswerEntry)) (os : List (ℕ × KeptOutcome)) → s.promises ≡ m [] → s.imports ≡ m [] → s.answers ≡ m ans → s.outcomes ≡ m os → ((k : ℕ) → Held k (look k ans) (look k os)) → IsTight s
tight_by s ans os p i a o h = record {
  promises = λ k. subst (λ (x : Map Promise). ¬ (IsLoosePromise s k (map.get x k))) (sym p) (at_each (λ j x. ¬ (IsLoosePromise s j x)) [] (λ j l. l) tt k);
  outcomes = λ k.
      stays s k (map.get s.outcomes k)
      (subst (λ (x : Option AnswerEntry). Held k x (map.get s.outcomes k)) (sym (ap (λ (x : Map AnswerEntry). map.get x k) a ∙ found ans k))
      (subst (λ (x : Option KeptOutcome). Held k (look k ans) x) (sym (ap (λ (x : Map KeptOutcome). map.get x k) o ∙ found os k)) (h k)));
  imports = λ k. subst (λ (x : Map Import). ¬ (IsLooseImport s k (map.get x k))) (sym i) (at_each (λ j x. ¬ (IsLooseImport s j x)) [] (λ j l. l) tt k);
}

tight_many : (n : ℕ) → IsTight (asked_often n)
tight_many n = tight_by (asked_often n) (up_to answer n) (up_to outcome n) refl refl refl refl (held_all n)

none_asked : (n : ℕ) → NothingOver (asked_often n)
none_asked n = at_each (λ q x. ¬ (IsToFinish (asked_often n) q x)) [] (λ k h. h) tt

-- ---- One Bootstrap more

abbrev opened : ℕ → AnswerEntry
opened n = record { outcome = n; taken = []; returned = None; finished = false }

abbrev export : ℕ → Export
export n = record { node = object; count = n }

-- The answer opens; its outcome is known; the object is exported once more; the Return is sent; nothing waited.
abbrev t1 : ℕ → State
t1 n = record (asked_often n) { outcomes = map.insert (asked_often n).outcomes n (for_peer n None); answers = map.insert (asked_often n).answers n (opened n) }

abbrev t2 : ℕ → State
t2 n = record (t1 n) { outcomes = map.insert (t1 n).outcomes n (outcome n) }

abbrev t3 : ℕ → State
t3 n = record (t2 n) { exports = map.insert (t2 n).exports 0 (export (n + 1)) }

abbrev t4 : ℕ → State
t4 n = record (t3 n) { answers = map.insert (t3 n).answers n (answer n) }

abbrev t5 : ℕ → State
t5 n = record (t4 n) { outcomes = map.insert (t4 n).outcomes n (outcome n) }

tight_then : (n : ℕ) → IsTight (t3 n)
tight_then n = tight_by (t3 n) ((n, opened n) ∷ up_to answer n) ((n, outcome n) ∷ up_to outcome n) refl refl refl (put_twice (m (up_to outcome n)) n (for_peer n None) (outcome n)) (λ k. held_more n k (opened n) refl (held_all n k))

exports_are : (n : ℕ) (c : Export) → map.insert (m (given_often n)) 0 c ≡ m ((0, c) ∷ [])
exports_are zero c = refl
exports_are (suc n) c = put_twice (m []) 0 (export (suc n)) c

one_on : (n : ℕ) → n + 1 ≡ suc n
one_on n = omega arith

exports_more : (n : ℕ) → (t3 n).exports ≡ m (given_often (suc n))
exports_more n = exports_are n (export (n + 1)) ∙ ap (λ k. m ((0, export k) ∷ [])) (one_on n)

outcomes_more : (n : ℕ) → (t5 n).outcomes ≡ m (up_to outcome (suc n))
outcomes_more n = put_twice (map.insert (m (up_to outcome n)) n (for_peer n None)) n (outcome n) (outcome n) ∙ put_twice (m (up_to outcome n)) n (for_peer n None) (outcome n)

one_more : (n : ℕ) → t5 n ≡ asked_often (suc n)
one_more n = λ i. record b_new { answers = put_twice (m (up_to answer n)) n (opened n) (answer n) i; outcomes = outcomes_more n i; exports = exports_more n i }

exported : (n : ℕ) → ExportedAs (t2 n) object 0 (map.get (m (given_often n)) 0) (t3 n)
exported zero = subst (λ (o : Option Export). ExportedAs (t2 0) object 0 o (t3 0)) (sym (found [] 0)) ((λ e. subst (λ (o : Option Export). IsOther object o) (sym (found [] e)) tt), refl)
exported (suc n) = subst (λ (o : Option Export). ExportedAs (t2 (suc n)) object 0 o (t3 (suc n))) (sym (found ((0, export (suc n)) ∷ []) 0)) (refl, refl)

takes : (n : ℕ) → Takes (begin (asked_often n)) (bootstrap_message n) (progress (t5 n) (sending (root_return n ∷ [])))
takes n =
    let x : Effects = sending (root_return n ∷ []) in
    let opening : Progress = progress (t1 n) (sending []) in
    let knowing : Progress = progress (t2 n) (sending []) in
    let told : Progress = progress (t4 n) x in
    let all : Progress = progress (t5 n) x in
    let described : Described (t2 n) _ root_descriptor (t3 n) = subst (λ (y : Node). Described (t2 n) y root_descriptor (t3 n)) (sym (settles_here (t2 n) object refl)) (0, refl, exported n) in
    let tells : TellsPeer knowing (question_id n) root_value (map.get (t2 n).answers n) told =
    subst (λ (o : Option AnswerEntry). TellsPeer knowing (question_id n) root_value o told) (sym (get_put_same (m (up_to answer n)) n (opened n)))
    (body.Results bootstrap_payload (root_descriptor ∷ []), root_descriptor ∷ [], t3 n, (refl, (t3 n, described, refl)), (progress (t3 n) (sending []), Tight (tight_then n), refl)) in
    let es : map.entries (t3 n).exports ≡ (0, export (n + 1)) ∷ [] = ap map.entries (exports_are n (export (n + 1))) ∙ entries_of ((0, export (n + 1)) ∷ []) in
    let resolved : ResolvesEach all None (exports_where (is_field n) (map.entries (t3 n).exports)) all = subst (λ (xs : List (ℕ × Export)). ResolvesEach all None (exports_where (is_field n) xs) all) (sym es) refl in (
      n,
      is_free outcome n,
      subst (λ (o : Option KeptOutcome). SettlesFrom opening n root_value o all) (sym (get_put_same (m (up_to outcome n)) n (for_peer n None))) (
        root_value,
        t1 n,
        (object ∷ [], refl, ([], t1 n, (refl, refl), inl (leads_elsewhere (behind (t1 n) n (for_peer n None).caller (for_peer n None).waiting bootstrap_payload 0 []) n bootstrap_payload 0 object refl refl, refl, refl))),
        (told, tells, (all, refl, resolved)),
      ),
    )

-- ---- No limit is passed

unheld : (es : List (ℕ × KeptOutcome)) → Each (λ x. x.waiting ≡ []) es → tally_of held_for_outcome es ≡ 0
unheld [] h = refl
unheld (e ∷ es) h = rw (h.0, unheld es h.1) refl

none_held : (n : ℕ) → held (asked_often n) ≡ 0
none_held n =
    let a : tally held_for_outcome (asked_often n).outcomes ≡ 0 = ap (tally_of held_for_outcome) (entries_of (up_to outcome n)) ∙ unheld (puts (up_to outcome n)) (each_of (λ x. x.waiting ≡ []) outcome (λ q. refl) n) in
    let b : tally held_for_promise (asked_often n).promises ≡ 0 = ap (tally_of held_for_promise) entries_empty in
    let c : tally held_under (asked_often n).embargoes ≡ 0 = ap (tally_of held_under) entries_empty in
    omega arith

upto : (a b : ℕ) → a ≡ 0 → a ≤ b
upto a b e = omega arith

few : (n : ℕ) → n ≤ table_limit → n < count_limit
few n h = let k = below 4096 count_limit refl in omega arith

counts_small : (n : ℕ) → n ≤ table_limit → AtEach (λ j o. export_count o < count_limit) (given_often n)
counts_small zero h = tt
counts_small (suc n) h = (few (suc n) h, tt)

within : (n : ℕ) → n ≤ table_limit → IsWithin (asked_often n)
within n h = record {
  questions = upto _ table_limit (map.len-empty nat_cmp Question);
  answers = subst (λ k. k ≤ table_limit) (sym (many answer n)) h;
  imports = upto _ table_limit (map.len-empty nat_cmp Import);
  exports = exports_few n;
  embargoes = upto _ table_limit (map.len-empty nat_cmp Embargo);
  held = upto _ held_limit (none_held n);
  import_counts = λ e. subst (λ (o : Option Import). import_count o < count_limit) (sym (found [] e)) (below 0 count_limit refl);
  export_counts = at_each (λ j o. export_count o < count_limit) (given_often n) (λ j. below 0 count_limit refl) (counts_small n h);
  refs = below 0 number_limit refl;
  calls = below 0 number_limit refl;
  tasks = below 0 number_limit refl;
  promises = below 0 number_limit refl;
  made = λ r. subst (λ (o : Option Reference). made_through o < number_limit) (sym (found [] r)) (below 0 number_limit refl);
}
  where
    exports_few : (n : ℕ) → map.len (m (given_often n)) ≤ table_limit
    exports_few zero = upto _ table_limit (map.len-empty nat_cmp Export)
    exports_few (suc n) = subst (λ k. k ≤ table_limit) (sym (map.len-entries (m (given_often (suc n))) ∙ ap length (entries_of (given_often (suc n))))) (omega arith)

each : (n : ℕ) → n < table_limit → Receives (asked_often n) (bootstrap_message n) (sending (root_return n ∷ [])) (asked_often (suc n))
each n h =
    let x : Effects = sending (root_return n ∷ []) in
    IsHandled refl (no_fault (asked_often n) (question_id n) (is_free answer n))
    (record {
      taken = progress (asked_often (suc n)) x;
      takes = subst (λ (s : State). Takes (begin (asked_often n)) (bootstrap_message n) (progress s x)) (one_more n) (takes n);
      ends = quiet_ends (asked_often (suc n)) x (tight_many (suc n)) (none_asked (suc n));
    })
    (within (suc n) (omega arith))

pub full_answers_fall : FullAnswersFall
full_answers_fall = record {
  each_is_answered = each;
  full_falls = full_falls;
  next_falls = λ n x new e h. full_falls (asked_often n) (question_id n) x new refl (many answer n ∙ e) (is_free answer n) h;
}
