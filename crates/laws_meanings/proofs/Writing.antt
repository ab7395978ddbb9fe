-- The numbers that a command is given are new in the history, what it settles is not settled there, and what it answers not
-- answered; so its entry is the first that says so.
use Rattle.std.proofs.Common.{◌≡◌, ℕ, zero, suc, ◌≤◌, ◌<◌, Bool, true, false, not, ◌&&◌, nat_eq, Option, None, Some, is_some, List, [], ◌∷◌, ◌++◌, length, refl, sym, ap, subst, ◌∙◌, arith}
use Rattle.std.specs.FinMap as finmap
use Rattle.std.specs.List.{slice_get, list_all}
use Rattle.finite_maps.proofs.Tested.{itself}
use Rattle.rpc_msg.specs.declared.ids.Vat.{Vat}
use Rattle.rpc_msg.specs.declared.ids.RefId.{RefId}
use Rattle.rpc_msg.specs.declared.ids.Stamp.{Stamp}
use Rattle.rpc_msg.specs.declared.ids.TaskId.{TaskId}
use Rattle.rpc_msg.specs.declared.ids.ObjectId.{ObjectId}
use Rattle.rpc_msg.specs.Payloads.{Contents as Payload}
use Rattle.rpc_journal.specs.declared.report.Outcome.TheVariants as outcome
use Rattle.rpc_journal.specs.declared.entry.Origin.{Origin}
use Rattle.rpc_journal.specs.declared.entry.Origin.TheVariants as origin
use Rattle.rpc_journal.specs.declared.entry.MadeCall.{MadeCall}
use Rattle.rpc_journal.specs.declared.entry.JournalEntry.{JournalEntry}
use Rattle.rpc_journal.specs.declared.entry.JournalEntry.TheVariants as entry
use Rattle.rpc_journal.specs.History.{same_vat, or_rest, if_so, stamp_of, made_one, made_with}
use Rattle.rpc_journal.specs.Sources.{OfBootstrap, OfCall, asking, source_of_origin, source_one, source, Fate, FixedTo, WasRejected, fate_one, fate}
use Rattle.rpc_machine.specs.declared.entries.Reference.{Reference}
use Rattle.rpc_machine.specs.declared.command.CallCommand.{CallCommand}
use Rattle.rpc_machine.specs.declared.command.Command.{Command}
use Rattle.rpc_machine.specs.declared.command.Command.TheVariants as command
use Rattle.rpc_machine.specs.declared.command.Granted.{Granted}
use Rattle.rpc_machine.specs.declared.command.Granted.TheVariants as granted
use Rattle.rpc_machine.specs.declared.command.Refusal.TheVariants as refusal
use Rattle.rpc_machine.specs.State.{State}
use Rattle.rpc_machine.specs.Commands.{request}
use Rattle.rpc_machine.specs.Lists.{is_empty}
use Rattle.rpc_machine.specs.Refusals.{is_known_ref, while_down, wrong_level, wrong_caps, unknown_ref, unknown_task, without_room, refused}
use Rattle.rpc_machine.specs.World.{core}
use Rattle.rpc_machine.specs.Journal.{index_in, granted_entries}
use Rattle.rpc_machine.specs.Claims.{AreNumbered, history}
use Rattle.laws_acts.specs.Moments.{Moment, beginning}
use Rattle.laws_acts.specs.FirstActs.{Starts}
use Rattle.laws_acts.specs.FirstActs as first
use Rattle.laws_acts.proofs.EachStep.{done}
use Rattle.laws_acts.proofs.Checks as checks
use Rattle.laws_runs.specs.Scenes.{Scene, IsScene}
use Rattle.laws_runs.specs.MadeCalls.{NumbersItsCalls}
use Rattle.laws_runs.proofs.Reading as reading
use Rattle.laws_runs.proofs.Counting.{scenes_count}
use Rattle.laws_messages.proofs.Filled.{same_count}
use Rattle.laws_meanings.specs.Bootstraps.{NumbersAreAsked}
use Rattle.laws_meanings.specs.CommandMeanings.{AnswersWith, IsWritten, IsWrittenOpen}
use Rattle.laws_meanings.specs.Fates.{PromisesAreOpen}
use Rattle.laws_meanings.specs.OnePlace.{deliveries_of}
use Rattle.laws_meanings.specs.Tasks.{times_answered, TasksAreOpen}
use Rattle.laws_meanings.specs.WrittenCommands.{Opens, NamesItsCaps, CommandsAreWritten}
use Rattle.laws_meanings.proofs.Entries.{nothing_before}
use Rattle.laws_meanings.proofs.Given.{given, from_nowhere}
use Rattle.laws_meanings.proofs.Giving.{none_to_come}
use Rattle.laws_meanings.proofs.Asking.{next_is}
use Rattle.laws_meanings.proofs.Placed.{entries-append}
use Rattle.laws_meanings.proofs.Placing.{at_one_place, own_none}
use Rattle.laws_meanings.proofs.Replies.{answered_by}
use Rattle.laws_meanings.proofs.Stamped.{is_unused, same_itself, numbered_in}

-- ---- What is known of a command that is not refused

is_there : (o : Option Reference) → is_some o ≡ true → (x : Reference) × (o ≡ Some x)
is_there None e = absurd (let bad : false ≡ true = e in cc)
is_there (Some x) e = (x, refl)

all_known : (s : State) (rs : List RefId) → list_all (is_known_ref s) rs ≡ true → (i : ℕ) (r : RefId) → slice_get rs i ≡ Some r → (x : Reference) × (finmap.get s.refs r.0 ≡ Some x)
all_known s [] e i r f = let bad : ◌≡◌ {A = Option RefId} None (Some r) = f in cc
all_known s (y ∷ ys) e i r f = by (λ w j. all_known s ys w j r) (is_known_ref s y) refl e i f
  where
    by : (list_all (is_known_ref s) ys ≡ true → (j : ℕ) → slice_get ys j ≡ Some r → (x : Reference) × (finmap.get s.refs r.0 ≡ Some x)) → (b : Bool) → is_known_ref s y ≡ b → (b && list_all (is_known_ref s) ys) ≡ true → (i : ℕ) → slice_get (y ∷ ys) i ≡ Some r → (x : Reference) × (finmap.get s.refs r.0 ≡ Some x)
    by rest true g e zero f = let same : y ≡ r = cc in subst (λ (z : RefId). (x : Reference) × (finmap.get s.refs z.0 ≡ Some x)) same (is_there (finmap.get s.refs y.0) g)
    by rest true g e (suc i) f = rest e i f
    by rest false g e i f = absurd (let bad : false ≡ true = e in cc)

not_not : (b : Bool) → not b ≡ false → b ≡ true
not_not true e = refl
not_not false e = let bad : true ≡ false = e in cc

known_refs : (s : State) (rs : List RefId) → unknown_ref s rs ≡ None → (i : ℕ) (r : RefId) → slice_get rs i ≡ Some r → (x : Reference) × (finmap.get s.refs r.0 ≡ Some x)
known_refs s rs e = all_known s rs (not_not (list_all (is_known_ref s) rs) (checks.not_so (not (list_all (is_known_ref s) rs)) refusal.UnknownRef e))

at_place : (rs : List RefId) (i : ℕ) → i < length rs → (r : RefId) × (slice_get rs i ≡ Some r)
at_place [] i l = absurd (omega arith)
at_place (r ∷ rs) zero l = (r, refl)
at_place (r ∷ rs) (suc i) l = at_place rs i (omega arith)

answers_with : (s : State) (t : TaskId) (payload : Payload) (refs : List RefId) → NamesItsCaps → refused s (command.Answer t payload refs) ≡ None → AnswersWith s payload refs
answers_with s t payload refs names r =
    let last = without_room s (command.Answer t payload refs) ∷ [] in
    let four = wrong_caps payload refs ∷ last in
    let three = unknown_task s t.0 ∷ four in
    let two = unknown_ref s refs ∷ three in
    let one = wrong_level s (not (is_empty refs)) ∷ two in
    let a = checks.rest (wrong_level s (not (is_empty refs))) two (checks.rest (while_down s (command.Answer t payload refs)) one r) in
    let b = checks.rest (unknown_task s t.0) four (checks.rest (unknown_ref s refs) three a) in
    let n = same_count payload refs (checks.first (wrong_caps payload refs) last b) in
    record { there = known_refs s refs (checks.first (unknown_ref s refs) three a); named = λ path i e. let l = names payload path i e in at_place refs i (omega arith) }

calls_known : (s : State) (k : CallCommand) → refused s (command.Call k) ≡ None → (i : ℕ) (r : RefId) → slice_get k.refs i ≡ Some r → (x : Reference) × (finmap.get s.refs r.0 ≡ Some x)
calls_known s k r i =
    let last = without_room s (command.Call k) ∷ [] in
    let three = wrong_caps k.payload k.refs ∷ last in
    let two = unknown_ref s (k.reference ∷ k.refs) ∷ three in
    let one = wrong_level s (not (is_empty k.refs)) ∷ two in
    let a = checks.rest (wrong_level s (not (is_empty k.refs))) two (checks.rest (while_down s (command.Call k)) one r) in
    known_refs s (k.reference ∷ k.refs) (checks.first (unknown_ref s (k.reference ∷ k.refs)) three a) (suc i)

-- ---- What is written

module _ (a b : Option ObjectId) (h : List JournalEntry) (v : Vat) (s : State) where
  with_own : Command → Granted → List JournalEntry
  with_own c g = h ++ granted_entries h v c g

  -- What the history says before.
  abbrev pub Before : Type 0
  Before =
      (given v s.next_ref h ≡ 0) × (asking h v s.next_call ≡ None) × ((k p : ℕ) → finmap.get s.unsettled k ≡ Some p → fate h v k ≡ None)
      × ((t o : ℕ) → finmap.get s.tasks t ≡ Some o → times_answered v t h ≡ 0) × ((c : Command) (g : Granted) (z : Stamp) → deliveries_of z (h ++ granted_entries h v c g) ≤ 1)
      × AreNumbered h × NumbersItsCalls v s h

  module _ (n : Before) where
    next_born : (o : Origin) → source (h ++ entry.Born v (record { 0 = s.next_ref }) o ∷ []) (record { vat = v; number = s.next_ref }) ≡ Some (source_of_origin o)
    next_born o =
        nothing_before (source_one (record { vat = v; number = s.next_ref })) h (entry.Born v (record { 0 = s.next_ref }) o ∷ []) (from_nowhere v s.next_ref h n.0)
        ∙ by (same_vat v v) (nat_eq s.next_ref s.next_ref) (reading.itself v) (itself s.next_ref)
      where
        by : (y z : Bool) → y ≡ true → z ≡ true → or_rest (if_so (y && z) (source_of_origin o)) None ≡ Some (source_of_origin o)
        by y z e f = rw (e, f) refl

    first_fate : (p key : ℕ) (y : JournalEntry) (f : Fate) → finmap.get s.unsettled p ≡ Some key → fate_one v p y ≡ if_so (same_vat v v && nat_eq p p) f → fate (h ++ y ∷ []) v p ≡ Some f
    first_fate p key y f e says =
        nothing_before (fate_one v p) h (y ∷ []) (n.2 p key e) ∙ ap (λ (o : Option Fate). or_rest o None) says ∙ by (same_vat v v) (nat_eq p p) (reading.itself v) (itself p)
      where
        by : (y z : Bool) → y ≡ true → z ≡ true → or_rest (if_so (y && z) f) None ≡ Some f
        by y z e f = rw (e, f) refl

    abbrev Written : Command → Granted → Type 0
    Written c g = IsWritten (history a b (h ++ granted_entries h v c g)) v s c

    written : NamesItsCaps → (c : Command) (g : Granted) (new : Moment) → refused s c ≡ None → Starts (beginning s) c g new → Written c g
    written names c g new r (first.Hosts o e f u) = rw (e, f) (next_born (origin.Object o))
    written names c g new r (first.Clones y x e i f u) = rw (e, f) (next_born (origin.Clone y))
    written names c g new r (first.NamesField y path from e i f u) = rw (e, f) (next_born (origin.Field y path))
    written names c g new r (first.Promises p e i f u) = rw e tt
    written names c g new r (first.Drops y x e i f u) = rw e tt
    written names c g new r (first.AsksRoot q e i f u) = rw e tt
    written names c g new r (first.CallsOut y x q t ds es e i j l m o f u) = rw e tt
    written names c g new r (first.CallsHere y x o e i j l m f u) = rw e tt
    written names c g new r (first.CallsLater y x o z w e i j l m f u) = rw e tt
    written names c g new r (first.Fixes p y x key calls e i j l f u) = rw e (first_fate p.0 key (entry.Resolved v p y) (FixedTo (record { vat = v; number = y.0 })) j refl)
    written names c g new r (first.Rejects p why key calls e i j f u) = rw e (first_fate p.0 key (entry.Rejected v p why) WasRejected i refl)
    written names c g new r (first.Answers t payload refs o e i f u) =
        let w = answers_with s t payload refs names (subst (λ (d : Command). refused s d ≡ None) e r) in
        rw e (w, λ z j. answered_by h (entry.Answered v t (outcome.Results payload) refs ∷ []) v t z (outcome.Results payload) refs refl j (n.4 (command.Answer t payload refs) g z) (n.3 t.0 o i))
    written names c g new r (first.Fails t why o e i f u) =
        rw e (λ z j. answered_by h (entry.Answered v t (outcome.Exception why) [] ∷ []) v t z (outcome.Exception why) [] refl j (n.4 (command.Fail t why) g z) (n.3 t.0 o i))
    written names c g new r (first.Finishes y from e i f u) = rw e tt
    written names c g new r (first.StaysPut y x e i f u) = rw e tt
    written names c g new r (first.Breaks y x reason e i j l f u) = rw e tt
    written names c g new r (first.Switches y x by m e i j l k o f u) = rw e tt
    written names c g new r (first.Turns y x by m t z e i j l k o w q f u) = rw e tt

    -- ---- What opens a call, a Bootstrap or a promise

    call_written : (k : CallCommand) → refused s (command.Call k) ≡ None → IsWrittenOpen (history a b (h ++ granted_entries h v (command.Call k) (granted.Call (record { 0 = s.next_call })))) v s (command.Call k)
    call_written k r = (calls_known s k r, λ x f. by x (n.6.stamps k x f))
      where
        m : MadeCall
        m = record { reference = k.reference; index = index_in h v k.reference; call = record { 0 = s.next_call }; interface = k.interface; method = k.method; payload = k.payload; refs = k.refs }

        all : List JournalEntry
        all = h ++ entry.Made v m ∷ []

        by : (x : Reference) → (request s k x).stamp ≡ stamp_of v m → (asking all v s.next_call ≡ Some (OfCall (request s k x).stamp)) × ((y : MadeCall) × (made_with all (request s k x).stamp ≡ Some y) × (y.refs ≡ k.refs))
        by x f = (
          next_is v h s.next_call (entry.Made v m) (OfCall (stamp_of v m)) n.1 refl ∙ ap (λ (z : Stamp). Some (OfCall z)) (sym f),
          (m, ap (made_with all) f ∙ nothing_before (made_one (stamp_of v m)) h (entry.Made v m ∷ []) (is_unused h v k n.5) ∙ ap (λ (y : Bool). or_rest (if_so y m) None) (same_itself (stamp_of v m)), refl),
        )

    abbrev Opened : Command → Granted → Type 0
    Opened c g = IsWrittenOpen (history a b (h ++ granted_entries h v c g)) v s c

    of_call : (c : Command) (g : Granted) (k : CallCommand) → refused s c ≡ None → c ≡ command.Call k → g ≡ granted.Call (record { 0 = s.next_call }) → Opened c g
    of_call c g k r e f = let q = subst (λ (d : Command). refused s d ≡ None) e r in rw (e, f) (call_written k q)

    not_open : (c d : Command) → c ≡ d → Opens c → (Opens d → ⊥) → ⊥
    not_open c d e o f = f (subst Opens e o)

    opened : (c : Command) (g : Granted) (new : Moment) → refused s c ≡ None → Starts (beginning s) c g new → Opens c → Opened c g
    opened c g new r (first.AsksRoot q e i f u) op = rw (e, f) (next_is v h s.next_call _ OfBootstrap n.1 refl)
    opened c g new r (first.CallsOut y x q t ds es e i j l m o f u) op = of_call c g y r e f
    opened c g new r (first.CallsHere y x o e i j l m f u) op = of_call c g y r e f
    opened c g new r (first.CallsLater y x o z w e i j l m f u) op = of_call c g y r e f
    opened c g new r (first.Promises p e i f u) op = rw (e, f) (next_born (origin.Promise (record { 0 = s.next_promise })))
    opened c g new r (first.Hosts o e f u) op = absurd (not_open c _ e op (λ z. z))
    opened c g new r (first.Clones y x e i f u) op = absurd (not_open c _ e op (λ z. z))
    opened c g new r (first.NamesField y path from e i f u) op = absurd (not_open c _ e op (λ z. z))
    opened c g new r (first.Drops y x e i f u) op = absurd (not_open c _ e op (λ z. z))
    opened c g new r (first.Fixes p y x key calls e i j l f u) op = absurd (not_open c _ e op (λ z. z))
    opened c g new r (first.Rejects p why key calls e i j f u) op = absurd (not_open c _ e op (λ z. z))
    opened c g new r (first.Answers t payload refs o e i f u) op = absurd (not_open c _ e op (λ z. z))
    opened c g new r (first.Fails t why o e i f u) op = absurd (not_open c _ e op (λ z. z))
    opened c g new r (first.Finishes y from e i f u) op = absurd (not_open c _ e op (λ z. z))
    opened c g new r (first.StaysPut y x e i f u) op = absurd (not_open c _ e op (λ z. z))
    opened c g new r (first.Breaks y x reason e i j l f u) op = absurd (not_open c _ e op (λ z. z))
    opened c g new r (first.Switches y x by m e i j l k o f u) op = absurd (not_open c _ e op (λ z. z))
    opened c g new r (first.Turns y x by m t z e i j l k o w q f u) op = absurd (not_open c _ e op (λ z. z))

-- ---- Scenes

delivered_one : (a b : Option ObjectId) (x : Scene) (v : Vat) → IsScene a b x → (c : Command) (g : Granted) (z : Stamp) → deliveries_of z (x.journal ++ granted_entries x.journal v c g) ≤ 1
delivered_one a b x v i c g z =
    let e = entries-append z x.journal (granted_entries x.journal v c g) in
    let f = own_none z x.journal v c g in
    let p = at_one_place a b x i z in
    omega arith

pub commands_written : NamesItsCaps → NumbersAreAsked → TasksAreOpen → PromisesAreOpen → CommandsAreWritten
commands_written names asked tasks promises a b x v c g e t i up r d =
    let s = core x.world v in
    let n : Before a b x.journal v s = (none_to_come a b x i v, (asked a b x i v).later s.next_call (omega arith), promises a b x i v up, λ k o f. (tasks a b x i v up k o f).1, delivered_one a b x v i, numbered_in a b x i, scenes_count a b x i v) in
    let k = done (λ (m : Moment). Written a b x.journal v s n c g × (Opens c → Opened a b x.journal v s n c g)) s c g e t (λ new j. (written a b x.journal v s n names c g new r j, opened a b x.journal v s n c g new r j)) (λ p q z w. z) d in
    k.holds
