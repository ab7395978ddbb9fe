-- The one order of two logs, walked: each entry is an event of the run so far, and its piece is what that event writes.
use Rattle.std.proofs.Common.{◌≡◌, ℕ, Bool, true, false, Option, None, Some, List, [], ◌∷◌, ◌++◌, length, map, take, drop, append-nil, append_assoc, refl, sym, ap, subst, ◌∙◌}
use Rattle.rpc_msg.specs.declared.ids.Vat.{Vat}
use Rattle.rpc_msg.specs.declared.ids.Vat.TheVariants.{A, B}
use Rattle.rpc_msg.specs.declared.ids.ObjectId.{ObjectId}
use Rattle.rpc_msg.specs.declared.message.Message.{Message}
use Rattle.rpc_journal.specs.declared.entry.JournalEntry.{JournalEntry}
use Rattle.rpc_machine.specs.declared.command.Command.{Command}
use Rattle.rpc_machine.specs.declared.command.Effects.{Effects}
use Rattle.rpc_machine.specs.declared.command.Level.TheVariants.{One}
use Rattle.rpc_machine.specs.State.{State, start}
use Rattle.rpc_machine.specs.Laws.{OfEachStep}
use Rattle.rpc_machine.specs.World.{World, StepAnswer, Answered, Handled, Empty, Happening, Happens, Run, Tells, overflown, new_world}
use Rattle.rpc_machine.specs.Journal.{event_entries, journal_from, journal}
use Rattle.laws_merge.specs.Machine as weave
use Rattle.laws_merge.specs.Machine.{Input, Shut, Receive, Takes}
use Rattle.laws_merge.specs.Logs as logs
use Rattle.laws_merge.specs.Logs.{messages, received, made_by, IsBeginningOf}
use Rattle.laws_merge.specs.Merge.{view_by}
use Rattle.laws_merge.specs.Laws.{event_of}
use Rattle.laws_merge.specs.declared.merge.OneOf.{OneOf}
use Rattle.laws_merge.specs.declared.merge.OneOf.TheVariants.{First, Second}
use Rattle.link_rings.specs.declared.entry.Entry.{Entry}
use Rattle.link_rings.specs.Logs.{party, entry_of}
use Rattle.link_rings.specs.Gather.{order, IsExplained}
use Rattle.laws_ends.specs.Names.{KeepsNames}
use Rattle.laws_runs.specs.MadeCalls.{NumbersItsCalls, RunsCount}
use Rattle.laws_runs.specs.Sides.{vat_side, as_world, StepBy}
use Rattle.laws_runs.specs.Woven.{RunsAreRuns}
use Rattle.link_logs.specs.declared.note.Note.{Note}
use Rattle.link_logs.specs.Notes.{noted}
use Rattle.link_logs.specs.Steps.{Held, StepsSo, input_of, sends_of, entries_behind}
use Rattle.link_logs.specs.Pieces.{pieced, piece_of}
use Rattle.link_logs.specs.Orders.{happened_in, IsOneRun, OrdersAreRuns}

-- ---- Which vat it is

overflown_vat : (s : State) (o : Option ℕ) → (overflown s o).vat ≡ s.vat
overflown_vat s None = refl
overflown_vat s (Some n) = refl

told_vat : (effects told : Effects) (s new : State) (room : Bool) → Tells effects s room told new → new.vat ≡ s.vat
told_vat effects told s new true t = ap (λ (u : State). u.vat) t.1
told_vat effects told s new false t = ap (λ (u : State). u.vat) t.1 ∙ overflown_vat s s.down

keeps_vat : OfEachStep KeepsNames → (s t : State) (i : Input Command Message) (a : StepAnswer) (room : Bool) (ms : List Message) → StepBy s i (record { answer = a; had_room = room }) ms t → t.vat ≡ s.vat
keeps_vat law s t (weave.Command c) (Answered a told) room ms k = let h = k.0 in told_vat h.1 told h.2 t room h.5 ∙ (law.commands s c h.0 h.1 h.2 h.3).vat
keeps_vat law s t (weave.Command c) (Handled told) room ms k = absurd k
keeps_vat law s t (weave.Command c) Empty room ms k = absurd k
keeps_vat law s t Shut (Answered a told) room ms k = let h = k.0 in told_vat h.1 told h.2 t room h.5 ∙ (law.commands s _ h.0 h.1 h.2 h.3).vat
keeps_vat law s t Shut (Handled told) room ms k = absurd k
keeps_vat law s t Shut Empty room ms k = absurd k
keeps_vat law s t (Receive m) (Answered a told) room ms k = absurd k
keeps_vat law s t (Receive m) (Handled told) room ms k = let h = k.0 in told_vat h.0 told h.1 t room h.3 ∙ (law.messages s m h.0 h.1 h.2).vat
keeps_vat law s t (Receive m) Empty room ms k = absurd k

-- ---- Lists

front : {X : Type 0} (xs ys : List X) → take (length xs) (xs ++ ys) ≡ xs
front [] ys = refl
front (x ∷ xs) ys = ap (λ l. x ∷ l) (front xs ys)

behind : {X : Type 0} (xs ys : List X) → drop (length xs) (xs ++ ys) ≡ ys
behind [] ys = refl
behind (x ∷ xs) ys = behind xs ys

messages_append : {M : Type 0} (xs ys : List (logs.Frame M)) → messages (xs ++ ys) ≡ messages xs ++ messages ys
messages_append [] ys = refl
messages_append (x ∷ xs) ys = ap (λ l. x.message ∷ l) (messages_append xs ys)

-- ---- A run, and one event more

run_more : (w : World) (xs : List Happening) (mid : World) (x : Happening) (new : World) → Run w xs mid → Happens mid x new → Run w (xs ++ x ∷ []) new
run_more w [] mid x new ran h = (new, subst (λ (z : World). Happens z x new) ran h, refl)
run_more w (y ∷ ys) mid x new ran h = (ran.0, ran.1, run_more ran.0 ys mid x new ran.2 h)

journal_more : (h : List JournalEntry) (xs : List Happening) (x : Happening) → journal_from h (xs ++ x ∷ []) ≡ journal_from h xs ++ event_entries (journal_from h xs) x.event x.had_room x.answer
journal_more h [] x = refl
journal_more h (y ∷ ys) x = journal_more (h ++ event_entries h y.event y.had_room y.answer) ys x

-- ---- The walk

abbrev P : weave.Side Message Message
P = party input_of sends_of StepsSo

abbrev viewed : OneOf (Entry Note) (Entry Note) → OneOf (logs.Entry P) (logs.Entry P)
viewed x = view_by (entry_of input_of sends_of StepsSo) (entry_of input_of sends_of StepsSo) x

abbrev events : List (OneOf (Entry Note) (Entry Note)) → List (weave.Event P P)
events es = map event_of (map viewed es)

abbrev as_vats : weave.World P P → weave.World vat_side vat_side
as_vats w = record { a = w.a.core; b = w.b.core; to_a = w.to_a; to_b = w.to_b }

abbrev at : weave.World P P → World
at w = as_world (as_vats w)

-- What the ends write from here on.
abbrev rest_a : (w end : weave.World P P) (es : List (OneOf (Entry Note) (Entry Note))) → weave.Run P P w (events es) end → List JournalEntry
rest_a w end [] k = []
rest_a w end (First e ∷ es) k = (k.1.0.2).wrote ++ rest_a k.0 end es k.2
rest_a w end (Second e ∷ es) k = rest_a k.0 end es k.2

abbrev rest_b : (w end : weave.World P P) (es : List (OneOf (Entry Note) (Entry Note))) → weave.Run P P w (events es) end → List JournalEntry
rest_b w end [] k = []
rest_b w end (First e ∷ es) k = rest_b k.0 end es k.2
rest_b w end (Second e ∷ es) k = (k.1.0.2).wrote ++ rest_b k.0 end es k.2

end_a : (w end : weave.World P P) (es : List (OneOf (Entry Note) (Entry Note))) (k : weave.Run P P w (events es) end) → (end.a).journal ≡ (w.a).journal ++ rest_a w end es k
end_a w end [] k = ap (λ (z : weave.World P P). (z.a).journal) k ∙ sym (append-nil (w.a).journal)
end_a w end (First e ∷ es) k =
    end_a k.0 end es k.2 ∙ ap (λ (l : List JournalEntry). l ++ rest_a k.0 end es k.2) (k.1.0.2).journal ∙ append_assoc (w.a).journal (k.1.0.2).wrote (rest_a k.0 end es k.2)
end_a w end (Second e ∷ es) k = end_a k.0 end es k.2 ∙ ap (λ (h : Held). h.journal ++ rest_a k.0 end es k.2) k.1.1

end_b : (w end : weave.World P P) (es : List (OneOf (Entry Note) (Entry Note))) (k : weave.Run P P w (events es) end) → (end.b).journal ≡ (w.b).journal ++ rest_b w end es k
end_b w end [] k = ap (λ (z : weave.World P P). (z.b).journal) k ∙ sym (append-nil (w.b).journal)
end_b w end (First e ∷ es) k = end_b k.0 end es k.2 ∙ ap (λ (h : Held). h.journal ++ rest_b k.0 end es k.2) k.1.1
end_b w end (Second e ∷ es) k =
    end_b k.0 end es k.2 ∙ ap (λ (l : List JournalEntry). l ++ rest_b k.0 end es k.2) (k.1.0.2).journal ∙ append_assoc (w.b).journal (k.1.0.2).wrote (rest_b k.0 end es k.2)

abbrev begun : Vat → Option ObjectId → Held
begun v root = record { core = start v One root; journal = [] }

module _ (count : RunsCount) (runs : RunsAreRuns) (names : OfEachStep KeepsNames) where
  happens : (old new : weave.World P P) (x : OneOf (Entry Note) (Entry Note)) → weave.Happens P P old (event_of (viewed x)) new → Happens (at old) (happened_in x) (at new)
  happens old new (First e) k =
      let m : weave.Move vat_side = record { input = input_of e.note; note = noted (e.note).told; sends = sends_of e.note } in
      let r = runs (as_vats old) (as_vats new) (weave.AtA m ∷ []) (
        as_vats new,
        (
          (k.0.2).takes,
          ap (λ (h : Held). h.core) k.1,
          subst (λ (i : Input Command Message). Takes i old.to_a new.to_a) (sym k.0.0) k.2,
          k.3 ∙ ap (λ (ms : List Message). old.to_b ++ ms) (sym k.0.1),
        ),
        refl,
      ) in
      subst (λ (z : World). Happens (at old) (happened_in (First e)) z) (sym r.2) r.1
  happens old new (Second e) k =
      let m : weave.Move vat_side = record { input = input_of e.note; note = noted (e.note).told; sends = sends_of e.note } in
      let r = runs (as_vats old) (as_vats new) (weave.AtB m ∷ []) (
        as_vats new,
        (
          (k.0.2).takes,
          ap (λ (h : Held). h.core) k.1,
          subst (λ (i : Input Command Message). Takes i old.to_b new.to_b) (sym k.0.0) k.2,
          k.3 ∙ ap (λ (ms : List Message). old.to_a ++ ms) (sym k.0.1),
        ),
        refl,
      ) in
      subst (λ (z : World). Happens (at old) (happened_in (Second e)) z) (sym r.2) r.1

  module _ (root_a root_b : Option ObjectId) where
    -- The run so far, and which vats the two are.
    record SoFar (xs : List Happening) (w : weave.World P P) : Type 0 where
      ran : Run (new_world root_a root_b) xs (at w)
      vat_a : (w.a.core).vat ≡ A
      vat_b : (w.b.core).vat ≡ B

    record Walked (xs : List Happening) (end : weave.World P P) (es : List (OneOf (Entry Note) (Entry Note))) (left_a left_b : List JournalEntry) : Type 0 where
      ran : Run (new_world root_a root_b) (xs ++ map happened_in es) (at end)
      written : journal xs ++ pieced (map piece_of es) left_a left_b ≡ journal (xs ++ map happened_in es)

    wrote_a : (xs : List Happening) (w : weave.World P P) (e : Entry Note) (new : Held) → SoFar xs w → (k : StepsSo w.a e.note new) → k.wrote ≡ entries_behind (journal xs) A (e.note).told
    wrote_a xs w e new s k =
        let c : NumbersItsCalls A w.a.core (journal xs) = count root_a root_b xs (at w) s.ran A (k.takes).0 in
        k.wrote_is (journal xs) (subst (λ (v : Vat). NumbersItsCalls v w.a.core (journal xs)) (sym s.vat_a) c) ∙ ap (λ (v : Vat). entries_behind (journal xs) v (e.note).told) s.vat_a

    wrote_b : (xs : List Happening) (w : weave.World P P) (e : Entry Note) (new : Held) → SoFar xs w → (k : StepsSo w.b e.note new) → k.wrote ≡ entries_behind (journal xs) B (e.note).told
    wrote_b xs w e new s k =
        let c : NumbersItsCalls B w.b.core (journal xs) = count root_a root_b xs (at w) s.ran B (k.takes).0 in
        k.wrote_is (journal xs) (subst (λ (v : Vat). NumbersItsCalls v w.b.core (journal xs)) (sym s.vat_b) c) ∙ ap (λ (v : Vat). entries_behind (journal xs) v (e.note).told) s.vat_b

    -- One entry more.
    next : (xs : List Happening) (w mid : weave.World P P) (x : OneOf (Entry Note) (Entry Note)) → SoFar xs w → weave.Happens P P w (event_of (viewed x)) mid → SoFar (xs ++ happened_in x ∷ []) mid
    next xs w mid (First e) s k = record {
      ran = run_more (new_world root_a root_b) xs (at w) (happened_in (First e)) (at mid) s.ran (happens w mid (First e) k);
      vat_a = keeps_vat names w.a.core mid.a.core (input_of e.note) _ _ (sends_of e.note) ((k.0.2).takes).1 ∙ s.vat_a;
      vat_b = ap (λ (h : Held). (h.core).vat) k.1 ∙ s.vat_b;
    }
    next xs w mid (Second e) s k = record {
      ran = run_more (new_world root_a root_b) xs (at w) (happened_in (Second e)) (at mid) s.ran (happens w mid (Second e) k);
      vat_a = ap (λ (h : Held). (h.core).vat) k.1 ∙ s.vat_a;
      vat_b = keeps_vat names w.b.core mid.b.core (input_of e.note) _ _ (sends_of e.note) ((k.0.2).takes).1 ∙ s.vat_b;
    }

    -- Its piece, in front of what is written after it.
    in_front : (xs : List Happening) (x : Happening) (wrote more : List JournalEntry) (rest : List Happening) (taken after : List JournalEntry)
        → wrote ≡ event_entries (journal xs) x.event x.had_room x.answer → taken ≡ wrote → journal (xs ++ x ∷ []) ++ after ≡ journal ((xs ++ x ∷ []) ++ rest)
        → journal xs ++ (taken ++ after) ≡ journal (xs ++ x ∷ rest)
    in_front xs x wrote more rest taken after e f g =
        sym (append_assoc (journal xs) taken after)
        ∙ ap (λ (l : List JournalEntry). (journal xs ++ l) ++ after) (f ∙ e)
        ∙ ap (λ (l : List JournalEntry). l ++ after) (sym (journal_more [] xs x))
        ∙ g
        ∙ ap (λ (l : List Happening). journal l) (append_assoc xs (x ∷ []) rest)

    again : (xs : List Happening) (x : Happening) (rest : List Happening) (w : World) → Run (new_world root_a root_b) ((xs ++ x ∷ []) ++ rest) w → Run (new_world root_a root_b) (xs ++ x ∷ rest) w
    again xs x rest w h = subst (λ (l : List Happening). Run (new_world root_a root_b) l w) (append_assoc xs (x ∷ []) rest) h

    walk : (xs : List Happening) (w end : weave.World P P) (es : List (OneOf (Entry Note) (Entry Note))) → SoFar xs w → (k : weave.Run P P w (events es) end) → Walked xs end es (rest_a w end es k) (rest_b w end es k)
    walk xs w end [] s k = record {
      ran = subst (λ (l : List Happening). Run (new_world root_a root_b) l (at end)) (sym (append-nil xs)) (subst (λ (z : weave.World P P). Run (new_world root_a root_b) xs (at z)) (sym k) s.ran);
      written = append-nil (journal xs) ∙ ap (λ (l : List Happening). journal l) (sym (append-nil xs));
    }
    walk xs w end (First e ∷ es) s k =
        let x = happened_in (First e) in
        let step = k.1.0.2 in
        let more = rest_a k.0 end es k.2 in
        let l = walk (xs ++ x ∷ []) k.0 end es (next xs w k.0 (First e) s k.1) k.2 in
        let left : drop (e.note).entries (step.wrote ++ more) ≡ more = ap (λ (n : ℕ). drop n (step.wrote ++ more)) step.counted ∙ behind step.wrote more in record {
          ran = again xs x (map happened_in es) (at end) l.ran;
          written =
              ap (λ (left : List JournalEntry). journal xs ++ (take (e.note).entries (step.wrote ++ more) ++ pieced (map piece_of es) left (rest_b k.0 end es k.2))) left
              ∙ in_front xs x step.wrote more (map happened_in es) (take (e.note).entries (step.wrote ++ more)) (pieced (map piece_of es) more (rest_b k.0 end es k.2))
              (wrote_a xs w e k.0.a s step) (ap (λ (n : ℕ). take n (step.wrote ++ more)) step.counted ∙ front step.wrote more) l.written;
        }
    walk xs w end (Second e ∷ es) s k =
        let x = happened_in (Second e) in
        let step = k.1.0.2 in
        let more = rest_b k.0 end es k.2 in
        let l = walk (xs ++ x ∷ []) k.0 end es (next xs w k.0 (Second e) s k.1) k.2 in
        let left : drop (e.note).entries (step.wrote ++ more) ≡ more = ap (λ (n : ℕ). drop n (step.wrote ++ more)) step.counted ∙ behind step.wrote more in record {
          ran = again xs x (map happened_in es) (at end) l.ran;
          written =
              ap (λ (left : List JournalEntry). journal xs ++ (take (e.note).entries (step.wrote ++ more) ++ pieced (map piece_of es) (rest_a k.0 end es k.2) left)) left
              ∙ in_front xs x step.wrote more (map happened_in es) (take (e.note).entries (step.wrote ++ more)) (pieced (map piece_of es) (rest_a k.0 end es k.2) more)
              (wrote_b xs w e k.0.b s step) (ap (λ (n : ℕ). take n (step.wrote ++ more)) step.counted ∙ front step.wrote more) l.written;
        }

  -- What was made is what was received, and then the rest.
  on_its_way : {M : Type 0} (xs ys : List (logs.Frame M)) (h : IsBeginningOf xs ys) → messages xs ++ messages h.0 ≡ messages ys
  on_its_way xs ys h = sym (messages_append xs h.0) ∙ ap (λ l. messages l) h.1

  from_new : (root_a root_b : Option ObjectId) (now_a now_b : Held) (xs ys : List (Entry Note)) → IsExplained input_of sends_of StepsSo (begun A root_a) (begun B root_b) now_a now_b xs ys → IsOneRun root_a root_b now_a now_b xs ys
  from_new root_a root_b now_a now_b xs ys g =
      let f = g.fit in
      let es = order input_of sends_of xs ys in
      let first : weave.World P P = record { a = begun A root_a; b = begun B root_b; to_a = []; to_b = [] } in
      let end : weave.World P P = record { a = now_a; b = now_b; to_a = messages f.to_a.0; to_b = messages f.to_b.0 } in
      let k : weave.Run P P first (events es) end = subst (λ (l : List (OneOf (logs.Entry P) (logs.Entry P))). weave.Run P P first (map event_of l) end) (sym g.order_is) ((g.explains).explained).run in
      let l = walk root_a root_b [] first end es (record { ran = refl; vat_a = refl; vat_b = refl }) k in record {
        world = at end;
        ends = record {
          core_a = refl;
          core_b = refl;
          inbox_a = on_its_way _ _ f.to_a;
          inbox_b = on_its_way _ _ f.to_b;
        };
        ran = l.ran;
        written =
            ap (λ (z : List JournalEntry). pieced (map piece_of es) z now_b.journal) (end_a first end es k)
            ∙ ap (λ (z : List JournalEntry). pieced (map piece_of es) (rest_a first end es k) z) (end_b first end es k)
            ∙ l.written;
      }

pub orders_are_runs : RunsCount → RunsAreRuns → OfEachStep KeepsNames → OrdersAreRuns
orders_are_runs count runs names root_a root_b a b now_a now_b xs ys e f g =
    from_new count runs names root_a root_b now_a now_b xs ys
    (subst (λ (h : Held). IsExplained input_of sends_of StepsSo (begun A root_a) h now_a now_b xs ys) f (subst (λ (h : Held). IsExplained input_of sends_of StepsSo h b now_a now_b xs ys) e g))
