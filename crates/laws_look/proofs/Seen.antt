-- From whatever point a run is seen, none of its messages is accused.
use Rattle.std.proofs.Common.{◌≡◌, ℕ, Bool, false, List, [], ◌∷◌, ◌++◌, append-nil, Option, None, Some, Result, refl, sym, ap, subst, ◌∙◌, arith}
use Rattle.std.specs.FinMap as map
use Rattle.std.specs.Ordering.{nat_cmp}
use Rattle.rpc_msg.specs.declared.ids.Vat.{Vat}
use Rattle.rpc_msg.specs.declared.ids.Vat.TheVariants.{A, B}
use Rattle.rpc_msg.specs.declared.ids.ObjectId.{ObjectId}
use Rattle.rpc_msg.specs.declared.message.Message.{Message}
use Rattle.finite_maps.specs.Tally.{Map}
use Rattle.rpc_machine.specs.declared.command.Command.{Command}
use Rattle.rpc_machine.specs.declared.command.Granted.{Granted}
use Rattle.rpc_machine.specs.declared.command.Refusal.{Refusal}
use Rattle.rpc_machine.specs.declared.command.Effects.{Effects}
use Rattle.rpc_machine.specs.declared.command.Level.TheVariants.{One}
use Rattle.rpc_machine.specs.declared.event.Event.{Event}
use Rattle.rpc_machine.specs.declared.event.Event.TheVariants as event
use Rattle.rpc_machine.specs.declared.entries.Question.{Question}
use Rattle.rpc_machine.specs.declared.entries.AnswerEntry.{AnswerEntry}
use Rattle.rpc_machine.specs.declared.entries.Import.{Import}
use Rattle.rpc_machine.specs.declared.entries.Export.{Export}
use Rattle.rpc_machine.specs.declared.entries.Embargo.{Embargo}
use Rattle.rpc_machine.specs.State.{State, start}
use Rattle.rpc_machine.specs.Laws.{SendsRaiseCounts}
use Rattle.rpc_machine.specs.Limits.{export_count, import_count}
use Rattle.rpc_machine.specs.World.{World, put_inbox, after, StepAnswer, Answered, Handled, Empty, CommandsAt, ReceivesAt, HappensBy}
use Rattle.laws_steps.proofs.Reached.{empty_whole}
use Rattle.look_books.specs.After.{unsaid}
use Rattle.laws_nodes.specs.Embargoes.{here, Loopbacks}
use Rattle.laws_nodes.proofs.Acyclic.{empty_stops}
use Rattle.laws_messages.specs.ExportViews.{exporter_of}
use Rattle.laws_runs.specs.Questions as session
use Rattle.laws_runs.specs.Questions.{Row, Idle}
use Rattle.laws_runs.specs.Views.{asker_of, answerer_of}
use Rattle.laws_runs.proofs.Agreeing as agreeing
use Rattle.laws_runs.proofs.Outcomes.{CommandKind, WasRefused, WasDone, GaveUp, WasShut, HadNoRoom, command_kind, MessageKind, WasHandled, Fell, message_kind}
use Rattle.laws_look.specs.Points.{Line, View, begins, receives, Takes, Goes, Happened, Passed, Sees, NoMore, Then}
use Rattle.laws_look.specs.Accused.{Books, empty, behind, breaches_of, NoneAccused}
use Rattle.laws_look.specs.Law.{NoneIsAccused}
use Rattle.laws_look.proofs.Owed.{MayCome}
use Rattle.laws_look.proofs.Told.{told_of, resolved_of}
use Rattle.laws_look.proofs.OneVat.{Alone}
use Rattle.laws_look.proofs.Between as between
use Rattle.laws_look.proofs.Between.{End, Both}
use Rattle.laws_look.proofs.Places.{Place, Shown, turned, commanded, received, oldest, fell, goes}
use Rattle.laws_look.proofs.Places as places

-- ---- The log

-- The books behind all that passed.
abbrev books : Books → List Line → Books
books k [] = k
books k (l ∷ ls) = books (behind k l) ls

books_last : (k : Books) (ls : List Line) (l : Line) → books k (ls ++ l ∷ []) ≡ behind (books k ls) l
books_last k [] l = refl
books_last k (x ∷ xs) l = books_last (behind k x) xs l

accused_last : (k : Books) (ls : List Line) (l : Line) → NoneAccused k ls → breaches_of (books k ls) l ≡ [] → NoneAccused k (ls ++ l ∷ [])
accused_last k [] l h g = (g, tt)
accused_last k (x ∷ xs) l h g = (h.0, accused_last (behind k x) xs l h.1 g)

-- ---- Places

abbrev at_a : View → Books → Place
at_a x k = record { core = x.world.a.core; inbox = x.world.a.inbox; passed = x.to_a; kept = k.a }

abbrev at_b : View → Books → Place
at_b x k = record { core = x.world.b.core; inbox = x.world.b.inbox; passed = x.to_b; kept = k.b }

abbrev IsShown : View → Books → Type 0
IsShown x k = Shown (at_a x k) (at_b x k)

-- ---- One vat

same_inbox : (p q : Place) → Shown p q → Shown p (record q { inbox = q.inbox ++ [] })
same_inbox p q k = subst (λ (l : List Message). Shown p (record q { inbox = l })) (sym (append-nil q.inbox)) k

module _ (rise : SendsRaiseCounts) (loops : Loopbacks) where
  by_command : (p q : Place) → Shown p q → p.core.down ≡ None → (c : Command) (a : Result Granted Refusal) (told : Effects) (room : Bool) (t : State) → CommandKind p.core c a told room t → Shown (record p { core = t }) (record q { inbox = q.inbox ++ told.sends })
  by_command p q k up c a told room t (WasRefused r e f g) =
      subst (λ (x : Effects). Shown (record p { core = t }) (record q { inbox = q.inbox ++ x.sends })) (sym f) (subst (λ (s : State). Shown (record p { core = s }) (record q { inbox = q.inbox ++ [] })) (sym g) (same_inbox p q k))
  by_command p q k up c a told room t (WasDone g f e r d i n) = commanded rise loops p q t told n i k up c g f d
  by_command p q k up c a told room t (GaveUp f m e r l) = fell p q t told p.inbox p.passed k up l (λ r h. h)
  by_command p q k up c a told room t (WasShut n e f l) = fell p q t told p.inbox p.passed k up l (λ r h. h)
  by_command p q k up c a told room t (HadNoRoom r l) = fell p q t told p.inbox p.passed k up l (λ r h. h)

  shorter : (i p ms after r : List Message) (m : Message) → i ≡ m ∷ ms → p ≡ m ∷ after → i ≡ p ++ r → ms ≡ after ++ r
  shorter i p ms after r m e f g = let h : m ∷ ms ≡ m ∷ (after ++ r) = sym e ∙ g ∙ ap (λ (l : List Message). l ++ r) f in cc

  by_message : (p q : Place) → Shown p q → p.core.down ≡ None → (m : Message) (ms after : List Message) → p.inbox ≡ m ∷ ms → p.passed ≡ m ∷ after → (told : Effects) (t : State) → MessageKind p.core m told t → Shown (record p { core = t; inbox = ms; passed = after }) (record q { inbox = q.inbox ++ told.sends })
  by_message p q k up m ms after i j told t (WasHandled f d w n) = received rise loops p q t told n w k up m ms after i j f d
  by_message p q k up m ms after i j told t (Fell f) = fell p q t told ms after k up f (λ r h. shorter p.inbox p.passed ms after r m i j h)

  -- ---- Events

  module _ (x : View) (k : Books) where
    abbrev Now : World → List Message → List Message → Type 0
    Now w pa pb = IsShown (record { world = w; to_a = pa; to_b = pb; log = x.log }) k

    so : (w v : World) (pa qa pb qb : List Message) → w ≡ v → pa ≡ qa → pb ≡ qb → Now v qa qb → Now w pa pb
    so w v pa qa pb qb e f g h = subst (λ (u : World). Now u pa pb) (sym e) (subst (λ (l : List Message). Now v l pb) (sym f) (subst (λ (l : List Message). Now v qa l) (sym g) h))

    command_a : IsShown x k → (w : World) (pa pb : List Message) (c : Command) (o : Option ℕ) (answer : StepAnswer) (room : Bool) → x.world.a.core.down ≡ o → CommandsAt x.world A c o answer room w → pa ≡ x.to_a → pb ≡ x.to_b → Now w pa pb
    command_a s w pa pb c None (Answered a told) room e h f g = so w (after x.world A told h.0) pa x.to_a pb x.to_b h.2 f g (by_command (at_a x k) (at_b x k) s e c a told room h.0 (command_kind x.world.a.core c a told room h.0 e h.1))
    command_a s w pa pb c None (Handled told) room e h f g = absurd h
    command_a s w pa pb c None Empty room e h f g = absurd h
    command_a s w pa pb c (Some n) (Answered a told) room e h f g = so w x.world pa x.to_a pb x.to_b h.1 f g s
    command_a s w pa pb c (Some n) (Handled told) room e h f g = absurd h
    command_a s w pa pb c (Some n) Empty room e h f g = absurd h

    command_b : IsShown x k → (w : World) (pa pb : List Message) (c : Command) (o : Option ℕ) (answer : StepAnswer) (room : Bool) → x.world.b.core.down ≡ o → CommandsAt x.world B c o answer room w → pa ≡ x.to_a → pb ≡ x.to_b → Now w pa pb
    command_b s w pa pb c None (Answered a told) room e h f g =
        so w (after x.world B told h.0) pa x.to_a pb x.to_b h.2 f g
        (turned (record (at_b x k) { core = h.0 }) (record (at_a x k) { inbox = x.world.a.inbox ++ told.sends }) (by_command (at_b x k) (at_a x k) (turned (at_a x k) (at_b x k) s) e c a told room h.0 (command_kind x.world.b.core c a told room h.0 e h.1)))
    command_b s w pa pb c None (Handled told) room e h f g = absurd h
    command_b s w pa pb c None Empty room e h f g = absurd h
    command_b s w pa pb c (Some n) (Answered a told) room e h f g = so w x.world pa x.to_a pb x.to_b h.1 f g s
    command_b s w pa pb c (Some n) (Handled told) room e h f g = absurd h
    command_b s w pa pb c (Some n) Empty room e h f g = absurd h

    receive_a : IsShown x k → (w : World) (pa pb : List Message) (ms : List Message) (o : Option ℕ) (answer : StepAnswer) (room : Bool) → x.world.a.inbox ≡ ms → x.world.a.core.down ≡ o → ReceivesAt x.world A ms o answer room w → Takes (receives A (event.Deliver A) answer) x.to_a pa → Takes (receives B (event.Deliver A) answer) x.to_b pb → Now w pa pb
    receive_a s w pa pb [] o answer room i e h f g = so w x.world pa x.to_a pb x.to_b h.1 (subst (λ (y : StepAnswer). Takes (receives A (event.Deliver A) y) x.to_a pa) h.0 f) (subst (λ (y : StepAnswer). Takes (receives B (event.Deliver A) y) x.to_b pb) h.0 g) s
    receive_a s w pa pb (m ∷ ms) (Some n) answer room i e h f g = so w x.world pa x.to_a pb x.to_b h.1 (subst (λ (y : StepAnswer). Takes (receives A (event.Deliver A) y) x.to_a pa) h.0 f) (subst (λ (y : StepAnswer). Takes (receives B (event.Deliver A) y) x.to_b pb) h.0 g) s
    receive_a s w pa pb (m ∷ ms) None (Answered a told) room i e h f g = absurd h
    receive_a s w pa pb (m ∷ ms) None (Handled told) room i e h f g =
        let same = oldest (at_a x k) (at_b x k) s m f.0 ms pa i f.1 in
        so w (after (put_inbox x.world A ms) A told h.0) pa pa pb x.to_b h.2 refl g
        (by_message (at_a x k) (at_b x k) s e m ms pa i (f.1 ∙ ap (λ (y : Message). y ∷ pa) same) told h.0 (message_kind x.world.a.core m told room h.0 e h.1))
    receive_a s w pa pb (m ∷ ms) None Empty room i e h f g = absurd h

    receive_b : IsShown x k → (w : World) (pa pb : List Message) (ms : List Message) (o : Option ℕ) (answer : StepAnswer) (room : Bool) → x.world.b.inbox ≡ ms → x.world.b.core.down ≡ o → ReceivesAt x.world B ms o answer room w → Takes (receives A (event.Deliver B) answer) x.to_a pa → Takes (receives B (event.Deliver B) answer) x.to_b pb → Now w pa pb
    receive_b s w pa pb [] o answer room i e h f g = so w x.world pa x.to_a pb x.to_b h.1 (subst (λ (y : StepAnswer). Takes (receives A (event.Deliver B) y) x.to_a pa) h.0 f) (subst (λ (y : StepAnswer). Takes (receives B (event.Deliver B) y) x.to_b pb) h.0 g) s
    receive_b s w pa pb (m ∷ ms) (Some n) answer room i e h f g = so w x.world pa x.to_a pb x.to_b h.1 (subst (λ (y : StepAnswer). Takes (receives A (event.Deliver B) y) x.to_a pa) h.0 f) (subst (λ (y : StepAnswer). Takes (receives B (event.Deliver B) y) x.to_b pb) h.0 g) s
    receive_b s w pa pb (m ∷ ms) None (Answered a told) room i e h f g = absurd h
    receive_b s w pa pb (m ∷ ms) None (Handled told) room i e h f g =
        let t = turned (at_a x k) (at_b x k) s in
        let same = oldest (at_b x k) (at_a x k) t m g.0 ms pb i g.1 in
        so w (after (put_inbox x.world B ms) B told h.0) pa x.to_a pb pb h.2 f refl
        (turned (record (at_b x k) { core = h.0; inbox = ms; passed = pb }) (record (at_a x k) { inbox = x.world.a.inbox ++ told.sends })
        (by_message (at_b x k) (at_a x k) t e m ms pb i (g.1 ∙ ap (λ (y : Message). y ∷ pb) same) told h.0 (message_kind x.world.b.core m told room h.0 e h.1)))
    receive_b s w pa pb (m ∷ ms) None Empty room i e h f g = absurd h

    happens : IsShown x k → (w : World) (pa pb : List Message) (e : Event) (answer : StepAnswer) (room : Bool) → HappensBy x.world e answer room w → Takes (receives A e answer) x.to_a pa → Takes (receives B e answer) x.to_b pb → Now w pa pb
    happens s w pa pb (event.Command A c) answer room h f g = command_a s w pa pb c x.world.a.core.down answer room refl h f g
    happens s w pa pb (event.Command B c) answer room h f g = command_b s w pa pb c x.world.b.core.down answer room refl h f g
    happens s w pa pb (event.Deliver A) answer room h f g = receive_a s w pa pb x.world.a.inbox x.world.a.core.down answer room refl refl h f g
    happens s w pa pb (event.Deliver B) answer room h f g = receive_b s w pa pb x.world.b.inbox x.world.b.core.down answer room refl refl h f g

  -- ---- Views

  record Holds (x : View) : Type 0 where
    accused : NoneAccused empty x.log
    shown : IsShown x (books empty x.log)

  same_view : (x : View) (log : List Line) → x.log ≡ log → x ≡ record { world = x.world; to_a = x.to_a; to_b = x.to_b; log = log }
  same_view x log e = subst (λ (l : List Line). x ≡ record { world = x.world; to_a = x.to_a; to_b = x.to_b; log = l }) e refl

  passed_a : (x : View) (t : _) (m : Message) (rest : List Message) → Holds x → x.world.a.inbox ≡ x.to_a ++ m ∷ rest → Holds (record x { to_a = x.to_a ++ m ∷ []; log = x.log ++ record { from = B; moment = t; message = m } ∷ [] })
  passed_a x t m rest h e =
      let k = books empty x.log in
      let l : Line = record { from = B; moment = t; message = m } in
      let g = goes (at_b x k) (at_a x k) t (turned (at_a x k) (at_b x k) h.shown) m rest e in record {
        accused = accused_last empty x.log l h.accused g.none;
        shown = subst (λ (z : Books). IsShown (record x { to_a = x.to_a ++ m ∷ []; log = x.log ++ l ∷ [] }) z) (sym (books_last empty x.log l)) (turned (record (at_b x k) { kept = (behind k l).b }) (record (at_a x k) { passed = x.to_a ++ m ∷ []; kept = (behind k l).a }) g.shown);
      }

  passed_b : (x : View) (t : _) (m : Message) (rest : List Message) → Holds x → x.world.b.inbox ≡ x.to_b ++ m ∷ rest → Holds (record x { to_b = x.to_b ++ m ∷ []; log = x.log ++ record { from = A; moment = t; message = m } ∷ [] })
  passed_b x t m rest h e =
      let k = books empty x.log in
      let l : Line = record { from = A; moment = t; message = m } in
      let g = goes (at_a x k) (at_b x k) t h.shown m rest e in record {
        accused = accused_last empty x.log l h.accused g.none;
        shown = subst (λ (z : Books). IsShown (record x { to_b = x.to_b ++ m ∷ []; log = x.log ++ l ∷ [] }) z) (sym (books_last empty x.log l)) g.shown;
      }

  step : (x new : View) → Holds x → Goes x new → Holds new
  step x new h (Happened e happened a b log) =
      let s = happens x (books empty x.log) h.shown new.world new.to_a new.to_b e.event e.answer e.had_room happened a b in
      subst Holds (sym (same_view new x.log log)) (record { accused = h.accused; shown = s })
  step x new h (Passed A t m rest e f) = subst Holds (sym f) (passed_a x t m rest h e)
  step x new h (Passed B t m rest e f) = subst Holds (sym f) (passed_b x t m rest h e)

  sees : (last x : View) → Holds x → Sees last x → Holds last
  sees last x h NoMore = h
  sees last x h (Then {mid = mid} g rest) = sees last mid (step x mid h g) rest

  -- ---- Two new vats

  abbrev new_end : Vat → Option ObjectId → End
  new_end v root = record { core = start v One root; near = []; far = []; kept = unsaid }

  new_one : (v u : Vat) (a b : Option ObjectId) → Alone (start v One a) → between.One (new_end v a) (new_end u b)
  new_one v u a b alone =
      let questions : (q : ℕ) → ◌≡◌ {A = Option Question} (map.get (let m : Map Question = map.empty in m) q) None = λ q. map.get-empty nat_cmp q in
      let answers : (q : ℕ) → ◌≡◌ {A = Option AnswerEntry} (map.get (let m : Map AnswerEntry = map.empty in m) q) None = λ q. map.get-empty nat_cmp q in
      let exports : (e : ℕ) → export_count (let m : Map Export = map.empty in map.get m e) ≡ 0 = λ e. ap export_count (map.get-empty nat_cmp e) in
      let imports : (e : ℕ) → import_count (let m : Map Import = map.empty in map.get m e) ≡ 0 = λ e. ap import_count (map.get-empty nat_cmp e) in
      let embargoes : (e : ℕ) → here (let m : Map Embargo = map.empty in map.get m e) ≡ 0 = λ e. ap here (map.get-empty nat_cmp e) in record {
        alone = alone;
        useful_near = tt;
        useful_far = tt;
        asks = record {
          near = λ q. subst (λ (o : Option Question). Row (asker_of o) [] session.NotOpen []) (sym (questions q)) Idle;
          far = λ q. subst (λ (o : Option AnswerEntry). Row session.NotAsked [] (answerer_of o) []) (sym (answers q)) Idle;
          met = λ q. tt;
        };
        gives = record {
          near = λ e. let z = exports e in omega (arith, z);
          far = λ e. let z = imports e in omega (arith, z);
          few = λ e. let z = exports e in omega (arith, z);
        };
        turns = record {
          near = λ e. let z = embargoes e in omega (arith, z);
          far = λ e. refl;
        };
        leading = record {
          told = λ q z h. absurd (subst (λ (o : Option Question). told_of o ≡ Some z → ⊥) (sym (questions q)) (λ i. let bad : None ≡ Some z = i in cc) h);
          told_soon = λ q ids h. tt;
          led = λ e z h i. absurd (subst (λ (o : Option Import). resolved_of o ≡ Some z → ⊥) (sym (map.get-empty nat_cmp e)) (λ j. let bad : None ≡ Some z = j in cc) h);
          led_soon = tt;
          turns = tt;
          answers = λ q. tt;
        };
        promises = λ e. (tt, subst (λ (o : Option Export). MayCome false (exporter_of (start v One a) o)) (sym (map.get-empty nat_cmp e)) tt);
      }

  starts : (a b : Option ObjectId) → Holds (begins a b)
  starts a b =
      let k = agreeing.starts a b in
      let alone_a : Alone (start A One a) = record { ready = k.stand.ready_s; covered = k.covered_s; counted = k.counted_s; whole = empty_whole A One a None; stops = empty_stops (start A One a) refl refl } in
      let alone_b : Alone (start B One b) = record { ready = k.stand.ready_t; covered = k.covered_t; counted = k.counted_t; whole = empty_whole B One b None; stops = empty_stops (start B One b) refl refl } in record {
        accused = tt;
        shown = places.starts (at_a (begins a b) empty) (at_b (begins a b) empty) (new_end A a) (new_end B b) (record { here = new_one A B a b alone_a; there = new_one B A b a alone_b })
            refl refl refl refl refl refl refl refl refl refl refl refl refl refl;
      }

  pub none_is_accused : NoneIsAccused
  none_is_accused a b x h = let k = sees x (begins a b) (starts a b) h in k.accused
