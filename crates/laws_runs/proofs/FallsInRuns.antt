-- Why vats go down in a run that a scene shows whose oldest messages are taken.
use Rattle.std.proofs.Common.{◌≡◌, ◌⊎◌, inl, inr, ℕ, Bool, true, false, cond, ◌||◌, List, [], ◌∷◌, ◌++◌, map, append_assoc, append-nil, Option, None, Some, is_some, Result, refl, sym, ap, subst, ◌∙◌}
use Rattle.rpc_msg.specs.declared.ids.Vat.{Vat}
use Rattle.rpc_msg.specs.declared.ids.Vat.TheVariants.{A, B}
use Rattle.rpc_msg.specs.declared.ids.ObjectId.{ObjectId}
use Rattle.rpc_msg.specs.declared.exception.Exception.{Exception}
use Rattle.rpc_msg.specs.declared.message.Message.{Message}
use Rattle.rpc_msg.specs.declared.message.Message.TheVariants as message
use Rattle.rpc_msg.specs.declared.message.PlainMessage.TheVariants as plain
use Rattle.rpc_msg.specs.Vats.{other_vat}
use Rattle.rpc_journal.specs.declared.entry.JournalEntry.{JournalEntry}
use Rattle.rpc_journal.specs.declared.entry.JournalEntry.TheVariants as entry
use Rattle.rpc_journal.specs.History.{or_rest}
use Rattle.rpc_machine.specs.declared.command.Command.{Command}
use Rattle.rpc_machine.specs.declared.command.Level.{Level}
use Rattle.rpc_machine.specs.declared.command.Level.TheVariants.{Zero, One}
use Rattle.rpc_machine.specs.declared.command.Granted.{Granted}
use Rattle.rpc_machine.specs.declared.command.Refusal.{Refusal}
use Rattle.rpc_machine.specs.declared.command.Effects.{Effects}
use Rattle.rpc_machine.specs.declared.event.Event.{Event}
use Rattle.rpc_machine.specs.declared.event.Event.TheVariants as event
use Rattle.rpc_machine.specs.Numbers.{held_past_limit, peer_abort}
use Rattle.rpc_machine.specs.State.{State}
use Rattle.rpc_machine.specs.Faults.{fault_of, is_foreign, unless_foreign}
use Rattle.rpc_machine.specs.World.{World, core, inbox, put_inbox, new_world, StepAnswer, Answered, Handled, Empty, Happening, CommandTold, MessageTold, CommandsAt, ReceivesAt, HappensBy, Run, shut_with, shut_number}
use Rattle.rpc_machine.specs.Journal.{went_down, effect_entries, own_entries, command_entries, deliver_entries, event_entries, journal_from}
use Rattle.rpc_machine.specs.Claims.{went_down_in, FallsFor, ByShut, ForRoom, ForHeld, ByPeer}
use Rattle.laws_runs.proofs.QuietRuns.{is_down, acted, taken, commanded_tells, message_tells, writes_nothing}
use Rattle.laws_runs.proofs.QuietEntries.{own_steady, if_room_steady}
use Rattle.laws_runs.specs.Scenes.{Scene, is_over, begins, Steps, LeadsTo, NoMore, Then, IsScene, IsLast, AtVat, Shows}
use Rattle.laws_runs.proofs.AtVats.{not_over, mine}
use Rattle.laws_runs.proofs.Showing.{event_goes, starts}
use Rattle.laws_runs.specs.SoundScenes.{MayFault, OldestAreTaken}
use Rattle.laws_runs.proofs.FallCauses.{Why, command_falls, Because, message_falls, no_shut, own_shut}
use Rattle.laws_runs.proofs.FallEntries.{after_is, went-append, Fine, fine-append, fine_silent, NoneDown, none_both, said_before, Agree, other_shut}
use Rattle.laws_runs.proofs.WhoIsDown.{SaysDown, says_more, some_shut, no_shut_after}

none_went : (es : List JournalEntry) → NoneDown es → (v : Vat) → went_down_in v es ≡ false
none_went es k v = sym (after_is v false es) ∙ k v

-- The entries of u, of which only the last may say that it went down.
last_fine : (shut : Vat → Option ℕ) (pre own : List JournalEntry) (u : Vat) (x : Effects) → NoneDown own → went_down_in u pre ≡ false
    → ((n : ℕ) → x.down ≡ Some n → (before : List JournalEntry) → ((v : Vat) → went_down_in v before ≡ went_down_in v pre) → FallsFor (shut u) before u n)
    → Fine shut pre (own ++ effect_entries u x)
last_fine shut pre own u x k w f =
    let m = map (entry.Sent u) x.sends ++ map (entry.Delivered u) x.deliveries ++ map (entry.Ended u) x.answers in
    let g : NoneDown (own ++ m) = none_both own m k (said_before u x) in
    let i : (v : Vat) → went_down_in v (pre ++ (own ++ m)) ≡ went_down_in v pre = λ v. went-append v pre (own ++ m) ∙ ap (λ (b : Bool). went_down_in v pre || b) (none_went (own ++ m) g v) ∙ or_false (went_down_in v pre) in
    subst (λ (l : List JournalEntry). Fine shut pre l) (append_assoc own m (went_down u x.down))
    (fine-append shut pre (own ++ m) (went_down u x.down) (fine_silent shut pre (own ++ m) g) (by (pre ++ (own ++ m)) x.down refl i))
  where
    or_false : (b : Bool) → (b || false) ≡ b
    or_false true = refl
    or_false false = refl

    by : (l : List JournalEntry) (o : Option ℕ) → x.down ≡ o → ((v : Vat) → went_down_in v l ≡ went_down_in v pre) → Fine shut l (went_down u o)
    by l None e i = tt
    by l (Some n) e i = ((i u ∙ w, f n e l i), tt)

abort_fault : (l : Level) (x : Exception) → unless_foreign (is_foreign l (plain.Abort x)) (Some peer_abort) ≡ Some peer_abort
abort_fault One x = refl
abort_fault Zero x = refl

over_down : (u : Vat) (x : Scene) (h : List JournalEntry) (w : World) → Shows x h w → is_over x u ≡ true → is_down (core w u) ≡ true
over_down A x h w s e = subst (λ (b : Bool). AtVat b x.over_b w.a.core w.a.inbox x.world.a.core x.world.a.inbox) e s.at_a
over_down B x h w s e = subst (λ (b : Bool). AtVat b x.over_a w.b.core w.b.inbox x.world.b.core x.world.b.inbox) e s.at_b

abort_last : (s : State) (m : Message) (ms last : List Message) (o : Bool) (n : ℕ) → IsLast o last → m ∷ ms ≡ last → fault_of s m ≡ Some n → (n ≡ peer_abort) × (o ≡ true)
abort_last s m ms last false n l e f = absurd (let g : m ∷ ms ≡ [] = e ∙ l in cc)
abort_last s m ms last true n (inl l) e f = absurd (let g : m ∷ ms ≡ [] = e ∙ l in cc)
abort_last s m ms last true n (inr l) e f =
    let g : m ∷ ms ≡ message.Plain (plain.Abort l.0) ∷ [] = e ∙ l.1 in
    let i : m ≡ message.Plain (plain.Abort l.0) = cc in
    let j : Some n ≡ Some peer_abort = sym f ∙ ap (fault_of s) i ∙ abort_fault s.level l.0 in
    (cc, refl)

-- A message that is refused would have to wait where no more may, or is the Abort of the other vat.
refused_message : (s : State) (m : Message) (ms ns last : List Message) (o : Bool) (n : ℕ) → ((k : Message) (ks : List Message) → ns ≡ k ∷ ks → MayFault (fault_of s k)) → IsLast o last → m ∷ ms ≡ ns ++ last → fault_of s m ≡ Some n → (n ≡ held_past_limit) ⊎ ((n ≡ peer_abort) × (o ≡ true))
refused_message s m ms [] last o n old l e f = inr (abort_last s m ms last o n l e f)
refused_message s m ms (k ∷ ks) last o n old l e f =
    let g : m ≡ k = cc in
    inl (subst (λ (q : Option ℕ). MayFault q) (ap (fault_of s) (sym g) ∙ f) (old k ks refl))

module _ (x : Scene) (h : List JournalEntry) (w : World) (u : Vat) (shows : Shows x h w) (says : SaysDown w h) (oldest : OldestAreTaken x) (up : (core w u).down ≡ None) (shut : Vat → Option ℕ) where
  first_time : went_down_in u h ≡ false
  first_time = says u ∙ ap is_some up

  command_so : (c : Command) (a : Result Granted Refusal) (told : Effects) (room : Bool) (t : State) → CommandTold (core w u) c a told room t → ((n : ℕ) → told.down ≡ Some n → shut u ≡ shut_with u (event.Command u c) (Answered a told)) → Fine shut h (command_entries h u c room (Answered a told))
  command_so c a told room t k s =
      last_fine shut h (cond room (own_entries h u c a) []) u told (λ v. (if_room_steady v u false room (own_entries h u c a) (own_steady v u false h c a)).1) first_time
      (λ n e before g. why n e before (command_falls (core w u) c a told room t n up k e))
    where
      why : (n : ℕ) → told.down ≡ Some n → (before : List JournalEntry) → Why c n → FallsFor (shut u) before u n
      why n e before (inl i) = ByShut (s n e ∙ ap (λ (b : Command). shut_with u (event.Command u b) (Answered a told)) i ∙ own_shut u n a told n e)
      why n e before (inr i) = ForRoom (s n e ∙ no_shut u u c a told i.1) i.0

  message_so : (m : Message) (ms : List Message) (told : Effects) (room : Bool) (t : State) → inbox w u ≡ m ∷ ms → MessageTold (core w u) m told room t → ((n : ℕ) → told.down ≡ Some n → shut u ≡ None) → Fine shut h (deliver_entries u (Handled told))
  message_so m ms told room t i k s =
      last_fine shut h (entry.Got u ∷ []) u told (λ v. refl) first_time
      (λ n e before g. why n e before g (message_falls (core w u) m told room t n up k e))
    where
      refusal : (n : ℕ) → told.down ≡ Some n → (before : List JournalEntry) → ((v : Vat) → went_down_in v before ≡ went_down_in v h) → ((n ≡ held_past_limit) ⊎ ((n ≡ peer_abort) × (is_over x (other_vat u) ≡ true))) → FallsFor (shut u) before u n
      refusal n e before g (inl f) = ForHeld (s n e) f
      refusal n e before g (inr f) = ByPeer (s n e) f.0 (g (other_vat u) ∙ says (other_vat u) ∙ over_down (other_vat u) x h w shows f.1)

      why : (n : ℕ) → told.down ≡ Some n → (before : List JournalEntry) → ((v : Vat) → went_down_in v before ≡ went_down_in v h) → Because (core w u) m n → FallsFor (shut u) before u n
      why n e before g (inr f) = ForRoom (s n e) f
      why n e before g (inl f) =
          let y = mine u x h w shows (not_over u x h w shows up) in
          refusal n e before g
          (refused_message (core w u) m ms (inbox x.world u) y.2.0 (is_over x (other_vat u)) n
          (λ k ks j. subst (λ (z : State). MayFault (fault_of z k)) (sym y.1) (oldest u k ks (not_over u x h w shows up) j))
          y.2.1 (sym i ∙ y.2.2) f)

-- What an event says of falls, where the vat that falls in it has that shut.
abbrev ShutSo : World → Event → StepAnswer → World → (Vat → Option ℕ) → Type 0
ShutSo w e answer new shut = (v : Vat) → is_down (core new v) ≡ true → is_down (core w v) ≡ false → shut v ≡ shut_with v e answer

event_so : (x : Scene) (h : List JournalEntry) (w : World) (e : Event) (answer : StepAnswer) (room : Bool) (new : World) (shut : Vat → Option ℕ) → Shows x h w → SaysDown w h → OldestAreTaken x → ShutSo w e answer new shut → HappensBy w e answer room new → Fine shut h (event_entries h e room answer)
event_so x h w (event.Command u c) (Answered a told) room new shut s d o t k = by (core w u).down refl k
  where
    by : (y : Option ℕ) → (core w u).down ≡ y → CommandsAt w u c y (Answered a told) room new → Fine shut h (command_entries h u c room (Answered a told))
    by None e k =
        command_so x h w u s d o e shut c a told room k.0 k.1
        (λ n i. t u (ap (λ (z : World). is_down (core z u)) k.2 ∙ ap is_down (acted w u told k.0) ∙ sym (commanded_tells (core w u) c a told room k.0 e k.1) ∙ ap is_some i) (ap is_some e))
    by (Some n) e k = subst (λ (l : List JournalEntry). Fine shut h l) (sym (writes_nothing h u (core w u) c a told room (ap is_some e) k.0)) tt
event_so x h w (event.Command u c) (Handled told) room new shut s d o t k = tt
event_so x h w (event.Command u c) Empty room new shut s d o t k = tt
event_so x h w (event.Deliver u) (Answered a told) room new shut s d o t k = tt
event_so x h w (event.Deliver u) Empty room new shut s d o t k = tt
event_so x h w (event.Deliver u) (Handled told) room new shut s d o t k = by (inbox w u) (core w u).down refl refl k
  where
    by : (ms : List Message) (y : Option ℕ) → inbox w u ≡ ms → (core w u).down ≡ y → ReceivesAt w u ms y (Handled told) room new → Fine shut h (deliver_entries u (Handled told))
    by [] y i e k = absurd (let f = k.0 in cc)
    by (m ∷ ms) (Some n) i e k = absurd (let f = k.0 in cc)
    by (m ∷ ms) None i e k =
        let z : MessageTold (core w u) m told room k.0 = subst (λ (q : State). MessageTold q m told room k.0) (taken w u ms u) k.1 in
        message_so x h w u s d o e shut m ms told room k.0 i z
        (λ n j. t u (ap (λ (z : World). is_down (core z u)) k.2 ∙ ap is_down (acted (put_inbox w u ms) u told k.0) ∙ sym (message_tells (core w u) m told room k.0 e z) ∙ ap is_some j) (ap is_some e))

-- ---- Runs

pub leads_more : (x y z : Scene) → LeadsTo x z → Steps x y → LeadsTo y z
leads_more x y z NoMore s = Then s NoMore
leads_more x y z (Then {mid = mid} first rest) s = Then first (leads_more x y mid rest s)

goes_more : (x y z : Scene) → LeadsTo x z → ((y ≡ x) ⊎ Steps x y) → LeadsTo y z
goes_more x y z l (inl e) = subst (λ (q : Scene). LeadsTo q z) (sym e) l
goes_more x y z l (inr s) = leads_more x y z l s

-- How a run goes on from a scene: what it writes, why vats go down in it, and the scene that shows its end.
abbrev GoesOn : (Scene → Type 0) → World → List JournalEntry → List Happening → World → Type 0
GoesOn P w h xs new =
    (es : List JournalEntry) × (journal_from h xs ≡ h ++ es) × Fine (λ v. shut_number v xs) h es × SaysDown new (h ++ es)
    × ((x : Scene) × P x × Shows x (h ++ es) new)

pub or_none : (o : Option ℕ) → or_rest o None ≡ o
or_none None = refl
or_none (Some n) = refl

run_so : (start : Scene) → ((x : Scene) → LeadsTo x start → OldestAreTaken x) → (x : Scene) (h : List JournalEntry) (w : World) (xs : List Happening) (new : World) → LeadsTo x start → Shows x h w → SaysDown w h → Run w xs new → GoesOn (λ y. LeadsTo y start) w h xs new
run_so start old x h w [] new l s d k = (
  [],
  sym (append-nil h),
  tt,
  subst (λ (j : List JournalEntry). SaysDown new j) (sym (append-nil h)) (subst (λ (z : World). SaysDown z h) (sym k) d),
  (x, l, subst (λ (j : List JournalEntry). Shows x j new) (sym (append-nil h)) (subst (λ (z : World). Shows x h z) (sym k) s)),
)
run_so start old x h w (e ∷ rest) new l s d k =
    let mid = k.0 in
    let es = event_entries h e.event e.had_room e.answer in
    let g = event_goes x h w e.event e.answer e.had_room mid s k.1 in
    let dm : SaysDown mid (h ++ es) = says_more w mid e.event h e.answer e.had_room d k.1 in
    let r : GoesOn (λ y. LeadsTo y start) mid (h ++ es) rest new = run_so start old g.0 (h ++ es) mid rest new (goes_more x g.0 start l g.1) g.2 dm k.2 in
    let shut : Vat → Option ℕ = λ v. shut_number v (e ∷ rest) in
    let a : (h ++ es) ++ r.0 ≡ h ++ (es ++ r.0) = append_assoc h es r.0 in
    let one : Fine shut h es = event_so x h w e.event e.answer e.had_room mid shut s d (old x l) (λ v i j. ap (or_rest (shut_with v e.event e.answer)) (no_shut_after mid rest new v k.2 i) ∙ or_none (shut_with v e.event e.answer)) k.1 in
    let two : Fine shut (h ++ es) r.0 = other_shut (λ v. shut_number v rest) shut (h ++ es) r.0 (λ v. agree v (shut_with v e.event e.answer) refl dm) r.2 in
    (es ++ r.0, r.1 ∙ a, fine-append shut h es r.0 one two, subst (λ (j : List JournalEntry). SaysDown new j) a r.3, (r.4.0, r.4.1, subst (λ (j : List JournalEntry). Shows r.4.0 j new) a r.4.2))
  where
    agree : (v : Vat) (o : Option ℕ) → shut_with v e.event e.answer ≡ o → SaysDown k.0 (h ++ event_entries h e.event e.had_room e.answer) → Agree (h ++ event_entries h e.event e.had_room e.answer) v (shut_number v rest) (shut_number v (e ∷ rest))
    agree v None f dm = inl (sym (ap (λ (o : Option ℕ). or_rest o (shut_number v rest)) f))
    agree v (Some n) f dm = inr (dm v ∙ some_shut w k.0 e.event e.answer e.had_room v n k.1 f)

pub says_at_start : (a b : Option ObjectId) → SaysDown (new_world a b) []
says_at_start a b A = refl
says_at_start a b B = refl

pub whole_run : (a b : Option ObjectId) → ((x : Scene) → IsScene a b x → OldestAreTaken x) → (xs : List Happening) (new : World) → Run (new_world a b) xs new → GoesOn (λ y. IsScene a b y) (new_world a b) [] xs new
whole_run a b old xs new k = run_so (begins a b) old (begins a b) [] (new_world a b) xs new NoMore (starts a b) (says_at_start a b) k
