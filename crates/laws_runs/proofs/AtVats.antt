-- What a scene shows of a vat, through a step of that vat and through one of the other.
use Rattle.std.proofs.Common.{◌≡◌, inl, inr, Bool, true, false, List, [], ◌∷◌, ◌++◌, append-nil, None, Some, refl, sym, ap, subst, ◌∙◌}
use Rattle.rpc_msg.specs.declared.ids.Vat.{Vat}
use Rattle.rpc_msg.specs.declared.ids.Vat.TheVariants.{A, B}
use Rattle.rpc_msg.specs.declared.exception.Exception.{Exception}
use Rattle.rpc_msg.specs.declared.message.Message.{Message}
use Rattle.rpc_msg.specs.declared.message.Message.TheVariants as message
use Rattle.rpc_msg.specs.declared.message.PlainMessage.TheVariants as plain
use Rattle.rpc_msg.specs.Vats.{other_vat}
use Rattle.rpc_journal.specs.declared.entry.JournalEntry.{JournalEntry}
use Rattle.rpc_machine.specs.declared.command.Effects.{Effects}
use Rattle.rpc_machine.specs.declared.command.Level.{Level}
use Rattle.rpc_machine.specs.declared.command.Level.TheVariants.{Zero, One}
use Rattle.rpc_machine.specs.Numbers.{peer_abort}
use Rattle.rpc_machine.specs.State.{State}
use Rattle.rpc_machine.specs.Progress.{quiet}
use Rattle.rpc_machine.specs.Faults.{fault_of, is_foreign, unless_foreign}
use Rattle.rpc_machine.specs.World.{World, core, inbox, put_inbox, after}
use Rattle.laws_runs.specs.Telling.{telling}
use Rattle.laws_runs.specs.Scenes.{Scene, is_over, goes_on, stopped, IsLast, AtVat, Shows}
use Rattle.laws_runs.proofs.Outcomes.{IsFall, not_down}

-- ---- One vat

other_gets : (o : Bool) (s t : State) (ms ns sends : List Message) → AtVat o false s ms t ns → AtVat o false s (ms ++ sends) t (ns ++ sends)
other_gets true s t ms ns sends h = h
other_gets false s t ms ns sends h =
    let e : ms ≡ ns = h.2.2 ∙ ap (λ (l : List Message). ns ++ l) h.2.1 ∙ append-nil ns in
    (h.0, h.1, ([], refl, ap (λ (l : List Message). l ++ sends) e ∙ sym (append-nil (ns ++ sends))))

other_left : (o : Bool) (s t : State) (ms ns sends : List Message) → IsLast true sends → AtVat o false s ms t ns → AtVat o true s (ms ++ sends) t ns
other_left true s t ms ns sends l h = h
other_left false s t ms ns sends l h =
    let e : ms ≡ ns = h.2.2 ∙ ap (λ (l : List Message). ns ++ l) h.2.1 ∙ append-nil ns in
    (h.0, h.1, (sends, l, ap (λ (l : List Message). l ++ sends) e))

same_links : (b o : Bool) (s t : State) (ms ns : List Message) → AtVat b o s ms t ns → AtVat b o s (ms ++ []) t ns
same_links b o s t ms ns h = subst (λ (l : List Message). AtVat b o s l t ns) (sym (append-nil ms)) h

-- An Abort that is received is a fault.
abort_faults : (l : Level) (x : Exception) → unless_foreign (is_foreign l (plain.Abort x)) (Some peer_abort) ≡ None → ⊥
abort_faults One x e = cc
abort_faults Zero x e = cc

no_abort : (s : State) (m : Message) (x : Exception) → m ≡ message.Plain (plain.Abort x) → fault_of s m ≡ None → ⊥
no_abort s m x e f = abort_faults s.level x (subst (λ (y : Message). fault_of s y ≡ None) e f)

none_last : (o : Bool) (s : State) (m : Message) (ms last : List Message) → IsLast o last → m ∷ ms ≡ last → fault_of s m ≡ None → ⊥
none_last false s m ms last l e f = cc
none_last true s m ms last (inl l) e f = cc
none_last true s m ms last (inr l) e f = no_abort s m l.0 (let g = e ∙ l.1 in cc) f

-- The message that a vat takes is the oldest in the scene too.
pub takes_oldest : (o : Bool) (s t : State) (m : Message) (ms ns : List Message) → fault_of s m ≡ None → AtVat false o s (m ∷ ms) t ns → (rest : List Message) × (ns ≡ m ∷ rest) × AtVat false o s ms t rest
takes_oldest o s t m ms [] f h = absurd (none_last o s m ms h.2.0 h.2.1 h.2.2 f)
takes_oldest o s t m ms (n ∷ ns) f h =
    let e = h.2.2 in
    let g : n ≡ m = cc in
    let i : ms ≡ ns ++ h.2.0 = cc in
    (ns, ap (λ (x : Message). x ∷ ns) g, (h.0, h.1, (h.2.0, h.2.1, i)))

-- ---- Both vats

up_not_over : (b o : Bool) (s t : State) (ms ns : List Message) → s.down ≡ None → AtVat b o s ms t ns → b ≡ false
up_not_over true o s t ms ns e h = absurd (not_down s.down e h)
up_not_over false o s t ms ns e h = refl

pub not_over : (u : Vat) (x : Scene) (h : List JournalEntry) (w : World) → Shows x h w → (core w u).down ≡ None → is_over x u ≡ false
not_over A x h w s e = up_not_over x.over_a x.over_b w.a.core x.world.a.core w.a.inbox x.world.a.inbox e s.at_a
not_over B x h w s e = up_not_over x.over_b x.over_a w.b.core x.world.b.core w.b.inbox x.world.b.inbox e s.at_b

pub mine : (u : Vat) (x : Scene) (h : List JournalEntry) (w : World) → Shows x h w → is_over x u ≡ false → AtVat false (is_over x (other_vat u)) (core w u) (inbox w u) (core x.world u) (inbox x.world u)
mine A x h w s e = subst (λ (b : Bool). AtVat b x.over_b w.a.core w.a.inbox x.world.a.core x.world.a.inbox) e s.at_a
mine B x h w s e = subst (λ (b : Bool). AtVat b x.over_a w.b.core w.b.inbox x.world.b.core x.world.b.inbox) e s.at_b

-- A vat that takes more steps is up.
pub up_too : (u : Vat) (x : Scene) (h : List JournalEntry) (w : World) → Shows x h w → is_over x u ≡ false → (core w u).down ≡ None
up_too u x h w s e = (mine u x h w s e).0

abbrev pub Theirs : Vat → Scene → World → Type 0
Theirs u x w = AtVat (is_over x (other_vat u)) false (core w (other_vat u)) (inbox w (other_vat u)) (core x.world (other_vat u)) (inbox x.world (other_vat u))

pub theirs : (u : Vat) (x : Scene) (h : List JournalEntry) (w : World) → Shows x h w → is_over x u ≡ false → Theirs u x w
theirs A x h w s e = subst (λ (b : Bool). AtVat x.over_b b w.b.core w.b.inbox x.world.b.core x.world.b.inbox) e s.at_b
theirs B x h w s e = subst (λ (b : Bool). AtVat x.over_a b w.a.core w.a.inbox x.world.a.core x.world.a.inbox) e s.at_a

-- The vat u took its step, with this left on its way to it.
pub done_shows : (u : Vat) (x : Scene) (w : World) (h es : List JournalEntry) (ms ns : List Message) (told : Effects) (t : State) → is_over x u ≡ false → t.down ≡ None → telling h ≡ telling (x.journal ++ es) → AtVat false (is_over x (other_vat u)) (core w u) ms (core x.world u) ns → Theirs u x w → Shows (goes_on x (after (put_inbox x.world u ns) u told t) es) h (after (put_inbox w u ms) u told t)
done_shows A x w h es ms ns told t e d i m o = record {
  history = i;
  at_a = subst (λ (b : Bool). AtVat b x.over_b t ms t ns) (sym e) (d, refl, m.2);
  at_b = subst (λ (b : Bool). AtVat x.over_b b w.b.core (w.b.inbox ++ told.sends) x.world.b.core (x.world.b.inbox ++ told.sends)) (sym e) (other_gets x.over_b w.b.core x.world.b.core w.b.inbox x.world.b.inbox told.sends o);
}
done_shows B x w h es ms ns told t e d i m o = record {
  history = i;
  at_a = subst (λ (b : Bool). AtVat x.over_a b w.a.core (w.a.inbox ++ told.sends) x.world.a.core (x.world.a.inbox ++ told.sends)) (sym e) (other_gets x.over_a w.a.core x.world.a.core w.a.inbox x.world.a.inbox told.sends o);
  at_b = subst (λ (b : Bool). AtVat b x.over_a t ms t ns) (sym e) (d, refl, m.2);
}

pub fell_shows : (u : Vat) (x : Scene) (w : World) (h es : List JournalEntry) (ms : List Message) (told : Effects) (t : State) → IsFall told t → telling h ≡ telling (x.journal ++ es) → Theirs u x w → Shows (stopped x u es) h (after (put_inbox w u ms) u told t)
fell_shows A x w h es ms told t f i o = record { history = i; at_a = f.down; at_b = other_left x.over_b w.b.core x.world.b.core w.b.inbox x.world.b.inbox told.sends f.last o }
fell_shows B x w h es ms told t f i o = record { history = i; at_a = other_left x.over_a w.a.core x.world.a.core w.a.inbox x.world.a.inbox told.sends f.last o; at_b = f.down }

pub still_shows : (u : Vat) (x : Scene) (w : World) (h more : List JournalEntry) → telling more ≡ telling h → Shows x h w → Shows x more (after w u quiet (core w u))
still_shows A x w h more i s = record { history = i ∙ s.history; at_a = s.at_a; at_b = same_links x.over_b x.over_a w.b.core x.world.b.core w.b.inbox x.world.b.inbox s.at_b }
still_shows B x w h more i s = record { history = i ∙ s.history; at_a = same_links x.over_a x.over_b w.a.core x.world.a.core w.a.inbox x.world.a.inbox s.at_a; at_b = s.at_b }
