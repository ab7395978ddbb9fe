-- A message that is nothing in the machine of routes is sent, or taken.
use Rattle.std.specs.FinMap as map
use Rattle.std.proofs.Common.{◌≡◌, ℕ, List, [], ◌∷◌, ◌++◌, append_assoc, append-nil, Option, None, refl, sym, ap, subst, ◌∙◌}
use Rattle.rpc_msg.specs.declared.ids.Vat.{Vat}
use Rattle.rpc_msg.specs.declared.message.PlainMessage.TheVariants as plain
use Rattle.rpc_msg.specs.declared.message.Message.{Message}
use Rattle.rpc_msg.specs.declared.message.Message.TheVariants as message
use Rattle.rpc_msg.specs.Vats.{other_vat}
use Rattle.rpc_journal.specs.History.{in_front}
use Rattle.rpc_machine.specs.Progress.{Progress}
use Rattle.laws_order.specs.Machine as routing
use Rattle.laws_routes.specs.Points.{routes}
use Rattle.laws_routes.specs.Ghosts.{Ghost}
use Rattle.laws_routes.specs.Views.{Reader, IsSession, reader, past_one, past, shape, shapes, sessions_at, unborn_ids, unborn_of}
use Rattle.laws_routes.specs.Ties.{Around, Ghosts, Tied, TiedBy}
use Rattle.laws_routes.specs.Laws.{with_back}
use Rattle.laws_routes.specs.MessageLaws.{IsSilent, SaysSo, sending}
use Rattle.laws_routes.proofs.LinkShapes.{past_more, shapes_more}
use Rattle.laws_routes.proofs.UnbornKept.{unborn_sent}
use Rattle.laws_routes.proofs.SayingsCarried.{each_return, or_right, said_is_sent, said_of_fewer, said_sent_back}
use Rattle.laws_routes.specs.Sayings.{AllSaid, Has, bare, has_of, is_among}
use Rattle.rpc_msg.specs.Messages.{descriptors_of, given}
use Rattle.std.specs.Prelude.{is_some}
use Rattle.rpc_journal.specs.declared.report.Delivery.{Delivery}
use Rattle.rpc_machine.specs.State.{State}
use Rattle.laws_routes.specs.Sides.{Unborn}

opens_none : (g : Ghost) (now : ℕ → ℕ) (x : Message) → IsSilent x → past_one g now x ≡ now
opens_none g now (message.Plain (plain.Abort exception)) h = refl
opens_none g now (message.Plain (plain.Bootstrap q)) h = absurd h
opens_none g now (message.Plain (plain.Call c)) h = absurd h
opens_none g now (message.Plain (plain.Return r)) h = refl
opens_none g now (message.Plain (plain.Finish y)) h = refl
opens_none g now (message.Plain (plain.Resolve r)) h = refl
opens_none g now (message.Plain (plain.Release r)) h = refl
opens_none g now (message.Plain (plain.Disembargo y)) h = absurd h
opens_none g now (message.Plain (plain.Other n)) h = refl
opens_none g now (message.Unimplemented m) h = refl

silent_makes_none : (f : ℕ → ℕ) (x : Message) → IsSilent x → unborn_of f x ≡ None
silent_makes_none f (message.Plain (plain.Abort exception)) h = refl
silent_makes_none f (message.Plain (plain.Bootstrap q)) h = absurd h
silent_makes_none f (message.Plain (plain.Call c)) h = absurd h
silent_makes_none f (message.Plain (plain.Return y)) h = refl
silent_makes_none f (message.Plain (plain.Finish y)) h = refl
silent_makes_none f (message.Plain (plain.Resolve y)) h = refl
silent_makes_none f (message.Plain (plain.Release y)) h = refl
silent_makes_none f (message.Plain (plain.Disembargo y)) h = absurd h
silent_makes_none f (message.Plain (plain.Other n)) h = refl
silent_makes_none f (message.Unimplemented m) h = refl

no_shape : (v u : Vat) (r : Reader) (now : ℕ → ℕ) (x : Message) → IsSilent x → shape v u r now x ≡ None
no_shape v u r now (message.Plain (plain.Abort exception)) h = refl
no_shape v u r now (message.Plain (plain.Bootstrap q)) h = absurd h
no_shape v u r now (message.Plain (plain.Call c)) h = absurd h
no_shape v u r now (message.Plain (plain.Return y)) h = refl
no_shape v u r now (message.Plain (plain.Finish y)) h = refl
no_shape v u r now (message.Plain (plain.Resolve y)) h = refl
no_shape v u r now (message.Plain (plain.Release y)) h = refl
no_shape v u r now (message.Plain (plain.Disembargo y)) h = absurd h
no_shape v u r now (message.Plain (plain.Other n)) h = refl
no_shape v u r now (message.Unimplemented m) h = refl

pub silent_goes : (w : Around) (d : Progress) (g : Ghosts) (m : routing.State routes) (x : Message) → Tied w d g m → IsSilent x → SaysSo w d g m x → Tied w (sending d x) g m
silent_goes w d g m x t h so =
    let view = t.view in
    record {
      own = t.own;
      theirs = t.theirs;
      view = record {
        imports = view.imports;
        sessions = subst (λ (z : ℕ → ℕ). (q : ℕ) → IsSession (g.own.session q) (z q) (map.get (d.state).questions q)) (sym (ap (past g.own now) assoc ∙ (past_more g.own now out x ∙ opens_none g.own (past g.own now out) x h))) view.sessions;
        link =
            ap (shapes w.vat u g.own reads now) assoc
            ∙ (shapes_more w.vat u g.own reads now out x
            ∙ (ap (λ z. shapes w.vat u g.own reads now out ++ in_front z []) (no_shape w.vat u reads (past g.own now out) x h) ∙ (append-nil (shapes w.vat u g.own reads now out) ∙ view.link)));
      };
      back = t.back;
      told = t.told;
      unborn = subst (λ (ids : List ℕ). Unborn u (w.other).outcomes g.theirs.outcome m.net.stop m.net.kind m.net.waiting g.next ids) (sym (unborn_sent g.own.session w.out d.effects.sends x (silent_makes_none g.own.session x h))) t.unborn;
      unborn_back = t.unborn_back;
      known = t.known;
      known_there = t.known_there;
      goes = subst (AllSaid (bare m.net) w.vat (d.state).exports g.own u (w.other).exports g.theirs has now) (sym assoc) (says x h so);
      comes = t.comes;
    }
  where
    u : Vat
    u = other_vat w.vat

    now : ℕ → ℕ
    now = sessions_at g.theirs.outcome (w.other).answers

    reads : Reader
    reads = reader d.state w.other g.theirs

    out : List Message
    out = w.out ++ d.effects.sends

    assoc : w.out ++ (d.effects.sends ++ x ∷ []) ≡ out ++ x ∷ []
    assoc = sym (append_assoc w.out d.effects.sends (x ∷ []))

    has : Has
    has = has_of [] (w.other).imports (w.other).questions

    says : (y : Message) → IsSilent y → SaysSo w d g m y → AllSaid (bare m.net) w.vat (d.state).exports g.own u (w.other).exports g.theirs has now (out ++ y ∷ [])
    says (message.Plain y) k l = said_is_sent (bare m.net) w.vat (d.state).exports g.own u (w.other).exports g.theirs has now out y t.goes l
    says (message.Unimplemented y) k l = said_sent_back (bare m.net) w.vat (d.state).exports g.own u (w.other).exports g.theirs has now out y t.goes k

-- The descriptors of a message that is taken are coming.
pub silent_taken : (w : Around) (d : Progress) (g : Ghosts) (m : routing.State routes) (x : Message) (rest : List Message) → Tied (with_back w (x ∷ rest)) d g m → IsSilent x
    → TiedBy (with_back w rest) (given (descriptors_of x)) d.state d.effects.sends d.effects.deliveries g m
silent_taken w d g m x rest t h =
    let back = t.back in
    record {
      own = t.own;
      theirs = t.theirs;
      view = t.view;
      back = record {
        imports = back.imports;
        sessions = subst (λ (z : ℕ → ℕ). (q : ℕ) → IsSession (g.theirs.session q) (past g.theirs z rest q) (map.get (w.other).questions q)) (opens_none g.theirs now x h) back.sessions;
        link =
            ap (λ z. shapes u w.vat g.theirs reads z rest) (sym (opens_none g.theirs now x h))
            ∙ (ap (λ z. in_front z (shapes u w.vat g.theirs reads (past_one g.theirs now x) rest)) (sym (no_shape u w.vat reads now x h)) ∙ back.link);
      };
      told = t.told;
      unborn = t.unborn;
      unborn_back = subst (λ (o : Option ℕ). Unborn w.vat (d.state).outcomes g.own.outcome m.net.stop m.net.kind m.net.waiting g.next (in_front o (unborn_ids g.theirs.session rest))) (silent_makes_none g.theirs.session x h) t.unborn_back;
      known = t.known;
      known_there = t.known_there;
      goes = t.goes;
      comes = taken x h t.comes;
    }
  where
    u : Vat
    u = other_vat w.vat

    now : ℕ → ℕ
    now = sessions_at g.own.outcome (d.state).answers

    reads : Reader
    reads = reader w.other d.state g.own

    taken : (y : Message) → IsSilent y → AllSaid (bare m.net) u (w.other).exports g.theirs w.vat (d.state).exports g.own (has_of [] (d.state).imports (d.state).questions) now (y ∷ rest)
        → AllSaid (bare m.net) u (w.other).exports g.theirs w.vat (d.state).exports g.own (has_of (given (descriptors_of y)) (d.state).imports (d.state).questions) now rest
    taken (message.Plain y) k c =
        subst (λ (z : ℕ → ℕ). AllSaid (bare m.net) u (w.other).exports g.theirs w.vat (d.state).exports g.own (has_of (given (descriptors_of (message.Plain y))) (d.state).imports (d.state).questions) z rest)
        (opens_none g.theirs now (message.Plain y) k) c.1
    taken (message.Unimplemented y) k c = c.1

-- They are taken.
pub none_coming : (w : Around) (coming : List ℕ) (s : State) (sends : List Message) (ds : List Delivery) (g : Ghosts) (m : routing.State routes) → TiedBy w coming s sends ds g m → TiedBy w [] s sends ds g m
none_coming w coming s sends ds g m t = record {
  own = t.own;
  theirs = t.theirs;
  view = t.view;
  back = t.back;
  told = t.told;
  unborn = t.unborn;
  unborn_back = t.unborn_back;
  known = t.known;
  known_there = t.known_there;
  goes = t.goes;
  comes = said_of_fewer (bare m.net) (other_vat w.vat) (w.other).exports g.theirs w.vat s.exports g.own (has_of coming s.imports s.questions) (has_of [] s.imports s.questions) (sessions_at g.own.outcome s.answers) w.back
      (λ e h. or_right (is_among e coming) (is_some (map.get s.imports e)) h) (each_return _ w.back (λ q h. h)) t.comes;
}

pub silent_comes : (w : Around) (d : Progress) (g : Ghosts) (m : routing.State routes) (x : Message) (rest : List Message) → Tied (with_back w (x ∷ rest)) d g m → IsSilent x → Tied (with_back w rest) d g m
silent_comes w d g m x rest t h = none_coming (with_back w rest) (given (descriptors_of x)) d.state d.effects.sends d.effects.deliveries g m (silent_taken w d g m x rest t h)
