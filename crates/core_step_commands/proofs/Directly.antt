-- A call that goes to an import at once is not refused, and goes over the wire.
use Rattle.std.proofs.Common.{◌≡◌, ℕ, ◌+◌, ◌<◌, Bool, true, false, not, ◌&&◌, ◌||◌, nat_eq, is_some, List, [], ◌∷◌, length, Option, None, Some, refl, sym, ap, subst, ◌∙◌, arith}
use Rattle.std.proofs.lemmas.Bool.Decides.{nat_tests}
use Rattle.std.specs.FinMap as map
use Rattle.rpc_msg.specs.declared.ids.CallId.{CallId}
use Rattle.rpc_msg.specs.declared.ids.EmbargoId.{EmbargoId}
use Rattle.rpc_msg.specs.declared.ids.RefId.{RefId}
use Rattle.rpc_msg.specs.declared.parts.Target.TheVariants.{ImportedCap}
use Rattle.rpc_journal.specs.History.{if_so}
use Rattle.rpc_machine.specs.declared.calls.Request.{Request}
use Rattle.rpc_machine.specs.declared.command.CallCommand.{CallCommand}
use Rattle.rpc_machine.specs.declared.command.Command.TheVariants as command
use Rattle.rpc_machine.specs.declared.command.Granted.TheVariants as granted
use Rattle.rpc_machine.specs.declared.command.Level.{Level}
use Rattle.rpc_machine.specs.declared.command.Level.TheVariants.{Zero, One}
use Rattle.rpc_machine.specs.declared.command.Refusal.{Refusal}
use Rattle.rpc_machine.specs.declared.command.Refusal.TheVariants as refusal
use Rattle.rpc_machine.specs.declared.entries.Reference.{Reference}
use Rattle.rpc_machine.specs.declared.node.Node.{Node}
use Rattle.rpc_machine.specs.declared.node.Node.TheVariants as node
use Rattle.rpc_machine.specs.State.{State}
use Rattle.rpc_machine.specs.Lists.{earliest, is_empty}
use Rattle.rpc_machine.specs.Limits.{number_limit, made_through}
use Rattle.rpc_machine.specs.Nodes.{settle}
use Rattle.rpc_machine.specs.Payloads.{caps_in}
use Rattle.rpc_machine.specs.Progress.{Progress}
use Rattle.rpc_machine.specs.Fullness.{is_spent, has_no_room, lacks_room_at, lacks_room_through, call_lacks_room}
use Rattle.rpc_machine.specs.Refusals.{is_zero_level, while_down, wrong_level, unknown_ref, wrong_caps, without_room, refused}
use Rattle.rpc_machine.specs.Commands.{CallsThrough, CallsBy, CallsDirect, MakesCall, heads, request}
use Rattle.rpc_machine.proofs.Settles.{settles_here}
use Rattle.core_step_commands.specs.Straight.{LeadsStraight, IsStraight}
use Rattle.core_step_commands.specs.Ways.{numbered}
use Rattle.core_step_commands.specs.declared.straight_call.StraightCall.{StraightCall}
use Rattle.core_step_commands.proofs.Making.{makes}

-- ---- It is not refused

pub none_long : {X : Type 0} (xs : List X) → length xs ≡ 0 → xs ≡ []
none_long [] h = refl
none_long (x ∷ xs) h = absurd (omega (arith, h))

skip : (a : Option Refusal) (rest : List (Option Refusal)) → a ≡ None → earliest rest ≡ None → earliest (a ∷ rest) ≡ None
skip None rest h then = then
skip (Some r) rest h then = let bad : Some r ≡ None = h in cc

none_of : (a b c : Bool) → a ≡ false → b ≡ false → c ≡ false → (a || b || c) ≡ false
none_of false false false h i j = refl
none_of true b c h i j = let bad : true ≡ false = h in cc
none_of false true c h i j = let bad : true ≡ false = i in cc
none_of false false true h i j = let bad : true ≡ false = j in cc

any_level : (l : Level) → if_so (is_zero_level l && false) refusal.Level ≡ None
any_level Zero = refl
any_level One = refl

unspent : (n : ℕ) → n + 1 < number_limit → is_spent n 1 ≡ false
unspent n h = grind (arith, nat_tests)

module _ (s : State) (c : CallCommand) (x : StraightCall) (alone : c.refs ≡ []) where
  known : (o : Option Reference) → LeadsStraight o x → if_so (not (is_some o && true)) refusal.UnknownRef ≡ None
  known None h = absurd h
  known (Some y) h = refl

  lacks : (o : Option Reference) → LeadsStraight o x → s.next_call + 1 < number_limit → x.made + 1 < number_limit → has_no_room s.questions ≡ false → call_lacks_room s [] o ≡ false
  lacks None h number made room = absurd h
  lacks (Some y) h number made room =
      none_of (is_spent s.next_call 1) (is_spent y.made 1) (lacks_room_through s [] y.head y.embargo) (unspent s.next_call number)
      (ap (λ (k : ℕ). is_spent k 1) h.2 ∙ unspent x.made made)
      (ap (lacks_room_through s [] y.head) h.1
      ∙ ap (λ (n : Node). lacks_room_at s [] (settle s n)) h.0
      ∙ ap (lacks_room_at s []) (settles_here s (node.Import x.id) refl)
      ∙ ap (λ (b : Bool). b || false) room)

  abbrev last : List (Option Refusal)
  last = without_room s (command.Call c) ∷ []

  abbrev three : List (Option Refusal)
  three = wrong_caps c.payload c.refs ∷ last

  abbrev two : List (Option Refusal)
  two = unknown_ref s (c.reference ∷ c.refs) ∷ three

  abbrev one : List (Option Refusal)
  one = wrong_level s (not (is_empty c.refs)) ∷ two

  pub straight_allowed : s.down ≡ None → caps_in c.payload ≡ 0 → LeadsStraight (map.get s.refs c.reference.0) x → s.next_call + 1 < number_limit → x.made + 1 < number_limit → has_no_room s.questions ≡ false
      → refused s (command.Call c) ≡ None
  straight_allowed up caps leads number made room =
      let is_up = ap (λ (o : Option ℕ). if_so (is_some o && true) refusal.Down) up in
      let levels = ap (λ (rs : List RefId). wrong_level s (not (is_empty rs))) alone ∙ any_level s.level in
      let there = ap (λ (rs : List RefId). unknown_ref s (c.reference ∷ rs)) alone ∙ known (map.get s.refs c.reference.0) leads in
      let counted = ap (wrong_caps c.payload) alone ∙ ap (λ (k : ℕ). if_so (not (nat_eq k 0)) refusal.CapCount) caps in
      let fits = ap (λ (rs : List RefId). call_lacks_room s (heads s rs) (map.get s.refs c.reference.0)) alone ∙ lacks (map.get s.refs c.reference.0) leads number made room in
      skip (while_down s (command.Call c)) one is_up
      (skip (wrong_level s (not (is_empty c.refs))) two levels
      (skip (unknown_ref s (c.reference ∷ c.refs)) three there
      (skip (wrong_caps c.payload c.refs) last counted
      (skip (without_room s (command.Call c)) [] (ap (λ (b : Bool). if_so b refusal.Full) fits) refl))))

-- ---- It goes over the wire

pub made_straight : (o : Option Reference) (x : StraightCall) → LeadsStraight o x → made_through o ≡ x.made
made_straight None x h = absurd h
made_straight (Some y) x h = h.2

abbrev pub sent_by : State → CallCommand → ℕ → List Node → Request
sent_by s c made caps = record {
  stamp = record { vat = s.vat; reference = c.reference; index = made };
  interface = c.interface;
  method = c.method;
  payload = c.payload;
  caps = caps;
}

module _ (d p : Progress) (c : CallCommand) (x : StraightCall) (i : CallId) (new : Progress) (h : IsStraight d.state c x) (is : p ≡ numbered d c.reference.0) (given : i ≡ record { 0 = d.state.next_call }) where
  by : (r : Request) → r ≡ sent_by d.state c x.made [] → CallsDirect p i.0 r (ImportedCap x.id) new → (o : Option Reference) → map.get d.state.refs c.reference.0 ≡ o → LeadsStraight o x → MakesCall d c (map.get d.state.refs c.reference.0) (granted.Call i) new
  by r asked called None there l = absurd l
  by r asked called (Some y) there l =
      let asks : r ≡ request d.state c y = asked ∙ ap (λ (k : ℕ). sent_by d.state c k []) (sym l.2) ∙ ap (λ (rs : List RefId). sent_by d.state c y.made (heads d.state rs)) (sym h.alone) in
      let at : CallsBy p i.0 r (node.Import x.id) (settle p.state (node.Import x.id)) new = subst (λ (n : Node). CallsBy p i.0 r (node.Import x.id) n new) (sym (settles_here p.state (node.Import x.id) refl)) called in
      let through : CallsThrough p i.0 r y.head None new = subst (λ (n : Node). CallsThrough p i.0 r n None new) (sym l.0) at in
      makes d p c y r i new there is asks given (subst (λ (e : Option EmbargoId). CallsThrough p i.0 r y.head e new) (sym l.1) through)

  pub straight_made : (r : Request) → r ≡ sent_by d.state c x.made [] → CallsDirect p i.0 r (ImportedCap x.id) new → MakesCall d c (map.get d.state.refs c.reference.0) (granted.Call i) new
  straight_made r asked called = by r asked called (map.get d.state.refs c.reference.0) refl h.leads
