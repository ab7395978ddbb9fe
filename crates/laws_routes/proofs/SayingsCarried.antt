-- What is said on the way stays so as messages are sent, as imports go, and as exports are added.
use mathlib.Core.Path.{fun_ext}
use Rattle.std.specs.FinMap as map
use Rattle.std.proofs.Common.{◌≡◌, ℕ, nat_eq, zero, suc, Bool, true, false, ◌||◌, List, [], ◌∷◌, ◌++◌, Option, None, Some, IsSome, refl, sym, subst, ap, ◌∙◌}
use Rattle.rpc_msg.specs.CapAt.{CapAt}
use Rattle.rpc_msg.specs.CapAt.TheVariants.{Cap, Null, NotCap}
use Rattle.finite_maps.specs.Tally.{Map}
use Rattle.rpc_msg.specs.declared.ids.Vat.{Vat}
use Rattle.rpc_msg.specs.declared.parts.Descriptor.{Descriptor}
use Rattle.rpc_msg.specs.declared.parts.Descriptor.TheVariants as descriptor
use Rattle.rpc_msg.specs.declared.message.ResolvedTo.{ResolvedTo}
use Rattle.rpc_msg.specs.declared.message.ResolvedTo.TheVariants as resolved
use Rattle.rpc_msg.specs.declared.message.ReturnBody.{ReturnBody}
use Rattle.rpc_msg.specs.declared.message.ReturnBody.TheVariants as body
use Rattle.rpc_msg.specs.declared.message.PlainMessage.{PlainMessage}
use Rattle.rpc_msg.specs.declared.message.PlainMessage.TheVariants as plain
use Rattle.rpc_msg.specs.declared.message.Message.{Message}
use Rattle.rpc_msg.specs.declared.message.Message.TheVariants as message
use Rattle.rpc_msg.specs.Messages.{descriptors_of, descriptors_of_body, descriptors_of_resolved, given}
use Rattle.rpc_msg.specs.Paths.{fields}
use Rattle.rpc_machine.specs.Payloads.{cap_at}
use Rattle.rpc_machine.specs.declared.entries.Export.{Export}
use Rattle.rpc_machine.specs.Descriptors.{export_node}
use Rattle.laws_order.specs.Machine.{Net}
use Rattle.laws_order.specs.Machine as routing
use Rattle.laws_routes.specs.Points.{Point, AField, routes}
use Rattle.laws_routes.specs.Ghosts.{Ghost, point}
use Rattle.laws_routes.specs.Views.{past, past_one}
use Rattle.laws_routes.specs.Sayings.{AllSaid, Has, IsSaid, IsSilentPlain, SaidAt, SaidBy, SaidIfThere, SaidOfAnswer, SaidOfCap, SaidOfExport, descriptor_point, has_behind, is_among}
use Rattle.laws_routes.specs.Premises.{EachOpen}
use Rattle.laws_routes.specs.QuietLaws.{EachOff, IsOffDescriptor, NoneNames, Unless, opens}
use Rattle.laws_routes.proofs.AlikeSessions.{past_alike, past_opened}
use Rattle.laws_routes.proofs.LinkShapes.{past_one_same}
use Rattle.laws_routes.specs.KnownLaws.{SamePoints, StillThere, has_past}
use Rattle.laws_routes.specs.Named.{AllMet, AllNamed, EachMet, EachReturn, NamesMet, ResolveMet, ReturnOf}

-- ---- One more message

pub if_said : (P Q : Type 0) (b : Bool) → (P → Q) → SaidIfThere b P → SaidIfThere b Q
if_said P Q true f h = f h
if_said P Q false f h = tt

pub if_fewer : (P : Type 0) (a b : Bool) → (b ≡ true → a ≡ true) → SaidIfThere a P → SaidIfThere b P
if_fewer P a false f h = tt
if_fewer P true true f h = h
if_fewer P false true f h = let e : false ≡ true = f refl in cc

pub or_fewer : (a b c : Bool) → (c ≡ true → b ≡ true) → (a || c) ≡ true → (a || b) ≡ true
or_fewer true b c f e = refl
or_fewer false b c f e = f e

module _ (n : Net routes) (v : Vat) (E : Map Export) (g : Ghost) (u : Vat) (F : Map Export) (f : Ghost) where
  sent : (has : Has) (now : ℕ → ℕ) (ms : List Message) (m : PlainMessage) → AllSaid n v E g u F f has now ms → SaidBy n v E g u F f (has_past has ms) (past g now ms) m → AllSaid n v E g u F f has now (ms ++ message.Plain m ∷ [])
  sent has now [] m h k = (k, tt)
  sent has now (message.Plain x ∷ ms) m h k = (h.0, sent (has_behind has (descriptors_of (message.Plain x))) (past_one g now (message.Plain x)) ms m h.1 k)
  sent has now (message.Unimplemented x ∷ ms) m h k = (h.0, sent has now ms m h.1 k)

  sent_back : (has : Has) (now : ℕ → ℕ) (ms : List Message) (m : PlainMessage) → AllSaid n v E g u F f has now ms → IsSilentPlain m → AllSaid n v E g u F f has now (ms ++ message.Unimplemented m ∷ [])
  sent_back has now [] m h k = (k, tt)
  sent_back has now (message.Plain x ∷ ms) m h k = (h.0, sent_back (has_behind has (descriptors_of (message.Plain x))) (past_one g now (message.Plain x)) ms m h.1 k)
  sent_back has now (message.Unimplemented x ∷ ms) m h k = (h.0, sent_back has now ms m h.1 k)

  -- ---- Fewer imports

  one_fewer : (has left : Has) (now : ℕ → ℕ) (m : PlainMessage) → ((e : ℕ) → left.import e ≡ true → has.import e ≡ true) → ReturnOf (λ q. left.question q ≡ true → has.question q ≡ true) m → SaidBy n v E g u F f has now m → SaidBy n v E g u F f left now m
  one_fewer has left now (plain.Abort exception) a r h = tt
  one_fewer has left now (plain.Bootstrap q) a r h = tt
  one_fewer has left now (plain.Call c) a r h = tt
  one_fewer has left now (plain.Return x) a r h = if_fewer _ (has.question x.answer.0) (left.question x.answer.0) r h
  one_fewer has left now (plain.Finish x) a r h = tt
  one_fewer has left now (plain.Resolve x) a r h = if_fewer _ (has.import x.promise.0) (left.import x.promise.0) (a x.promise.0) h
  one_fewer has left now (plain.Release x) a r h = tt
  one_fewer has left now (plain.Disembargo x) a r h = tt
  one_fewer has left now (plain.Other k) a r h = tt

  fewer : (has left : Has) (now : ℕ → ℕ) (ms : List Message) → ((e : ℕ) → left.import e ≡ true → has.import e ≡ true) → EachReturn (λ q. left.question q ≡ true → has.question q ≡ true) ms → AllSaid n v E g u F f has now ms
      → AllSaid n v E g u F f left now ms
  fewer has left now [] a r h = tt
  fewer has left now (message.Plain m ∷ ms) a r h =
      let ds = descriptors_of (message.Plain m) in
      (one_fewer has left now m a r.0 h.0, fewer (has_behind has ds) (has_behind left ds) (past_one g now (message.Plain m)) ms (λ e. or_fewer (is_among e (given ds)) (has.import e) (left.import e) (a e)) r.1 h.1)
  fewer has left now (message.Unimplemented m ∷ ms) a r h = (h.0, fewer has left now ms a r h.1)

pub said_is_sent : (n : Net routes) (v : Vat) (E : Map Export) (g : Ghost) (u : Vat) (F : Map Export) (f : Ghost) (has : Has) (now : ℕ → ℕ) (ms : List Message) (m : PlainMessage) → AllSaid n v E g u F f has now ms
    → SaidBy n v E g u F f (has_past has ms) (past g now ms) m → AllSaid n v E g u F f has now (ms ++ message.Plain m ∷ [])
said_is_sent n v E g u F f has now ms m h k = sent n v E g u F f has now ms m h k

pub said_sent_back : (n : Net routes) (v : Vat) (E : Map Export) (g : Ghost) (u : Vat) (F : Map Export) (f : Ghost) (has : Has) (now : ℕ → ℕ) (ms : List Message) (m : PlainMessage) → AllSaid n v E g u F f has now ms → IsSilentPlain m
    → AllSaid n v E g u F f has now (ms ++ message.Unimplemented m ∷ [])
said_sent_back n v E g u F f has now ms m h k = sent_back n v E g u F f has now ms m h k

pub or_right : (b c : Bool) → c ≡ true → (b || c) ≡ true
or_right true c e = refl
or_right false c e = e

pub said_of_fewer : (n : Net routes) (v : Vat) (E : Map Export) (g : Ghost) (u : Vat) (F : Map Export) (f : Ghost) (has left : Has) (now : ℕ → ℕ) (ms : List Message) → ((e : ℕ) → left.import e ≡ true → has.import e ≡ true)
    → EachReturn (λ q. left.question q ≡ true → has.question q ≡ true) ms → AllSaid n v E g u F f has now ms → AllSaid n v E g u F f left now ms
said_of_fewer n v E g u F f has left now ms a r h = fewer n v E g u F f has left now ms a r h

pub each_return : (P : ℕ → Type 0) (ms : List Message) → ((q : ℕ) → P q) → EachReturn P ms
each_return P [] f = tt
each_return P (message.Plain (plain.Abort exception) ∷ ms) f = (tt, each_return P ms f)
each_return P (message.Plain (plain.Bootstrap q) ∷ ms) f = (tt, each_return P ms f)
each_return P (message.Plain (plain.Call c) ∷ ms) f = (tt, each_return P ms f)
each_return P (message.Plain (plain.Return x) ∷ ms) f = (f x.answer.0, each_return P ms f)
each_return P (message.Plain (plain.Finish x) ∷ ms) f = (tt, each_return P ms f)
each_return P (message.Plain (plain.Resolve x) ∷ ms) f = (tt, each_return P ms f)
each_return P (message.Plain (plain.Release x) ∷ ms) f = (tt, each_return P ms f)
each_return P (message.Plain (plain.Disembargo x) ∷ ms) f = (tt, each_return P ms f)
each_return P (message.Plain (plain.Other k) ∷ ms) f = (tt, each_return P ms f)
each_return P (message.Unimplemented m ∷ ms) f = each_return P ms f

pub return_map : (P Q : ℕ → Type 0) (ms : List Message) → ((q : ℕ) → P q → Q q) → EachReturn P ms → EachReturn Q ms
return_map P Q [] f h = tt
return_map P Q (message.Plain (plain.Abort exception) ∷ ms) f h = (tt, return_map P Q ms f h.1)
return_map P Q (message.Plain (plain.Bootstrap q) ∷ ms) f h = (tt, return_map P Q ms f h.1)
return_map P Q (message.Plain (plain.Call c) ∷ ms) f h = (tt, return_map P Q ms f h.1)
return_map P Q (message.Plain (plain.Return x) ∷ ms) f h = (f x.answer.0 h.0, return_map P Q ms f h.1)
return_map P Q (message.Plain (plain.Finish x) ∷ ms) f h = (tt, return_map P Q ms f h.1)
return_map P Q (message.Plain (plain.Resolve x) ∷ ms) f h = (tt, return_map P Q ms f h.1)
return_map P Q (message.Plain (plain.Release x) ∷ ms) f h = (tt, return_map P Q ms f h.1)
return_map P Q (message.Plain (plain.Disembargo x) ∷ ms) f h = (tt, return_map P Q ms f h.1)
return_map P Q (message.Plain (plain.Other k) ∷ ms) f h = (tt, return_map P Q ms f h.1)
return_map P Q (message.Unimplemented m ∷ ms) f h = return_map P Q ms f h

-- ---- More exports

still_read : (v : Vat) (g : Ghost) (E F : Map Export) → StillThere E F → (e : ℕ) → IsSome (map.get E e) → point v g (export_node (map.get F e)) ≡ point v g (export_node (map.get E e))
still_read v g E F still e i = by (map.get E e) refl i
  where
    by : (o : Option Export) → map.get E e ≡ o → IsSome o → point v g (export_node (map.get F e)) ≡ point v g (export_node o)
    by None f k = cc
    by (Some y) f k = let z = still e y f in ap (λ o. point v g (export_node o)) z.1 ∙ ap (point v g) z.2

module _ (n : Net routes) (v : Vat) (E E' : Map Export) (g : Ghost) (u : Vat) (F F' : Map Export) (f : Ghost) (own : StillThere E E') (theirs : StillThere F F') where
  reads : (now : ℕ → ℕ) (d : Descriptor) → NamesMet E F d → descriptor_point v E' g u F' f now d ≡ descriptor_point v E g u F f now d
  reads now descriptor.None h = refl
  reads now (descriptor.SenderHosted e) h = still_read v g E E' own e.0 h
  reads now (descriptor.SenderPromise e) h = still_read v g E E' own e.0 h
  reads now (descriptor.ReceiverHosted e) h = still_read u f F F' theirs e.0 h
  reads now (descriptor.ReceiverAnswer q path) h = refl

  one_said : (now : ℕ → ℕ) (w : Point) (d : Descriptor) → NamesMet E F d → IsSaid n w d (descriptor_point v E g u F f now d) → IsSaid n w d (descriptor_point v E' g u F' f now d)
  one_said now w d met h = subst (λ (p : Point). IsSaid n w d p) (sym (reads now d met)) h

  at_said : (now : ℕ → ℕ) (w : Point) (ds : List Descriptor) (i : ℕ) → EachMet E F ds → SaidAt n w (descriptor_point v E g u F f now) ds i → SaidAt n w (descriptor_point v E' g u F' f now) ds i
  at_said now w [] i met h = h
  at_said now w (d ∷ ds) zero met h = one_said now w d met.0 h
  at_said now w (d ∷ ds) (suc i) met h = at_said now w ds i met.1 h

  cap_said : (now : ℕ → ℕ) (w : Point) (ds : List Descriptor) (c : CapAt) → EachMet E F ds → SaidOfCap n w (descriptor_point v E g u F f now) ds c → SaidOfCap n w (descriptor_point v E' g u F' f now) ds c
  cap_said now w ds (Cap i) met h = at_said now w ds i met h
  cap_said now w ds Null met h = h
  cap_said now w ds NotCap met h = h

  answer_said : (now : ℕ → ℕ) (i : ℕ) (x : ReturnBody) → EachMet E F (descriptors_of_body x) → SaidOfAnswer n v i (descriptor_point v E g u F f now) x → SaidOfAnswer n v i (descriptor_point v E' g u F' f now) x
  answer_said now i (body.Results payload ds) met h = λ path. cap_said now (AField v i path) ds (cap_at payload path) met (h path)
  answer_said now i (body.Exception exception) met h = h
  answer_said now i body.Canceled met h = tt

  export_said : (now : ℕ → ℕ) (e : ℕ) (to : ResolvedTo) → EachMet E F (descriptors_of (message.Plain (plain.Resolve (record { promise = record { 0 = e }; to = to })))) → IsSome (map.get E e)
      → SaidOfExport n v g (map.get E e) (descriptor_point v E g u F f now) to → SaidOfExport n v g (map.get E' e) (descriptor_point v E' g u F' f now) to
  export_said now e to met there h = by (map.get E e) refl there h
    where
      about : (a b : Export) (x : ResolvedTo) → b.node ≡ a.node → EachMet E F (descriptors_of (message.Plain (plain.Resolve (record { promise = record { 0 = e }; to = x })))) → SaidOfExport n v g (Some a) (descriptor_point v E g u F f now) x
          → SaidOfExport n v g (Some b) (descriptor_point v E' g u F' f now) x
      about a b (resolved.Cap d) same m k = subst (λ z. IsSaid n (point v g z) d (descriptor_point v E' g u F' f now d)) (sym same) (one_said now (point v g a.node) d m.0 k)
      about a b (resolved.Exception exception) same m k = subst (λ z. n.kind (n.stop (point v g z)) ≡ routing.Broken) (sym same) k

      by : (o : Option Export) → map.get E e ≡ o → IsSome o → SaidOfExport n v g o (descriptor_point v E g u F f now) to → SaidOfExport n v g (map.get E' e) (descriptor_point v E' g u F' f now) to
      by None a i k = cc
      by (Some x) a i k = let y = own e x a in subst (λ o. SaidOfExport n v g o (descriptor_point v E' g u F' f now) to) (sym y.1) (about x y.0 to y.2 met k)

  resolve_said : (b : Bool) (now : ℕ → ℕ) (e : ℕ) (to : ResolvedTo) → EachMet E F (descriptors_of (message.Plain (plain.Resolve (record { promise = record { 0 = e }; to = to })))) → (b ≡ true → IsSome (map.get E e))
      → SaidIfThere b (SaidOfExport n v g (map.get E e) (descriptor_point v E g u F f now) to) → SaidIfThere b (SaidOfExport n v g (map.get E' e) (descriptor_point v E' g u F' f now) to)
  resolve_said true now e to met there h = export_said now e to met (there refl) h
  resolve_said false now e to met there h = tt

  by_message : (has : Has) (now : ℕ → ℕ) (m : PlainMessage) → EachMet E F (descriptors_of (message.Plain m)) → ResolveMet E has m → SaidBy n v E g u F f has now m → SaidBy n v E' g u F' f has now m
  by_message has now (plain.Abort exception) met r h = tt
  by_message has now (plain.Bootstrap q) met r h = tt
  by_message has now (plain.Call c) met r h = tt
  by_message has now (plain.Return x) met r h = if_said _ _ (has.question x.answer.0) (answer_said now (f.session x.answer.0) x.body met) h
  by_message has now (plain.Finish x) met r h = tt
  by_message has now (plain.Resolve x) met r h = resolve_said (has.import x.promise.0) now x.promise.0 x.to met r h
  by_message has now (plain.Release x) met r h = tt
  by_message has now (plain.Disembargo x) met r h = tt
  by_message has now (plain.Other k) met r h = tt

  all_exported : (has : Has) (now : ℕ → ℕ) (ms : List Message) → AllMet E F has ms → AllSaid n v E g u F f has now ms → AllSaid n v E' g u F' f has now ms
  all_exported has now [] met h = tt
  all_exported has now (message.Plain m ∷ ms) met h =
      (by_message has now m met.0 met.1 h.0, all_exported (has_behind has (descriptors_of (message.Plain m))) (past_one g now (message.Plain m)) ms met.2 h.1)
  all_exported has now (message.Unimplemented m ∷ ms) met h = (h.0, all_exported has now ms met h.1)

pub said_as_exported : (n : Net routes) (v : Vat) (E E' : Map Export) (g : Ghost) (u : Vat) (F F' : Map Export) (f : Ghost) (has : Has) (now : ℕ → ℕ) (ms : List Message) → StillThere E E' → StillThere F F' → AllMet E F has ms
    → AllSaid n v E g u F f has now ms → AllSaid n v E' g u F' f has now ms
said_as_exported n v E E' g u F F' f has now ms own theirs met h = all_exported n v E E' g u F F' f own theirs has now ms met h

-- What was there still is.
pub there_still : (E E' : Map Export) → StillThere E E' → (e : ℕ) → IsSome (map.get E e) → IsSome (map.get E' e)
there_still E E' still e i = by (map.get E e) refl i
  where
    by : (o : Option Export) → map.get E e ≡ o → IsSome o → IsSome (map.get E' e)
    by None f k = cc
    by (Some y) f k = let z = still e y f in subst (λ (o : Option Export). IsSome o) (sym z.1) refl

pub all_there : (E : Map Export) → StillThere E E
all_there E = λ e x f. (x, f, refl)

module _ (E E' F F' : Map Export) (own : StillThere E E') (theirs : StillThere F F') where
  pub name_met : (d : Descriptor) → NamesMet E F d → NamesMet E' F' d
  name_met descriptor.None h = tt
  name_met (descriptor.SenderHosted e) h = there_still E E' own e.0 h
  name_met (descriptor.SenderPromise e) h = there_still E E' own e.0 h
  name_met (descriptor.ReceiverHosted e) h = there_still F F' theirs e.0 h
  name_met (descriptor.ReceiverAnswer q path) h = tt

  each_met : (ds : List Descriptor) → EachMet E F ds → EachMet E' F' ds
  each_met [] h = tt
  each_met (d ∷ ds) h = (name_met d h.0, each_met ds h.1)

  resolve_met : (has : Has) (m : PlainMessage) → ResolveMet E has m → ResolveMet E' has m
  resolve_met has (plain.Abort exception) h = tt
  resolve_met has (plain.Bootstrap q) h = tt
  resolve_met has (plain.Call c) h = tt
  resolve_met has (plain.Return x) h = tt
  resolve_met has (plain.Finish x) h = tt
  resolve_met has (plain.Resolve x) h = λ e. there_still E E' own x.promise.0 (h e)
  resolve_met has (plain.Release x) h = tt
  resolve_met has (plain.Disembargo x) h = tt
  resolve_met has (plain.Other k) h = tt

  pub all_met : (has : Has) (ms : List Message) → AllMet E F has ms → AllMet E' F' has ms
  all_met has [] h = tt
  all_met has (message.Plain m ∷ ms) h = (each_met (descriptors_of (message.Plain m)) h.0, resolve_met has m h.1, all_met (has_behind has (descriptors_of (message.Plain m))) ms h.2)
  all_met has (message.Unimplemented m ∷ ms) h = all_met has ms h

-- ---- Other identities

module _ (n : Net routes) (v : Vat) (E : Map Export) (g g' : Ghost) (u : Vat) (F : Map Export) (f f' : Ghost) (own : SamePoints v g g' E) (theirs : SamePoints u f f' F) where
  reads_alike : (now : ℕ → ℕ) (d : Descriptor) → descriptor_point v E g' u F f' now d ≡ descriptor_point v E g u F f now d
  reads_alike now descriptor.None = refl
  reads_alike now (descriptor.SenderHosted e) = own e.0
  reads_alike now (descriptor.SenderPromise e) = own e.0
  reads_alike now (descriptor.ReceiverHosted e) = theirs e.0
  reads_alike now (descriptor.ReceiverAnswer q path) = refl

  read_same : (now : ℕ → ℕ) → descriptor_point v E g u F f now ≡ descriptor_point v E g' u F f' now
  read_same now = fun_ext (λ d. sym (reads_alike now d))

  of_export : (o : Option Export) (read : Descriptor → Point) (to : ResolvedTo) → point v g' (export_node o) ≡ point v g (export_node o) → SaidOfExport n v g o read to → SaidOfExport n v g' o read to
  of_export None read to e h = tt
  of_export (Some x) read (resolved.Cap d) e h = subst (λ (p : Point). IsSaid n p d (read d)) (sym e) h
  of_export (Some x) read (resolved.Exception exception) e h = subst (λ (p : Point). n.kind (n.stop p) ≡ routing.Broken) (sym e) h

  given_one : (has : Has) (now : ℕ → ℕ) (m : PlainMessage) → ReturnOf (λ k. f'.session k ≡ f.session k) m → SaidBy n v E g u F f has now m → SaidBy n v E g' u F f' has now m
  given_one has now (plain.Abort exception) e h = tt
  given_one has now (plain.Bootstrap q) e h = tt
  given_one has now (plain.Call c) e h = tt
  given_one has now (plain.Return x) e h =
      if_said _ _ (has.question x.answer.0)
      (λ k. subst (λ (i : ℕ). SaidOfAnswer n v i (descriptor_point v E g' u F f' now) x.body) (sym e) (subst (λ (read : Descriptor → Point). SaidOfAnswer n v (f.session x.answer.0) read x.body) (read_same now) k)) h
  given_one has now (plain.Finish x) e h = tt
  given_one has now (plain.Resolve x) e h =
      if_said _ _ (has.import x.promise.0)
      (λ k. of_export (map.get E x.promise.0) (descriptor_point v E g' u F f' now) x.to (own x.promise.0) (subst (λ (read : Descriptor → Point). SaidOfExport n v g (map.get E x.promise.0) read x.to) (read_same now) k)) h
  given_one has now (plain.Release x) e h = tt
  given_one has now (plain.Disembargo x) e h = tt
  given_one has now (plain.Other k) e h = tt

  all_given : (has : Has) (now : ℕ → ℕ) (ms : List Message) → EachOpen (λ k. g'.session k ≡ g.session k) ms → EachReturn (λ k. f'.session k ≡ f.session k) ms → AllSaid n v E g u F f has now ms → AllSaid n v E g' u F f' has now ms
  all_given has now [] o r h = tt
  all_given has now (message.Plain m ∷ ms) o r h = (
    given_one has now m r.0 h.0,
    subst (λ (z : ℕ → ℕ). AllSaid n v E g' u F f' (has_behind has (descriptors_of (message.Plain m))) z ms) (sym (past_one_same g g' now (message.Plain m) o.0))
        (all_given (has_behind has (descriptors_of (message.Plain m))) (past_one g now (message.Plain m)) ms o.1 r.1 h.1),
  )
  all_given has now (message.Unimplemented m ∷ ms) o r h = (h.0, all_given has now ms o.1 r h.1)

pub said_as_given : (n : Net routes) (v : Vat) (E : Map Export) (g g' : Ghost) (u : Vat) (F : Map Export) (f f' : Ghost) (has : Has) (now : ℕ → ℕ) (ms : List Message) → SamePoints v g g' E → SamePoints u f f' F
    → EachOpen (λ k. g'.session k ≡ g.session k) ms → EachReturn (λ k. f'.session k ≡ f.session k) ms → AllSaid n v E g u F f has now ms → AllSaid n v E g' u F f' has now ms
said_as_given n v E g g' u F f f' has now ms own theirs o r h = all_given n v E g g' u F f f' own theirs has now ms o r h

-- ---- Fewer exports

module _ (n : Net routes) (v : Vat) (E E' : Map Export) (g : Ghost) (u : Vat) (F F' : Map Export) (f : Ghost) (own : StillThere E' E) (theirs : StillThere F' F) where
  of_left : (read : Descriptor → Point) (e : ℕ) (to : ResolvedTo) → SaidOfExport n v g (map.get E e) read to → SaidOfExport n v g (map.get E' e) read to
  of_left read e to h = by (map.get E' e) refl
    where
      about : (a b : Export) (x : ResolvedTo) → a.node ≡ b.node → SaidOfExport n v g (Some a) read x → SaidOfExport n v g (Some b) read x
      about a b (resolved.Cap d) same k = subst (λ z. IsSaid n (point v g z) d (read d)) same k
      about a b (resolved.Exception exception) same k = subst (λ z. n.kind (n.stop (point v g z)) ≡ routing.Broken) same k

      by : (o : Option Export) → map.get E' e ≡ o → SaidOfExport n v g o read to
      by None a = tt
      by (Some y) a = let x = own e y a in about x.0 y to x.2 (subst (λ o. SaidOfExport n v g o read to) x.1 h)

  -- Read by what is left, it was so: what was left out is added again.
  left_reads : (now : ℕ → ℕ) (d : Descriptor) → NamesMet E' F' d → descriptor_point v E g u F f now d ≡ descriptor_point v E' g u F' f now d
  left_reads now d met = reads n v E' E g u F' F f own theirs now d met

  left_at : (now : ℕ → ℕ) (w : Point) (ds : List Descriptor) (i : ℕ) → EachMet E' F' ds → SaidAt n w (descriptor_point v E g u F f now) ds i → SaidAt n w (descriptor_point v E' g u F' f now) ds i
  left_at now w [] i met h = h
  left_at now w (d ∷ ds) zero met h = subst (λ (p : Point). IsSaid n w d p) (left_reads now d met.0) h
  left_at now w (d ∷ ds) (suc i) met h = left_at now w ds i met.1 h

  left_cap : (now : ℕ → ℕ) (w : Point) (ds : List Descriptor) (c : CapAt) → EachMet E' F' ds → SaidOfCap n w (descriptor_point v E g u F f now) ds c → SaidOfCap n w (descriptor_point v E' g u F' f now) ds c
  left_cap now w ds (Cap i) met h = left_at now w ds i met h
  left_cap now w ds Null met h = h
  left_cap now w ds NotCap met h = h

  left_answer : (now : ℕ → ℕ) (i : ℕ) (x : ReturnBody) → EachMet E' F' (descriptors_of_body x) → SaidOfAnswer n v i (descriptor_point v E g u F f now) x → SaidOfAnswer n v i (descriptor_point v E' g u F' f now) x
  left_answer now i (body.Results payload ds) met h = λ path. left_cap now (AField v i path) ds (cap_at payload path) met (h path)
  left_answer now i (body.Exception exception) met h = h
  left_answer now i body.Canceled met h = tt

  left_resolved : (now : ℕ → ℕ) (o : Option Export) (to : ResolvedTo) → EachMet E' F' (descriptors_of_resolved to) → SaidOfExport n v g o (descriptor_point v E g u F f now) to → SaidOfExport n v g o (descriptor_point v E' g u F' f now) to
  left_resolved now None to met h = tt
  left_resolved now (Some x) (resolved.Cap d) met h = subst (λ (p : Point). IsSaid n (point v g x.node) d p) (left_reads now d met.0) h
  left_resolved now (Some x) (resolved.Exception exception) met h = h

  left_message : (has : Has) (now : ℕ → ℕ) (m : PlainMessage) → EachMet E' F' (descriptors_of (message.Plain m)) → SaidBy n v E g u F f has now m → SaidBy n v E' g u F' f has now m
  left_message has now (plain.Abort exception) met h = tt
  left_message has now (plain.Bootstrap q) met h = tt
  left_message has now (plain.Call c) met h = tt
  left_message has now (plain.Return x) met h = if_said _ _ (has.question x.answer.0) (left_answer now (f.session x.answer.0) x.body met) h
  left_message has now (plain.Finish x) met h = tt
  left_message has now (plain.Resolve x) met h =
      if_said _ _ (has.import x.promise.0) (λ k. of_left (descriptor_point v E' g u F' f now) x.promise.0 x.to (left_resolved now (map.get E x.promise.0) x.to met k)) h
  left_message has now (plain.Release x) met h = tt
  left_message has now (plain.Disembargo x) met h = tt
  left_message has now (plain.Other k) met h = tt

  all_left : (has : Has) (now : ℕ → ℕ) (ms : List Message) → AllNamed E' F' ms → AllSaid n v E g u F f has now ms → AllSaid n v E' g u F' f has now ms
  all_left has now [] met h = tt
  all_left has now (message.Plain m ∷ ms) met h = (left_message has now m met.0 h.0, all_left (has_behind has (descriptors_of (message.Plain m))) (past_one g now (message.Plain m)) ms met.1 h.1)
  all_left has now (message.Unimplemented m ∷ ms) met h = (h.0, all_left has now ms met h.1)

pub said_as_lowered : (n : Net routes) (v : Vat) (E E' : Map Export) (g : Ghost) (u : Vat) (F F' : Map Export) (f : Ghost) (has : Has) (now : ℕ → ℕ) (ms : List Message) → StillThere E' E → StillThere F' F → AllNamed E' F' ms
    → AllSaid n v E g u F f has now ms → AllSaid n v E' g u F' f has now ms
said_as_lowered n v E E' g u F F' f has now ms own theirs met h = all_left n v E E' g u F F' f own theirs has now ms met h

-- ---- An answer that closed

module _ (n : Net routes) (v : Vat) (E : Map Export) (g : Ghost) (u : Vat) (F : Map Export) (f : Ghost) (q : ℕ) where
  off_reads : (now then : ℕ → ℕ) (d : Descriptor) → ((k : ℕ) → nat_eq k q ≡ false → then k ≡ now k) → IsOffDescriptor q d → descriptor_point v E g u F f now d ≡ descriptor_point v E g u F f then d
  off_reads now then descriptor.None same off = refl
  off_reads now then (descriptor.SenderHosted e) same off = refl
  off_reads now then (descriptor.SenderPromise e) same off = refl
  off_reads now then (descriptor.ReceiverHosted e) same off = refl
  off_reads now then (descriptor.ReceiverAnswer k path) same off = ap (λ (i : ℕ). AField u i (fields path)) (sym (same k.0 off))

  module _ (now then : ℕ → ℕ) (same : (k : ℕ) → nat_eq k q ≡ false → then k ≡ now k) where
    off_at : (w : Point) (ds : List Descriptor) (i : ℕ) → EachOff q ds → SaidAt n w (descriptor_point v E g u F f now) ds i → SaidAt n w (descriptor_point v E g u F f then) ds i
    off_at w [] i off h = h
    off_at w (d ∷ ds) zero off h = subst (λ (p : Point). IsSaid n w d p) (off_reads now then d same off.0) h
    off_at w (d ∷ ds) (suc i) off h = off_at w ds i off.1 h

    off_cap : (w : Point) (ds : List Descriptor) (c : CapAt) → EachOff q ds → SaidOfCap n w (descriptor_point v E g u F f now) ds c → SaidOfCap n w (descriptor_point v E g u F f then) ds c
    off_cap w ds (Cap i) off h = off_at w ds i off h
    off_cap w ds Null off h = h
    off_cap w ds NotCap off h = h

    off_answer : (i : ℕ) (x : ReturnBody) → EachOff q (descriptors_of_body x) → SaidOfAnswer n v i (descriptor_point v E g u F f now) x → SaidOfAnswer n v i (descriptor_point v E g u F f then) x
    off_answer i (body.Results payload ds) off h = λ path. off_cap (AField v i path) ds (cap_at payload path) off (h path)
    off_answer i (body.Exception exception) off h = h
    off_answer i body.Canceled off h = tt

    off_resolved : (o : Option Export) (to : ResolvedTo) → EachOff q (descriptors_of_resolved to) → SaidOfExport n v g o (descriptor_point v E g u F f now) to → SaidOfExport n v g o (descriptor_point v E g u F f then) to
    off_resolved None to off h = tt
    off_resolved (Some x) (resolved.Cap d) off h = subst (λ (p : Point). IsSaid n (point v g x.node) d p) (off_reads now then d same off.0) h
    off_resolved (Some x) (resolved.Exception exception) off h = h

    off_message : (has : Has) (m : PlainMessage) → EachOff q (descriptors_of (message.Plain m)) → SaidBy n v E g u F f has now m → SaidBy n v E g u F f has then m
    off_message has (plain.Abort exception) off h = tt
    off_message has (plain.Bootstrap k) off h = tt
    off_message has (plain.Call c) off h = tt
    off_message has (plain.Return x) off h = if_said _ _ (has.question x.answer.0) (off_answer (f.session x.answer.0) x.body off) h
    off_message has (plain.Finish x) off h = tt
    off_message has (plain.Resolve x) off h = if_said _ _ (has.import x.promise.0) (λ k. off_resolved (map.get E x.promise.0) x.to off k) h
    off_message has (plain.Release x) off h = tt
    off_message has (plain.Disembargo x) off h = tt
    off_message has (plain.Other k) off h = tt

  unless_open : {A B : Type 0} (b : Bool) → Unless b A → (b ≡ true → B) → (A → B) → B
  unless_open true k f h = f refl
  unless_open false k f h = h k

  all_off : (has : Has) (now then : ℕ → ℕ) (ms : List Message) → ((k : ℕ) → nat_eq k q ≡ false → then k ≡ now k) → NoneNames q ms → AllSaid n v E g u F f has now ms → AllSaid n v E g u F f has then ms
  all_off has now then [] same off h = tt
  all_off has now then (message.Plain m ∷ ms) same off h =
      let x = message.Plain m in (
        off_message now then same has m off.0 h.0,
        unless_open (opens q x) off.1 (λ e. subst (λ (z : ℕ → ℕ). AllSaid n v E g u F f (has_behind has (descriptors_of x)) z ms) (sym (past_opened q g now then x same e)) h.1)
            (λ k. all_off (has_behind has (descriptors_of x)) (past_one g now x) (past_one g then x) ms (past_alike q g now then x same) k h.1),
      )
  all_off has now then (message.Unimplemented m ∷ ms) same off h = (h.0, all_off has now then ms same off h.1)

pub said_as_closed : (n : Net routes) (v : Vat) (E : Map Export) (g : Ghost) (u : Vat) (F : Map Export) (f : Ghost) (has : Has) (q : ℕ) (now then : ℕ → ℕ) (ms : List Message) → ((k : ℕ) → nat_eq k q ≡ false → then k ≡ now k) → NoneNames q ms
    → AllSaid n v E g u F f has now ms → AllSaid n v E g u F f has then ms
said_as_closed n v E g u F f has q now then ms same off h = all_off n v E g u F f q has now then ms same off h
