-- While Finishes go at once nothing is held.
use Rattle.std.proofs.Common.{◌≡◌, ℕ, Some, None, refl, ap, ◌∙◌}
use Rattle.std.specs.Prelude.{Option}
use Rattle.std.specs.Ordering.{nat_cmp}
use Rattle.std.specs.FinMap as finite
use Rattle.std.specs.FinMap.{get-empty}
use Rattle.finite_maps.specs.Tally.{Map}
use Rattle.finite_maps.proofs.Gets.{remove_absent}
use Rattle.rpc_msg.specs.declared.ids.QuestionId.{QuestionId}
use Rattle.rpc_msg.specs.declared.message.PlainMessage.{PlainMessage}
use Rattle.rpc_msg.specs.declared.message.PlainMessage.TheVariants as plain
use Rattle.rpc_msg.specs.declared.message.Message.{Message}
use Rattle.rpc_msg.specs.declared.message.Message.TheVariants as message
use Rattle.rpc_codec.specs.Envelopes.{What, profile, tail_call, sent_elsewhere, taken_from_other, strange}
use Rattle.peer_finishes.specs.declared.held.Finishes.TheVariants.{AtOnce}
use Rattle.peer_finishes.specs.declared.questions.Awaited.{Awaited}
use Rattle.peer_finishes.specs.Finishing.{Coming, Finishing, comes, comes_back, comes_plain, finish_of, finishes, fresh, goes, goes_plain, returns}

none_there : (k : ℕ) → ◌≡◌ {A = Map Awaited} (finite.remove finite.empty k) finite.empty
none_there k = remove_absent finite.empty k (get-empty nat_cmp k)

abbrev nothing : Coming
nothing = record { state = fresh; told = None }

abbrev with_map : Map Awaited → Finishing
with_map m = record { finishes = AtOnce; awaited = m }

plainly : (m : PlainMessage) → goes_plain fresh m ≡ record { state = fresh; said = Some (message.Plain m) }
plainly (plain.Finish f) = ap (finishes fresh f) (get-empty nat_cmp f.question.0)
plainly (plain.Abort x) = refl
plainly (plain.Bootstrap q) = refl
plainly (plain.Call c) = refl
plainly (plain.Return r) = refl
plainly (plain.Resolve r) = refl
plainly (plain.Release r) = refl
plainly (plain.Disembargo d) = refl
plainly (plain.Other n) = refl

pub all_go : (m : Message) → goes fresh m ≡ record { state = fresh; said = Some m }
all_go (message.Plain m) = plainly m
all_go (message.Unimplemented m) = refl

returned : (q : QuestionId) → returns fresh q ≡ nothing
returned q =
    ap (λ (o : Option Awaited). record { state = with_map (finite.remove finite.empty q.0); told = finish_of q o }) (get-empty nat_cmp q.0)
    ∙ ap (λ (m : Map Awaited). record { state = with_map m; told = None }) (none_there q.0)

plainly_came : (m : PlainMessage) → comes_plain fresh m ≡ nothing
plainly_came (plain.Return r) = returned r.answer
plainly_came (plain.Finish f) = refl
plainly_came (plain.Abort x) = refl
plainly_came (plain.Bootstrap q) = refl
plainly_came (plain.Call c) = refl
plainly_came (plain.Resolve r) = refl
plainly_came (plain.Release r) = refl
plainly_came (plain.Disembargo d) = refl
plainly_came (plain.Other n) = refl

came_back : (m : PlainMessage) → comes_back fresh m ≡ nothing
came_back (plain.Bootstrap q) = ap (λ (m : Map Awaited). record { state = with_map m; told = None }) (none_there q.0)
came_back (plain.Call c) = ap (λ (m : Map Awaited). record { state = with_map m; told = None }) (none_there c.question.0)
came_back (plain.Return r) = refl
came_back (plain.Finish f) = refl
came_back (plain.Abort x) = refl
came_back (plain.Resolve r) = refl
came_back (plain.Release r) = refl
came_back (plain.Disembargo d) = refl
came_back (plain.Other n) = refl

pub none_told : (w : What) → comes fresh w ≡ nothing
none_told (profile (message.Plain m)) = plainly_came m
none_told (profile (message.Unimplemented m)) = came_back m
none_told (tail_call c) = refl
none_told (sent_elsewhere r) = returned r.answer
none_told (taken_from_other r) = returned r.answer
none_told (strange n original) = refl
