use Rattle.std.proofs.Common.{◌≡◌, ℕ, true, false, List, [], refl, ap, ◌∙◌}
use Rattle.std.specs.Prelude.{Bool, Option, unwrap_or}
use Rattle.std.specs.Ordering.{nat_cmp}
use Rattle.std.specs.FinMap as finite
use Rattle.std.specs.FinMap.{get-empty}
use Rattle.finite_maps.specs.Tally.{Map}
use Rattle.finite_maps.proofs.Gets.{remove_absent}
use Rattle.rpc_msg.specs.declared.ids.ExportId.{ExportId}
use Rattle.rpc_msg.specs.declared.ids.QuestionId.{QuestionId}
use Rattle.peer_broken.specs.Naming.{Going, Naming, finishes, going, nothing_owed, owed_under, returns as gone}
use Rattle.peer_broken.proofs.HeardAs.{heard_none}
use Rattle.peer_broken.proofs.Taking.{handed_on}
use Rattle.peer_broken.proofs.laws.stands_aside.Goals as goal

nothing : Naming → Going
nothing s = record { state = s; by_flag = []; by_release = [] }

going_none : (s : Naming) (flag : Bool) → going s flag [] ≡ nothing s
unfolding nothing
going_none s true = refl
going_none s false = refl

none_left : (k : ℕ) → ◌≡◌ {A = Map (List ExportId)} (finite.remove finite.empty k) finite.empty
none_left k = remove_absent finite.empty k (get-empty nat_cmp k)

returned : (a : QuestionId) (flag : Bool) → gone nothing_owed a flag ≡ nothing nothing_owed
returned a flag =
    ap (λ (m : Map (List ExportId)). going (record { by_answer = m; by_question = finite.empty }) flag (owed_under finite.empty a)) (none_left a.0)
    ∙ ap (λ (o : Option (List ExportId)). going nothing_owed flag (unwrap_or o [])) (get-empty nat_cmp a.0)
    ∙ going_none nothing_owed flag

finished : (q : QuestionId) (flag : Bool) → finishes nothing_owed q flag ≡ nothing nothing_owed
finished q flag =
    ap (λ (m : Map (List ExportId)). going (record { by_answer = finite.empty; by_question = m }) flag (owed_under finite.empty q)) (none_left q.0)
    ∙ ap (λ (o : Option (List ExportId)). going nothing_owed flag (unwrap_or o [])) (get-empty nat_cmp q.0)
    ∙ going_none nothing_owed flag

pub returns : goal.returns
unfolding nothing
returns c = record { handed_on = λ broken f s w none. handed_on broken f s w none; names_none = λ broken f s w. heard_none broken w; returned = returned; finished = finished }
