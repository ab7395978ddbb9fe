use Rattle.std.specs.Prelude.{Some, None}
use Rattle.std.proofs.Common.{◌≡◌, zero, suc, refl, sym}
use Rattle.laws_order.specs.Machine.{true_not_false}
use Rattle.laws_order.specs.Events.{Merges}
use Rattle.laws_order.specs.declared.places.Node.{Node}
use Rattle.laws_order.specs.declared.places.Node.TheVariants.{Object, Promise, Field}
use Rattle.laws_order.specs.Runs.{returned}
use Rattle.laws_order.proofs.example.worked.Goals as goal

-- a field leaves or breaks
never_merges : (e into : Node) → returned e ≡ Merges into → ⊥
never_merges (Object v k) into h = cc
never_merges (Promise v k) into h = cc
never_merges (Field v o zero) into h = cc
never_merges (Field v o (suc p)) into h = cc

some_not_none : {A : Type 0} {x : A} → Some x ≡ None → ⊥
some_not_none h = cc

pub returns-clause-embargo : goal.returns-clause-embargo
returns-clause-embargo c = record {
  pipelined_may = (refl, (refl, (refl, (tt, (tt, ((λ e into o g h. absurd (never_merges e into h)), (((refl, refl), (λ e. true_not_false (sym e)), refl), (refl, tt))))))));
  came_back_may = (tt, (tt, (tt, tt)));
  lifted_may = (tt, (refl, tt));
  two = refl;
  four = refl;
}

pub returns-clause-link_twice : goal.returns-clause-link_twice
returns-clause-link_twice c = record {
  crossed_may = (refl, (refl, ((λ e into o g h. cc), ((λ e into o g h. cc), (((refl, refl), (λ e. true_not_false (sym e)), refl), (refl, tt))))));
  stays = λ h. some_not_none h.0.0.1;
  sent_twice_may = (tt, (tt, (tt, (tt, (((refl, refl), refl, (λ e. true_not_false (sym e)), refl), (refl, tt))))));
  arrived_may = (tt, (tt, (tt, tt)));
  none = refl;
  three = refl;
}

pub returns-clause-overtaken : goal.returns-clause-overtaken
returns-clause-overtaken c = record {
  round_may = ((λ e into o g h. cc), ((λ e into o g h. cc), tt));
  rest_may = (refl, (refl, (tt, (refl, (tt, tt)))));
  overtaken = refl;
}

pub returns-clause-behind : goal.returns-clause-behind
returns-clause-behind c = record {
  round_may = ((λ e into o g h. cc), ((λ e into o g h. cc), tt));
  rest_may = (refl, (refl, (tt, (((refl, refl), (λ e. true_not_false (sym e)), refl), (tt, tt)))));
  behind = refl;
}
