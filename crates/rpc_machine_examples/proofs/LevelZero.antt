-- The steps of a level 0 vat.
use Rattle.std.proofs.Common.{true, [], ◌∷◌, Some, refl}
use Rattle.std.specs.FinMap as map
use Rattle.rpc_machine.specs.State.{State}
use Rattle.rpc_machine.specs.Progress.{Progress}
use Rattle.rpc_machine.specs.Sweeping.{closed}
use Rattle.rpc_machine_examples.specs.Given.{direct_with, finish_message, sending, telling}
use Rattle.rpc_machine_examples.specs.OneCall.{root_told, end_told, end_said}
use Rattle.rpc_machine_examples.specs.LevelZero.{called, root_said, told, ended, finished, held, left, IsLevelZero}
use Rattle.rpc_machine_examples.proofs.GivenMaps.{progress}
use Rattle.rpc_machine_examples.proofs.StepTools.{maps, ends_quietly, ends_finishing_one, withers_quietly}

pub is_level_zero : IsLevelZero
is_level_zero =
    let root_known : State = record told { questions = map.insert called.questions 0 (direct_with 0 (Some root_said)) } in
    let end_known : State = record ended { questions = map.insert told.questions 1 (direct_with 1 (Some end_said)) } in
    let call_gone : State = record ended { calls = map.remove ended.calls 1 } in
    let root_gone : State = record finished { calls = map.remove finished.calls 0 } in
    let ref_gone : State = record held { refs = map.remove held.refs 0 } in
    let one = direct_with 1 (Some end_said) in
    let zero_th = direct_with 0 (Some root_said) in
    let y1 = sending (finish_message 1 true ∷ []) in
    let y0 = sending (finish_message 0 true ∷ []) in
    let done1 : Progress = progress (record call_gone { imports = map.empty; questions = map.remove call_gone.questions 1 }) y1 in
    let done0 : Progress = progress (record ref_gone { questions = map.remove ref_gone.questions 0 }) y0 in
    record {
      root_comes = record { taken = progress root_known (telling (root_told ∷ [])); takes = simp maps; ends = ends_quietly root_known told (telling (root_told ∷ [])) (simp maps) (simp maps) };
      end_comes = record { taken = progress end_known (telling (end_told ∷ [])); takes = simp maps; ends = ends_quietly end_known ended (telling (end_told ∷ [])) (simp maps) (simp maps) };
      finishes_call = record {
        acted = progress call_gone (sending []);
        acts = simp maps (refl, refl);
        ends = ends_finishing_one call_gone finished (sending []) y1 1 one done1 (simp maps) (simp maps (tt, (refl, refl))) (simp maps) (withers_quietly (progress (closed call_gone 1 one) (sending [])) (simp maps)) refl (simp maps) (simp maps) (simp maps);
      };
      finishes_root = record { acted = progress root_gone (sending []); acts = simp maps (refl, refl); ends = ends_quietly root_gone held (sending []) (simp maps) (simp maps) };
      drops_field = record {
        acted = progress ref_gone (sending []);
        acts = simp maps (refl, refl);
        ends = ends_finishing_one ref_gone left (sending []) y0 0 zero_th done0 (simp maps) (simp maps (tt, (refl, refl))) (simp maps) (withers_quietly (progress (closed ref_gone 0 zero_th) (sending [])) (simp maps)) (simp maps) (simp maps) (simp maps) (simp maps);
      };
    }
