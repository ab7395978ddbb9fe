-- Examples of single steps: a promise with two held calls is rejected; a reference turns back; a flag releases.
use Rattle.std.proofs.Common.{◌≡◌, ℕ, Bool, true, List, [], ◌∷◌, Option, None, Some, inr, refl, sym, ap, subst, ◌∙◌, arith, unwrap_or}
use Rattle.std.specs.FinMap as map
use Rattle.rpc_msg.specs.declared.exception.Exception.{Exception}
use Rattle.rpc_msg.specs.declared.parts.Descriptor.TheVariants as descriptor
use Rattle.rpc_msg.specs.declared.message.ReturnBody.TheVariants as body
use Rattle.rpc_machine.specs.declared.node.Node.{Node}
use Rattle.rpc_machine.specs.declared.node.Node.TheVariants as node
use Rattle.rpc_machine.specs.declared.command.Command.TheVariants as command
use Rattle.rpc_machine.specs.declared.command.Granted.TheVariants as granted
use Rattle.rpc_journal.specs.declared.report.Advanced.TheVariants as advanced
use Rattle.rpc_machine.specs.declared.entries.AnswerEntry.{AnswerEntry}
use Rattle.rpc_machine.specs.declared.entries.Resolution.TheVariants as resolution
use Rattle.rpc_machine.specs.declared.calls.OwnCall.TheVariants as own
use Rattle.rpc_machine.specs.declared.calls.Value.{Value}
use Rattle.rpc_machine.specs.State.{State}
use Rattle.rpc_machine.specs.Nodes.{settle, next, is_import, is_field, is_promise, promise_link, is_pipe}
use Rattle.rpc_machine.specs.Places.{names}
use Rattle.rpc_machine.specs.Progress.{Progress, begin}
use Rattle.rpc_machine.specs.Routing.{RoutedTo}
use Rattle.rpc_machine.specs.Collecting.{IsTight, IsLooseImport, AnswerIsOther, Tight, Loose, ImportGoes, Goes, without_import}
use Rattle.rpc_machine.specs.Flags.{flag_for}
use Rattle.rpc_machine.specs.Settling.{TellsCall, TellsPeer, SettlesFrom, FixesFrom, SendsResolves, ResolvesEach, exports_where, NoneLeft, OneMore}
use Rattle.rpc_machine.specs.Sweeping.{release_each, IsToFinish, Over, Thing, FinishesEach, releases, Asked}
use Rattle.rpc_machine.specs.Commands.{AnswersTask, RejectsPromise, FinishesCall}
use Rattle.rpc_machine.specs.Advancing.{Known, Advances, AdvancesTo, known_by_resolve, resolution_of, known_of_wire}
use Rattle.rpc_machine.specs.Steps.{Does}
use Rattle.rpc_machine_examples.proofs.GivenMaps.{null, m, look, found, at_each, entries_empty, entries_of, progress, NothingOver, quiet_end, settles_here, settles_next, tight_of, names_of, links_of_entries, gone}
use Rattle.rpc_machine_examples.specs.SingleSteps.{saying, headed_by, own_call, busy, waiting_for_it, of_own, own_calls, r0, broken, fixed, r_fixed, ends, outcomes_0, outcomes_1, r1, ended, telling, own_object, import_node, resolved_import, exports_5, t0, refs_turned, embargo, t_turned, t1, disembargo, turning, received, opened, of_peer, f0, answered, f_known, closed, f_returned, f1, flagged, asked, q0, q1, q2, sends_finish, OfCommands}
use Rattle.rpc_machine_examples.proofs.FlaggedReturns.{asks_nothing, kept_by}

has : {X : Type 0} (es : List (ℕ × X)) (k : ℕ) (x : X) → look k es ≡ Some x → map.get (m es) k ≡ None → ⊥
has es k x e h = let f : Some x ≡ None = sym e ∙ sym (found es k) ∙ h in cc

-- ---- A promise with two held calls is rejected: both end, and nothing is delivered

abbrev pub r_one : State
r_one = record r_fixed { outcomes = m outcomes_0 }

abbrev pub arising : List (ℕ × Value) → Progress
arising vs = record { state = r_fixed; effects = saying []; arisen = vs; released = map.empty }

leads : next r_fixed (node.Promise 0) ≡ broken
leads = ap (λ o. unwrap_or (promise_link o) (node.Promise 0)) (found fixed 0)

stops : settle r_fixed (node.Promise 0) ≡ broken
stops = settles_next r_fixed (node.Promise 0) broken 1 (links_of_entries r_fixed fixed ((1, of_own 1 None) ∷ (0, of_own 0 None) ∷ []) refl refl) leads refl

no_exports : (d : Progress) (test : Node → Bool) → d.state.exports ≡ m [] → (told : Option Exception) → SendsResolves d told test d
no_exports d test e told = subst (λ es. ResolvesEach d told (exports_where test (map.entries es)) d) (sym e) (subst (λ es. ResolvesEach d told (exports_where test es) d) (sym entries_empty) refl)

named_promise : names r1 (is_promise 0) ≡ 1
named_promise = names_of r1 ((0, headed_by (node.Promise 0) 2) ∷ []) [] fixed outcomes_1 [] [] [] [] refl refl refl refl refl refl refl refl (is_promise 0)

tight_r1 : IsTight r1
tight_r1 =
    tight_of r1 fixed outcomes_1 [] refl refl refl ((λ h. let e : 1 ≡ 0 = sym named_promise ∙ h in absurd (omega arith)), ((λ h. h), tt))
    ((λ h. has own_calls 1 (own.Kept 1) refl h.1), ((λ h. has own_calls 1 (own.Kept 1) refl h.1), ((λ h. has own_calls 0 (own.Kept 0) refl h.1), ((λ h. has own_calls 0 (own.Kept 0) refl h.1), ((λ h. h), ((λ h. h), tt)))))) tt

pub rejected : Does r0 (command.Reject (record { 0 = 0 }) busy) granted.Done (telling (ended 0 ∷ ended 1 ∷ [])) r1
rejected =
    let d2 : Progress = arising ((0, ends) ∷ (1, ends) ∷ []) in
    let one : Progress = record { state = r_one; effects = telling (ended 0 ∷ []); arisen = (1, ends) ∷ []; released = map.empty } in
    let two : Progress = progress r1 (telling (ended 0 ∷ ended 1 ∷ [])) in
    let unsettled : Progress = begin (record r0 { unsettled = map.remove (m ((0, 0) ∷ [])) 0 }) in
    record {
      acted = d2;
      acts = subst (λ x. RejectsPromise (begin r0) 0 busy x granted.Done d2) (sym (found ((0, 0) ∷ []) 0)) (
        refl,
        subst (λ x. FixesFrom unsettled 0 broken (Some busy) x d2) (sym (found ((0, waiting_for_it) ∷ []) 0)) (
          d2,
          (
            arising ((0, ends) ∷ []),
            subst (λ n. RoutedTo (arising []) (own_call 0) n (arising ((0, ends) ∷ []))) (sym stops) refl,
            (d2, subst (λ n. RoutedTo (arising ((0, ends) ∷ [])) (own_call 1) n d2) (sym stops) refl, refl),
          ),
          no_exports d2 (is_promise 0) refl (Some busy),
        ),
      );
      ends = record {
        drained = two;
        swept = two;
        drains =
            OneMore 0 ends ((1, ends) ∷ []) refl
            (subst (λ x. SettlesFrom (arising ((1, ends) ∷ [])) 0 ends x one) (sym (found ((1, of_own 1 None) ∷ (0, of_own 0 None) ∷ []) 0)) (
              ends,
              r_fixed,
              (refl, refl),
              (
                record one { state = record r_fixed { outcomes = m ((0, of_own 0 (Some ends)) ∷ (1, of_own 1 None) ∷ (0, of_own 0 None) ∷ []) } },
                subst (λ x. TellsCall (record (arising ((1, ends) ∷ [])) { state = record r_fixed { outcomes = m ((0, of_own 0 (Some ends)) ∷ (1, of_own 1 None) ∷ (0, of_own 0 None) ∷ []) } }) 0 ends x (record one { state = record r_fixed { outcomes = m ((0, of_own 0 (Some ends)) ∷ (1, of_own 1 None) ∷ (0, of_own 0 None) ∷ []) } })) (sym (found own_calls 0)) refl,
                (one, refl, no_exports one (is_field 0) refl None),
              ),
            ))
            (OneMore 1 ends [] refl
            (subst (λ x. SettlesFrom (record one { arisen = [] }) 1 ends x two) (sym (found outcomes_0 1)) (
              ends,
              r_one,
              (refl, refl),
              (
                record two { state = record r_fixed { outcomes = m ((1, of_own 1 (Some ends)) ∷ outcomes_0) } },
                subst (λ x. TellsCall (record one { arisen = []; state = record r_fixed { outcomes = m ((1, of_own 1 (Some ends)) ∷ outcomes_0) } }) 1 ends x (record two { state = record r_fixed { outcomes = m ((1, of_own 1 (Some ends)) ∷ outcomes_0) } })) (sym (found own_calls 1)) refl,
                (two, refl, no_exports two (is_field 1) refl None),
              ),
            ))
            (NoneLeft refl));
        sweeps = quiet_end r1 (telling (ended 0 ∷ ended 1 ∷ [])) tight_r1 (at_each (λ q x. ¬ (IsToFinish r1 q x)) [] (λ k h. h) tt);
        effects_are = refl;
        new_is = refl;
      };
    }

-- ---- A reference whose wire was resolved to an own object turns back; the import that it leaves is released

unnamed : names t_turned (is_import 0) ≡ 0
unnamed = names_of t_turned refs_turned ((0, embargo) ∷ []) [] [] [] ((0, resolved_import) ∷ []) exports_5 [] refl refl refl refl refl refl refl refl (is_import 0)

abbrev pub t_left : Progress
t_left = without_import (progress t_turned (saying (disembargo ∷ []))) 0

leaves : Goes (progress t_turned (saying (disembargo ∷ []))) t_left
leaves = ImportGoes 0 (subst (IsLooseImport t_turned 0) (sym (found ((0, resolved_import) ∷ []) 0)) unnamed) refl

tight_t1 : IsTight t1
tight_t1 = tight_of t1 [] [] [] refl refl (gone 0 resolved_import) tt tt tt

knows : known_of_wire t0 import_node ≡ known_by_resolve (Some (resolution.To (descriptor.ReceiverHosted (record { 0 = 5 })) own_object))
knows = ap (λ x. known_by_resolve (resolution_of x)) (found ((0, resolved_import) ∷ []) 0)

released_one : progress t1 turning ≡ releases t_left
released_one = rw (found ((0, resolved_import) ∷ []) 0, entries_of {X = ℕ} ((0, 1) ∷ [])) refl

pub turned_back : Does t0 (command.Advance (record { 0 = 0 })) (granted.Advanced advanced.Embargoed) turning t1
turned_back =
    let d : Progress = progress t_turned (saying (disembargo ∷ [])) in
    let x = headed_by import_node 2 in
    record {
      acted = d;
      acts = subst (λ o. Advances (begin t0) 0 o (granted.Advanced advanced.Embargoed) d) (sym (found ((0, headed_by import_node 2) ∷ []) 0))
          (subst (λ n. AdvancesTo (begin t0) 0 x n (known_of_wire t0 n) (granted.Advanced advanced.Embargoed) d) (sym (settles_here t0 import_node refl))
          (subst (λ (k : Known). AdvancesTo (begin t0) 0 x import_node k (granted.Advanced advanced.Embargoed) d) (sym knows)
          (inr ((λ e. let f : own_object ≡ import_node = sym (settles_here t0 own_object refl) ∙ e in cc), (refl, (0, found [] 0, refl))))));
      ends = record {
        drained = d;
        swept = progress t1 turning;
        drains = NoneLeft refl;
        sweeps = (
          map.empty,
          Thing leaves (Over tight_t1 (asks_nothing t1 refl)),
          (d, subst (λ xs. FinishesEach d xs d) (sym entries_empty) refl, (t_left, Loose leaves (Tight tight_t1), released_one)),
        );
        effects_are = refl;
        new_is = refl;
      };
    }

-- ---- The only descriptor of an import came with a Call, and no reference to it is left: the Return releases it

named_once : names f_known (is_import 0) ≡ 1
named_once = names_of f_known [] [] [] ((1, of_peer (Some answered)) ∷ (1, of_peer None) ∷ []) [] ((0, received) ∷ []) [] ((1, opened) ∷ []) refl refl refl refl refl refl refl refl (is_import 0)

flag_is : flag_for f_known (0 ∷ []) ≡ true
flag_is = rw (found ((0, received) ∷ []) 0, named_once) refl

tight_known : IsTight f_known
tight_known =
    tight_of f_known [] ((1, of_peer (Some answered)) ∷ (1, of_peer None) ∷ []) ((0, received) ∷ []) refl refl refl tt
    ((λ h. kept_by f_known ((1, opened) ∷ []) opened refl refl refl h.1), ((λ h. h), tt))
    ((λ h. let e : 1 ≡ 0 = sym named_once ∙ h in absurd (omega arith)), tt)

tight_f1 : IsTight f1
tight_f1 =
    let ans : List (ℕ × AnswerEntry) = (1, closed) ∷ (1, opened) ∷ [] in
    tight_of f1 [] ((1, of_peer (Some answered)) ∷ (1, of_peer (Some answered)) ∷ (1, of_peer None) ∷ []) [] refl refl (gone 0 received) tt
    ((λ h. kept_by f1 ans closed refl refl refl h.1), ((λ h. kept_by f1 ans closed refl refl refl h.1), ((λ h. h), tt))) tt

pub released_by_flag : Does f0 (command.Answer (record { 0 = 0 }) null []) granted.Done flagged f1
released_by_flag =
    let d : Progress = progress f1 flagged in
    let settling : Progress = begin (record f0 { tasks = map.remove (m ((0, 1) ∷ [])) 0 }) in
    record {
      acted = d;
      acts = subst (λ x. AnswersTask (begin f0) 0 answered x granted.Done d) (sym (found ((0, 1) ∷ []) 0)) (
        refl,
        subst (λ x. SettlesFrom settling 1 answered x d) (sym (found ((1, of_peer None) ∷ []) 1)) (
          answered,
          settling.state,
          ([], refl, (refl, refl)),
          (
            progress f_returned flagged,
            subst (λ x. TellsPeer (progress f_known (saying [])) (record { 0 = 1 }) answered x (progress f_returned flagged)) (sym (found ((1, opened) ∷ []) 1))
                (body.Results null [], [], f_known, (refl, refl), (progress f_known (saying []), Tight tight_known, rw (flag_is, found ((0, received) ∷ []) 0) refl)),
            (d, refl, no_exports d (is_field 1) refl None),
          ),
        ),
      );
      ends = record {
        drained = d;
        swept = d;
        drains = NoneLeft refl;
        sweeps = quiet_end f1 flagged tight_f1 (asks_nothing f1 refl);
        effects_are = refl;
        new_is = refl;
      };
    }

-- ---- A question whose Return has come is finished: a Finish is sent, and it closes

no_pipe : names q1 (is_pipe 0) ≡ 0
no_pipe = names_of q1 [] [] [] [] ((0, asked) ∷ []) [] [] [] refl refl refl refl refl refl refl refl (is_pipe 0)

no_call : map.get q1.calls 0 ≡ None
no_call = ap (λ x. map.get x 0) (gone 0 (own.Direct (record { 0 = 0 }))) ∙ found [] 0

tight_q1 : IsTight q1
tight_q1 = tight_of q1 [] [] [] refl refl refl tt tt tt

tight_q2 : IsTight q2
tight_q2 = tight_of q2 [] [] [] refl refl refl tt tt tt

pub finished : Does q0 (command.Finish (record { 0 = 0 })) granted.Done sends_finish q2
finished =
    let d : Progress = progress q1 (saying []) in
    let last : Progress = progress q2 sends_finish in
    record {
      acted = d;
      acts = subst (λ x. FinishesCall (begin q0) 0 x granted.Done d) (sym (found ((0, own.Direct (record { 0 = 0 })) ∷ []) 0)) (refl, refl);
      ends = record {
        drained = d;
        swept = last;
        drains = NoneLeft refl;
        sweeps = (
          m ((0, asked) ∷ []),
          Asked 0 asked (found ((0, asked) ∷ []) 0) (tt, (no_call, no_pipe)) (Over tight_q2 (asks_nothing q2 (gone 0 asked))),
          (
            last,
            subst (λ xs. FinishesEach d xs last) (sym (entries_of ((0, asked) ∷ []))) (d, Tight tight_q1, refl),
            (last, Tight tight_q2, subst (λ xs. last ≡ record (release_each last xs) { released = map.empty }) (sym entries_empty) refl),
          ),
        );
        effects_are = refl;
        new_is = refl;
      };
    }

pub of_commands : OfCommands
of_commands = record {
  rejected = rejected;
  turned_back = turned_back;
  released_by_flag = released_by_flag;
  finished = finished;
}
