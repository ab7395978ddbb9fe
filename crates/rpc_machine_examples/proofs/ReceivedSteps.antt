-- Examples of received messages and of flags: a Resolve for an import that is gone; an embargo that is lifted; flags of
-- imports that are still named, or were received more often.
use Rattle.std.proofs.Common.{◌≡◌, ℕ, true, false, [], ◌∷◌, Some, refl, sym, subst}
use Rattle.std.specs.FinMap as map
use Rattle.rpc_machine.specs.declared.entries.Import.{Import}
use Rattle.rpc_machine.specs.State.{State}
use Rattle.rpc_machine.specs.Nodes.{is_import}
use Rattle.rpc_machine.specs.Places.{names}
use Rattle.rpc_machine.specs.Progress.{Progress, begin}
use Rattle.rpc_machine.specs.Collecting.{IsTight, IsLooseImport, Tight, Loose, Goes, ImportGoes, without_import}
use Rattle.rpc_machine.specs.Flags.{flag_for, give_back}
use Rattle.rpc_machine.specs.Settling.{NoneLeft}
use Rattle.rpc_machine.specs.Sweeping.{Over, Thing, FinishesEach, IsToFinish, releases}
use Rattle.rpc_machine.specs.Messages.{Lifts}
use Rattle.rpc_machine.specs.Steps.{Handles}
use Rattle.rpc_machine_examples.proofs.GivenMaps.{m, found, at_each, entries_empty, entries_of, progress, NothingOver, quiet_ends, settles_here, tight_of, names_of, gone}
use Rattle.rpc_machine_examples.specs.ReceivedSteps.{saying, new_vat, resolve, hosted, released, release, object, embargoed, embargo, kept, waits, lifted, gone_on, delivering, back, opened, received, named_by, still_named, OfMessages}
use Rattle.rpc_machine_examples.proofs.FlaggedReturns.{asks_nothing}

-- ---- The capability of a Resolve whose promise is gone is taken, and released

abbrev imported : State
imported = record new_vat { imports = m ((2, hosted) ∷ []) }

abbrev let_go : Progress
let_go = without_import (progress imported (saying [])) 2

unnamed : names imported (is_import 2) ≡ 0
unnamed = names_of imported [] [] [] [] [] ((2, hosted) ∷ []) [] [] refl refl refl refl refl refl refl refl (is_import 2)

leaves : Goes (progress imported (saying [])) let_go
leaves = ImportGoes 2 (subst (IsLooseImport imported 2) (sym (found ((2, hosted) ∷ []) 2)) unnamed) refl

tight_released : IsTight released
tight_released = tight_of released [] [] [] refl refl (gone 2 hosted) tt tt tt

released_one : progress released release ≡ releases let_go
released_one = rw (found ((2, hosted) ∷ []) 2, entries_of {X = ℕ} ((2, 1) ∷ [])) refl

pub resolve_of_nothing : Handles new_vat resolve release released
resolve_of_nothing =
    let d : Progress = progress imported (saying []) in
    record {
      taken = d;
      takes = rw (found {X = Import} [] 2, found {X = Import} [] 1) refl;
      ends = record {
        drained = d;
        swept = progress released release;
        drains = NoneLeft refl;
        sweeps = (
          map.empty,
          Thing leaves (Over tight_released (asks_nothing released refl)),
          (d, subst (λ xs. FinishesEach d xs d) (sym entries_empty) refl, (let_go, Loose leaves (Tight tight_released), released_one)),
        );
        effects_are = refl;
        new_is = refl;
      };
    }

-- ---- An embargo is lifted when its Disembargo comes back: its call is delivered

tight_gone_on : IsTight gone_on
tight_gone_on = tight_of gone_on [] ((0, kept) ∷ []) [] refl refl refl tt ((λ h. h), tt) tt

pub embargo_lifted : Handles waits back delivering gone_on
embargo_lifted =
    let d : Progress = progress gone_on delivering in
    record {
      taken = d;
      takes = subst (λ x. Lifts (begin waits) 0 x d) (sym (found ((0, embargo) ∷ []) 0))
          (d, rw (found ((0, embargoed) ∷ []) 0, settles_here lifted object refl) refl, refl);
      ends = quiet_ends gone_on delivering tight_gone_on (asks_nothing gone_on refl);
    }

-- ---- Flags

named_twice : (n : ℕ) → names (still_named n) (is_import 0) ≡ 2
named_twice n = names_of (still_named n) ((0, named_by) ∷ []) [] [] [] [] ((0, received n) ∷ []) [] ((1, opened) ∷ []) refl refl refl refl refl refl refl refl (is_import 0)

-- Received once: the reference keeps it, so the flag is false.
pub flag_spares : flag_for (still_named 1) (0 ∷ []) ≡ false
flag_spares = rw (found ((0, received 1) ∷ []) 0, named_twice 1) refl

-- Received twice: one may be given back, and one is left.
pub flag_gives_one : flag_for (still_named 2) (0 ∷ []) ≡ true
flag_gives_one = rw (found ((0, received 2) ∷ []) 0) refl

pub one_is_left : map.get (give_back (still_named 2) (0 ∷ [])).imports 0 ≡ Some (received 1)
one_is_left = rw (flag_gives_one, found ((0, received 2) ∷ []) 0) (found ((0, received 1) ∷ (0, received 2) ∷ []) 0)

-- A Call that gave nothing has a false flag.
pub nothing_given : flag_for (still_named 2) [] ≡ false
nothing_given = refl

pub of_messages : OfMessages
of_messages = record {
  resolve_of_nothing = resolve_of_nothing;
  embargo_lifted = embargo_lifted;
  flag_spares = flag_spares;
  flag_gives_one = flag_gives_one;
  one_is_left = one_is_left;
  nothing_given = nothing_given;
}
