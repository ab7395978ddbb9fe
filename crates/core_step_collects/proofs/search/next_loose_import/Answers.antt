use Rattle.std.proofs.Common.{ap, ◌∙◌}
use Rattle.core_refcounts.specs.Names.{Names}
use Rattle.core_store.specs.declared.store.Store.{Store}
use Rattle.core_store.specs.Noted.{Notes, noted_of}
use Rattle.core_step_collects.proofs.Searching.{import_passed, import_again}
use Rattle.core_step_collects.proofs.search.next_loose_import.Goals as goal

pub returns-then-is_loose_import-clause-sound : goal.returns-then-is_loose_import-clause-sound
returns-then-is_loose_import-clause-sound c =
    let none = ap (λ (x : Store). x.waits.taken) c.loop-id.invariant.same ∙ c.requires.none_taken in
    import_again c.loop-id.store none c.loop-id.invariant.sound c.take_import.new.self c.note_import.new.self c.in-Some.id.0 c.in-Some.ensures c.in-Ok.ensures.ok

pub loop-id-preserved : goal.loop-id-preserved
loop-id-preserved c =
    let none = ap (λ (x : Store). x.waits.taken) c.loop-id.invariant.same ∙ c.requires.none_taken in record {
      same = ap (λ (x : Store). record x { names = c.take_import.new.self }) c.loop-id.invariant.same;
      sound = import_passed c.loop-id.store none c.loop-id.invariant.sound c.take_import.new.self c.in-Some.id.0 c.in-Some.ensures c.if-is_loose_import.ensures;
      noted = ap (λ (n : Names). record (noted_of n) { imports = c.take_import.new.self.imports.noted }) c.in-Some.ensures.2 ∙ ap (λ (n : Notes). record n { imports = c.take_import.new.self.imports.noted }) c.loop-id.invariant.noted;
    }
