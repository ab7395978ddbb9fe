use Rattle.std.proofs.Common.{◌≡◌, ℕ, Option, Some, None, Ok, Err, drop, refl, sym, ap, subst, ◌∙◌}
use Rattle.capn_stream.specs.declared.error.StreamError.{StreamError}
use Rattle.capn_stream.specs.declared.error.StreamError.TheVariants as error
use Rattle.capn_fronts.specs.Parts.{Part, nothing}
use Rattle.capn_fronts.specs.Readers.{Pushed}
use Rattle.vat_connection.specs.Hearing.{Inflow as In, IsParted, PartsBy}
use Rattle.vat_connection.proofs.Pushing.{given, no_frame, no_more, one_more, refused, refused_short, stays}
use Rattle.vat_connection.proofs.inflow.Inflow.take_next.Goals as goal

pub invariant_of-self-in-Err-Fault : goal.invariant_of-self-in-Err-Fault
invariant_of-self-in-Err-Fault c =
    refused_short c.self.inside.reader c.push.new.self c.args.piece.now c.in-Err-Fault.fault
    (subst (λ (e : StreamError). Pushed c.self.inside.reader c.args.piece.now (Err e) c.push.new.self) c.in-Err-Fault.field-0-is c.in-Err-Fault.ensures.pushed)

pub returns-in-Err-Fault-clause-parts : goal.returns-in-Err-Fault-clause-parts
returns-in-Err-Fault-clause-parts c =
    let was : In = record { unheard = c.self.inside.unheard.items; waiting = c.self.inside.reader; over = c.self.inside.over } in
    let push : Pushed c.self.inside.reader c.args.piece.now (Err (error.Fault c.in-Err-Fault.fault)) c.push.new.self =
    subst (λ (e : StreamError). Pushed c.self.inside.reader c.args.piece.now (Err e) c.push.new.self) c.in-Err-Fault.field-0-is c.in-Err-Fault.ensures.pushed in
    λ new on. subst (λ (i : In). IsParted i c.args.piece.now new) c.self.view_is
    (no_frame c.pieces_stand.ensures was new c.push.new.self c.args.piece.now c.in-Err-Fault.fault push
    (on ∙ ap (λ (p : Part). record { unheard = c.self.inside.unheard.items; waiting = p; over = Some c.code.result }) (refused c.self.inside.reader c.push.new.self c.args.piece.now c.in-Err-Fault.fault push)
    ∙ ap (λ (n : ℕ). record { unheard = c.self.inside.unheard.items; waiting = nothing; over = Some n }) c.code.ensures))

pub returns-in_ok-push_back-clause-parts : goal.returns-in_ok-push_back-clause-parts
returns-in_ok-push_back-clause-parts c =
    let was : In = record { unheard = c.self.inside.unheard.items; waiting = c.self.inside.reader; over = c.self.inside.over } in
    let mid : In = record { unheard = c.push_back.new.self.items; waiting = c.take_frame.new.self; over = c.self.inside.over } in
    let took = given c.push.new.self c.take_frame.new.self c.in-Some.frame c.in-Some.ensures.given in
    let still : c.self.inside.over ≡ None = ap (λ (i : In). i.over) c.self.view_is ∙ c.requires.open in
    λ new on. subst (λ (i : In). IsParted i c.args.piece.now new) c.self.view_is
    (one_more c.pieces_stand.ensures was mid new c.push.new.self c.in-Some.frame c.args.piece.now c.in-Ok.taken c.in-Ok.ensures.pushed took.0 c.frames_are_whole.ensures c.in_ok-push_back.ensures.items took.1
    (subst (λ (o : Option ℕ). PartsBy o mid (drop c.in-Ok.taken c.args.piece.now) new) still on))

pub returns-in_default-clause-parts : goal.returns-in_default-clause-parts
returns-in_default-clause-parts c =
    let was : In = record { unheard = c.self.inside.unheard.items; waiting = c.self.inside.reader; over = c.self.inside.over } in
    let mid : In = record { unheard = c.self.inside.unheard.items; waiting = c.take_frame.new.self; over = c.self.inside.over } in
    let same = stays c.push.new.self c.take_frame.new.self c.in_default.ensures.given in
    let push : Pushed c.self.inside.reader c.args.piece.now (Ok c.in-Ok.taken) c.take_frame.new.self = subst (λ (p : Part). Pushed c.self.inside.reader c.args.piece.now (Ok c.in-Ok.taken) p) (sym same) c.in-Ok.ensures.pushed in
    let still : c.self.inside.over ≡ None = ap (λ (i : In). i.over) c.self.view_is ∙ c.requires.open in
    λ new on. subst (λ (i : In). IsParted i c.args.piece.now new) c.self.view_is
    (no_more c.pieces_stand.ensures was mid new c.args.piece.now c.in-Ok.taken push c.in_default.ensures.waits refl (subst (λ (o : Option ℕ). PartsBy o mid (drop c.in-Ok.taken c.args.piece.now) new) still on))
