use Rattle.std.proofs.Common.{sym, subst}
use Rattle.capn_reading.specs.Looking.{IsTextOf}
use Rattle.lovendak_c_desk.proofs.Texts.{a_text, no_field, no_text}
use Rattle.lovendak_c_desk.proofs.payloads.text_at.Goals as goal

pub returns-in_default : goal.returns-in_default
returns-in_default c =
    no_field (record { bytes = c.args.bytes.now; caps = c.args.caps }) c.in_ok-payload.payload _ c.args.pointer c.args.out.now c.args.len.now c.in_ok-payload.ensures.read c.view-view.ensures
    (c.in_default.ensures _ c.root.ensures)

pub returns-in_default-text : goal.returns-in_default-text
returns-in_default-text c =
    let u = c.in-Some.ensures _ c.root.ensures in
    no_text (record { bytes = c.args.bytes.now; caps = c.args.caps }) c.in_ok-payload.payload _ u.0 c.args.pointer c.args.out.now c.args.len.now c.in_ok-payload.ensures.read c.view-view.ensures
    u.1 (c.in_default-text.ensures u.0 u.2)

pub returns : goal.returns
returns c =
    let u = c.in-Some.ensures _ c.root.ensures in
    a_text (record { bytes = c.args.bytes.now; caps = c.args.caps }) c.in_ok-payload.payload _ u.0 c.args.pointer c.args.out.now c.args.len.now c.copy_out.result c.as_bytes.result.now c.copy_out.new.out
    c.copy_out.new.len c.in_ok-payload.ensures.read c.view-view.ensures u.1 (subst (IsTextOf u.0) (sym c.as_bytes.ensures.value) (c.in-Some-text.ensures u.0 u.2)) c.copy_out.ensures
