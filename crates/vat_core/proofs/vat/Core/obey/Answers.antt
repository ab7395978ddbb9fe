use Rattle.vat_core.proofs.Answering.{answers_known}
use Rattle.vat_core.proofs.vat.Core.obey.Goals as goal

pub returns-in-Host : goal.returns-in-Host
returns-in-Host c = answers_known _ _ _ _ _ c.in-Host.is c.obey_host.ensures

pub returns-in-CloneRef : goal.returns-in-CloneRef
returns-in-CloneRef c = answers_known _ _ _ _ _ c.in-CloneRef.is c.obey_clone_ref.ensures

pub returns-in-DropRef : goal.returns-in-DropRef
returns-in-DropRef c = answers_known _ _ _ _ _ c.in-DropRef.is c.obey_drop_ref.ensures

pub returns-in-Bootstrap : goal.returns-in-Bootstrap
returns-in-Bootstrap c = answers_known _ _ _ _ _ c.in-Bootstrap.is c.obey_bootstrap.ensures

pub returns-in-Call : goal.returns-in-Call
returns-in-Call c = answers_known _ _ _ _ _ c.in-Call.is c.obey_call.ensures

pub returns-in-Field : goal.returns-in-Field
returns-in-Field c = answers_known _ _ _ _ _ c.in-Field.is c.obey_field.ensures

pub returns-in-Promise : goal.returns-in-Promise
returns-in-Promise c = answers_known _ _ _ _ _ c.in-Promise.is c.obey_promise.ensures

pub returns-in-Resolve : goal.returns-in-Resolve
returns-in-Resolve c = answers_known _ _ _ _ _ c.in-Resolve.is c.obey_resolve.ensures

pub returns-in-Reject : goal.returns-in-Reject
returns-in-Reject c = answers_known _ _ _ _ _ c.in-Reject.is c.obey_reject.ensures

pub returns-in-Answer : goal.returns-in-Answer
returns-in-Answer c = answers_known _ _ _ _ _ c.in-Answer.is c.obey_answer.ensures

pub returns-in-Fail : goal.returns-in-Fail
returns-in-Fail c = answers_known _ _ _ _ _ c.in-Fail.is c.obey_fail.ensures

pub returns-in-Finish : goal.returns-in-Finish
returns-in-Finish c = answers_known _ _ _ _ _ c.in-Finish.is c.obey_finish.ensures

pub returns-in-Advance : goal.returns-in-Advance
returns-in-Advance c = answers_known _ _ _ _ _ c.in-Advance.is c.obey_advance.ensures

pub returns-in-Shut : goal.returns-in-Shut
returns-in-Shut c = answers_known _ _ _ _ _ c.in-Shut.is c.obey_shut.ensures
