-- The parts of what is promised of a delivery, and of an end, put together.
use Rattle.rpc_journal.specs.declared.entry.JournalEntry.{JournalEntry}
use Rattle.rpc_journal.specs.declared.entry.JournalEntry.TheVariants as entry
use Rattle.rpc_journal.specs.Meaning.{History}
use Rattle.rpc_machine.specs.Claims.{IfDelivers, IfEnds}
use Rattle.laws_meanings.specs.AsMade.{IfMade, DeliveriesAreAsMade}
use Rattle.laws_meanings.specs.NewReferences.{IfGives, GivenAreNew}
use Rattle.laws_meanings.specs.FirstEnds.{IfFirst, EndsAreFirst}
use Rattle.laws_meanings.specs.WhatIsLeft.{IfToObject, IfAnswered, ObjectsAreLeft, AnswersAreLeft}

pub delivery : (h : History) (e : JournalEntry) → IfToObject h e → IfMade h e → IfGives h e → IfDelivers h e
delivery h (entry.Delivered v d) t m n = record {
  to_object = t;
  call = m.call;
  was_made = m.was_made;
  interface = m.interface_is;
  method = m.method_is;
  payload = m.payload_is;
  refs = m.refs;
  are_new = n;
}
delivery h e t m n = tt

end : (h : History) (e : JournalEntry) → IfAnswered h e → IfFirst h e → IfGives h e → IfEnds h e
end h (entry.Ended v x) a f n = record { once = f; so = a; are_new = n }
end h e a f n = tt

pub objects_left : DeliveriesAreAsMade → GivenAreNew → ObjectsAreLeft
objects_left made new a b x k t before behind e i = delivery _ e (t before behind e i) (made a b x k before behind e i) (new a b x k before behind e i)

pub answers_left : GivenAreNew → EndsAreFirst → AnswersAreLeft
answers_left new once a b x k t before behind e i = end _ e (t before behind e i) (once a b x k before behind e i) (new a b x k before behind e i)
