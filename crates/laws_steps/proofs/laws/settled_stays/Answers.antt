use Rattle.laws_steps.proofs.SaysTheSame.{say_the_same}
use Rattle.laws_steps.proofs.LeadsOn.{leads_on, stays_settled}
use Rattle.laws_steps.proofs.laws.settled_stays.Goals as goal

pub returns-clause-says : goal.returns-clause-says
returns-clause-says c = say_the_same

pub returns-clause-leads : goal.returns-clause-leads
returns-clause-leads c = record {
  commands = λ s k a x t h there n d e i f g. leads_on c.settles_where_it_leads.ensures s x t (say_the_same.commands s k a x t h) there n d e i f g;
  messages = λ s m x t h there n d e i f g. leads_on c.settles_where_it_leads.ensures s x t (say_the_same.messages s m x t h) there n d e i f g;
}

pub returns-clause-stays : goal.returns-clause-stays
returns-clause-stays c = record {
  commands = λ s k a x t h there n i f. stays_settled c.settles_where_it_leads.ensures s x t (say_the_same.commands s k a x t h) there n i f;
  messages = λ s m x t h there n i f. stays_settled c.settles_where_it_leads.ensures s x t (say_the_same.messages s m x t h) there n i f;
}
