use Rattle.laws_scenes.proofs.between.vats_meet.Goals as goal

pub returns : goal.returns
returns c = λ a b x h v. (
    let q = c.questions_meet.ensures a b x h v in
    let l = c.loops_meet.ensures a b x h v in
    let e = c.exports_meet.ensures a b x h v in
    record {
      imported = e.imported;
      awaited = q.awaited;
      opens = q.opens;
      returns = q.returns;
      answered = q.answered;
      met = e.met;
      named = e.named;
      sent = l.sent;
      echoed = l.echoed;
    })
