-- Sessions of questions, and what names their answers, with several messages at once.
use Rattle.std.proofs.Common.{◌≡◌, ℕ, nat_eq, Bool, true, false, List, [], ◌∷◌, ◌++◌, refl, sym, ap, subst, ◌∙◌, append-nil, append_assoc}
use Rattle.rpc_msg.specs.declared.parts.Descriptor.{Descriptor}
use Rattle.rpc_msg.specs.declared.parts.Descriptor.TheVariants as descriptor
use Rattle.rpc_msg.specs.declared.parts.Target.{Target}
use Rattle.rpc_msg.specs.declared.parts.Target.TheVariants.{ImportedCap, PromisedAnswer}
use Rattle.rpc_msg.specs.declared.message.PlainMessage.{PlainMessage}
use Rattle.rpc_msg.specs.declared.message.PlainMessage.TheVariants as plain
use Rattle.rpc_msg.specs.Messages.{descriptors_of_plain}
use Rattle.laws_acts.specs.Sent.{Ids, Noted}
use Rattle.laws_runs.specs.Questions.{Asker, Answerer, Out, Ret, Row, hear_one, tell_one}
use Rattle.laws_runs.specs.Names as mark
use Rattle.laws_runs.specs.Names.{Mark}
use Rattle.laws_runs.specs.Views.{only, out_of, outs, tell, hear, SendsAll, ReturnsAll}
use Rattle.laws_runs.proofs.Rows as rows
use Rattle.laws_runs.proofs.Named as small
use Rattle.laws_messages.specs.Named.{target_marks, targets_marks, each_marks, says, marks}
use Rattle.laws_messages.proofs.Asking.{Marked}

-- ---- One session

pub sends_all : (v w : Asker Ids Ids) (ms out : List (Out Ids Ids)) (u : Answerer Ids Ids) (back : List (Ret Ids Ids)) → Row v out u back → SendsAll v ms w → Row w (out ++ ms) u back
sends_all v w [] out u back r h = subst (λ (o : List (Out Ids Ids)). Row w o u back) (sym (append-nil out)) (subst (λ (y : Asker Ids Ids). Row y out u back) h r)
sends_all v w (m ∷ ms) out u back r h = subst (λ (o : List (Out Ids Ids)). Row w o u back) (append_assoc out (m ∷ []) ms) (sends_all h.0 w ms (out ++ m ∷ []) u back (rows.sends v h.0 m out u back r h.1) h.2)

pub returns_all : (v : Asker Ids Ids) (out : List (Out Ids Ids)) (u w : Answerer Ids Ids) (ms back : List (Ret Ids Ids)) → Row v out u back → ReturnsAll u ms w → Row v out w (back ++ ms)
returns_all v out u w [] back r h = subst (λ (o : List (Ret Ids Ids)). Row v out w o) (sym (append-nil back)) (subst (λ (y : Answerer Ids Ids). Row v out y back) h r)
returns_all v out u w (m ∷ ms) back r h = subst (λ (o : List (Ret Ids Ids)). Row v out w o) (append_assoc back (m ∷ []) ms) (returns_all v out h.0 w ms (back ++ m ∷ []) (rows.returns v out u h.0 m back r h.1) h.2)

pub tell_all : (v : Asker Ids Ids) (out : List (Out Ids Ids)) (u : Answerer Ids Ids) (ms back : List (Ret Ids Ids)) → Row v out u (ms ++ back) → Row (tell v ms) out u back
tell_all v out u [] back r = r
tell_all v out u (m ∷ ms) back r = tell_all (tell_one v m) out u ms back (rows.told v out u m (ms ++ back) r)

pub hear_all : (v : Asker Ids Ids) (ms out : List (Out Ids Ids)) (u : Answerer Ids Ids) (back : List (Ret Ids Ids)) → Row v (ms ++ out) u back → Row v out (hear u ms) back
hear_all v [] out u back r = r
hear_all v (m ∷ ms) out u back r = hear_all v ms out (hear_one u m) back (rows.heard v m (ms ++ out) u back r)

-- ---- Marks and messages

outs_one : (ms : List (Mark Ids Ids)) (o : Out Ids Ids) → mark.outs (ms ++ mark.Says o ∷ []) ≡ mark.outs ms ++ o ∷ []
outs_one [] o = refl
outs_one (mark.Says m ∷ ms) o = ap (λ (os : List (Out Ids Ids)). m ∷ os) (outs_one ms o)
outs_one (mark.Names ∷ ms) o = outs_one ms o

outs_none : (ms : List (Mark Ids Ids)) → mark.outs (ms ++ mark.Names ∷ []) ≡ mark.outs ms
outs_none [] = refl
outs_none (mark.Says m ∷ ms) = ap (λ (os : List (Out Ids Ids)). m ∷ os) (outs_none ms)
outs_none (mark.Names ∷ ms) = outs_none ms

abbrev pub OnlyNames : List (Mark Ids Ids) → Type 0
OnlyNames [] = Unit {0}
OnlyNames (mark.Names ∷ ms) = OnlyNames ms
OnlyNames (mark.Says m ∷ ms) = ⊥

outs_behind : (xs ys : List (Mark Ids Ids)) → OnlyNames xs → mark.outs (xs ++ ys) ≡ mark.outs ys
outs_behind [] ys h = refl
outs_behind (mark.Names ∷ xs) ys h = outs_behind xs ys h
outs_behind (mark.Says m ∷ xs) ys h = absurd h

outs_said : (os : List (Out Ids Ids)) (ys : List (Mark Ids Ids)) → mark.outs (says os ++ ys) ≡ os ++ mark.outs ys
outs_said [] ys = refl
outs_said (o ∷ os) ys = ap (λ (ps : List (Out Ids Ids)). o ∷ ps) (outs_said os ys)

one_only : (b : Bool) → OnlyNames (only b mark.Names)
one_only true = tt
one_only false = tt

behind_one : (b : Bool) (xs : List (Mark Ids Ids)) → OnlyNames xs → OnlyNames (only b mark.Names ++ xs)
behind_one true xs h = h
behind_one false xs h = h

target_only : (q : ℕ) (t : Target) → OnlyNames (target_marks q t)
target_only q (ImportedCap e) = tt
target_only q (PromisedAnswer k path) = one_only (nat_eq q k.0)

pub targets_only : (q : ℕ) (m : PlainMessage) → OnlyNames (targets_marks q m)
targets_only q (plain.Call c) = target_only q c.target
targets_only q (plain.Disembargo d) = target_only q d.target
targets_only q (plain.Abort x) = tt
targets_only q (plain.Bootstrap k) = tt
targets_only q (plain.Return r) = tt
targets_only q (plain.Finish f) = tt
targets_only q (plain.Resolve r) = tt
targets_only q (plain.Release r) = tt
targets_only q (plain.Other n) = tt

pub each_only : (q : ℕ) (ds : List Descriptor) → OnlyNames (each_marks q ds)
each_only q [] = tt
each_only q (descriptor.None ∷ ds) = each_only q ds
each_only q (descriptor.SenderHosted i ∷ ds) = each_only q ds
each_only q (descriptor.SenderPromise i ∷ ds) = each_only q ds
each_only q (descriptor.ReceiverHosted i ∷ ds) = each_only q ds
each_only q (descriptor.ReceiverAnswer k path ∷ ds) = behind_one (nat_eq q k.0) (each_marks q ds) (each_only q ds)

pub outs_marks : (q : ℕ) (xs : List Noted) → mark.outs (marks q xs) ≡ outs q xs
outs_marks q [] = refl
outs_marks q (x ∷ xs) =
    outs_behind (targets_marks q x.message) _ (targets_only q x.message)
    ∙ outs_behind (each_marks q (descriptors_of_plain x.message)) _ (each_only q (descriptors_of_plain x.message))
    ∙ outs_said (out_of q x.message x.lets) (marks q xs)
    ∙ ap (λ (ps : List (Out Ids Ids)). out_of q x.message x.lets ++ ps) (outs_marks q xs)

-- ---- What keeps that each name is met

-- What the asker does is behind all that is on the way.
module _ (u : Answerer Ids Ids) (back : List (Ret Ids Ids)) where
  pub joined : (v w : Asker Ids Ids) (ms ks : List (Mark Ids Ids)) → Row v (mark.outs ms) u back → mark.Met u ms → Marked v ks w → mark.Met u (ms ++ ks)
  joined v w ms [] r m h = subst (λ (xs : List (Mark Ids Ids)). mark.Met u xs) (sym (append-nil ms)) m
  joined v w ms (mark.Says o ∷ ks) r m h =
      subst (λ (xs : List (Mark Ids Ids)). mark.Met u xs) (append_assoc ms (mark.Says o ∷ []) ks)
      (joined h.0 w (ms ++ mark.Says o ∷ []) ks (subst (λ (os : List (Out Ids Ids)). Row h.0 os u back) (sym (outs_one ms o)) (rows.sends v h.0 o (mark.outs ms) u back r h.1)) (small.sends u ms o m) h.2)
  joined v w ms (mark.Names ∷ ks) r m h =
      subst (λ (xs : List (Mark Ids Ids)). mark.Met u xs) (append_assoc ms (mark.Names ∷ []) ks)
      (joined v w (ms ++ mark.Names ∷ []) ks (subst (λ (os : List (Out Ids Ids)). Row v os u back) (sym (outs_none ms)) r) (small.names v ms u back r h.0 m) h.1)

-- What the answerer does by itself.
pub returned : (v : Asker Ids Ids) (ms : List (Mark Ids Ids)) (u w : Answerer Ids Ids) (rs back : List (Ret Ids Ids)) → Row v (mark.outs ms) u back → mark.Met u ms → ReturnsAll u rs w → mark.Met w ms
returned v ms u w [] back r m h = subst (λ (z : Answerer Ids Ids). mark.Met z ms) h m
returned v ms u w (x ∷ rs) back r m h = returned v ms h.0 w rs (back ++ x ∷ []) (rows.returns v (mark.outs ms) u h.0 x back r h.1) (small.returns v ms u h.0 x back r h.1 m) h.2

-- The answerer takes the oldest message.
pub strip : (u : Answerer Ids Ids) (xs ys : List (Mark Ids Ids)) → OnlyNames xs → mark.Met u (xs ++ ys) → mark.Met u ys
strip u [] ys o h = h
strip u (mark.Names ∷ xs) ys o h = strip u xs ys o h.1
strip u (mark.Says m ∷ xs) ys o h = absurd o

pub ahead : (u : Answerer Ids Ids) (xs ys : List (Mark Ids Ids)) → OnlyNames xs → mark.Met u (xs ++ ys) → mark.Met u xs
ahead u [] ys o h = tt
ahead u (mark.Names ∷ xs) ys o h = (h.0, ahead u xs ys o h.1)
ahead u (mark.Says m ∷ xs) ys o h = absurd o

hears : (u : Answerer Ids Ids) (os : List (Out Ids Ids)) (ys : List (Mark Ids Ids)) → mark.Met u (says os ++ ys) → mark.Met (hear u os) ys
hears u [] ys h = h
hears u (o ∷ os) ys h = hears (hear_one u o) os ys h

pub rest_met : (q : ℕ) (u : Answerer Ids Ids) (n : Noted) (ns : List Noted) → mark.Met u (marks q (n ∷ ns)) → mark.Met (hear u (out_of q n.message n.lets)) (marks q ns)
rest_met q u n ns h =
    hears u (out_of q n.message n.lets) (marks q ns)
    (strip u (each_marks q (descriptors_of_plain n.message)) _ (each_only q (descriptors_of_plain n.message)) (strip u (targets_marks q n.message) _ (targets_only q n.message) h))
