-- Later entries change no link; what leads to a meaning stands for it.
use Rattle.std.proofs.Common.{◌≡◌, ℕ, suc, Option, None, Some, List, [], ◌∷◌, ◌++◌, append_assoc, append-nil, refl, sym, ap, ◌∙◌, subst}
use Rattle.std.specs.List.{slice_get}
use Rattle.std.proofs.lemmas.List.Elements.{All-nil}
use Rattle.rpc_msg.specs.declared.ids.Vat.{Vat}
use Rattle.rpc_msg.specs.declared.ids.Stamp.{Stamp}
use Rattle.rpc_msg.specs.Paths.{fields}
use Rattle.rpc_msg.specs.Op.{Op}
use Rattle.rpc_msg.specs.CapAt.{CapAt}
use Rattle.rpc_msg.specs.CapAt.TheVariants.{Cap, Null, NotCap}
use Rattle.rpc_msg.specs.Payloads.{tree_of}
use Rattle.rpc_msg.specs.Op.TheVariants as op
use Rattle.capn_trees.specs.Trees.{Tree}
use Rattle.rpc_msg.specs.Walking.{capability_at, field, walk, found_at}
use Rattle.std.specs.Option.{option_and_then}
use Rattle.rpc_journal.specs.declared.report.Outcome.{Outcome}
use Rattle.rpc_journal.specs.declared.report.Outcome.TheVariants as outcome
use Rattle.rpc_journal.specs.declared.entry.JournalEntry.{JournalEntry}
use Rattle.rpc_journal.specs.declared.entry.JournalEntry.TheVariants as entry
use Rattle.rpc_journal.specs.History.{Ref, Reply, refs_at, caller, or_rest, answer_of}
use Rattle.rpc_journal.specs.Sources.{Asking, OfBootstrap, OfCall, Source, OwnObject, OwnPromise, CloneOf, SentWith, EndedWith, FieldOf, Fate, FixedTo, WasRejected, fate}
use Rattle.rpc_journal.specs.Meaning.{History, Meaning, ObjectAt, Broken, bootstrap_meaning, root_field, by_fate, by_ref, by_made, by_reply, by_end, by_cap, by_outcome, if_broken, by_replied, by_answer, by_asking, by_source, within}
use Rattle.rpc_machine.specs.Claims.{IsToOne, IsInTime, IfDelivers, Upto, history}
use Rattle.laws_runs.specs.Meanings.{with_more}
use Rattle.laws_runs.proofs.Extends.{Extends, extends, extends_itself}
use Rattle.laws_runs.proofs.Grows.{same_bootstrap}
use Rattle.laws_runs.proofs.Lasting.{was_delivered, apart}
use Rattle.laws_runs.proofs.InTime.{one_more}
use Rattle.laws_meanings.specs.AsMade.{IfMade, DeliveriesAreAsMade}
use Rattle.laws_meanings.specs.NewReferences.{IfGives, GivenAreNew}
use Rattle.laws_meanings.specs.WhatIsLeft.{IfToObject, IfBroken, BrokenCallsAreLeft}
use Rattle.laws_meanings.specs.NodeMeanings.{Meant, Itself, OfRef, OfPromise, OfField, field_meant, IsRefAt, ByEnd, BySource, ByFate, ByCap, ByOutcome, Link, Leads, There, Then, Breaks, LinksLast, LedToObjects, LedToBroken, IfLedToObject, IfLedToBroken, LinksToObjectsAreLeft, LinksToBrokenAreLeft}
use Rattle.laws_meanings.proofs.Left.{delivery}

-- ---- Links last

module _ (h k : History) (e : Extends h k) where
  pub end_still : (v : Vat) (i : ℕ) (a : Asking) (y : Meant) → ByEnd h v i a y → ByEnd k v i a y
  end_still v i OfBootstrap y l = l ∙ ap (λ (m : Meaning). Itself m) (sym (same_bootstrap h k e v))
  end_still v i (OfCall s) y l = (l.0, e.answer s l.0 l.1, l.2)

  pub field_still : (v : Vat) (path : List Op) (a : Asking) → field_meant h v a path ≡ field_meant k v a path
  field_still v path OfBootstrap = ap (λ (m : Meaning). Itself (root_field m (fields path))) (sym (same_bootstrap h k e v))
  field_still v path (OfCall s) = refl

  pub source_still : (v : Vat) (s : Source) (y : Meant) → BySource h v s y → BySource k v s y
  source_still v (OwnObject o) y l = l
  source_still v (OwnPromise p) y l = l
  source_still v (CloneOf n) y l = l
  source_still v (SentWith s i) y l = (l.0, e.made s l.0 l.1, l.2)
  source_still v (EndedWith c i) y l = (l.0, e.asking v c l.0 l.1, end_still v i l.0 y l.2)
  source_still v (FieldOf c path) y l = (l.0, e.asking v c l.0 l.1, l.2 ∙ field_still v path l.0)

  fate_still : (f : Fate) (y : Meant) → ByFate h f y → ByFate k f y
  fate_still (FixedTo r) y l = l
  fate_still WasRejected y l = l

  cap_still : (refs : List Ref) (c : CapAt) (y : Meant) → ByCap h refs c y → ByCap k refs c y
  cap_still refs (Cap i) y l = l
  cap_still refs Null y l = l
  cap_still refs NotCap y l = l

  outcome_still : (path : List Op) (refs : List Ref) (x : Outcome) (y : Meant) → ByOutcome h path refs x y → ByOutcome k path refs x y
  outcome_still path refs (outcome.Results payload) y l = cap_still refs (capability_at (tree_of payload) path) y l
  outcome_still path refs (outcome.Exception exception) y l = l

  link_still : (x y : Meant) → Link h x y → Link k x y
  link_still (Itself m) y l = absurd l
  link_still (OfRef r) y l = (l.0, e.source r l.0 l.1, source_still r.vat l.0 y l.2)
  link_still (OfPromise v p) y l = (l.0, e.fate v p l.0 l.1, fate_still l.0 y l.2)
  link_still (OfField s path) y l = (l.0, e.answer s l.0 l.1, outcome_still path l.0.refs l.0.outcome y l.2)

  pub leads_still : (to x : Meant) → Leads h to x → Leads k to x
  leads_still to x There = There
  leads_still to x (Then {mid = mid} l rest) = Then (link_still x mid l) (leads_still to mid rest)
  leads_still to x (Breaks s path b rest) = Breaks s path b (leads_still to (OfRef (caller s)) rest)

pub links_last : LinksLast
links_last h more to x l = leads_still h (with_more h more) (extends h more) to x l

-- ---- What leads to a meaning stands for it

-- What is meant, by at most that many links of references.
abbrev stands : History → ℕ → Meant → Option Meaning
stands h n (Itself x) = Some x
stands h n (OfRef r) = within n h r
stands h n (OfPromise v p) = by_fate h (within n h) (fate h.journal v p)
stands h n (OfField s path) = by_answer h (within n h) path s (answer_of h.journal s)

-- Noops lead nowhere.
pub walk_fields : (t : Tree) (path : List Op) → walk t (fields path) ≡ walk t path
walk_fields t [] = refl
walk_fields t (op.Noop ∷ ops) = walk_fields t ops
walk_fields t (op.Field n ∷ ops) = by (λ u. walk_fields u ops) (field t n)
  where
    by : ((u : Tree) → walk u (fields ops) ≡ walk u ops) → (o : Option Tree) → option_and_then (λ u. walk u (fields ops)) o ≡ option_and_then (λ u. walk u ops) o
    by f None = refl
    by f (Some u) = f u

replied_fields : (h : History) (rest : Ref → Option Meaning) (path : List Op) (o : Option Reply) → by_replied h rest (fields path) o ≡ by_replied h rest path o
replied_fields h rest path None = refl
replied_fields h rest path (Some a) = by a.outcome
  where
    by : (x : Outcome) → by_outcome h rest (fields path) a.refs x ≡ by_outcome h rest path a.refs x
    by (outcome.Results payload) = ap (λ (z : Option Tree). by_cap h rest a.refs (found_at z)) (walk_fields (tree_of payload) path)
    by (outcome.Exception exception) = refl

-- No call that was answered breaks its fields, or all is broken.
module _ (h : History) (m : Meaning) (sound : (s : Stamp) (a : Reply) (n : ℕ) → answer_of h.journal s ≡ Some a → within n h (caller s) ≡ Some Broken → m ≡ Broken) where
  at_ref : (n i : ℕ) (rs : List Ref) (y : Meant) → IsRefAt h rs i y → stands h n y ≡ Some m → by_ref h (within n h) (slice_get rs i) ≡ Some m
  at_ref n i rs y l e = let r = l.0 in ap (by_ref h (within n h)) l.1 ∙ subst (λ (z : Meant). stands h n z ≡ Some m) l.2 e

  same_meant : (n : ℕ) (y z : Meant) → y ≡ z → stands h n y ≡ Some m → stands h n z ≡ Some m
  same_meant n y z l e = subst (λ (x : Meant). stands h n x ≡ Some m) l e

  by_the_end : (n : ℕ) (v : Vat) (i : ℕ) (a : Asking) (y : Meant) → ByEnd h v i a y → stands h n y ≡ Some m → by_end h (within n h) v i (Some a) ≡ Some m
  by_the_end n v i OfBootstrap y l e = same_meant n y (Itself (bootstrap_meaning h v)) l e
  by_the_end n v i (OfCall s) y l e = ap (by_reply h (within n h) i) l.1 ∙ at_ref n i l.0.refs y l.2 e

  by_the_field : (n : ℕ) (v : Vat) (path : List Op) (a : Asking) → stands h n (field_meant h v a path) ≡ Some m → by_asking h (within n h) v path (Some a) ≡ Some m
  by_the_field n v path OfBootstrap e = e
  by_the_field n v path (OfCall s) e = sym (ap (or_rest (if_broken h (within n h) (within n h (caller s)))) (replied_fields h (within n h) path (answer_of h.journal s))) ∙ e

  by_the_source : (n : ℕ) (v : Vat) (s : Source) (y : Meant) → BySource h v s y → stands h n y ≡ Some m → by_source h (within n h) v (Some s) ≡ Some m
  by_the_source n v (OwnObject o) y l e = same_meant n y (Itself (ObjectAt v o)) l e
  by_the_source n v (OwnPromise p) y l e = same_meant n y (OfPromise v p) l e
  by_the_source n v (CloneOf k) y l e = same_meant n y (OfRef (record { vat = v; number = k })) l e
  by_the_source n v (SentWith s i) y l e = ap (by_made h (within n h) s.vat i) l.1 ∙ at_ref n i (refs_at s.vat l.0.refs) y l.2 e
  by_the_source n v (EndedWith c i) y l e = ap (by_end h (within n h) v i) l.1 ∙ by_the_end n v i l.0 y l.2 e
  by_the_source n v (FieldOf c path) y l e = ap (by_asking h (within n h) v path) l.1 ∙ by_the_field n v path l.0 (same_meant n y (field_meant h v l.0 path) l.2 e)

  by_the_fate : (n : ℕ) (f : Fate) (y : Meant) → ByFate h f y → stands h n y ≡ Some m → by_fate h (within n h) (Some f) ≡ Some m
  by_the_fate n (FixedTo r) y l e = same_meant n y (OfRef r) l e
  by_the_fate n WasRejected y l e = same_meant n y (Itself Broken) l e

  by_the_cap : (n : ℕ) (refs : List Ref) (c : CapAt) (y : Meant) → ByCap h refs c y → stands h n y ≡ Some m → by_cap h (within n h) refs c ≡ Some m
  by_the_cap n refs (Cap i) y l e = at_ref n i refs y l e
  by_the_cap n refs Null y l e = same_meant n y (Itself Broken) l e
  by_the_cap n refs NotCap y l e = same_meant n y (Itself Broken) l e

  by_the_outcome : (n : ℕ) (path : List Op) (refs : List Ref) (x : Outcome) (y : Meant) → ByOutcome h path refs x y → stands h n y ≡ Some m → by_outcome h (within n h) path refs x ≡ Some m
  by_the_outcome n path refs (outcome.Results payload) y l e = by_the_cap n refs (capability_at (tree_of payload) path) y l e
  by_the_outcome n path refs (outcome.Exception exception) y l e = same_meant n y (Itself Broken) l e

  unless_broken : (b y : Option Meaning) (rest : Ref → Option Meaning) → (b ≡ Some Broken → m ≡ Broken) → y ≡ Some m → or_rest (if_broken h rest b) y ≡ Some m
  unless_broken None y rest f e = e
  unless_broken (Some (ObjectAt v o)) y rest f e = e
  unless_broken (Some Broken) y rest f e = ap (λ (x : Meaning). Some x) (sym (f refl))

  by_the_link : (n : ℕ) (x y : Meant) → Link h x y → stands h n y ≡ Some m → (k : ℕ) × (stands h k x ≡ Some m)
  by_the_link n (Itself x) y l e = absurd l
  by_the_link n (OfRef r) y l e = (suc n, ap (by_source h (within n h) r.vat) l.1 ∙ by_the_source n r.vat l.0 y l.2 e)
  by_the_link n (OfPromise v p) y l e = (n, ap (by_fate h (within n h)) l.1 ∙ by_the_fate n l.0 y l.2 e)
  by_the_link n (OfField s path) y l e =
      let a = l.0 in
      (n, ap (by_answer h (within n h) path s) l.1 ∙ unless_broken (within n h (caller s)) (by_outcome h (within n h) path a.refs a.outcome) (within n h) (λ b. sound s a n l.1 b) (by_the_outcome n path a.refs a.outcome y l.2 e))

  by_broken : (b y : Option Meaning) (rest : Ref → Option Meaning) → b ≡ Some Broken → or_rest (if_broken h rest b) y ≡ Some Broken
  by_broken b y rest e = rw e refl

  pub by_links : (x : Meant) → Leads h (Itself m) x → (n : ℕ) × (stands h n x ≡ Some m)
  by_links x There = (0, refl)
  by_links x (Then {mid = mid} l rest) = let i = by_links mid rest in by_the_link i.0 x mid l i.1
  by_links x (Breaks s path b rest) =
      let i = by_links (OfRef (caller s)) rest in
      let f : m ≡ Broken = let q : Itself m ≡ Itself Broken = b in cc in
      let g : within i.0 h (caller s) ≡ Some Broken = i.1 ∙ ap (λ (y : Meaning). Some y) f in
      (i.0, by_broken (within i.0 h (caller s)) (by_replied h (within i.0 h) path (answer_of h.journal s)) (within i.0 h) g ∙ ap (λ (y : Meaning). Some y) (sym f))

pub led_to_objects : LedToObjects
led_to_objects h t r v o l = by_links h (ObjectAt v o) (λ s a n e b. never s a n e b) (OfRef r) l
  where
    never : (s : Stamp) (a : Reply) (n : ℕ) → answer_of h.journal s ≡ Some a → within n h (caller s) ≡ Some Broken → ObjectAt v o ≡ Broken
    never s a n e b = let d = was_delivered h t s a e in absurd (apart h h (extends_itself h) t n d.2.0 (caller s) d.0 d.1 d.2.1 b)

pub led_to_broken : LedToBroken
led_to_broken h r l = by_links h Broken (λ s a n e b. refl) (OfRef r) l

-- ---- In scenes

module _ (h : History) (made : Upto IfMade h) (new : Upto IfGives h) (led : Upto IfLedToObject h) where
  delivers : (before : List JournalEntry) (e : JournalEntry) → IsToOne (record h { journal = before }) → IfLedToObject (record h { journal = before }) e → IfToObject (record h { journal = before }) e
  delivers before (entry.Delivered v d) t l = led_to_objects (record h { journal = before }) t (caller d.stamp) v d.object.0 l
  delivers before e t l = tt

  this : (before behind : List JournalEntry) (e : JournalEntry) → h.journal ≡ before ++ e ∷ behind → IsToOne (record h { journal = before }) → IfDelivers (record h { journal = before }) e
  this before behind e i t = delivery (record h { journal = before }) e (delivers before e t (led before behind e i)) (made before behind e i) (new before behind e i)

  to_one_at : (es more : List JournalEntry) → IsToOne (record h { journal = es }) → (before behind : List JournalEntry) → h.journal ≡ es ++ (more ++ behind) → before ≡ es ++ more → IsToOne (record h { journal = before })
  to_one_at es [] t before behind i e = subst (λ (l : List JournalEntry). IsToOne (record h { journal = l })) (sym (e ∙ append-nil es)) t
  to_one_at es (x ∷ xs) t before behind i e = to_one_at (es ++ x ∷ []) xs (one_more h es t x (this es (xs ++ behind) x i t)) before behind (i ∙ sym (append_assoc es (x ∷ []) (xs ++ behind))) (e ∙ sym (append_assoc es (x ∷ []) xs))

  pub all_in_time : IsInTime h
  all_in_time before behind e i = this before behind e i (to_one_at [] before (λ r. All-nil _) before (e ∷ behind) i refl)

pub objects_by_links : DeliveriesAreAsMade → GivenAreNew → LinksToObjectsAreLeft
objects_by_links made new a b x k led = all_in_time (history a b x.journal) (made a b x k) (new a b x k) led

if_led : (h : History) (e : JournalEntry) → IfLedToBroken h e → IfBroken h e
if_led h (entry.Ended v x) l = λ s e f. led_to_broken h (caller s) (l s e f)
if_led h e l = tt

pub broken_by_links : BrokenCallsAreLeft → LinksToBrokenAreLeft
broken_by_links left a b x k led = left a b x k (λ before behind e i. if_led (history a b before) e (led before behind e i))
