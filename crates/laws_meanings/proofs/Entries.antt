-- A claim of each entry with what is before it, by recursion on the entries; and so of what effects write.
use Rattle.std.proofs.Common.{Bool, true, false, ◌≡◌, Option, None, Some, List, [], ◌∷◌, ◌++◌, map, append_assoc, append-nil, refl, sym, ap, subst, ◌∙◌}
use Rattle.rpc_msg.specs.declared.ids.Vat.{Vat}
use Rattle.rpc_journal.specs.declared.entry.JournalEntry.TheVariants as entry
use Rattle.rpc_journal.specs.declared.entry.JournalEntry.{JournalEntry}
use Rattle.rpc_msg.specs.declared.ids.RefId.{RefId}
use Rattle.rpc_journal.specs.declared.entry.Origin.{Origin}
use Rattle.rpc_journal.specs.declared.entry.Origin.TheVariants as origin
use Rattle.rpc_machine.specs.declared.command.CallCommand.{CallCommand}
use Rattle.rpc_machine.specs.declared.command.Command.{Command}
use Rattle.rpc_machine.specs.declared.command.Command.TheVariants as command
use Rattle.rpc_machine.specs.declared.command.Granted.{Granted}
use Rattle.rpc_machine.specs.declared.command.Granted.TheVariants as granted
use Rattle.rpc_machine.specs.Journal.{born, born_promise, asked_entries, made_entries, advanced_entries, granted_entries}
use Rattle.rpc_journal.specs.History.{or_rest, first_that}

-- What a claim of an entry, with what is before it, is about.
abbrev pub Claim : Type 1
Claim = List JournalEntry → JournalEntry → Type 0

abbrev pub EachAfter : Claim → List JournalEntry → List JournalEntry → Type 0
EachAfter P h [] = Unit {0}
EachAfter P h (e ∷ es) = P h e × EachAfter P (h ++ e ∷ []) es

pub each-append : (P : Claim) (h xs ys : List JournalEntry) → EachAfter P h xs → EachAfter P (h ++ xs) ys → EachAfter P h (xs ++ ys)
each-append P h [] ys a b = subst (λ (l : List JournalEntry). EachAfter P l ys) (append-nil h) b
each-append P h (x ∷ xs) ys a b = (a.0, each-append P (h ++ x ∷ []) xs ys a.1 (subst (λ (l : List JournalEntry). EachAfter P l ys) (sym (append_assoc h (x ∷ []) xs)) b))

pub upto : (P : Claim) (h es before behind : List JournalEntry) (e : JournalEntry) → EachAfter P h es → es ≡ before ++ e ∷ behind → P (h ++ before) e
upto P h [] [] behind e a f = absurd (let g : [] ≡ e ∷ behind = f in cc)
upto P h [] (y ∷ ys) behind e a f = absurd (let g : [] ≡ y ∷ (ys ++ e ∷ behind) = f in cc)
upto P h (x ∷ xs) [] behind e a f = let g : x ≡ e = cc in subst (P (h ++ [])) g (subst (λ (l : List JournalEntry). P l x) (sym (append-nil h)) a.0)
upto P h (x ∷ xs) (y ∷ ys) behind e a f =
    let g : x ≡ y = cc in
    let i : xs ≡ ys ++ e ∷ behind = cc in
    subst (λ (l : List JournalEntry). P l e) (append_assoc h (x ∷ []) ys ∙ ap (λ (z : JournalEntry). h ++ z ∷ ys) g) (upto P (h ++ x ∷ []) xs ys behind e a.1 i)

-- Of entries for which it is always so.
pub each_always : {X : Type 0} (P : Claim) (f : X → JournalEntry) → ((l : List JournalEntry) (x : X) → P l (f x)) → (h : List JournalEntry) (xs : List X) → EachAfter P h (map f xs)
each_always P f k h [] = tt
each_always P f k h (x ∷ xs) = (k h x, each_always P f k (h ++ f x ∷ []) xs)

-- ---- The first entry that says something

pub nothing_before : {X : Type 0} (f : JournalEntry → Option X) (h es : List JournalEntry) → first_that f h ≡ None → first_that f (h ++ es) ≡ first_that f es
nothing_before f [] es n = refl
nothing_before f (x ∷ xs) es n = by (f x) (first_that f xs) (first_that f (xs ++ es)) n (nothing_before f xs es)
  where
    by : (o rest longer : Option _) → or_rest o rest ≡ None → (rest ≡ None → longer ≡ first_that f es) → or_rest o longer ≡ first_that f es
    by None rest longer e g = g e
    by (Some y) rest longer e g = cc

-- ---- A command's own entries

abbrev pub is_effect : JournalEntry → Bool
is_effect (entry.Delivered v d) = true
is_effect (entry.Ended v x) = true
is_effect e = false

-- None of them is a delivery or an end.
module _ (P : Claim) (k : (l : List JournalEntry) (e : JournalEntry) → is_effect e ≡ false → P l e) where
  born_always : (v : Vat) (h : List JournalEntry) (o : Origin) (g : Granted) → EachAfter P h (born v o g)
  born_always v h o (granted.Reference r) = (k h _ refl, tt)
  born_always v h o g = tt

  promise_always : (v : Vat) (h : List JournalEntry) (g : Granted) → EachAfter P h (born_promise v g)
  promise_always v h (granted.Promise p r) = (k h _ refl, tt)
  promise_always v h g = tt

  asked_always : (v : Vat) (h : List JournalEntry) (g : Granted) → EachAfter P h (asked_entries v g)
  asked_always v h (granted.Call c) = (k h _ refl, tt)
  asked_always v h g = tt

  call_always : (v : Vat) (h before : List JournalEntry) (c : CallCommand) (g : Granted) → EachAfter P h (made_entries before v c g)
  call_always v h before c (granted.Call id) = (k h _ refl, tt)
  call_always v h before c g = tt

  advanced_always : (v : Vat) (h : List JournalEntry) (r : RefId) (g : Granted) → EachAfter P h (advanced_entries v r g)
  advanced_always v h r (granted.Advanced a) = (k h _ refl, tt)
  advanced_always v h r g = tt

  pub granted_always : (v : Vat) (h before : List JournalEntry) (c : Command) (g : Granted) → EachAfter P h (granted_entries before v c g)
  granted_always v h before (command.Host o) g = born_always v h (origin.Object o) g
  granted_always v h before (command.CloneRef r) g = born_always v h (origin.Clone r) g
  granted_always v h before (command.DropRef r) g = (k h _ refl, tt)
  granted_always v h before command.Bootstrap g = asked_always v h g
  granted_always v h before (command.Call c) g = call_always v h before c g
  granted_always v h before (command.Field c path) g = born_always v h (origin.Field c path) g
  granted_always v h before command.Promise g = promise_always v h g
  granted_always v h before (command.Resolve p r) g = (k h _ refl, tt)
  granted_always v h before (command.Reject p why) g = (k h _ refl, tt)
  granted_always v h before (command.Answer t payload refs) g = (k h _ refl, tt)
  granted_always v h before (command.Fail t why) g = (k h _ refl, tt)
  granted_always v h before (command.Finish c) g = (k h _ refl, tt)
  granted_always v h before (command.Advance r) g = advanced_always v h r g
  granted_always v h before (command.Shut n) g = tt

-- What is said in the entries behind is said in all.
pub said_behind : {X : Type 0} (f : JournalEntry → Option X) (h es : List JournalEntry) (x : X) → first_that f es ≡ Some x → (y : X) × (first_that f (h ++ es) ≡ Some y)
said_behind f [] es x e = (x, e)
said_behind f (z ∷ zs) es x e = by (f z) (said_behind f zs es x e)
  where
    by : (o : Option _) → ((y : _) × (first_that f (zs ++ es) ≡ Some y)) → (y : _) × (or_rest o (first_that f (zs ++ es)) ≡ Some y)
    by None r = r
    by (Some w) r = (w, refl)
