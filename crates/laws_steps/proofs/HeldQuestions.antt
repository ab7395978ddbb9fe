-- The questions that a call of the application holds, and what returned questions brought, after one question changes.
use Rattle.std.proofs.Common.{◌≡◌, ℕ, ◌≤◌, Bool, true, false, cond, nat_eq, Option, None, Some, refl, sym, ap, subst, ◌∙◌, arith, List}
use Rattle.std.specs.FinMap as map
use Rattle.laws_acts.specs.rpc_msg.specs.declared.ids.ExportId.{ExportId}
use Rattle.finite_maps.specs.Tally.{Map}
use Rattle.laws_acts.specs.rpc_machine.specs.declared.command.Level.{Level}
use Rattle.laws_acts.specs.rpc_machine.specs.declared.command.Level.TheVariants.{Zero, One}
use Rattle.laws_acts.specs.rpc_machine.specs.declared.entries.Role.{Role}
use Rattle.laws_acts.specs.rpc_machine.specs.declared.entries.Finishing.TheVariants as finishing
use Rattle.laws_acts.specs.rpc_machine.specs.declared.entries.Returned.{Returned}
use Rattle.laws_acts.specs.rpc_machine.specs.declared.entries.Question.{Question}
use Rattle.laws_acts.specs.rpc_machine.specs.Lists.{how_many}
use Rattle.laws_acts.specs.rpc_machine.specs.Nodes.{is_import}
use Rattle.laws_acts.specs.rpc_machine.specs.Places.{named_by_returned}
use Rattle.laws_acts.specs.rpc_machine.specs.Sweeping.{got_of}
use Rattle.finite_maps.proofs.Tested.{equal, itself, get_put}
use Rattle.laws_steps.proofs.NamedNodes.{Asked, asker, Tied, at_put, at_cut, Brought}

abbrev pub question : Role → List ExportId → Question
question role ids = record { role = role; given = ids; returned = None; finish = finishing.Owed }

pub tied_put : (w : Asked) (m : Map Question) (q : ℕ) (y : Question) → Tied w m → ((c : ℕ) → asker (map.get m q) ≡ Some c → asker (Some y) ≡ Some c) → Tied w (map.insert m q y)
tied_put w m q y h f = at_put (λ j o. (c : ℕ) → w j ≡ Some c → asker o ≡ Some c) m q y (λ c e. f c (h q c e)) h

-- An id that was free is not held.
pub tied_free : (w : Asked) (m : Map Question) (q : ℕ) (y : Question) → Tied w m → map.get m q ≡ None → Tied w (map.insert m q y)
tied_free w m q y h free = tied_put w m q y h (λ c e. absurd (let k : None ≡ Some c = ap asker (sym free) ∙ e in cc))

-- A question under a free id is held.
abbrev pub asked_too : Asked → ℕ → ℕ → Asked
asked_too w q c = λ j. cond (nat_eq j q) (Some c) (w j)

pub asked_here : (w : Asked) (q c : ℕ) → asked_too w q c q ≡ Some c
asked_here w q c = ap (λ b. cond b (Some c) (w q)) (itself q)

pub asked_before : (w : Asked) (m : Map Question) (q c : ℕ) → Tied w m → map.get m q ≡ None → (j k : ℕ) → w j ≡ Some k → asked_too w q c j ≡ Some k
asked_before w m q c h free j k e = by (nat_eq j q) refl
  where
    by : (b : Bool) → nat_eq j q ≡ b → cond b (Some c) (w j) ≡ Some k
    by false g = e
    by true g = absurd (let bad : None ≡ Some k = ap asker (sym free) ∙ ap (λ (n : ℕ). asker (map.get m n)) (sym (equal j q g)) ∙ h j k e in cc)

pub tied_new : (w : Asked) (m : Map Question) (q c : ℕ) (y : Question) → Tied w m → asker (Some y) ≡ Some c → Tied (asked_too w q c) (map.insert m q y)
tied_new w m q c y h a j k e = subst (λ (o : Option Question). asker o ≡ Some k) (sym (get_put m q y j)) (by (nat_eq j q) e)
  where
    by : (b : Bool) → cond b (Some c) (w j) ≡ Some k → asker (cond b (Some y) (map.get m j)) ≡ Some k
    by true g = a ∙ g
    by false g = h j k g

pub brings_none : (l : Level) (x : Question) → x.returned ≡ None → Brought l (Some x)
brings_none Zero x e = tt
brings_none One x e = λ i. subst (λ (o : Option Returned). how_many (nat_eq i) (got_of o) ≤ how_many (is_import i) (named_by_returned o)) (sym e) (omega arith)

pub brought_put : (l : Level) (m : Map Question) (q : ℕ) (y : Question) → Brought l (Some y) → ((k : ℕ) → Brought l (map.get m k)) → (k : ℕ) → Brought l (map.get (map.insert m q y) k)
brought_put l m q y a h = at_put (λ j o. Brought l o) m q y a h

pub brings_nothing : (l : Level) → Brought l None
brings_nothing Zero = tt
brings_nothing One = tt

pub brought_cut : (l : Level) (m : Map Question) (q : ℕ) → ((k : ℕ) → Brought l (map.get m k)) → (k : ℕ) → Brought l (map.get (map.remove m q) k)
brought_cut l m q h = at_cut (λ j o. Brought l o) m q (brings_nothing l) h
