-- The exports that a list of descriptors hands on, descriptor by descriptor.
use Rattle.std.specs.Prelude.{◌≡◌, ℕ, ◌+◌, ◌<◌, List, [], ◌∷◌, ◌++◌, length, take, get_or}
use Rattle.std.proofs.Common.{refl, sym, ◌∙◌, ap}
use Rattle.std.proofs.lemmas.List.{take_more}
use Rattle.rpc_msg.specs.declared.parts.Descriptor.{Descriptor}
use Rattle.rpc_msg.specs.declared.parts.Descriptor.TheVariants as descriptor
use Rattle.rpc_msg.specs.Messages.{given}
use Rattle.rpc_check.specs.Counts.{CountsById, one_each}

one_each_more : (ds : List Descriptor) (d : Descriptor) → one_each (given (ds ++ d ∷ [])) ≡ one_each (given ds) ++ one_each (given (d ∷ []))
one_each_more [] d = refl
one_each_more (descriptor.None ∷ ds) d = one_each_more ds d
one_each_more (descriptor.SenderHosted e ∷ ds) d = ap (λ xs. (record { 0 = e.0 }, 1) ∷ xs) (one_each_more ds d)
one_each_more (descriptor.SenderPromise e ∷ ds) d = ap (λ xs. (record { 0 = e.0 }, 1) ∷ xs) (one_each_more ds d)
one_each_more (descriptor.ReceiverHosted e ∷ ds) d = one_each_more ds d
one_each_more (descriptor.ReceiverAnswer q path ∷ ds) d = one_each_more ds d

pub given_more : (ids new : CountsById) (ds : List Descriptor) (i : ℕ) (d : Descriptor) → i < length ds → d ≡ get_or ds i d → ids ≡ one_each (given (take i ds)) → new ≡ ids ++ one_each (given (d ∷ [])) → new ≡ one_each (given (take (i + 1) ds))
given_more ids new ds i d within is kept more =
    more
    ∙ ap (λ xs. xs ++ one_each (given (d ∷ []))) kept
    ∙ sym (one_each_more (take i ds) d)
    ∙ ap (λ x. one_each (given (take i ds ++ x ∷ []))) is
    ∙ ap (λ xs. one_each (given xs)) (sym (take_more ds i d within))
