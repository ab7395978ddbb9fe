-- Nodes that are named one after the other.
use Rattle.std.proofs.Common.{◌≡◌, ℕ, suc, ◌+◌, ◌<◌, ◌^◌, List, [], ◌∷◌, ◌++◌, length, take, refl, ap, arith}
use Rattle.std.proofs.lemmas.List.{length-take-le}
use Rattle.rpc_msg.specs.declared.parts.Descriptor.{Descriptor}
use Rattle.rpc_msg.specs.declared.ids.ExportId.{ExportId}
use Rattle.rpc_machine.specs.declared.node.Node.{Node}
use Rattle.rpc_machine.specs.declared.node.Node.TheVariants as node
use Rattle.rpc_machine.specs.Places.{nodes, imports_of}
use Rattle.core_refcounts.specs.Names.{Names, named, unnamed, named_all, unnamed_all, times_named}
use Rattle.core_refcounts.proofs.Rooms.{times_all}

pub length_nodes : (cs : List (Descriptor × Node)) → length (nodes cs) ≡ length cs
length_nodes [] = refl
length_nodes (c ∷ cs) = ap suc (length_nodes cs)

pub length_imports : (es : List ExportId) → length (imports_of es) ≡ length es
length_imports [] = refl
length_imports (e ∷ es) = ap suc (length_imports es)

pub named_beside : (c : Names) (cs : List (Descriptor × Node)) (x : Descriptor × Node) → named_all c (nodes (cs ++ x ∷ [])) ≡ named (named_all c (nodes cs)) x.1
named_beside c [] x = refl
named_beside c (y ∷ cs) x = named_beside (named c y.1) cs x

pub unnamed_beside : (c : Names) (cs : List (Descriptor × Node)) (x : Descriptor × Node) → unnamed_all c (nodes (cs ++ x ∷ [])) ≡ unnamed (unnamed_all c (nodes cs)) x.1
unnamed_beside c [] x = refl
unnamed_beside c (y ∷ cs) x = unnamed_beside (unnamed c y.1) cs x

pub named_import : (c : Names) (es : List ExportId) (x : ExportId) → named_all c (imports_of (es ++ x ∷ [])) ≡ named (named_all c (imports_of es)) (node.Import x)
named_import c [] x = refl
named_import c (e ∷ es) x = named_import (named c (node.Import e)) es x

pub unnamed_import : (c : Names) (es : List ExportId) (x : ExportId) → unnamed_all c (imports_of (es ++ x ∷ [])) ≡ unnamed (unnamed_all c (imports_of es)) (node.Import x)
unnamed_import c [] x = refl
unnamed_import c (e ∷ es) x = unnamed_import (unnamed c (node.Import e)) es x

-- A node that can be named so many times more can be named behind fewer others.
pub beside_fit : (c : Names) (cs : List (Descriptor × Node)) (i : ℕ) (n : Node) → i < length cs → times_named c n + length (nodes cs) < 2 ^ 64 → times_named (named_all c (nodes (take i cs))) n + 1 < 2 ^ 64
beside_fit c cs i n below fits =
    let a = times_all c (nodes (take i cs)) n in
    let b = length_nodes cs in
    let d = length_nodes (take i cs) in
    let e = length-take-le i cs (omega (arith, below)) in
    omega (arith, a, b, d, e, below, fits)

pub imports_fit : (c : Names) (es : List ExportId) (i : ℕ) (n : Node) → i < length es → times_named c n + length es < 2 ^ 64 → times_named (named_all c (imports_of (take i es))) n + 1 < 2 ^ 64
imports_fit c es i n below fits =
    let a = times_all c (imports_of (take i es)) n in
    let d = length_imports (take i es) in
    let e = length-take-le i es (omega (arith, below)) in
    omega (arith, a, d, e, below, fits)
