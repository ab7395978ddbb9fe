use Rattle.std.proofs.Common.{◌≡◌, map, take}
use Rattle.peer_kinds.specs.Kinds.{Standings, Tells, heard_descriptor}
use Rattle.peer_kinds.specs.Noted.{Follows}
use Rattle.peer_kinds.proofs.kinds.in_kinds.Given as goal

-- the first descriptors are heard, and their kinds are noted
abbrev pub invariant-loop-descriptor : goal.invariant-loop-descriptor
invariant-loop-descriptor g l = record {
  heard : (stands : Standings) → Tells (goal.K-post g l.standing) stands → l.heard.items ≡ map (heard_descriptor stands l.descriptors) (take l.descriptor-index l.descriptors);
  noted : (stands : Standings) → Tells (goal.K-post g l.standing) stands → Follows stands l.firsts (take l.descriptor-index l.descriptors);
}
