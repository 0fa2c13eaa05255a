use Rattle.std.proofs.Common.{◌≡◌, map, take}
use Rattle.paths.specs.Filling.{piece_filled}
use Rattle.paths.proofs.filling.filled.Given as goal

abbrev pub invariant-loop-piece : goal.invariant-loop-piece
invariant-loop-piece l = l.region.items ≡ map (piece_filled l.indices) (take l.piece-index l.pattern.items)
