use Rattle.std.proofs.Common.{◌≡◌, ◌-◌, ◌++◌, map, vec_items}
use Rattle.recipe.specs.Listed.{listed}
use Rattle.recipe.specs.Numbers.{numbers}
use Rattle.certifier.proofs.access.read_listed.Given as goal

abbrev pub invariant-loop : goal.invariant-loop
invariant-loop g l =
    let m = g.T.Theory.meaning in
    map m.point (vec_items l.cells) ++ listed m l.recipe.file.now (l.end - l.counter) l.at ≡ listed m l.recipe.file.now (numbers l.recipe).cells 0
