use Rattle.std.proofs.Common.{◌≡◌, ◌+◌, ◌-◌, sym, ◌∙◌, arith}
use Rattle.recipe.proofs.BlockLaws as law
use Rattle.recipe.proofs.blocks.read_effects.Goals as goal

pub loop-preserved : goal.loop-preserved
loop-preserved g c =
    let w = c.in_ok-end.ensures.whole in
    let less : 16 - c.loop.counter - 1 ≡ 16 - (c.loop.counter + 1) = omega arith in
    (rw (← less) (sym (law.effects_more g.T.Theory.meaning _ _ (16 - c.loop.counter) _ _ _ (sym c.if-not-begins.ensures) (omega arith) (sym c.in_ok-end.ensures.is)) ∙ c.loop.invariant.0), omega arith)
