use Rattle.std.proofs.Common.{rules, arith, ◌≡◌}
use Rattle.std.proofs.lemmas.Grind.{common_steps}
use Rattle.theory.specs.Reading.{byte}
use Rattle.sections.proofs.Built.{reads_none, reads_well}
use Rattle.sections.proofs.sections.SectionsTheory.read.Goals as goal

pub returns-then-step-eq0 : goal.returns-then-step-eq0
returns-then-step-eq0 c =
    let kind : byte c.args.file.now c.args.place ≡ 0x48 = grind (arith, common_steps) in
    let e = reads_none c.args.file.now c.in-Some.field-0.now c.args.place c.args.depth _ _ _ kind c.in-Some.ensures.cases c.from_le_bytes-offset.ensures c.from_le_bytes-step.ensures
    c.from_le_bytes-count.ensures (λ p q. omega (arith, c.then-step-eq0.either)) c.in_ok-hole.hole (search rules) in
    search (rules, e)

pub returns : goal.returns
returns c =
    let kind : byte c.args.file.now c.args.place ≡ 0x48 = grind (arith, common_steps) in
    reads_well _ _ _ _ _ _ _ kind c.in-Some.ensures.cases c.from_le_bytes-offset.ensures c.from_le_bytes-step.ensures c.from_le_bytes-count.ensures _ (search rules) _ _
