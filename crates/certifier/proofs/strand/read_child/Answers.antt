use Rattle.certifier.specs.Faults.{effects_in}
use Rattle.certifier.proofs.Held.{read_apart}
use Rattle.certifier.proofs.strand.read_child.Goals as goal

pub returns : goal.returns
returns g c b e h small =
    let s = c.args.strand.now in
    let (from, lie, none, ss) = read_apart g.T.Theory.meaning c.args.file.now b s.site.forks s.site.depth s.site.place e h in
    (λ i. (s.number, c.in_ok-effects.ensures (effects_in b) from lie none i), c.count_strands-strands.ensures b e h small)
