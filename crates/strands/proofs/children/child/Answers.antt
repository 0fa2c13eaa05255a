use Rattle.std.proofs.Common.{rules, tests}
use Rattle.strands.specs.ChildAt.{child_at}
use Rattle.strands.proofs.Found.{child_found}
use Rattle.strands.proofs.Answered.{got, lost}
use Rattle.strands.proofs.children.child.Goals as goal

pub returns-in-Cobegin : goal.returns-in-Cobegin
unfolding child_at
returns-in-Cobegin g c = record {
  is = search (rules, tests);
  among = child_found g.T.Theory.meaning g.met.T.Theory.kept c.args.file.now c.args.fork c.args.site c.args.first c.args.nth _ (search (rules, tests));
}

pub returns-in_default : goal.returns-in_default
unfolding child_at
returns-in_default g c = record {
  is = search (rules, tests);
  among = child_found g.T.Theory.meaning g.met.T.Theory.kept c.args.file.now c.args.fork c.args.site c.args.first c.args.nth _ (search (rules, tests));
}

pub returns-in_default-2 : goal.returns-in_default-2
unfolding child_at
returns-in_default-2 g c = record {
  is = search (rules, tests);
  among = child_found g.T.Theory.meaning g.met.T.Theory.kept c.args.file.now c.args.fork c.args.site c.args.first c.args.nth _ (search (rules, tests));
}

pub returns-in_err-extent-in-Foreach : goal.returns-in_err-extent-in-Foreach
unfolding child_at
returns-in_err-extent-in-Foreach g c =
    let e = lost _ _ c.in_err-extent-in-Foreach.ensures.value c.read_block.ensures.is in
    let b = e.1 in
    record {
      is = search (rules, tests);
      among = child_found g.T.Theory.meaning g.met.T.Theory.kept c.args.file.now c.args.fork c.args.site c.args.first c.args.nth _ (search (rules, tests));
    }

pub returns-in_ok-extent-in-Foreach : goal.returns-in_ok-extent-in-Foreach
unfolding child_at
returns-in_ok-extent-in-Foreach g c =
    let e = got _ _ _ c.in_ok-extent-in-Foreach.ensures.value c.read_block.ensures.is in
    record {
      is = search (rules, tests);
      among = child_found g.T.Theory.meaning g.met.T.Theory.kept c.args.file.now c.args.fork c.args.site c.args.first c.args.nth _ (search (rules, tests));
    }
