use Rattle.std.proofs.Common.{◌≡◌, Ok, Err, ap, ◌∙◌}
use Rattle.std.proofs.lemmas.Result.{err_from_is_err_and}
use Rattle.judge.specs.declared.refusal.Refusal.{Refusal}
use Rattle.judge.specs.declared.refusal.Refusal.TheVariants.{Unread}
use Rattle.judge.specs.Judged.{read_by, said_of}
use Rattle.judge.proofs.input.judge_by.Goals as goal

pub returns-in_err-recipe : goal.returns-in_err-recipe
unfolding read_by
returns-in_err-recipe g c =
    let e = err_from_is_err_and {Q = λ (r : Refusal). r ≡ Unread c.in_err-recipe.field-0.0} c.from_residual.result c.from_residual.ensures.1 in
    e.1 ∙ ap Err e.2 ∙ ap said_of c.in_err-recipe.ensures.is

pub returns : goal.returns
unfolding read_by
returns g c = (λ i. Ok (record { cells = c.cells.ensures i; strands = c.strands.ensures i })) ∙ ap said_of c.in_ok-recipe.ensures.is
