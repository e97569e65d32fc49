use Rattle.std.proofs.Common.{◌≡◌, suc, ◌+◌, ◌/◌, sym, ap, ◌∙◌, add-one, arith}
use Rattle.paths.specs.Metastages.{level_size, level_start}
use Rattle.paths.proofs.Levels.{size_zero, size_suc, start_zero, start_suc, levels_take}
use Rattle.passes.proofs.metastages.place_of.Goals as goal

pub loop-init : goal.loop-init
loop-init c = (sym (start_zero c.args.stages), sym (size_zero c.args.stages))

pub overflow_add-begin : goal.overflow_add-begin
overflow_add-begin c = let t = levels_take c.args.stages c.loop.counter in omega arith

pub overflow_add-many : goal.overflow_add-many
overflow_add-many c = let t = levels_take c.args.stages c.loop.counter in omega arith

pub loop-preserved : goal.loop-preserved
loop-preserved c =
    let n = c.args.stages in
    let l = c.loop.counter in
    let a = c.loop.invariant.0 in
    let b = c.loop.invariant.1 in
    let s = start_suc n l in
    let up : suc l ≡ l + 1 = sym (add-one l) in (
      (let x : c.loop.begin + c.loop.many ≡ level_start n (suc l) = omega arith in x) ∙ ap (level_start n) up,
      ap (λ x. (x + 1) / 2) b ∙ sym (size_suc n l) ∙ ap (level_size n) up,
    )

pub overflow_add-result : goal.overflow_add-result
overflow_add-result c = let t = levels_take c.args.stages c.loop.counter in omega arith
