use Rattle.std.proofs.Common.{◌^◌, ◌<◌, sym, arith}
use Rattle.cost.proofs.Laws.{no_place, has_place}
use Rattle.cost.proofs.Halves.{two_digits, sum_past, sum_is}
use Rattle.cost.proofs.add_halves.Goals as goal

pub returns-then-past : goal.returns-then-past
returns-then-past c =
    let e = rw c.if-past.true at c.carrying_add-top.ensures in
    no_place (sum_past (2 ^ 64) c.args.high c.args.low c.args.other_high c.args.other_low _ _ _ c.carrying_add-sum.ensures e)

pub returns-else-past : goal.returns-else-past
returns-else-past c =
    let e = rw c.if-past.false at c.carrying_add-top.ensures in
    let s = sum_is (2 ^ 64) c.args.high c.args.low c.args.other_high c.args.other_low _ _ _ c.carrying_add-sum.ensures e in
    let t : c.carrying_add-top.result.0 < 2 ^ 64 = omega arith in
    let u : c.carrying_add-sum.result.0 < 2 ^ 64 = omega arith in
    has_place s (rw (sym s) (two_digits (2 ^ 64) _ _ t u))
