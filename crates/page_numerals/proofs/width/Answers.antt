use Rattle.std.proofs.Common.{rules}
use Rattle.page_numerals.proofs.Laws.{width_is}
use Rattle.page_numerals.proofs.width.Goals as goal

pub returns : goal.returns
returns c = let g = c.checked_ilog10.ensures in width_is c.checked_ilog10.result _ _ g.none g.power_le g.next_power_gt g.bound (search rules)
