use mathlib.Core.Path.{sym, ◌∙◌}
use Rattle.solve_workspace.specs.Entering.{found_narrow, memory_on}
use Rattle.solve_begin.proofs.Begin.{node_as}
use Rattle.solve_begin.proofs.begin_node.Goals as goal

pub begin_hit-requires : goal.begin_hit-requires
begin_hit-requires c = let f = found_narrow _ _ _ c.requires.1.1.1.1.0.narrow (sym c.memo_get.ensures ∙ c.in-Some.is) in (c.requires.1.1.1.1.1.0, (f.0, (f.1, c.requires.1.1.1.1.1.1)))

pub returns-in-Some : goal.returns-in-Some
returns-in-Some c = record { meets = λ bytes an root space ps. node_as _ _ c.args.g.now c.args.key _ _ _ _ ps _ _ _ _ c.memo_get.ensures c.in-Some.is (c.begin_hit.ensures.meets _ _ c.args.key _ ps _ _ _ _); memory = memory_on _ c.requires.1.1.1.1.0 c.begin_hit.ensures.same }

pub returns-in-None : goal.returns-in-None
returns-in-None c = record { meets = λ bytes an root space ps. node_as _ _ c.args.g.now c.args.key _ _ _ _ ps _ _ _ _ c.memo_get.ensures c.in-None.is (c.begin_miss.ensures.meets bytes an root space ps); memory = c.begin_miss.ensures.memory }
