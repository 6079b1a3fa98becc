use mathlib.Core.List.{[]}
use Rattle.solve_workspace.specs.Runs.{kept_by}
use Rattle.solve_workspace.specs.Entering.{memory_of, memory_on}
use Rattle.solve_workspace.specs.TurnLaws.{went, halted, held_on, handed_on}
use Rattle.solve_begin.proofs.Begin.{miss_halt, miss_seq, leaf_kind, inner_kind, memory_stopped, kept_same}
use Rattle.solve_begin.proofs.begin_miss.Goals as goal

pub returns-in_err-work_miss : goal.returns-in_err-work_miss
returns-in_err-work_miss c = rw (handed_on c.in_err-work_miss.was c.from_residual.ensures.1) (record { meets = λ bytes an root space ps. miss_halt _ _ c.args.key _ (c.work_miss.ensures.meets _ _ ps _ _ _ _) (halted _ c.in_err-work_miss.was); memory = memory_stopped (halted _ c.in_err-work_miss.was) })

pub begin_leaf-requires : goal.begin_leaf-requires
begin_leaf-requires c = (c.requires.1.0, (c.requires.1.1.0, (c.requires.1.1.1.0, (memory_of c.requires.1.1.1.1.0 (kept_by c.work_miss.ensures.keeps (went _ c.in_ok-work_miss.was)).memo, (c.requires.1.1.1.1.1.0, held_on (c.work_miss.ensures.meets [] [] [] [] [] [] []) c.in_ok-work_miss.was)))))

pub begin_inner-requires : goal.begin_inner-requires
begin_inner-requires c = (c.requires.0, held_on (c.work_miss.ensures.meets [] [] [] [] [] [] []) c.in_ok-work_miss.was)

pub returns-in-Leaf : goal.returns-in-Leaf
returns-in-Leaf c = record { meets = λ bytes an root space ps. miss_seq _ _ c.args.key _ (c.work_miss.ensures.meets _ _ ps _ _ _ _) (went _ c.in_ok-work_miss.was) (leaf_kind c.args.key _ _ _ (c.prepared_node.ensures _ _ bytes an root space) c.in-Leaf.is (c.begin_leaf.ensures.meets _ _ ps)); memory = c.begin_leaf.ensures.memory }

pub returns-in-Inner : goal.returns-in-Inner
returns-in-Inner c = record { meets = λ bytes an root space ps. miss_seq _ _ c.args.key _ (c.work_miss.ensures.meets _ _ ps _ _ _ _) (went _ c.in_ok-work_miss.was) (inner_kind c.args.key _ _ _ (c.prepared_node.ensures _ _ bytes an root space) c.in-Inner.is (c.begin_inner.ensures.meets _ _ ps _ _ _ _)); memory = memory_on _ (memory_of c.requires.1.1.1.1.0 (kept_by c.work_miss.ensures.keeps (went _ c.in_ok-work_miss.was)).memo) (kept_same _ c.begin_inner.ensures.keeps) }
