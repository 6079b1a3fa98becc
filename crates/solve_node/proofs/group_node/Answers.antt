use Rattle.solve_node.proofs.Nodes.{group_flat, group_alone}
use Rattle.solve_node.proofs.group_node.Goals as goal

pub returns-in-Some : goal.returns-in-Some
returns-in-Some c = λ R es cs ts bs an root space n. group_flat R _ n es _ 0 _ _ c.flat_node.ensures c.in-Some.is

pub returns-in-None : goal.returns-in-None
returns-in-None c = λ R es cs ts bs an root space n. group_alone R _ n es _ 0 _ c.flat_node.ensures c.in-None.is
