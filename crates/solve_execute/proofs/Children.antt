-- A node's row bounds its children.
use mathlib.Core.List.{List}
use Prim.Native.Nat.{ℕ, zero, suc, ◌≤◌}
use native.Mathlib.Omega.{arith}
use lib.ListN.{length, get_or, drop, length-take}
use Rattle.machine.specs.Model.{children}
use Rattle.solve_workspace.specs.Reading.{node_of_kind, node_of_row, edge_part}

part_at_most : (es : List ℕ) (a b : ℕ) → length (edge_part es a b) ≤ b
part_at_most es a b = rw (length-take b (drop a es)) (omega arith)

kind_at_most : (es : List ℕ) (k a b : ℕ) → length (children (node_of_kind es k a b)) ≤ b
kind_at_most es zero a b = omega arith
kind_at_most es (suc zero) a b = omega arith
kind_at_most es (suc (suc zero)) a b = omega arith
kind_at_most es (suc (suc (suc zero))) a b = omega arith
kind_at_most es (suc (suc (suc (suc zero)))) a b = part_at_most es a b
kind_at_most es (suc (suc (suc (suc (suc zero))))) a b = omega arith
kind_at_most es (suc (suc (suc (suc (suc (suc zero)))))) a b = part_at_most es a b
kind_at_most es (suc (suc (suc (suc (suc (suc (suc zero))))))) a b = omega arith
kind_at_most es (suc (suc (suc (suc (suc (suc (suc (suc zero)))))))) a b = omega arith
kind_at_most es (suc (suc (suc (suc (suc (suc (suc (suc (suc zero))))))))) a b = omega arith
kind_at_most es (suc (suc (suc (suc (suc (suc (suc (suc (suc (suc zero)))))))))) a b = omega arith
kind_at_most es (suc (suc (suc (suc (suc (suc (suc (suc (suc (suc (suc k))))))))))) a b = omega arith

pub row_at_most : (es row : List ℕ) → length (children (node_of_row es row)) ≤ get_or row 2 0
unfolding node_of_row
row_at_most es row = kind_at_most es (get_or row 0 0) (get_or row 1 0) (get_or row 2 0)
