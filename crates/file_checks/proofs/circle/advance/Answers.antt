use native.Mathlib.Omega.{arith}
use mathlib.Core.Path.{refl}
use Rattle.file_checks.proofs.Circles.{last_coloured, turn_leave, next_coloured, turn_round, turn_place, turn_further, turn_skip}
use Rattle.file_checks.proofs.circle.advance.Goals as goal

pub bounds-cs-i : goal.bounds-cs-i
bounds-cs-i c = last_coloured _ _ _ _ _ c.requires.top_in_bounds c.requires.walking

pub returns-then-degree-k : goal.returns-then-degree-k
returns-then-degree-k c = turn_leave _ _ _ _ _ c.requires.top_in_bounds c.requires.walking (omega (arith, c.degree.ensures, c.if-degree-k.true))

pub bounds-cs-to : goal.bounds-cs-to
bounds-cs-to c = next_coloured _ _ _ _ _ c.requires.top_in_bounds c.requires.walking c.requires.closed _ _ c.degree.ensures c.if-degree-k.false c.target-next.ensures

pub overflow_sub-place : goal.overflow_sub-place
overflow_sub-place c = turn_place _ _ _ _ _ c.requires.top_in_bounds c.requires.walking c.requires.closed _ _ c.degree.ensures c.if-degree-k.false c.target-next.ensures c.requires.cs_in_bounds c.in-0.is

pub returns-in-0 : goal.returns-in-0
returns-in-0 c = turn_further _ _ _ _ _ c.requires.top_in_bounds c.requires.walking c.requires.closed _ _ c.degree.ensures c.if-degree-k.false c.target-next.ensures c.requires.cs_in_bounds c.in-0.is

pub returns-in-1 : goal.returns-in-1
returns-in-1 c = turn_round _ _ _ _ _ c.requires.top_in_bounds c.requires.walking c.requires.closed _ _ c.degree.ensures c.if-degree-k.false c.target-next.ensures _ _ c.in-1.is

pub returns-in_default : goal.returns-in_default
returns-in_default c =
    turn_skip _ _ _ _ _ c.requires.top_in_bounds c.requires.walking _ _ _ refl refl (omega (arith, c.degree.ensures, c.if-degree-k.false)) c.target-next.ensures (omega arith)

pub bounds-cs-to-in-0 : goal.bounds-cs-to-in-0
bounds-cs-to-in-0 c = next_coloured _ _ _ _ _ c.requires.top_in_bounds c.requires.walking c.requires.closed _ _ c.degree.ensures c.if-degree-k.false c.target-next.ensures
