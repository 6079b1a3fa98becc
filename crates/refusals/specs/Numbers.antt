-- The number of each refusal (27 is no number of a refusal), and what a test tells: the number of what it refuses by, or 0.
use Rattle.std.specs.Prelude.{ℕ, Result, Ok, Err}
use Rattle.refusals.specs.declared.Refusal.{Refusal}
use Rattle.refusals.specs.declared.Refusal.TheVariants.{Order, Short, Form, Limit, Surplus, Reference, Text, Space, Circle, List, Column, Work, Stack, Memo, Kept, Frontier, Plans, Visit, Depth, Output, Spans, Visits, Place, Rows, Indent, Cost, Desk, Documents}

abbrev pub number_of : Refusal → ℕ
number_of Order = 1
number_of Short = 2
number_of Form = 3
number_of Limit = 4
number_of Surplus = 5
number_of Reference = 6
number_of Text = 7
number_of Space = 8
number_of Circle = 9
number_of List = 10
number_of Column = 11
number_of Work = 12
number_of Stack = 13
number_of Memo = 14
number_of Kept = 15
number_of Frontier = 16
number_of Plans = 17
number_of Visit = 18
number_of Depth = 19
number_of Output = 20
number_of Spans = 21
number_of Visits = 22
number_of Place = 23
number_of Rows = 24
number_of Indent = 25
number_of Cost = 26
number_of Desk = 28
number_of Documents = 29

abbrev pub told : Result Unit Refusal → ℕ
told (Ok _) = 0
told (Err r) = number_of r
