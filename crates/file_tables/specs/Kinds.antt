-- The number by which a row names each kind of node (document 01, "Prepared file", Kinds).
use Rattle.std.specs.Prelude.{ℕ}
use Rattle.file_tables.specs.declared.Kind.{Kind}
use Rattle.file_tables.specs.declared.Kind.TheVariants.{Empty, Text, Break, HardLine, Seq, Group, Fill, Nest, Align, Choice, Annotate, Penalty}

abbrev pub number_of : Kind → ℕ
number_of Empty = 0
number_of Text = 1
number_of Break = 2
number_of HardLine = 3
number_of Seq = 4
number_of Group = 5
number_of Fill = 6
number_of Nest = 7
number_of Align = 8
number_of Choice = 9
number_of Annotate = 10
number_of Penalty = 11
